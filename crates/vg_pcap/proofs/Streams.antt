-- What is still to come from a reader.
use Rattle.std.proofs.Common.{◌≡◌, ◌<◌, ◌+◌, ◌*◌, ◌^◌, inl, inr, ℕ, max, Some, None, List, [], ◌∷◌, length, take, true, false, IsTrue, Ok, Err, refl}
use Rattle.std.proofs.Common.{sym, ap, ◌∙◌, arith}
use Rattle.std.proofs.lemmas.List.{length-take-le}
use Rattle.vg_base.specs.Files.{Disk}
use Rattle.vg_base.proofs.Disks.{told_before}
use Rattle.vg_pcap.specs.declared.faults.CaptureFault.{CaptureFault}
use Rattle.vg_pcap.specs.declared.records.RecordHead as coded_head
use Rattle.vg_pcap.specs.declared.faults.Damage.{Damage}
use Rattle.vg_pcap.specs.Captures.{Encoding, Microseconds, Nanoseconds, units_per_second, nanoseconds_per_unit, longest, Record, IsDamaged}
use Rattle.vg_pcap.specs.Frames.{Framed, Stream, frames_after, frame_of, time_of}
use Rattle.vg_pcap.specs.Incoming.{fault_of}
use Rattle.vg_pcap.specs.Reader.{Reader, ReadsRecord, IsBefore, StillComes, IsNextOf, number_after}
use Rattle.vg_pcap.specs.Buffered.{Source}
use Rattle.vg_pcap.specs.Reading.{HasRecord, TakesRecord, head_view, nanoseconds_of}
use Rattle.vg_pcap.proofs.Taken.{cause_ok, cause_same}
use Rattle.vg_pcap.proofs.RecordLists.{AreRecords-first, AreRecords-none, AreRecords-damaged, AreRecords-end}

abbrev framed : ℕ → ℕ → List ℕ → Framed
framed time original bytes = record { time = time; original = original; bytes = bytes }

-- a record was read: its frame is the next
pub next_frame : {s t : Disk} {old new : Reader} {stream : Stream} {r : Record} (still : StillComes s old stream) (behind : List ℕ)
    → HasRecord old.encoding still.bytes r behind →
    IsBefore t new.id new.ahead behind → IsTrue t.tells_held → new.encoding ≡ old.encoding → new.latest ≡ max old.latest (time_of old.encoding r)
    → new.frame ≡ frame_of old.encoding old.latest r →
    IsNextOf t old new stream (Ok true)
next_frame {old = old} {new} {stream} {r} still behind is before told encoding latest frame =
    let follow = AreRecords-first behind still.records stream.end is still.are in
    let frames : stream.frames ≡ frame_of old.encoding old.latest r ∷ frames_after old.encoding (max old.latest (time_of old.encoding r)) follow.others =
    still.frames ∙ ap (frames_after old.encoding old.latest) follow.first in (
      frames_after old.encoding (max old.latest (time_of old.encoding r)) follow.others,
      frames ∙ ap (λ (f : Framed). f ∷ frames_after old.encoding (max old.latest (time_of old.encoding r)) follow.others) (sym frame),
      record { told = told; bytes = behind; before = before; records = follow.others; are = rw encoding follow.are; frames = rw (encoding, latest) refl },
    )

-- there is none: the stream has ended
pub next_none : {s t : Disk} {old new : Reader} {stream : Stream} (still : StillComes s old stream) → still.bytes ≡ []
    → IsBefore t new.id new.ahead [] → IsTrue t.tells_held →
    IsNextOf t old new stream (Ok false)
next_none {old = old} {new} {stream} still nothing before told =
    let none = AreRecords-none old.encoding still.bytes still.records stream.end nothing still.are in
    let frames : stream.frames ≡ [] = still.frames ∙ ap (frames_after old.encoding old.latest) none.0 in
    (frames, none.1, record { told = told; bytes = []; before = before; records = []; are = rw none.1 (AreRecords-end new.encoding); frames = frames })

-- it is refused
pub next_refused : {s : Disk} {old : Reader} {stream : Stream} (t : Disk) (new : Reader) (still : StillComes s old stream) (damage : Damage)
    → IsDamaged old.encoding still.bytes damage →
    IsNextOf t old new stream (Err (fault_of damage (number_after old.count)))
next_refused {old = old} {stream} t new still damage bad =
    let all = AreRecords-damaged old.encoding still.bytes damage still.records stream.end bad still.are in
    inr (still.frames ∙ ap (frames_after old.encoding old.latest) all.0, damage, all.1, refl)

-- ---- what a call of `next` does

-- a reader over a source
abbrev over : Source → Encoding → ℕ → ℕ → Framed → Reader
over a encoding latest count frame = record { id = a.id; ahead = a.ahead; encoding = encoding; latest = latest; count = count; frame = frame }

pub time_early : (encoding : Encoding) (seconds fraction : ℕ) → seconds < 2 ^ 32 → fraction < units_per_second encoding.resolution →
    seconds * 1000000000 + fraction * nanoseconds_per_unit encoding.resolution < 2 ^ 32 * 1000000000
time_early encoding seconds fraction early less =
    elim encoding.resolution as (λ each. fraction < units_per_second each → seconds * 1000000000 + fraction * nanoseconds_per_unit each < 2 ^ 32 * 1000000000) [
      | Microseconds ↦ λ below. omega arith
      | Nanoseconds ↦ λ below. omega arith
    ] less

-- a record was taken
pub reads_record : {s t : Disk} {a b : Source} {encoding : Encoding} {frame : List ℕ} (latest count number now : ℕ) (last : Framed) (items : List ℕ)
    (h : coded_head.RecordHead) →
    TakesRecord s t a b encoding frame number (Ok (Some h)) → number ≡ number_after count → now ≡ max latest (nanoseconds_of encoding (head_view h))
    → items ≡ frame → latest < 2 ^ 32 * 1000000000 →
    length frame ≡ longest →
    ReadsRecord s t (over a encoding latest count last)
    (over b encoding now number (record { time = now; original = h.original; bytes = take h.size items })) (Ok true)
reads_record {s} {t} {a} {b} {encoding} {frame} latest count number now last items h takes counted time same early room =
    let good = takes.good in
    record {
      cause = cause_ok true takes.cause.same;
      keeps = takes.stays.keeps;
      shut_faults = takes.stays.shut_faults;
      id = takes.stays.id;
      readable = takes.stays.readable;
      others = takes.stays.others;
      open_count = takes.stays.open_count;
      next = λ stream still.
          let first = takes.begins still.told still.bytes still.before in
          next_frame still first.0 first.1 first.2 (told_before takes.stays.keeps still.told) refl time (frame_is time same);
      frame = λ is. (
        record {
          early = rw time (omega (arith, early, time_early encoding h.seconds h.fraction good.seconds good.fraction));
          original =
              good.original;
          short = rw same (omega (arith, length-take-le h.size frame (omega (arith, good.size, room)), good.size));
        },
        rw time (omega arith),
        refl,
        counted,
      );
      count = λ is. cc;
      fault = tt;
    }
  where
    frame_is : {now time : ℕ} {items frame : List ℕ} → now ≡ time → items ≡ frame → framed now h.original (take h.size items) ≡ framed time h.original
        (take h.size frame)
    frame_is p q = cc

-- there was none
pub reads_none : {s t : Disk} {a b : Source} {encoding : Encoding} {frame : List ℕ} (latest count number : ℕ) (last next : Framed)
    → TakesRecord s t a b encoding frame number (Ok None) →
    ReadsRecord s t (over a encoding latest count last) (over b encoding latest count next) (Ok false)
reads_none latest count number last next takes = record {
  cause = cause_ok false takes.cause.same;
  keeps = takes.stays.keeps;
  shut_faults = takes.stays.shut_faults;
  id = takes.stays.id;
  readable = takes.stays.readable;
  others = takes.stays.others;
  open_count = takes.stays.open_count;
  next = λ stream still.
      let none = takes.begins still.told still.bytes still.before in
      next_none still none.0 none.1 (told_before takes.stays.keeps still.told);
  frame = λ is. cc;
  count = λ is. refl;
  fault = tt;
}

-- it is refused, or there was a fault at reading
pub reads_refused : {s t : Disk} {a b : Source} {encoding : Encoding} {frame : List ℕ} (latest count number : ℕ) (last next : Framed) (fault : CaptureFault) →
    TakesRecord s t a b encoding frame number (Err fault) → number ≡ number_after count → ReadsRecord s t (over a encoding latest count last)
    (over b encoding latest count next) (Err fault)
reads_refused {s} {t} {a} {b} {encoding} {frame} latest count number last next fault takes counted = record {
  cause = cause_same fault takes.cause;
  keeps = takes.stays.keeps;
  shut_faults = takes.stays.shut_faults;
  id = takes.stays.id;
  readable = takes.stays.readable;
  others = takes.stays.others;
  open_count = takes.stays.open_count;
  next = λ stream still. elim takes.refused [
    | inl read ↦ inl read
    | inr bad ↦ rw (bad.1, counted) (next_refused t (over b encoding latest count next) still bad.0 (bad.2 still.told still.bytes still.before))
  ];
  frame = λ is. cc;
  count = λ is. cc;
  fault = elim takes.refused [ inl read ↦ inl read | inr bad ↦ inr (bad.0, bad.1 ∙ ap (fault_of bad.0) counted) ];
}
