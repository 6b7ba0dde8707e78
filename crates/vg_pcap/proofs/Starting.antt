-- Where a reader starts.
use Rattle.std.proofs.Common.{◌≡◌, ◌≢◌, inl, inr, ℕ, Option, Some, None, List, [], ◌++◌, length, IsTrue, IsSome, Result, Ok, Err, refl, sym, ◌∙◌, codes, arith}
use mathlib.Core.Path.{fun_ext}
use Rattle.std.proofs.lemmas.Bool.{cases_eq}
use Rattle.std.proofs.lemmas.List.{drop_at}
use Rattle.vg_base.specs.declared.faults.Failed.{Failed}
use Rattle.vg_base.specs.Files.{Disk, Reads, IsOpen, AreBytes, OpensRead, Closes}
use Rattle.vg_base.proofs.Disks.{ReadKeeps-trans, told_before, SameHeld-refl}
use Rattle.vg_pcap.specs.declared.faults.CaptureFault.{CaptureFault}
use Rattle.vg_pcap.specs.declared.encoding.Encoding as coded_encoding
use Rattle.vg_pcap.specs.Captures.{Encoding, HasHeader, header_bytes}
use Rattle.vg_pcap.specs.Frames.{Stream, frames_after, HoldsStream}
use Rattle.vg_pcap.specs.Arrivals.{no_frames}
use Rattle.vg_pcap.specs.Reader.{Reader, IsReadable, IsBefore, StillComes, Starts, HasReadCause}
use Rattle.vg_pcap.specs.Buffered.{Source}
use Rattle.vg_pcap.specs.Reading.{TakesHeader, encoding_view}
use Rattle.vg_pcap.proofs.NumberBytes.{AreBytes-drop}
use Rattle.vg_pcap.proofs.Taken.{cause_ok, cause_same}
use Rattle.vg_pcap.proofs.RecordLists.{records_of, AreRecords-end}

-- a reader before its first record
pub record IsFresh (r : Reader) (source : Source) (encoding : Encoding) : Type 0 where
  pub id : r.id ≡ source.id
  pub ahead : r.ahead ≡ source.ahead
  pub encoding_is : r.encoding ≡ encoding
  pub latest : r.latest ≡ 0
  pub count : r.count ≡ 0

-- the name `-`
pub starts_empty : (s : Disk) (name : List ℕ) (r : Reader) (encoding : Encoding) → name ≡ codes "-"
    → IsFresh r (record { id = None; ahead = [] }) encoding → Starts s s name (Ok r)
starts_empty s name r encoding is fresh = record {
  cause = cause_ok r refl;
  keeps = record { write_faults = refl; held = SameHeld-refl s; made = refl };
  shut_faults = omega arith;
  shut_same = refl;
  empty = λ same. (fresh.id, record { opened = refl; open_count = refl });
  empty_refused = λ same. tt;
  file = λ other. absurd (other is);
  readable = rw fresh.id tt;
  fresh = fresh.count;
  comes = λ told. (
    no_frames,
    inl (is, refl),
    record {
      told = told;
      bytes = [];
      before = rw fresh.id refl;
      records = [];
      are = AreRecords-end r.encoding;
      frames = refl;
    },
  );
  closed = tt;
  refused = tt;
}

-- a value that is there
there : (o : Option (List ℕ)) → IsSome o → (file : List ℕ) × (o ≡ Some file)
there (Some file) is = (file, refl)
there None is = absurd (cc (is))

-- the bytes of a file, and how it was opened
file_of : {s m : Disk} {name : List ℕ} {id : ℕ} → OpensRead s m name (Ok id) → IsTrue s.tells_held → (file : List ℕ) × (s.held name ≡ Some file)
    × AreBytes file × IsBefore m (Some id) [] file
file_of {s} {m} {name} opens told =
    let (file, held) = there (s.held name) (opens.exists told) in
    (file, held, opens.bytes told file held, (name, 0, file, opens.start told, rw opens.held.held held, omega arith, refl))

bytes_behind : {encoding : Encoding} {file : List ℕ} (behind : List ℕ) → HasHeader encoding file behind → AreBytes file → AreBytes behind
bytes_behind {encoding} {file} behind is small =
    let front = header_bytes encoding is.ignored in
    rw (drop_at front behind (length front) refl) at (AreBytes-drop (length front) (front ++ behind) (rw is.whole at small))

-- what stands behind a header is a stream
pub stream_behind : {file : List ℕ} (encoding : Encoding) (behind : List ℕ) → HasHeader encoding file behind → AreBytes file → (stream : Stream)
    × HoldsStream file stream
stream_behind encoding behind header small =
    let all = records_of encoding behind (bytes_behind behind header small) in (
      record { frames = frames_after encoding 0 all.0; end = all.1 },
      (encoding, record { records = all.0; held = record { behind = behind; header = header; records_are = all.2 }; are = refl }),
    )

-- and it is still to come
streams : {t : Disk} {file : List ℕ} (r : Reader) (behind : List ℕ) (encoding : Encoding) → HasHeader encoding file behind → AreBytes file
    → IsTrue t.tells_held → IsBefore t r.id r.ahead behind →
    r.encoding ≡ encoding → r.latest ≡ 0 → (stream : Stream) × HoldsStream file stream × StillComes t r stream
unfolding stream_behind
streams r behind encoding header small told before written early =
    let all = records_of encoding behind (bytes_behind behind header small) in
    let stream = stream_behind encoding behind header small in (
      stream.0,
      stream.1,
      record { told = told; bytes = behind; before = before; records = all.0; are = rw written all.2; frames = rw (written, early) refl },
    )

-- the id of a source is open for reading
open_at : (t : Disk) (o : Option ℕ) (id : ℕ) → o ≡ Some id → IsReadable t o → IsOpen Reads (t.opened id)
open_at t o id is readable = rw is at readable

apart_from : (o : Option ℕ) (id j : ℕ) → o ≡ Some id → j ≢ id → Some j ≢ o
apart_from o id j is apart e = apart (same (e ∙ is))
  where
    same : {x y : ℕ} → Some x ≡ Some y → x ≡ y
    same e = cc

-- the header of a file was read
pub starts_file : {s m t : Disk} {name : List ℕ} {id : ℕ} {a b : Source} {e : coded_encoding.Encoding} (r : Reader) → name ≢ codes "-"
    → OpensRead s m name (Ok id) → a.id ≡ Some id → a.ahead ≡ [] →
    TakesHeader m t a b (Ok e) → IsFresh r b (encoding_view e) → Starts s t name (Ok r)
starts_file {s} {m} {t} {name} {id} {a} {b} {e} r other opens opened none takes fresh = record {
  cause = cause_ok r (takes.cause.same ∙ opens.faults.same);
  keeps = ReadKeeps-trans (record { write_faults = opens.write_faults; held = opens.held; made = opens.made }) takes.stays.keeps;
  shut_faults = omega (arith, takes.stays.shut_faults, opens.shut_faults);
  shut_same = takes.stays.shut_faults ∙ opens.shut_faults;
  empty = λ is. absurd (other is);
  empty_refused = λ is. tt;
  file = λ ne. (
    id,
    fresh.id ∙ takes.stays.id ∙ opened,
    record {
      was = opens.opens.was;
      now = open_at t b.id id (takes.stays.id ∙ opened) takes.stays.readable;
      others = λ j apart. takes.stays.others j (apart_from a.id id j opened apart) ∙ opens.opens.others j apart;
      one_more = takes.stays.open_count ∙ opens.opens.one_more;
    },
  );
  readable = rw fresh.id takes.stays.readable;
  fresh = fresh.count;
  comes = λ told.
      let file = file_of opens told in
      let good = takes.good (rw opens.held.tells_held told) file.0 (rw (opened, none) file.3) in
      let all = streams r good.0 (encoding_view e) good.1 file.2 (told_before takes.stays.keeps (rw opens.held.tells_held told))
      (rw (fresh.id, fresh.ahead) good.2) fresh.encoding_is fresh.latest in
      (all.0, inr (other, file.0, file.1, all.1), all.2);
  closed = tt;
  refused = tt;
}

-- the header was refused, or there was a fault at reading it, and the file was closed
pub starts_refused : {s m t u : Disk} {name : List ℕ} {id : ℕ} {a b : Source} {fault : CaptureFault} (closed : Result (Unit {0}) Failed)
    → name ≢ codes "-" → OpensRead s m name (Ok id) → a.id ≡ Some id →
    a.ahead ≡ [] → TakesHeader m t a b (Err fault) → Closes t u id closed → Starts s u name (Err fault)
starts_refused {s} {m} {t} {u} {name} {id} {a} {b} {fault} closed other opens opened none takes closes =
    let reads = open_at t b.id id (takes.stays.id ∙ opened) takes.stays.readable in
    let shut = closes.of_read reads in
    let takes_cause : HasReadCause {A = Reader} m t (Err fault) = cause_same fault takes.cause in
    record {
      cause = record {
        fault = λ is. rw (closes.read_faults, ← opens.faults.same) (takes_cause.fault is);
        same = tt;
        same_else = λ ne. closes.read_faults ∙ takes.cause.same_else ne ∙ opens.faults.same;
        rises = omega (arith, closes.read_faults, takes.cause.rises, opens.faults.same);
      };
      keeps = ReadKeeps-trans (record { write_faults = opens.write_faults; held = opens.held; made = opens.made })
          (ReadKeeps-trans takes.stays.keeps (record { write_faults = shut.1; held = closes.held; made = closes.made }));
      shut_faults = omega (arith, shut.0.rises, takes.stays.shut_faults, opens.shut_faults);
      shut_same = tt;
      empty = λ is. tt;
      empty_refused = λ is. absurd (other is);
      file = λ ne. tt;
      readable = tt;
      fresh = tt;
      comes = λ told. tt;
      closed = record {
        opened = fun_ext (λ j. elim (cases_eq j id) [
          | inl same ↦ rw same (closes.closes.now ∙ sym opens.opens.was)
          | inr apart ↦ closes.closes.others j apart ∙ takes.stays.others j (apart_from a.id id j opened apart) ∙ opens.opens.others j apart
        ]);
        open_count = omega (arith, closes.closes.one_less, takes.stays.open_count, opens.opens.one_more);
      };
      refused = elim takes.refused [
        | inl read ↦ inl read
        | inr bad ↦ inr (inr (
          bad.0,
          bad.1,
          λ told.
              let file = file_of opens told in
              (other, file.0, file.1, bad.2 (rw opens.held.tells_held told) file.0 (rw (opened, none) file.3)),
        ))
      ];
    }
