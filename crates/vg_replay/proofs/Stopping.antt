-- A replay that reads on, ends or stops.
use Rattle.std.proofs.lemmas.Bool.{cases_lt, cases_eq}
use Rattle.std.proofs.lemmas.List.{length-map, append_cancel_left}
use Rattle.std.proofs.lemmas.List.Sums.{length-filter, count_by-le-length}
use Rattle.std.proofs.Common.{◌≡◌, ◌≢◌, ◌≤◌, ◌+◌, ◌∙◌, ℕ, List, [], ◌∷◌, ◌++◌, length, get_or, filter, All, IsTrue, Option, Some, None, Result, Ok}
use Rattle.std.proofs.Common.{Err, inl, inr, refl, sym, ap, append-nil, arith, eqb}
use Rattle.vg_base.proofs.Disks.{SameHeld-trans}
use Rattle.vg_base.specs.declared.faults.Failed.{Failed}
use Rattle.vg_base.specs.Files.{Disk, Reads, Writes, Opened, IsOpen, writing, WriteKeeps}
use Rattle.vg_pcap.specs.declared.faults.CaptureFault.{CaptureFault}
use Rattle.vg_pcap.specs.declared.faults.CaptureFault.TheVariants as faults
use Rattle.vg_pcap.specs.declared.faults.CaptureRefusal.TheVariants.{Header, Record}
use Rattle.vg_pcap.specs.declared.merge.MergeFault.{MergeFault}
use Rattle.vg_pcap.proofs.Staying.{SameReading, AreReadable-stays, ids_open}
use Rattle.vg_pcap.proofs.Arriving.{EndsAt-push, frames_from-push_other}
use Rattle.vg_pcap.proofs.Merging.{no_damage, no_damage_past, input_at}
use Rattle.vg_pcap.specs.declared.faults.Damage.{Damage}
use Rattle.vg_pcap.specs.Frames.{Framed, Stream}
use Rattle.vg_pcap.specs.Arrivals.{Arrival, stream_at, frames_from, ComeFirst, EndsAt, IsAtDamage}
use Rattle.vg_pcap.specs.Incoming.{fault_of, AllComeIn}
use Rattle.vg_pcap.specs.Reader.{number_after}
use Rattle.vg_pcap.specs.Merge.{Input, ids_of, AreReadable, IsNext, IsReadOrSomeRecord, Comes, ReadsInputs, RefusesRecord, ClosesInputs}
use Rattle.vg_replay.specs.declared.stop.RunStop.{RunStop}
use Rattle.vg_replay.specs.declared.stop.RunStop.TheVariants as stops
use Rattle.vg_replay.specs.declared.totals.Totals.{Totals}
use Rattle.vg_replay.proofs.Ids.{DiffersBy-append, closed_again, AreWritable-same}
use Rattle.vg_replay.proofs.Pieces.{arrivals_of-length, totals_of-frames}
use Rattle.vg_replay.proofs.Places.{All-left}
use Rattle.vg_replay.proofs.Wrote.{whole_parts}
use Rattle.vg_replay.specs.Outputs.{Handled, arrivals_of, totals_of}
use Rattle.vg_replay.specs.Replays.{ReplayFiles, KeepsOthers, HavePorts, NoFault, WroteAll, WroteParts, Began, StopsAtRecord, StopsBegun, StopsReplay}
use Rattle.vg_replay.specs.Replays.{Replays, AreFirst, AreUpTo, AreTooMany, most_frames}
use Rattle.vg_replay.specs.UnderWay.{Replaying, TakesFewSteps, IsSound, HasOpened, HaveCome, Going, AreWritable, open_ids, output_ids}
use Rattle.vg_replay.specs.Writing.{ClosesWritten}
use Rattle.vg_replay.specs.Stepping.{stop_at, stop_of, HasStopped, HasEnded, ClosesAll}

-- ---- ids of inputs and of outputs

one_mode : (o : Option Opened) → IsOpen Writes o → IsOpen Reads o → ⊥
one_mode None w r = w
one_mode (Some o) w r = let both = sym w ∙ r in cc

-- an id that is written to is none that is read
write_none : (t : Disk) (inputs : List Input) (id : ℕ) → AreReadable t inputs → IsOpen Writes (t.opened id) → All (λ other. id ≢ other) (ids_of inputs)
write_none t inputs id readable writes k d within same = one_mode (t.opened id) writes (rw same (ids_open t inputs readable k d within))

writing_open : (o : Option Opened) (name : List ℕ) → o ≡ writing name → IsOpen Writes o
writing_open o name is = rw is refl

-- ---- what stays where the inputs are read

-- a replay whose inputs were read on
abbrev pub with_inputs : Replaying → List Input → Totals → Replaying
with_inputs r inputs totals = record { inputs = inputs; outs = r.outs; log = r.log; totals = totals }

pub opened_reads : {s t u : Disk} {n : ReplayFiles} {r : Replaying} {new : List Input} {q : Result (Unit {0}) MergeFault} (totals : Totals)
    → HasOpened s t n r → ReadsInputs t u r.inputs new q → HasOpened s u n (with_inputs r new totals)
opened_reads {s} {t} {u} {n} {r} {new} {q} totals o reads =
    let same : (id : ℕ) → IsOpen Writes (t.opened id) → u.opened id ≡ t.opened id = λ id writes. reads.others id (write_none t r.inputs id o.readable writes) in
    record {
      held = SameHeld-trans o.held reads.keeps.held;
      opens = record {
        closed = rw reads.ids o.opens.closed;
        others = λ id none.
            let before : All (λ other. id ≢ other) (open_ids r) = rw (← reads.ids) none in
            reads.others id (All-left (λ other. id ≢ other) (ids_of r.inputs) (output_ids r) before) ∙ o.opens.others id before;
        count = rw reads.ids (reads.open_count ∙ o.opens.count);
      };
      readable = reads.readable;
      writable = record {
        opened = λ k d within. let here = o.writable.opened k d within in rw (same (get_or (output_ids r) k d) here) here;
        apart = o.writable.apart;
      };
      outs_named = λ told port id name at_id at_name. let is = o.outs_named told port id name at_id at_name in
          same id (writing_open (t.opened id) name is) ∙ is;
      log_named = λ told. let is = o.log_named told in same r.log (writing_open (t.opened r.log) n.log is) ∙ is;
    }

pub opened_writes : {s t u : Disk} {n : ReplayFiles} {r : Replaying} → HasOpened s t n r → WriteKeeps t u → HasOpened s u n r
opened_writes {s} {t} {u} {n} {r} o keeps = record {
  held = SameHeld-trans o.held keeps.held;
  opens = record {
    closed = o.opens.closed;
    others = λ id none. rw keeps.ids.opened (o.opens.others id none);
    count = keeps.ids.open_count ∙ o.opens.count;
  };
  readable = rw keeps.ids.opened o.readable;
  writable = AreWritable-same (output_ids r) keeps.ids o.writable;
  outs_named = λ told. rw keeps.ids.opened (o.outs_named told);
  log_named = λ told. rw keeps.ids.opened (o.log_named told);
}

-- what is written doesn't change where reading stays
pub wrote_same : {s t u : Disk} {n : ReplayFiles} {past : List Handled} → u.made ≡ t.made → WroteAll s t n past → WroteAll s u n past
wrote_same same wrote = record { outs = rw same wrote.outs; log = rw same wrote.log }

parts_same : {s t u : Disk} {n : ReplayFiles} {past : List Handled} → u.made ≡ t.made → WroteParts s t n past → WroteParts s u n past
parts_same same w = record {
  outs = rw same w.outs;
  log = rw same w.log;
  handled = w.handled;
  begun = w.begun;
  one = w.one;
  frames_are = w.frames_are;
  whole = rw same w.whole;
  line = rw same w.line;
}

pub others_same : (s t u : Disk) (n : ReplayFiles) → u.made ≡ t.made → KeepsOthers s t n → KeepsOthers s u n
others_same s t u n same others = rw same others

-- ---- reading on

-- a replay whose frames so far were written, and that reads on
pub record IsRead (s t : Disk) (n : ReplayFiles) (r : Replaying) (frames : List Handled) : Type 0 where
  pub sound : IsSound n r
  pub opened : HasOpened s t n r
  pub no_fault : NoFault s t
  pub ports : HavePorts n frames
  pub first : IsTrue s.tells_held → AreFirst s n.ins (arrivals_of frames)
  pub wrote : IsTrue s.tells_made → WroteAll s t n frames
  pub others : IsTrue s.tells_made → KeepsOthers s t n
  pub few : length frames ≤ most_frames
  pub steps : All TakesFewSteps frames

pub read_goes : {s t u : Disk} {n : ReplayFiles} {r : Replaying} {frames : List Handled} {new : List Input} {totals : Totals} → IsRead s t n r frames
    → ReadsInputs t u r.inputs new (Ok tt) → totals ≡ totals_of frames
    → (IsTrue s.tells_held → HaveCome s u n.ins new (arrivals_of frames)) → Going s u n (with_inputs r new totals) frames
read_goes {s} {t} {u} {n} {totals = totals} x reads counts come = record {
  sound = record { names = x.sound.names; inputs = reads.ports ∙ x.sound.inputs; outs = x.sound.outs; few = x.sound.few };
  opened = opened_reads totals x.opened reads;
  no_fault = record { read_faults = reads.cause.same ∙ x.no_fault.read_faults; write_faults = reads.keeps.write_faults ∙ x.no_fault.write_faults };
  ports = x.ports;
  come = come;
  wrote = λ told. wrote_same reads.keeps.made (x.wrote told);
  others = λ told. others_same s t u n reads.keeps.made (x.others told);
  totals_are = counts;
  few = x.few;
  steps = x.steps;
}

-- no more frames of a port than of all
few_from : (port : ℕ) (frames : List Arrival) → length (frames_from port frames) ≤ length frames
few_from port frames = omega (
  arith,
  length-map (filter (λ (x : Arrival). eqb x.port port) frames) (λ (x : Arrival). x.frame),
  length-filter (λ (x : Arrival). eqb x.port port) frames,
  count_by-le-length (λ (x : Arrival). eqb x.port port) frames,
)

few_arrivals : (frames : List Handled) → length frames ≤ most_frames → length (arrivals_of frames) ≤ most_frames
few_arrivals frames few = omega (arith, few, arrivals_of-length frames)

up_to_of : {s : Disk} {ins : List (List ℕ)} {frames : List Arrival} {port number : ℕ} {why : Damage} → length frames ≤ most_frames →
    ((streams : List Stream) × AllComeIn s ins streams × RefusesRecord streams frames (record { port = port; fault = fault_of why number }))
    → AreUpTo s ins frames port number why
up_to_of few (streams, all, inl read) = absurd cc
up_to_of {frames = frames} {port} {number} {why} few (streams, all, inr refused) =
    let up_to = refused.2 in
    let come = up_to.first.in_turn port ∙ ap (λ l. frames_from port frames ++ l) up_to.at_damage.none_left ∙ append-nil (frames_from port frames) in
    let number_is : number_after (length (stream_at streams port).frames) ≡ length (stream_at streams port).frames + 1 =
    omega (arith, few, few_from port frames, ap length come) in
    let same_why : why ≡ refused.0 = let is = refused.1 in cc in
    let same_number : number ≡ number_after (length (stream_at streams port).frames) = let is = refused.1 in cc in
    (streams, all, rw (← same_why) at up_to, same_number ∙ number_is, few)

-- a record is refused
record_stops : {I : List Handled → Type 0} {s t u : Disk} {n : ReplayFiles} {r : Replaying} {frames : List Handled} {new : List Input} {port : ℕ}
    (number : ℕ) (why : Damage) → I frames → IsRead s t n r frames
    → ReadsInputs t u r.inputs new (Err (record { port = port; fault = fault_of why number }))
    → (IsTrue s.tells_held → (streams : List Stream) × AllComeIn s n.ins streams × RefusesRecord streams (arrivals_of frames)
    (record { port = port; fault = fault_of why number }))
    → StopsAtRecord s u n I port number why
record_stops {frames = frames} number why history x reads refused = record {
  frames = frames;
  history = history;
  ports = x.ports;
  up_to = λ told. up_to_of (few_arrivals frames x.few) (refused told);
  wrote = λ told. wrote_same reads.keeps.made (x.wrote told);
  read_faults = reads.cause.same_else (λ read. cc) ∙ x.no_fault.read_faults;
}

stops_by : {S : Type 0} (I : List Handled → Type 0) (A : List Handled → Arrival → S → Type 0) {s t u : Disk} {n : ReplayFiles} {r : Replaying}
    {frames : List Handled} {new : List Input} {port : ℕ} (fault : CaptureFault) → IsReadOrSomeRecord fault → I frames → IsRead s t n r frames
    → ReadsInputs t u r.inputs new (Err (record { port = port; fault = fault }))
    → (IsTrue s.tells_held → (streams : List Stream) × AllComeIn s n.ins streams × RefusesRecord streams (arrivals_of frames)
    (record { port = port; fault = fault }))
    → StopsBegun s u n I A (stop_at port fault)
stops_by I A {frames = frames} faults.Read kind history x reads refused = (
  rw x.no_fault.read_faults at (reads.cause.fault refl),
  record {
    frames = frames;
    history = history;
    ports = x.ports;
    first = x.first;
    wrote =
        λ told. whole_parts (wrote_same reads.keeps.made (x.wrote told));
  },
)
stops_by I A faults.Memory (inl read) history x reads refused = absurd cc
stops_by I A faults.Memory (inr (why, number, is)) history x reads refused = absurd cc
stops_by I A (faults.Refused (Header field)) (inl read) history x reads refused = absurd cc
stops_by I A (faults.Refused (Header field)) (inr (why, number, is)) history x reads refused = absurd cc
stops_by I A (faults.Refused (Record number why)) kind history x reads refused = record_stops number why history x reads refused

pub read_stops : {S : Type 0} {I : List Handled → Type 0} {A : List Handled → Arrival → S → Type 0} {s t u : Disk} {n : ReplayFiles} {r : Replaying}
    {frames : List Handled} {new : List Input} {e : MergeFault} (totals : Totals) → I frames → IsRead s t n r frames
    → ReadsInputs t u r.inputs new (Err e) → IsReadOrSomeRecord e.fault
    → (IsTrue s.tells_held → (streams : List Stream) × AllComeIn s n.ins streams × RefusesRecord streams (arrivals_of frames) e)
    → HasStopped s u n (with_inputs r new totals) I A (stop_of e)
read_stops {I = I} {A = A} {s = s} {t = t} {u = u} {n = n} {e = e} totals history x reads kind refused = record {
  opened = opened_reads totals x.opened reads;
  others = λ told. others_same s t u n reads.keeps.made (x.others told);
  stops = stops_by I A e.fault kind history x reads refused;
}

-- ---- no refused record is next

no_damage_left : {t : Disk} {inputs : List Input} {streams : List Stream} {past : List Arrival} (c : Comes t inputs streams past) (port : ℕ)
    (damage : Damage) → IsAtDamage c.left port damage → ⊥
no_damage_left {inputs = inputs} c port damage at = elim (cases_lt port (length inputs)) [
  | inl below ↦ let here = input_at inputs port below in no_damage (c.still port here.0 here.1) at.none_left at.refused
  | inr above ↦ no_damage_past c.left port damage (omega (arith, above, c.ports, c.first.ports)) at.refused
]

-- behind one frame more a refused record is next at its port alone
pub damage_behind : {t : Disk} {inputs : List Input} {streams left : List Stream} {past : List Arrival} (a : Arrival) → Comes t inputs streams past
    → ComeFirst streams (past ++ a ∷ []) left → (port : ℕ) (damage : Damage) →
    IsAtDamage left port damage → EndsAt (past ++ a ∷ []) port
damage_behind {left = left} {past = past} a c more port damage at = elim (cases_eq a.port port) [
  | inl here ↦ rw (← here) (EndsAt-push a past)
  | inr ne ↦
      let come = ap (λ (l : List Framed). l ++ (stream_at left port).frames) (frames_from-push_other port a past ne) in
      let same : (stream_at c.left port).frames ≡ (stream_at left port).frames =
      append_cancel_left (frames_from port past) (stream_at c.left port).frames (stream_at left port).frames
      (sym (c.first.in_turn port) ∙ more.in_turn port ∙ come) in
      absurd (no_damage_left c port damage (record { none_left = same ∙ at.none_left; refused = c.first.ends port ∙ sym (more.ends port) ∙ at.refused }))
]

-- ---- more frames than there may be

pub too_many : {S : Type 0} {I : List Handled → Type 0} {A : List Handled → Arrival → S → Type 0} {s t : Disk} {n : ReplayFiles} {r : Replaying}
    {past : List Handled} {a : Arrival} → I past → Going s t n r past → r.totals.frames ≡ most_frames → IsNext r.inputs a
    → HasStopped s t n r I A stops.Frames
too_many {s = s} {t = t} {n = n} {r = r} {past = past} {a = a} history x most next =
    let long : length (arrivals_of past) ≡ most_frames = arrivals_of-length past ∙ sym (totals_of-frames past)
    ∙ ap (λ (totals : Totals). totals.frames) (sym x.totals_are) ∙ most in
    record {
      opened = x.opened;
      others = x.others;
      stops = record {
        frames = past;
        history = history;
        ports = x.ports;
        too_many = λ told. all_of (x.come told) long;
        wrote = x.wrote;
        read_faults = x.no_fault.read_faults;
      };
    }
  where
    waits_here : {streams : List Stream} (c : Comes t r.inputs streams (arrivals_of past)) → (stream_at c.left a.port).frames ≢ []
    waits_here c none =
        let here = (c.still a.port next.input next.at).waiting next.waits in
        let is = sym here.1 ∙ none in
        cc

    all_of : HaveCome s t n.ins r.inputs (arrivals_of past) → length (arrivals_of past) ≡ most_frames → AreTooMany s n.ins (arrivals_of past)
    all_of come long = (come.0, come.2.left, come.1, come.2.first, long, (a.port, waits_here come.2), no_damage_left come.2)

-- ---- closing

-- what is read stays open where what was written was closed
pub reads_stay : {t u : Disk} (r : Replaying) {q : Result (Unit {0}) Failed} → AreReadable t r.inputs → AreWritable t (output_ids r)
    → ClosesWritten t u (output_ids r) q → AreReadable u r.inputs
reads_stay {t} {u} r {q} readable writable closes =
    let same : SameReading t u r.inputs = record {
      tells_held = closes.held.tells_held;
      held = closes.held.held;
      opened = λ k d within. sym (closes.closes.others (get_or (ids_of r.inputs) k d) (λ i e below same. one_mode
          (t.opened (get_or (output_ids r) i e)) (writable.opened i e below) (rw same at (ids_open t r.inputs readable k d within))));
    } in
    AreReadable-stays same readable

pub closes_all : {t u v : Disk} (r : Replaying) (q p : Result (Unit {0}) Failed) → ClosesWritten t u (output_ids r) q → ClosesInputs u v r.inputs p
    → ClosesAll t v r q
closes_all {t} {u} {v} r (Ok done) p x y = record {
  faults = record { failed = tt; same = y.keeps.write_faults ∙ x.faults.same; rises = omega (arith, x.faults.rises, y.keeps.write_faults) };
  read_faults = y.read_faults ∙ x.read_faults;
  held = SameHeld-trans x.held y.keeps.held;
  made = y.keeps.made ∙ x.made;
  closes = DiffersBy-append (ids_of r.inputs) (output_ids r) y.closes x.closes;
}
closes_all {t} {u} {v} r (Err e) p x y = record {
  faults = record { failed = rw (← y.keeps.write_faults) at x.faults.failed; same = tt; rises = omega (arith, x.faults.rises, y.keeps.write_faults) };
  read_faults = y.read_faults ∙ x.read_faults;
  held = SameHeld-trans x.held y.keeps.held;
  made = y.keeps.made ∙ x.made;
  closes = DiffersBy-append (ids_of r.inputs) (output_ids r) y.closes x.closes;
}

began_same : {s t u : Disk} {n : ReplayFiles} {I : List Handled → Type 0} → u.made ≡ t.made → Began s t n I → Began s u n I
began_same same b = record { frames = b.frames; history = b.history; ports = b.ports; first = b.first; wrote = λ told. parts_same same (b.wrote told) }

record_same : {s t u : Disk} {n : ReplayFiles} {I : List Handled → Type 0} {port number : ℕ} {why : Damage} → u.made ≡ t.made
    → u.read_faults ≡ t.read_faults → StopsAtRecord s t n I port number why → StopsAtRecord s u n I port number why
record_same made read x = record {
  frames = x.frames;
  history = x.history;
  ports = x.ports;
  up_to = x.up_to;
  wrote =
      λ told. wrote_same made (x.wrote told);
  read_faults = read ∙ x.read_faults;
}

-- a stop stays one where what was opened is closed
stops_closed : {S : Type 0} (I : List Handled → Type 0) (A : List Handled → Arrival → S → Type 0) (s t u : Disk) (n : ReplayFiles) (stop : RunStop S)
    → u.made ≡ t.made → u.read_faults ≡ t.read_faults → t.write_faults ≤ u.write_faults → StopsBegun s t n I A stop → StopsBegun s u n I A stop
stops_closed I A s t u n (stops.Capture port (Header field)) made read write x = absurd x
stops_closed I A s t u n (stops.Capture port (Record number why)) made read write x = record_same made read x
stops_closed I A s t u n stops.Read made read write x = (rw read x.0, began_same made x.1)
stops_closed I A s t u n stops.Write made read write x = (let rose = x.0 in omega (arith, rose, write), read ∙ x.1, began_same made x.2)
stops_closed I A s t u n stops.Frames made read write x = record {
  frames = x.frames;
  history = x.history;
  ports = x.ports;
  too_many =
      x.too_many;
  wrote = λ told. wrote_same made (x.wrote told);
  read_faults = read ∙ x.read_faults;
}
stops_closed I A s t u n (stops.Handler reason) made read write x = record {
  frames = x.frames;
  history = x.history;
  ports = x.ports;
  arrival =
      x.arrival;
  stops = x.stops;
  first = x.first;
  wrote = λ told. wrote_same made (x.wrote told);
  read_faults = read ∙ x.read_faults;
}
stops_closed I A s t u n stops.Memory made read write x = absurd x

-- one of a replay that began is one of a replay
begun_stops : {S : Type 0} (I : List Handled → Type 0) (A : List Handled → Arrival → S → Type 0) (s t : Disk) (n : ReplayFiles) (stop : RunStop S)
    → StopsBegun s t n I A stop → StopsReplay s t n I A stop
begun_stops I A s t n (stops.Capture port (Header field)) x = absurd x
begun_stops I A s t n (stops.Capture port (Record number why)) x = x
begun_stops I A s t n stops.Read x = (x.0, inr x.1)
begun_stops I A s t n stops.Write x = x
begun_stops I A s t n stops.Frames x = x
begun_stops I A s t n (stops.Handler reason) x = x
begun_stops I A s t n stops.Memory x = absurd x

pub stopped_begun : {S : Type 0} {I : List Handled → Type 0} {A : List Handled → Arrival → S → Type 0} {s t u : Disk} {n : ReplayFiles}
    {r : Replaying} {stop : RunStop S} (q : Result (Unit {0}) Failed) → HasStopped s t n r I A stop → ClosesAll t u r q → StopsBegun s u n I A stop
stopped_begun {I = I} {A = A} {s = s} {t = t} {u = u} {n = n} {stop = stop} q x y = stops_closed I A s t u n stop y.made y.read_faults y.faults.rises x.stops

pub stopped : {S : Type 0} {I : List Handled → Type 0} {A : List Handled → Arrival → S → Type 0} {s t u : Disk} {n : ReplayFiles} {r : Replaying}
    {stop : RunStop S} (q : Result (Unit {0}) Failed) → HasStopped s t n r I A stop → ClosesAll t u r q → Replays s u n I A (Err stop)
stopped {I = I} {A = A} {s = s} {t = t} {u = u} {n = n} {r = r} {stop = stop} q x y = record {
  held = SameHeld-trans x.opened.held y.held;
  ids = closed_again (open_ids r) x.opened.opens y.closes;
  others = λ told. others_same s t u n y.made (x.others told);
  done = tt;
  stops = begun_stops I A s u n stop (stopped_begun q x y);
}

pub ended : {S : Type 0} {I : List Handled → Type 0} {A : List Handled → Arrival → S → Type 0} {s t u : Disk} {n : ReplayFiles} {r : Replaying}
    {past : List Handled} → I past → Going s t n r past → HasEnded t r → ClosesAll t u r (Ok tt) → Replays s u n I A (Ok r.totals)
ended {s = s} {t = t} {u = u} {n = n} {r = r} {past = past} history x end y = record {
  held = SameHeld-trans x.opened.held y.held;
  ids = closed_again (open_ids r) x.opened.opens y.closes;
  others = λ told. others_same s t u n y.made (x.others told);
  done = record {
    frames = past;
    history = history;
    ports = x.ports;
    all = λ told. let come = x.come told in (come.0, come.1, end.all come.0 (arrivals_of past) come.2, few_arrivals past x.few);
    totals_are = x.totals_are;
    wrote = λ told. wrote_same y.made (x.wrote told);
    no_fault = record { read_faults = y.read_faults ∙ x.no_fault.read_faults; write_faults = y.faults.same ∙ x.no_fault.write_faults };
  };
  stops = tt;
}

first_of : {s t : Disk} {ins : List (List ℕ)} {inputs : List Input} {past : List Arrival} → HaveCome s t ins inputs past → length past ≤ most_frames
    → AreFirst s ins past
first_of come few = (come.0, come.2.left, come.1, come.2.first, (λ port damage at. absurd (no_damage_left come.2 port damage at)), few)

pub end_fails : {S : Type 0} {I : List Handled → Type 0} {A : List Handled → Arrival → S → Type 0} {s t u : Disk} {n : ReplayFiles} {r : Replaying}
    {past : List Handled} {e : Failed} → I past → Going s t n r past → ClosesAll t u r (Err e) → Replays s u n I A (Err stops.Write)
end_fails {s = s} {t = t} {u = u} {n = n} {r = r} {past = past} history x y = record {
  held = SameHeld-trans x.opened.held y.held;
  ids = closed_again (open_ids r) x.opened.opens y.closes;
  others = λ told. others_same s t u n y.made (x.others told);
  done = tt;
  stops = (
    rw x.no_fault.write_faults at y.faults.failed,
    y.read_faults ∙ x.no_fault.read_faults,
    record {
      frames = past;
      history = history;
      ports = x.ports;
      first = λ told. first_of (x.come told) (few_arrivals past x.few);
      wrote =
          λ told. whole_parts (wrote_same y.made (x.wrote told));
    },
  );
}
