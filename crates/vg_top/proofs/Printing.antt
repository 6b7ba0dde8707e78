-- What a run answers and leaves, once it has printed.
use Rattle.std.proofs.Common.{◌≡◌, ◌<◌, ◌≤◌, ◌⊎◌, inl, inr, ◌∙◌, ◌++◌, ◌∷◌, ℕ, List, [], length, IsTrue, if◌then◌else◌, Some, refl, sym, ap}
use Rattle.std.proofs.Common.{append-nil, All, arith}
use Rattle.std.specs.List.{flat_map}
use Rattle.std.proofs.lemmas.List.Elements.{All-map, All-head, All-tail}
use Rattle.vg_base.specs.Files.{Disk}
use Rattle.vg_base.specs.Sink.{Flow}
use Rattle.vg_command.specs.Commands.{Files}
use Rattle.vg_small.specs.declared.small.Small.{Small}
use Rattle.vg_pcap.specs.Frames.{header, record_of}
use Rattle.vg_pcap.specs.declared.faults.CaptureRefusal.TheVariants.{Header, Record}
use Rattle.vg_pcap.specs.declared.faults.Damage.{Damage}
use Rattle.vg_pcap.specs.Captures.{CaptureEnd, Whole, Refused}
use Rattle.vg_pcap.specs.Arrivals.{Arrival}
use Rattle.vg_core.specs.declared.verdict.Verdict.{Verdict}
use Rattle.vg_replay.specs.Outputs.{Handled, arrivals_of, goes_to, piece_to, capture_to}
use Rattle.vg_top.specs.Frames.{handle_at, handled_by, AreHandledBy}
use Rattle.vg_replay.specs.Replays.{IsOfPorts, ReplayFiles, IsPart, Holds, WroteAll, WroteParts, AreFirst, AreAll, AreUpTo, AreTooMany}
use Rattle.vg_top.specs.declared.report.Report.{Report}
use Rattle.vg_top.specs.declared.stop.Stop.{Stop}
use Rattle.vg_top.specs.declared.stop.Stop.TheVariants.{Wrong, Usage, Capture, Read, Write, Memory, Limit, Frames, NotBuilt}
use Rattle.vg_top.specs.Agreement.{Agree, IsMostSteps}
use Rattle.vg_top.specs.Effects.{Unwritten, BeganReplay, Finished, StopsInReplay, Leaves, RunsOn, HasStopped, Prints, Answers}
use Rattle.vg_top.specs.Endings.{Ending, Stopped, Done, ComesTo}
use Rattle.vg_top.specs.Lines.{verified_line, totals_line, refusal_text}
use Rattle.vg_top.specs.Runs.{IsRun, RefusesWords}
use Rattle.vg_top.specs.Running.{HasRun}
use Rattle.vg_top.specs.Statuses.{status_of, status_at, IsFaultOrMemory}
use Rattle.vg_top.proofs.Handled.{arrivals_of-handled}
use Rattle.vg_top.proofs.Unique.{ComesTo-same}

-- ---- a run that was done

-- no frame takes more than the greatest number of steps
bounded : (c : Small) (ports most : ℕ) (frames : List Arrival) → IsMostSteps c ports most → All (λ a. a.port < ports) frames
    → All (λ h. h.steps ≤ most) (handled_by c frames)
bounded c ports most frames steps below = All-map (λ h. h.steps ≤ most) (handle_at c) frames (λ i d within. steps.bound _ (below i d within))

-- what two functions that agree put into a capture is the same
module _ (c spec : Small) (agree : Agree c spec) (to : ℕ) where
  same_piece : (a : Arrival) → a.port < spec.ports → piece_to to (handle_at c a) ≡ piece_to to (handle_at spec a)
  unfolding piece_to
  same_piece a below = ap (λ (v : Verdict). if goes_to v a.port to then record_of a.frame else []) (agree a.port below)

  same_pieces : (frames : List Arrival) → All (λ a. a.port < spec.ports) frames → flat_map (piece_to to) (handled_by c frames) ≡ flat_map
      (piece_to to) (handled_by spec frames)
  same_pieces [] below = refl
  same_pieces (a ∷ frames) below =
      rw (same_piece a (All-head (λ a. a.port < spec.ports) a frames below), same_pieces frames (All-tail (λ a. a.port < spec.ports) a frames below)) refl

  same_capture : (frames : List Arrival) → All (λ a. a.port < spec.ports) frames → capture_to to (handled_by c frames) ≡ capture_to to (handled_by spec frames)
  unfolding capture_to
  same_capture frames below = ap (λ (bytes : List ℕ). header ++ bytes) (same_pieces frames below)

pub has_finished : (s t : Disk) {n : Files} (r : Report) → HasRun s t n r → Finished s t n (verified_line r.paths r.steps ++ totals_line r.totals)
has_finished s t {n} r has =
    let ports : length n.ins ≡ has.spec.ports = has.verified.functions.ports in
    let frames = arrivals_of has.replayed.frames in
    let of : All (IsOfPorts has.spec.ports) has.replayed.frames = rw ports at has.replayed.ports in
    let below : All (λ a. a.port < has.spec.ports) frames = All-map (λ (a : Arrival). a.port < has.spec.ports) (λ (h : Handled). h.arrival)
    has.replayed.frames (λ k d lt. (of k d lt).came) in
    record {
      c = has.c;
      spec = has.spec;
      verified = has.verified;
      frames = frames;
      all = has.replayed.all;
      captures = λ told port name at. rw has.replayed.history at ((has.replayed.wrote told).outs port name at)
          ∙ ap Some (same_capture has.c has.spec has.verified.agree port frames below);
      log = λ told. rw has.replayed.history at ((has.replayed.wrote told).log);
      others = has.others;
      paths = r.paths;
      counted = has.paths;
      steps = r.steps;
      most = has.steps;
      bounded = bounded has.c has.spec.ports r.steps frames has.steps below;
      reports = rw (← has.replayed.history, has.replayed.totals_are) refl;
      no_fault = has.replayed.no_fault;
    }

-- ---- what is answered

pub answers_done : {words : List (List ℕ)} (s t : Disk) {u v : Flow} {n : Files} {answer : ℕ} (r : Report) → IsRun words n → HasRun s t n r →
    Prints u v (verified_line r.paths r.steps ++ totals_line r.totals) 0 answer → Answers words s t u v answer
answers_done s t {n = n} r run has prints = record {
  text = verified_line r.paths r.steps ++ totals_line r.totals;
  status = 0;
  comes = inl (refl, (n, run, has_finished s t r has));
  prints = prints;
}

pub answers_stopped : {words : List (List ℕ)} (s t : Disk) {u v : Flow} {answer : ℕ} (stop : Stop) → HasStopped words s t stop →
    Prints u v (refusal_text stop) (status_of stop) answer → Answers words s t u v answer
answers_stopped s t stop stopped prints = record { text = refusal_text stop; status = status_of stop; comes = inr (stop, refl, refl, stopped); prints = prints }

-- ---- outputs that are whole are begun

whole_part : (s t : Disk) (name : List ℕ) (whole : List ℕ) → t.made name ≡ Some whole → IsPart s t name whole
whole_part s t name whole made = inr (whole, [], made, sym (append-nil whole))

whole_holds : (t : Disk) (name whole : List ℕ) → t.made name ≡ Some whole → Holds t name whole
whole_holds t name whole made = ([], made ∙ ap Some (sym (append-nil whole)))

parts_of_all : (s t : Disk) {n : ReplayFiles} (frames : List Handled) → WroteAll s t n frames → WroteParts s t n frames
parts_of_all s t frames all = record {
  outs = λ port name at. whole_part s t name _ (all.outs port name at);
  log = whole_part s t _ _ all.log;
  handled = frames;
  begun = [];
  one = omega arith;
  frames_are = sym (append-nil frames);
  whole = inr ((λ port name at. whole_holds t name _ (all.outs port name at)), whole_holds t _ _ all.log);
  line = inr (λ port name at. whole_holds t name _ (all.outs port name at));
}

-- the frames that were handled are first ones

first_of_all : {s : Disk} {ins : List (List ℕ)} {frames : List Arrival} → AreAll s ins frames → AreFirst s ins frames
first_of_all all = (
  all.0,
  all.2.left,
  all.1,
  all.2.first,
  (λ port damage at. absurd (whole_refused (all.2.whole port) (all.2.first.ends port) at.refused)),
  all.3,
)
  where
    whole_refused : {a b : CaptureEnd} {damage : Damage} → b ≡ Whole → a ≡ b → a ≡ Refused damage → ⊥
    whole_refused whole ends refused = cc

first_up_to : {s : Disk} {ins : List (List ℕ)} {frames : List Arrival} {port number : ℕ} {why : Damage} → AreUpTo s ins frames port number why
    → AreFirst s ins frames
first_up_to {frames = frames} {port = port} up_to = (
  up_to.0,
  up_to.2.left,
  up_to.1,
  up_to.2.first,
  (λ other damage at. elim (up_to.2.no_other other damage at) [
    | inl same ↦ rw same up_to.2.right_after
    | inr none ↦ rw none.0 tt
  ]),
  up_to.4,
)

first_of_many : {s : Disk} {ins : List (List ℕ)} {frames : List Arrival} → AreTooMany s ins frames → AreFirst s ins frames
first_of_many many = (many.0, many.1, many.2, many.3, (λ port damage at. absurd (many.6 port damage at)), omega (arith, many.4))

pub began_done : {words : List (List ℕ)} (s t : Disk) {n : Files} (r : Report) → IsRun words n → HasRun s t n r → RunsOn words (BeganReplay s t)
began_done s t {n} r run has = (
  n,
  run,
  record {
    c = has.c;
    spec = has.spec;
    verified = has.verified;
    began = record {
      frames = has.replayed.frames;
      history = has.replayed.history;
      ports = has.replayed.ports;
      first = λ told. first_of_all (has.replayed.all told);
      wrote = λ told. parts_of_all s t has.replayed.frames (has.replayed.wrote told);
    };
    others = has.others;
  },
)

-- ---- what stands in the outputs after a stop

began_after : (s t : Disk) {n : Files} {Reason : List Arrival → Type 0} → ((frames : List Arrival) → Reason frames → AreFirst s n.ins frames)
    → StopsInReplay s t n Reason → BeganReplay s t n
began_after s t {n} first x =
    let came : arrivals_of (handled_by x.c x.frames) ≡ x.frames = arrivals_of-handled x.c x.frames in
    record {
      c = x.c;
      spec = x.spec;
      verified = x.verified;
      began = record {
        frames = handled_by x.c x.frames;
        history = rw came refl;
        ports = x.ports;
        first = λ told. rw came (first x.frames (x.handled told));
        wrote = λ told. parts_of_all s t (handled_by x.c x.frames) (x.wrote told);
      };
      others = x.others;
    }

pub outputs_after : {words : List (List ℕ)} (s t : Disk) {n : Files} (stop : Stop) → IsRun words n → Leaves s t n stop → Unwritten s t
    ⊎ RunsOn words (BeganReplay s t)
outputs_after s t Read run (_, inl none) = inl none
outputs_after s t {n} Read run (_, inr b) = inr (n, run, b)
outputs_after s t {n} Write run x = inr (n, run, x.2)
outputs_after s t Memory run x = inl x.0
outputs_after s t {n} (Capture port (Record number why)) run x = inr (n, run, began_after s t (λ frames up_to. first_up_to up_to) x)
outputs_after s t {n} Frames run x = inr (n, run, began_after s t (λ frames many. first_of_many many) x)
outputs_after s t (Capture port (Header field)) run x = inl x.unwritten
outputs_after s t Usage run x = inl x.unwritten
outputs_after s t (Wrong at port) run x = inl x.unwritten
outputs_after s t (NotBuilt what) run x = inl x.unwritten
outputs_after s t (Limit lang) run x = inl x.unwritten

-- ---- the one answer

pub exactly_done : {words : List (List ℕ)} (s t : Disk) {u v : Flow} {text : List ℕ} {n : Files} {answer : ℕ} (r : Report) → IsRun words n
    → HasRun s t n r → Prints u v text 0 answer →
    IsTrue s.tells_held → (ending : Ending) → ComesTo s words ending → (answer ≡ status_at ending) ⊎ IsFaultOrMemory answer
exactly_done {words = words} s t {n = n} r run has (inl printed) told ending comes =
    let done : ComesTo s words (Done has.c has.spec (arrivals_of has.replayed.frames)) = inr (inr (n, run, (has.verified, has.replayed.all))) in
    inl (printed.0 ∙ ap status_at (ComesTo-same s words (Done has.c has.spec (arrivals_of has.replayed.frames)) ending told done comes))
exactly_done s t r run has (inr failed) told ending comes = inr (inr (inl failed.0))

-- a run that stopped for a reason
pub exactly_reason : {words : List (List ℕ)} (s : Disk) {u v : Flow} {text : List ℕ} {answer : ℕ} (stop : Stop) → ComesTo s words (Stopped stop)
    → Prints u v text (status_of stop) answer →
    IsTrue s.tells_held → (ending : Ending) → ComesTo s words ending → (answer ≡ status_at ending) ⊎ IsFaultOrMemory answer
exactly_reason {words = words} s stop reason (inl printed) told ending comes =
    inl (printed.0 ∙ ap status_at (ComesTo-same s words (Stopped stop) ending told reason comes))
exactly_reason s stop reason (inr failed) told ending comes = inr (inr (inl failed.0))

-- a run that a fault or want of memory ended
free_stop : {u v : Flow} {text : List ℕ} {answer : ℕ} (status : ℕ) → IsFaultOrMemory status → Prints u v text status answer → IsFaultOrMemory answer
free_stop status free (inl printed) = rw printed.0 free
free_stop status free (inr failed) = inr (inl failed.0)

pub exactly_stopped : {words : List (List ℕ)} (s t : Disk) {u v : Flow} {text : List ℕ} {n : Files} {answer : ℕ} (stop : Stop) → IsRun words n
    → Leaves s t n stop → Prints u v text (status_of stop) answer →
    IsTrue s.tells_held → (ending : Ending) → ComesTo s words ending → (answer ≡ status_at ending) ⊎ IsFaultOrMemory answer
exactly_stopped s t Read run stops printed told ending comes = inr (free_stop 6 (inl refl) printed)
exactly_stopped s t Write run stops printed told ending comes = inr (free_stop 7 (inr (inl refl)) printed)
exactly_stopped s t Memory run stops printed told ending comes = inr (free_stop 8 (inr (inr refl)) printed)
exactly_stopped s t {n = n} (Capture port (Record number why)) run stops printed told ending comes =
    exactly_reason s (Capture port (Record number why))
    (inr (inr (
      n,
      run,
      record {
        c = stops.c;
        spec = stops.spec;
        verified = stops.verified;
        captures =
            λ held. (stops.frames, stops.handled held);
      },
    ))) printed told ending comes
exactly_stopped s t {n = n} Frames run stops printed told ending comes =
    exactly_reason s Frames (inr (inr (
      n,
      run,
      record {
        c = stops.c;
        spec = stops.spec;
        verified = stops.verified;
        captures =
            λ held. (stops.frames, stops.handled held);
      },
    ))) printed told ending comes
exactly_stopped s t {n = n} (Capture port (Header field)) run stops printed told ending comes =
    exactly_reason s (Capture port (Header field)) (inr (inr (n, run, stops.reason))) printed told ending comes
exactly_stopped s t {n = n} Usage run stops printed told ending comes = exactly_reason s Usage (inr (inr (n, run, stops.reason))) printed told ending comes
exactly_stopped s t {n = n} (Wrong at port) run stops printed told ending comes = exactly_reason s (Wrong at port) (inr (inr (n, run, stops.reason)))
    printed told ending comes
exactly_stopped s t {n = n} (NotBuilt what) run stops printed told ending comes = exactly_reason s (NotBuilt what) (inr (inr (n, run, stops.reason)))
    printed told ending comes
exactly_stopped s t {n = n} (Limit lang) run stops printed told ending comes = exactly_reason s (Limit lang) (inr (inr (n, run, stops.reason)))
    printed told ending comes

pub exactly_words : {words : List (List ℕ)} (s : Disk) {u v : Flow} {text : List ℕ} {answer : ℕ} (stop : Stop) → RefusesWords words stop
    → Prints u v text (status_of stop) answer →
    IsTrue s.tells_held → (ending : Ending) → ComesTo s words ending → (answer ≡ status_at ending) ⊎ IsFaultOrMemory answer
exactly_words s stop (inl none) printed = exactly_reason s stop (inl (ap Stopped none.0, none.1)) printed
exactly_words s stop (inr other) printed = exactly_reason s stop (inr (inl (ap Stopped other.0, other.1))) printed
