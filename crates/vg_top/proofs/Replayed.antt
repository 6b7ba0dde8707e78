-- From a replay to a run: what holds from where the replay began holds from where the run began.
use Rattle.std.proofs.Common.{◌≡◌, inl, inr, ◌∙◌, ℕ, List, IsTrue, Result, Ok, ap}
use Rattle.vg_base.proofs.Disks.{SameHeld-trans, SameIds-trans}
use Rattle.vg_base.specs.Files.{Disk, SameHeld, SameIds}
use Rattle.vg_command.specs.Commands.{Files}
use Rattle.std.specs.declared.convert.Infallible.{Infallible}
use Rattle.vg_pcap.specs.declared.faults.CaptureRefusal.TheVariants.{Header, Record}
use Rattle.vg_pcap.specs.declared.faults.Damage.{Damage}
use Rattle.vg_pcap.specs.declared.faults.HeaderField.{HeaderField}
use Rattle.vg_pcap.specs.Arrivals.{Arrival}
use Rattle.vg_pcap.specs.Frames.{Stream}
use Rattle.vg_pcap.specs.Incoming.{AllComeIn, IsFirstBadHeader}
use Rattle.vg_replay.specs.declared.stop.RunStop.{RunStop}
use Rattle.vg_replay.specs.declared.stop.RunStop.TheVariants as stops
use Rattle.vg_replay.specs.declared.totals.Totals.{Totals}
use Rattle.vg_replay.specs.Replays.{ReplayFiles, KeepsOthers, WroteAll, WroteParts, AreFirst, AreAll, AreUpTo, AreTooMany, HasReplayed, StopsAtHeader}
use Rattle.vg_replay.specs.Replays.{StopsAtRecord, Began, StopsReplay, Replays}
use Rattle.vg_replay.specs.Outputs.{Handled, arrivals_of}
use Rattle.vg_top.proofs.Handled.{never_stops}
use Rattle.vg_top.specs.Frames.{AreHandledBy}
use Rattle.vg_top.specs.declared.setup.Functions.{Functions}
use Rattle.vg_top.specs.declared.report.Report.{Report}
use Rattle.vg_top.specs.declared.stop.Stop.TheVariants.{Capture}
use Rattle.vg_top.specs.Agreement.{IsPathCount, IsMostSteps}
use Rattle.vg_top.specs.Effects.{Unwritten, BeganReplay, Leaves}
use Rattle.vg_top.specs.Runs.{replay_files}
use Rattle.vg_top.specs.Running.{HasRun}
use Rattle.vg_top.specs.Setup.{ReadsFunctions}
use Rattle.vg_top.specs.Stops.{stop_of}

-- ---- captures that are the same

module _ {s t : Disk} (same : t.held ≡ s.held) where
  all_before : {ins : List (List ℕ)} {streams : List Stream} → AllComeIn t ins streams → AllComeIn s ins streams
  all_before x = record { ports = x.ports; each = λ port name at. rw same at (x.each port name at) }

  first_before : {ins : List (List ℕ)} {frames : List Arrival} → AreFirst t ins frames → AreFirst s ins frames
  first_before x = (x.0, x.1, all_before x.2, x.3, x.4, x.5)

  AreAll-before : {ins : List (List ℕ)} {frames : List Arrival} → AreAll t ins frames → AreAll s ins frames
  AreAll-before x = (x.0, all_before x.1, x.2, x.3)

  AreUpTo-before : {ins : List (List ℕ)} {frames : List Arrival} {port number : ℕ} {why : Damage} → AreUpTo t ins frames port number why
      → AreUpTo s ins frames port number why
  AreUpTo-before x = (x.0, all_before x.1, x.2, x.3, x.4)

  AreTooMany-before : {ins : List (List ℕ)} {frames : List Arrival} → AreTooMany t ins frames → AreTooMany s ins frames
  AreTooMany-before x = (x.0, x.1, all_before x.2, x.3, x.4, x.5, x.6)

  header_before : {ins : List (List ℕ)} {port : ℕ} {field : HeaderField} → IsFirstBadHeader t ins port field → IsFirstBadHeader s ins port field
  header_before x = record {
    name = x.name;
    at = x.at;
    bad = rw same at x.bad;
    first = λ before other lower at. rw same at (x.first before other lower at);
  }

-- ---- outputs that were the same

WroteAll-before : (s t u : Disk) {n : ReplayFiles} {frames : List Handled} → WroteAll t u n frames → WroteAll s u n frames
WroteAll-before s t u x = record { outs = x.outs; log = x.log }

WroteParts-before : (s t u : Disk) {n : ReplayFiles} {frames : List Handled} → t.made ≡ s.made → WroteParts t u n frames → WroteParts s u n frames
WroteParts-before s t u made x = record {
  outs = λ port name at. rw made at (x.outs port name at);
  log = rw made at x.log;
  handled = x.handled;
  begun = x.begun;
  one = x.one;
  frames_are = x.frames_are;
  whole = x.whole;
  line = rw made at x.line;
}

-- ---- the run

module _ {s t : Disk} {n : Files} (f : Functions) (x : ReadsFunctions s t n (Ok f)) where
  held : IsTrue s.tells_held → IsTrue t.tells_held
  held told = rw x.reads.keeps.held.tells_held told

  made : IsTrue s.tells_made → IsTrue t.tells_made
  made told = rw x.reads.keeps.held.tells_made told

  same : t.held ≡ s.held
  same = x.reads.keeps.held.held

module _ {s t : Disk} (u : Disk) {n : Files} (f : Functions) (x : ReadsFunctions s t n (Ok f)) where
  others_before : (IsTrue t.tells_made → KeepsOthers t u (replay_files n)) → IsTrue s.tells_made → KeepsOthers s u (replay_files n)
  others_before keeps told = λ name none. keeps (made f x told) name none ∙ ap (λ (m : List ℕ → _). m name) x.reads.keeps.made

  began_before : (IsTrue t.tells_made → KeepsOthers t u (replay_files n)) → Began t u (replay_files n) (AreHandledBy f.c) → BeganReplay s u n
  began_before keeps b = record {
    c = f.c;
    spec = f.spec;
    verified = x.verified;
    began = record {
      frames = b.frames;
      history = b.history;
      ports = b.ports;
      first = λ told. first_before (same f x) (b.first (held f x told));
      wrote = λ told. WroteParts-before s t u x.reads.keeps.made (b.wrote (made f x told));
    };
    others = others_before keeps;
  }

  unwritten : u.made ≡ t.made → u.write_faults ≡ t.write_faults → Unwritten s u
  unwritten m w = record { made = m ∙ x.reads.keeps.made; write_faults = w ∙ x.reads.keeps.write_faults }

  after_record : (port number : ℕ) (why : Damage) → (IsTrue t.tells_made → KeepsOthers t u (replay_files n)) →
      StopsAtRecord t u (replay_files n) (AreHandledBy f.c) port number why → Leaves s u n (Capture port (Record number why))
  after_record port number why keeps y = record {
    c = f.c;
    spec = f.spec;
    verified = x.verified;
    frames = arrivals_of y.frames;
    ports = rw y.history at y.ports;
    handled = λ told. AreUpTo-before (same f x) (y.up_to (held f x told));
    wrote = λ told. rw y.history at (WroteAll-before s t u (y.wrote (made f x told)));
    others = others_before keeps;
    read_faults = y.read_faults ∙ x.reads.same;
  }

  at_header : (port : ℕ) (field : HeaderField) → StopsAtHeader t u (replay_files n) port field → Leaves s u n (Capture port (Header field))
  at_header port field y = record {
    reason = record {
      c = f.c;
      spec = f.spec;
      verified = x.verified;
      captures = λ told. header_before {s = s} {t = t} (same f x) (y.header (held f x told));
    };
    unwritten = unwritten y.made y.no_fault.write_faults;
    read_faults = y.no_fault.read_faults ∙ x.reads.same;
  }

  pub replay_stops : (e : RunStop Infallible) → (IsTrue t.tells_made → KeepsOthers t u (replay_files n))
      → StopsReplay t u (replay_files n) (AreHandledBy f.c) never_stops e → Leaves s u n (stop_of e)
  replay_stops (stops.Capture port (Header field)) keeps y = at_header port field y
  replay_stops (stops.Capture port (Record number why)) keeps y = after_record port number why keeps y
  replay_stops stops.Read keeps y = (
    rw x.reads.same at y.0,
    elim y.1 [
      | inl m ↦ inl (unwritten m.0 m.1)
      | inr b ↦ inr (began_before keeps b)
    ],
  )
  replay_stops stops.Write keeps y = (rw x.reads.keeps.write_faults at y.0, y.1 ∙ x.reads.same, began_before keeps y.2)
  replay_stops stops.Frames keeps y = record {
    c = f.c;
    spec = f.spec;
    verified = x.verified;
    frames = arrivals_of y.frames;
    ports = rw y.history at y.ports;
    handled = λ told. AreTooMany-before (same f x) (y.too_many (held f x told));
    wrote = λ told. rw y.history at (WroteAll-before s t u (y.wrote (made f x told)));
    others = others_before keeps;
    read_faults = y.read_faults ∙ x.reads.same;
  }
  replay_stops (stops.Handler reason) keeps y = absurd y.stops
  replay_stops stops.Memory keeps y =
      (unwritten y.0 y.1.write_faults, y.1.read_faults ∙ x.reads.same)

  pub replay_done : (r : Report) → IsPathCount f.c f.spec f.spec.ports r.paths → IsMostSteps f.c f.spec.ports r.steps
      → (IsTrue t.tells_made → KeepsOthers t u (replay_files n)) →
      HasReplayed t u (replay_files n) (AreHandledBy f.c) r.totals → HasRun s u n r
  replay_done r paths steps keeps y = record {
    c = f.c;
    spec = f.spec;
    verified = x.verified;
    paths = paths;
    steps = steps;
    replayed = record {
      frames = y.frames;
      history = y.history;
      ports = y.ports;
      all = λ told. AreAll-before (same f x) (y.all (held f x told));
      totals_are = y.totals_are;
      wrote = λ told. WroteAll-before s t u (y.wrote (made f x told));
      no_fault = record { read_faults = y.no_fault.read_faults ∙ x.reads.same; write_faults = y.no_fault.write_faults ∙ x.reads.keeps.write_faults };
    };
    others = others_before keeps;
  }

  pub held_after : {r : Result Totals (RunStop Infallible)} → Replays t u (replay_files n) (AreHandledBy f.c) never_stops r → SameHeld s u
  held_after y = SameHeld-trans x.reads.keeps.held y.held

  pub ids_after : {r : Result Totals (RunStop Infallible)} → Replays t u (replay_files n) (AreHandledBy f.c) never_stops r → SameIds s u
  ids_after y = SameIds-trans x.reads.ids y.ids
