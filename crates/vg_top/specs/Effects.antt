-- What a run leaves: in the files, and in the sink that it prints to.
use Rattle.std.specs.Prelude.{ℕ, ◌≡◌, ◌≤◌, ◌⊎◌, List, ◌++◌, take, length, IsTrue, Some, All, slice_get}
use Rattle.vg_base.specs.Files.{Disk, Rose}
use Rattle.vg_base.specs.Sink.{Flow}
use Rattle.vg_command.specs.Commands.{Files}
use Rattle.vg_small.specs.declared.small.Small.{Small}
use Rattle.vg_pcap.specs.declared.faults.CaptureRefusal.TheVariants.{Record}
use Rattle.vg_pcap.specs.Arrivals.{Arrival}
use Rattle.vg_replay.specs.Outputs.{capture_to, log_of, totals_of}
use Rattle.vg_top.specs.Frames.{handled_by, AreHandledBy}
use Rattle.vg_replay.specs.Replays.{KeepsOthers, WroteAll, AreAll, AreUpTo, AreTooMany, HavePorts, Began, NoFault}
use Rattle.vg_top.specs.declared.stop.Stop.{Stop}
use Rattle.vg_top.specs.declared.stop.Stop.TheVariants.{Capture, Read, Write, Memory, Frames}
use Rattle.vg_top.specs.Agreement.{IsPathCount, IsMostSteps}
use Rattle.vg_top.specs.Endings.{Stopped, EndsIn, AreVerified}
use Rattle.vg_top.specs.Lines.{verified_line, totals_line, refusal_text}
use Rattle.vg_top.specs.Runs.{IsRun, RefusesWords, replay_files}
use Rattle.vg_top.specs.declared.exit.Exit.TheVariants as exits
use Rattle.vg_top.specs.Exits.{number_of}
use Rattle.vg_top.specs.Statuses.{status_of}

-- ---- the files

-- no file was changed, as far as this is told, and no fault was counted at writing
pub record Unwritten (s t : Disk) : Type 0 where
  pub made : t.made ≡ s.made
  pub write_faults : t.write_faults ≡ s.write_faults

-- The replay of a run on these files began, through the functions that they hold: each output was left as it was or holds no more than first bytes of
-- what it should of first frames, the log no further than the captures, and no other file was changed.
pub record BeganReplay (s t : Disk) (n : Files) : Type 0 where
  pub c : Small
  pub spec : Small
  pub verified : AreVerified s n c spec
  pub began : Began s t (replay_files n) (AreHandledBy c)
  pub others : IsTrue s.tells_made → KeepsOthers s t (replay_files n)

-- ---- a run that was done

-- The run was done: the two functions agree, the frames are all that came in, the captures are those of the specification, the log is that of the C
-- function, no frame took more steps than are reported, the reported totals are those of the log, and no fault was counted but in closing what was read.
pub record Finished (s t : Disk) (n : Files) (report : List ℕ) : Type 0 where
  pub c : Small
  pub spec : Small
  pub verified : AreVerified s n c spec
  pub frames : List Arrival
  pub all : IsTrue s.tells_held → AreAll s n.ins frames
  pub captures : IsTrue s.tells_made → (port : ℕ) (name : List ℕ) → slice_get n.outs port ≡ Some name →
      t.made name ≡ Some (capture_to port (handled_by spec frames))
  pub log : IsTrue s.tells_made → t.made n.log ≡ Some (log_of (handled_by c frames))
  pub others : IsTrue s.tells_made → KeepsOthers s t (replay_files n)
  pub paths : ℕ
  pub counted : IsPathCount c spec spec.ports paths
  pub steps : ℕ
  pub most : IsMostSteps c spec.ports steps
  pub bounded : All (λ h. h.steps ≤ steps) (handled_by c frames)
  pub reports : report ≡ verified_line paths steps ++ totals_line (totals_of (handled_by c frames))
  pub no_fault : NoFault s t

-- ---- a run that stopped

-- the files come to this, and nothing was written
pub record StopsWith (s t : Disk) (n : Files) (stop : Stop) : Type 0 where
  pub reason : EndsIn s n (Stopped stop)
  pub unwritten : Unwritten s t
  pub read_faults : t.read_faults ≡ s.read_faults

-- The replay came to an end before the frames did, for a reason that holds of the frames that were handled: the outputs are exactly theirs. A fault in
-- closing an output then is counted, and changes nothing.
pub record StopsInReplay (s t : Disk) (n : Files) (Reason : List Arrival → Type 0) : Type 0 where
  pub c : Small
  pub spec : Small
  pub verified : AreVerified s n c spec
  pub frames : List Arrival
  pub ports : HavePorts (replay_files n) (handled_by c frames)
  pub handled : IsTrue s.tells_held → Reason frames
  pub wrote : IsTrue s.tells_made → WroteAll s t (replay_files n) (handled_by c frames)
  pub others : IsTrue s.tells_made → KeepsOthers s t (replay_files n)
  pub read_faults : t.read_faults ≡ s.read_faults

-- Why a run on these files stopped, and what it left in them. A file couldn't be read, before anything was written or in the replay; an output of the
-- replay couldn't be written; memory ran out before anything was written; a record is refused, or there are too many frames; or the files come to it.
abbrev pub Leaves : Disk → Disk → Files → Stop → Type 0
Leaves s t n Read = Rose s.read_faults t.read_faults × (Unwritten s t ⊎ BeganReplay s t n)
Leaves s t n Write = Rose s.write_faults t.write_faults × (t.read_faults ≡ s.read_faults) × BeganReplay s t n
Leaves s t n Memory = Unwritten s t × (t.read_faults ≡ s.read_faults)
Leaves s t n (Capture port (Record number why)) = StopsInReplay s t n (λ frames. AreUpTo s n.ins frames port number why)
Leaves s t n Frames = StopsInReplay s t n (λ frames. AreTooMany s n.ins frames)
Leaves s t n stop = StopsWith s t n stop

-- ---- the words

-- the words are those of a run on files of which this holds
abbrev pub RunsOn : List (List ℕ) → (Files → Type 0) → Type 0
RunsOn words Holds = (n : Files) × IsRun words n × Holds n

-- The words stopped a run, and nothing was touched; or they are those of a run that stopped, which left this.
abbrev pub HasStopped : List (List ℕ) → Disk → Disk → Stop → Type 0
HasStopped words s t stop = (RefusesWords words stop × (t ≡ s)) ⊎ RunsOn words (λ n. Leaves s t n stop)

-- What the words came to, the text that is due, and the status that goes with it: a run was done, with its report; or it stopped, with the text and
-- the status of its reason.
abbrev pub ComesWith : List (List ℕ) → Disk → Disk → List ℕ → ℕ → Type 0
ComesWith words s t text status =
    ((status ≡ number_of exits.Done) × RunsOn words (λ n. Finished s t n text))
    ⊎ ((stop : Stop) × (status ≡ status_of stop) × (text ≡ refusal_text stop) × HasStopped words s t stop)

-- ---- the sink

-- a text was printed
pub record Says (u v : Flow) (text : List ℕ) : Type 0 where
  pub made : IsTrue u.tells_made → v.made ≡ u.made ++ text
  pub faults : v.faults ≡ u.faults

-- the sink failed at a text, of which first bytes were printed
pub record FailsSaying (u v : Flow) (text : List ℕ) : Type 0 where
  pub made : IsTrue u.tells_made → (n : ℕ) × (n ≤ length text) × (v.made ≡ u.made ++ take n text)
  pub rose : Rose u.faults v.faults

-- a text was printed and its status is answered, or the sink failed and that of a fault at writing is
abbrev pub Prints : Flow → Flow → List ℕ → ℕ → ℕ → Type 0
Prints u v text status answer = ((answer ≡ status) × Says u v text) ⊎ ((answer ≡ number_of exits.Write) × FailsSaying u v text)

-- ---- both

-- the words came to something, and the text and the status of that were printed and answered
pub record Answers (words : List (List ℕ)) (s t : Disk) (u v : Flow) (answer : ℕ) : Type 0 where
  pub text : List ℕ
  pub status : ℕ
  pub comes : ComesWith words s t text status
  pub prints : Prints u v text status answer
