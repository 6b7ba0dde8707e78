-- A replay that is under way: what is seen of it, and what it has done so far.
use Rattle.std.specs.Prelude.{ℕ, ◌≤◌, ◌^◌, ◌≡◌, ◌≢◌, List, [], ◌∷◌, ◌++◌, length, IsTrue, Some, All, AllPairs, slice_get}
use Rattle.vg_base.specs.Files.{Disk, Writes, writing, SameHeld}
use Rattle.vg_base.specs.Several.{DiffersBy, AreOpen}
use Rattle.vg_pcap.specs.Frames.{Stream}
use Rattle.vg_pcap.specs.Arrivals.{Arrival}
use Rattle.vg_pcap.specs.Incoming.{AllComeIn}
use Rattle.vg_pcap.specs.Merge.{Input, ids_of, AreReadable, Comes, NoneEarlier}
use Rattle.vg_replay.specs.declared.totals.Totals.{Totals}
use Rattle.vg_replay.specs.Outputs.{Handled, arrivals_of, totals_of}
use Rattle.vg_replay.specs.Handler.{Takes}
use Rattle.vg_replay.specs.Replays.{ReplayFiles, AreReplayFiles, NoFault, HavePorts, WroteAll, KeepsOthers, most_frames}

-- what is seen of the files of a replay: the inputs by port, the ids of the captures that are written by port, the id of the log, and the counts so far
pub record Replaying : Type 0 where
  pub inputs : List Input
  pub outs : List ℕ
  pub log : ℕ
  pub totals : Totals

-- what is seen of a replay: its handler, and its files
pub record ReplayOf (H : Type 0) : Type 0 where
  pub handler : H
  pub files : Replaying

-- the ids that are written to, and all that are open
abbrev pub output_ids : Replaying → List ℕ
output_ids r = r.outs ++ r.log ∷ []

abbrev pub open_ids : Replaying → List ℕ
open_ids r = ids_of r.inputs ++ output_ids r

-- different ids, open for writing
pub record AreWritable (t : Disk) (ids : List ℕ) : Type 0 where
  pub opened : AreOpen t Writes ids
  pub apart : AllPairs ◌≢◌ ids

-- each id writes to the file of its port's name
abbrev pub AreNamed : Disk → List ℕ → List (List ℕ) → Type 0
AreNamed t ids names = (port id : ℕ) (name : List ℕ) → slice_get ids port ≡ Some id → slice_get names port ≡ Some name → t.opened id ≡ writing name

-- since s the files of a replay were opened, and no others
pub record HasOpened (s t : Disk) (n : ReplayFiles) (r : Replaying) : Type 0 where
  pub held : SameHeld s t
  pub opens : DiffersBy s t (open_ids r)
  pub readable : AreReadable t r.inputs
  pub writable : AreWritable t (output_ids r)
  pub outs_named : IsTrue s.tells_made → AreNamed t r.outs n.outs
  pub log_named : IsTrue s.tells_made → t.opened r.log ≡ writing n.log

-- these frames have come, of the streams that come in under these names
abbrev pub HaveCome : Disk → Disk → List (List ℕ) → List Input → List Arrival → Type 0
HaveCome s t ins inputs past = (streams : List Stream) × AllComeIn s ins streams × Comes t inputs streams past

-- what stays the same while a replay goes on: its files have names as they should, and there is a capture in and one out for each port, no more than files
-- can be open
pub record IsSound (n : ReplayFiles) (r : Replaying) : Type 0 where
  pub names : AreReplayFiles n
  pub inputs : length r.inputs ≡ length n.ins
  pub outs : length r.outs ≡ length n.outs
  pub few : length r.outs ≤ 64

-- a handler takes what comes in: frames of as many ports, and no frame that waits is too early for it
pub record IsReady (takes : Takes) (inputs : List Input) : Type 0 where
  pub ports : takes.ports ≡ length inputs
  pub times : NoneEarlier takes.since inputs

-- a frame took no more steps than this, so that those of all frames can be counted in 64 bits
abbrev pub TakesFewSteps : Handled → Type 0
TakesFewSteps h = h.steps ≤ 2 ^ 31

-- a replay that began at s is at t, and has handled these frames so far
pub record Going (s t : Disk) (n : ReplayFiles) (r : Replaying) (past : List Handled) : Type 0 where
  pub sound : IsSound n r
  pub opened : HasOpened s t n r
  pub no_fault : NoFault s t
  pub ports : HavePorts n past
  pub come : IsTrue s.tells_held → HaveCome s t n.ins r.inputs (arrivals_of past)
  pub wrote : IsTrue s.tells_made → WroteAll s t n past
  pub others : IsTrue s.tells_made → KeepsOthers s t n
  pub totals_are : r.totals ≡ totals_of past
  pub few : length past ≤ most_frames
  pub steps : All TakesFewSteps past
