-- What a replay does: which frames it handles, what it leaves in the files, and why it stops.
use Rattle.std.specs.Prelude.{ℕ, ◌+◌, ◌-◌, ◌<◌, ◌≤◌, ◌^◌, ◌≡◌, ◌≢◌, ◌⊎◌, List, [], ◌∷◌, ◌++◌, length, IsTrue, Some, Result, IfOk, IfErr, All}
use Rattle.std.specs.Prelude.{AllPairs, slice_get}
use Rattle.vg_base.specs.Files.{Disk, Rose, SameHeld, SameIds}
use Rattle.vg_pcap.specs.declared.faults.CaptureRefusal.TheVariants.{Header, Record}
use Rattle.vg_pcap.specs.declared.faults.HeaderField.{HeaderField}
use Rattle.vg_pcap.specs.declared.faults.Damage.{Damage}
use Rattle.vg_pcap.specs.Frames.{Stream}
use Rattle.vg_pcap.specs.Arrivals.{Arrival, stream_at, EndsAt, ComeFirst, AllCome, ComeUpTo, IsAtDamage}
use Rattle.vg_pcap.specs.Incoming.{AllComeIn, IsFirstBadHeader}
use Rattle.vg_replay.specs.declared.totals.Totals.{Totals}
use Rattle.vg_replay.specs.declared.stop.RunStop.{RunStop}
use Rattle.vg_replay.specs.declared.stop.RunStop.TheVariants as stops
use Rattle.vg_replay.specs.Outputs.{Handled, SendsBelow, arrivals_of, capture_to, log_of, totals_of}

-- ---- names

-- the files of a replay: the captures that come in and go out, by port, and the log
pub record ReplayFiles : Type 0 where
  pub log : List ℕ
  pub ins : List (List ℕ)
  pub outs : List (List ℕ)

-- a name is none of these
abbrev pub IsNoneOf : List (List ℕ) → List ℕ → Type 0
IsNoneOf others name = All (λ other. name ≢ other) others

-- each file that is written has a name of its own, and there are as many captures out as in
pub record AreReplayFiles (n : ReplayFiles) : Type 0 where
  pub ports : length n.ins ≡ length n.outs
  pub log : IsNoneOf (n.ins ++ n.outs) n.log
  pub outs : All (IsNoneOf n.ins) n.outs
  pub apart : AllPairs ◌≢◌ n.outs

-- ---- what stands in the files

-- no file but the outputs was changed
abbrev pub KeepsOthers : Disk → Disk → ReplayFiles → Type 0
KeepsOthers s t n = (name : List ℕ) → IsNoneOf (n.log ∷ n.outs) name → t.made name ≡ s.made name

-- each output holds what it should of these frames
pub record WroteAll (s t : Disk) (n : ReplayFiles) (frames : List Handled) : Type 0 where
  pub outs : (port : ℕ) (name : List ℕ) → slice_get n.outs port ≡ Some name → t.made name ≡ Some (capture_to port frames)
  pub log : t.made n.log ≡ Some (log_of frames)

-- a file is untouched, or it was created and holds a prefix of these bytes
abbrev pub IsPart : Disk → Disk → List ℕ → List ℕ → Type 0
IsPart s t name whole =
    (t.made name ≡ s.made name) ⊎ ((part : List ℕ) × (rest : List ℕ) × (t.made name ≡ Some part) × (whole ≡ part ++ rest))

-- a file begins with these bytes
abbrev pub Holds : Disk → List ℕ → List ℕ → Type 0
Holds t name bytes = (more : List ℕ) × (t.made name ≡ Some (bytes ++ more))

-- every capture begins with what it should of these frames
abbrev pub HoldCaptures : Disk → ReplayFiles → List Handled → Type 0
HoldCaptures t n frames = (port : ℕ) (name : List ℕ) → slice_get n.outs port ≡ Some name → Holds t name (capture_to port frames)

-- Each output is untouched or a prefix of the correct one for these frames. All of them were handled whole but at most the last
-- one: the captures have those frames, and the log their lines. The line of the last one was begun only where every capture has it.
pub record WroteParts (s t : Disk) (n : ReplayFiles) (frames : List Handled) : Type 0 where
  pub outs : (port : ℕ) (name : List ℕ) → slice_get n.outs port ≡ Some name → IsPart s t name (capture_to port frames)
  pub log : IsPart s t n.log (log_of frames)
  pub handled : List Handled
  pub begun : List Handled
  pub one : length begun ≤ 1
  pub frames_are : frames ≡ handled ++ begun
  pub whole : (handled ≡ []) ⊎ (HoldCaptures t n handled × Holds t n.log (log_of handled))
  pub line : IsPart s t n.log (log_of handled) ⊎ HoldCaptures t n frames

-- ---- which frames are handled

-- the most frames of a replay
abbrev pub most_frames : ℕ
most_frames = 2 ^ 32 - 1

-- the frames are first ones of what comes in under these names, in order, none of them after a refused record, and no more than there may be
abbrev pub AreFirst : Disk → List (List ℕ) → List Arrival → Type 0
AreFirst s ins frames =
    (streams : List Stream) × (left : List Stream) × AllComeIn s ins streams × ComeFirst streams frames left
    × ((port : ℕ) (damage : Damage) → IsAtDamage left port damage → EndsAt frames port) × (length frames ≤ most_frames)

-- they are all of them
abbrev pub AreAll : Disk → List (List ℕ) → List Arrival → Type 0
AreAll s ins frames = (streams : List Stream) × AllComeIn s ins streams × AllCome streams frames × (length frames ≤ most_frames)

-- they are those up to a refused record of a port, which has this number in its file
abbrev pub AreUpTo : Disk → List (List ℕ) → List Arrival → (port number : ℕ) → Damage → Type 0
AreUpTo s ins frames port number why =
    (streams : List Stream) × AllComeIn s ins streams × ComeUpTo streams frames port why
    × (number ≡ length (stream_at streams port).frames + 1) × (length frames ≤ most_frames)

-- they are the most that there may be, and another is next
abbrev pub AreTooMany : Disk → List (List ℕ) → List Arrival → Type 0
AreTooMany s ins frames =
    (streams : List Stream) × (left : List Stream) × AllComeIn s ins streams × ComeFirst streams frames left
    × (length frames ≡ most_frames)
    × ((port : ℕ) × ((stream_at left port).frames ≢ []))
    × ((port : ℕ) (damage : Damage) → IsAtDamage left port damage → ⊥)

-- a frame came in at one of so many ports, kept its length, and was sent to none but them
pub record IsOfPorts (ports : ℕ) (h : Handled) : Type 0 where
  pub came : h.arrival.port < ports
  pub kept : length h.bytes ≡ length h.arrival.frame.bytes
  pub sent : SendsBelow ports h.verdict

-- the frames are of the replay's ports
abbrev pub HavePorts : ReplayFiles → List Handled → Type 0
HavePorts n frames = All (IsOfPorts (length n.ins)) frames

-- ---- how a replay ends, of whose handler these are the histories, what it may do with frames, in order, and this why it may stop at the frame after one

-- no fault was counted but in closing what was read
pub record NoFault (s t : Disk) : Type 0 where
  pub read_faults : t.read_faults ≡ s.read_faults
  pub write_faults : t.write_faults ≡ s.write_faults

-- all frames were handled
pub record HasReplayed (s t : Disk) (n : ReplayFiles) (IsHistory : List Handled → Type 0) (totals : Totals) : Type 0 where
  pub frames : List Handled
  pub history : IsHistory frames
  pub ports : HavePorts n frames
  pub all : IsTrue s.tells_held → AreAll s n.ins (arrivals_of frames)
  pub totals_are : totals ≡ totals_of frames
  pub wrote : IsTrue s.tells_made → WroteAll s t n frames
  pub no_fault : NoFault s t

-- the header of a capture is refused, and nothing was created
pub record StopsAtHeader (s t : Disk) (n : ReplayFiles) (port : ℕ) (field : HeaderField) : Type 0 where
  pub made : t.made ≡ s.made
  pub header : IsTrue s.tells_held → IsFirstBadHeader s n.ins port field
  pub no_fault : NoFault s t

-- a record is refused, and the outputs are those of the frames before it
pub record StopsAtRecord (s t : Disk) (n : ReplayFiles) (IsHistory : List Handled → Type 0) (port number : ℕ) (why : Damage) : Type 0 where
  pub frames : List Handled
  pub history : IsHistory frames
  pub ports : HavePorts n frames
  pub up_to : IsTrue s.tells_held → AreUpTo s n.ins (arrivals_of frames) port number why
  pub wrote : IsTrue s.tells_made → WroteAll s t n frames
  pub read_faults : t.read_faults ≡ s.read_faults

-- there are more frames than are handled, and the outputs are those of the first
pub record StopsAtMost (s t : Disk) (n : ReplayFiles) (IsHistory : List Handled → Type 0) : Type 0 where
  pub frames : List Handled
  pub history : IsHistory frames
  pub ports : HavePorts n frames
  pub too_many : IsTrue s.tells_held → AreTooMany s n.ins (arrivals_of frames)
  pub wrote : IsTrue s.tells_made → WroteAll s t n frames
  pub read_faults : t.read_faults ≡ s.read_faults

-- outputs were begun: each is untouched or a prefix of the correct one
pub record Began (s t : Disk) (n : ReplayFiles) (IsHistory : List Handled → Type 0) : Type 0 where
  pub frames : List Handled
  pub history : IsHistory frames
  pub ports : HavePorts n frames
  pub first : IsTrue s.tells_held → AreFirst s n.ins (arrivals_of frames)
  pub wrote : IsTrue s.tells_made → WroteParts s t n frames

-- the handler stopped at a frame for this reason, and the outputs are those of the frames before it
pub record StopsAtFrame {S : Type 0} (s t : Disk) (n : ReplayFiles) (IsHistory : List Handled → Type 0) (StopsAt : List Handled → Arrival → S → Type 0)
    (reason : S) : Type 0 where
  pub frames : List Handled
  pub history : IsHistory frames
  pub ports : HavePorts n frames
  pub arrival : Arrival
  pub stops : StopsAt frames arrival reason
  pub first : IsTrue s.tells_held → AreFirst s n.ins (arrivals_of frames ++ arrival ∷ [])
  pub wrote : IsTrue s.tells_made → WroteAll s t n frames
  pub read_faults : t.read_faults ≡ s.read_faults

-- why a replay stopped, and what it left; a fault in closing an output then is counted among those at writing, and changes nothing
abbrev pub StopsReplay : {S : Type 0} → Disk → Disk → ReplayFiles → (List Handled → Type 0) → (List Handled → Arrival → S → Type 0) → RunStop S → Type 0
StopsReplay s t n IsHistory StopsAt (stops.Capture port (Header field)) = StopsAtHeader s t n port field
StopsReplay s t n IsHistory StopsAt (stops.Capture port (Record number why)) = StopsAtRecord s t n IsHistory port number why
StopsReplay s t n IsHistory StopsAt stops.Read =
    Rose s.read_faults t.read_faults × (((t.made ≡ s.made) × (t.write_faults ≡ s.write_faults)) ⊎ Began s t n IsHistory)
StopsReplay s t n IsHistory StopsAt stops.Write = Rose s.write_faults t.write_faults × (t.read_faults ≡ s.read_faults) × Began s t n IsHistory
StopsReplay s t n IsHistory StopsAt stops.Frames = StopsAtMost s t n IsHistory
StopsReplay s t n IsHistory StopsAt (stops.Handler reason) = StopsAtFrame s t n IsHistory StopsAt reason
StopsReplay s t n IsHistory StopsAt stops.Memory = (t.made ≡ s.made) × NoFault s t

-- why a replay stopped whose outputs were created, and what it left
abbrev pub StopsBegun : {S : Type 0} → Disk → Disk → ReplayFiles → (List Handled → Type 0) → (List Handled → Arrival → S → Type 0) → RunStop S → Type 0
StopsBegun s t n IsHistory StopsAt (stops.Capture port (Header field)) = ⊥
StopsBegun s t n IsHistory StopsAt (stops.Capture port (Record number why)) = StopsAtRecord s t n IsHistory port number why
StopsBegun s t n IsHistory StopsAt stops.Read = Rose s.read_faults t.read_faults × Began s t n IsHistory
StopsBegun s t n IsHistory StopsAt stops.Write = Rose s.write_faults t.write_faults × (t.read_faults ≡ s.read_faults) × Began s t n IsHistory
StopsBegun s t n IsHistory StopsAt stops.Frames = StopsAtMost s t n IsHistory
StopsBegun s t n IsHistory StopsAt (stops.Handler reason) = StopsAtFrame s t n IsHistory StopsAt reason
StopsBegun s t n IsHistory StopsAt stops.Memory = ⊥

-- what comes in was replayed, or this stopped; whatever happened, no other file was changed, and no id is open that wasn't
pub record Replays {S : Type 0} (s t : Disk) (n : ReplayFiles) (IsHistory : List Handled → Type 0) (StopsAt : List Handled → Arrival → S → Type 0)
    (result : Result Totals (RunStop S)) : Type 0 where
  pub held : SameHeld s t
  pub ids : SameIds s t
  pub others : IsTrue s.tells_made → KeepsOthers s t n
  pub done : IfOk result (HasReplayed s t n IsHistory)
  pub stops : IfErr result (StopsReplay s t n IsHistory StopsAt)
