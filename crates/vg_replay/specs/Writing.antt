-- The outputs of a replay, while they are created, written and closed. No public clause rests on this file.
use Rattle.std.specs.Prelude.{ℕ, ◌<◌, ◌≤◌, ◌≡◌, ◌≢◌, ◌⊎◌, List, [], ◌∷◌, ◌++◌, length, nat_lt, if◌then◌else◌, IsTrue, Some, Result, Ok, Err, OnOk}
use Rattle.std.specs.Prelude.{OnErr, AllPairs, slice_get}
use Rattle.vg_base.specs.declared.faults.Failed.{Failed}
use Rattle.vg_base.specs.Files.{Disk, writing, Rose, Counts, WriteKeeps, WritesAll, SameHeld, SameIds}
use Rattle.vg_base.specs.Several.{DiffersBy}
use Rattle.vg_pcap.specs.Frames.{header}
use Rattle.vg_replay.specs.Outputs.{Handled, piece_to, line_of}
use Rattle.vg_replay.specs.Replays.{IsNoneOf, IsPart, NoFault}
use Rattle.vg_replay.specs.UnderWay.{AreWritable, AreNamed}

-- ---- writing a frame

-- what is written is told, and the ids write to the different files of these names
pub record AreTold (s : Disk) (ids : List ℕ) (names : List (List ℕ)) : Type 0 where
  pub told : IsTrue s.tells_made
  pub ports : length ids ≡ length names
  pub named : AreNamed s ids names
  pub apart : AllPairs ◌≢◌ names

-- a port has got its piece, where it is one of the first of this many
abbrev pub piece_below : ℕ → (ℕ → List ℕ) → ℕ → List ℕ
piece_below count pieces port = if nat_lt port count then pieces port else []

-- each of so many first ports has got its piece
abbrev pub HaveGrown : Disk → Disk → List (List ℕ) → (ℕ → List ℕ) → ℕ → Type 0
HaveGrown s t names pieces count = (port : ℕ) (name bytes : List ℕ) → slice_get names port ≡ Some name → s.made name ≡ Some bytes →
    t.made name ≡ Some (bytes ++ piece_below count pieces port)

-- each port has got first bytes of its piece
abbrev pub HaveBegun : Disk → Disk → List (List ℕ) → (ℕ → List ℕ) → Type 0
HaveBegun s t names pieces = (port : ℕ) (name bytes : List ℕ) → slice_get names port ≡ Some name → s.made name ≡ Some bytes →
    (part : List ℕ) × (rest : List ℕ) × (t.made name ≡ Some (bytes ++ part)) × (pieces port ≡ part ++ rest)

-- each of so many first ports got its piece; or a fault was counted, and the ports got first bytes of theirs
pub record Puts (s t : Disk) (ids : List ℕ) (pieces : ℕ → List ℕ) (count : ℕ) (result : Result (Unit {0}) Failed) : Type 0 where
  pub faults : Counts s.write_faults t.write_faults result
  pub keeps : WriteKeeps s t
  pub grown : (names : List (List ℕ)) → AreTold s ids names → OnOk result (HaveGrown s t names pieces count)
  pub begun : (names : List (List ℕ)) → AreTold s ids names → OnErr result (HaveBegun s t names pieces)
  pub others : (names : List (List ℕ)) → AreTold s ids names → (name : List ℕ) → IsNoneOf names name → t.made name ≡ s.made name

-- what a frame puts into the captures
abbrev pub pieces_of : Handled → ℕ → List ℕ
pieces_of h port = piece_to port h

-- the captures got a frame, and then the log its line; or a fault was counted on the way
pub record WritesFrame (s t : Disk) (ids : List ℕ) (log number : ℕ) (h : Handled) (result : Result (Unit {0}) Failed) : Type 0 where
  pub whole_or_not : ((between : Disk) × Puts s between ids (pieces_of h) (length ids) (Ok tt) × WritesAll between t log (line_of number h) result)
      ⊎ (OnOk result ⊥ × Puts s t ids (pieces_of h) (length ids) result)

-- ---- creating and closing

-- captures of the first of these names were created, under these ids, and hold a header
pub record HasCreated (s t : Disk) (names : List (List ℕ)) (ids : List ℕ) : Type 0 where
  pub few : length ids ≤ length names
  pub no_fault : NoFault s t
  pub held : SameHeld s t
  pub opens : DiffersBy s t ids
  pub writable : AreWritable t ids
  pub named : IsTrue s.tells_made → AreNamed t ids names
  pub made : IsTrue s.tells_made → AllPairs ◌≢◌ names → (port : ℕ) (name : List ℕ) → port < length ids → slice_get names port ≡ Some name →
      t.made name ≡ Some header
  pub rest : IsTrue s.tells_made → AllPairs ◌≢◌ names → (port : ℕ) (name : List ℕ) → length ids ≤ port → slice_get names port ≡ Some name →
      t.made name ≡ s.made name
  pub others : IsTrue s.tells_made → (name : List ℕ) → IsNoneOf names name → t.made name ≡ s.made name

-- captures of some first names were created, and the next couldn't be
pub record HasFailed (s t : Disk) (names : List (List ℕ)) (ids : List ℕ) : Type 0 where
  pub rose : Rose s.write_faults t.write_faults
  pub read_faults : t.read_faults ≡ s.read_faults
  pub held : SameHeld s t
  pub opens : DiffersBy s t ids
  pub writable : AreWritable t ids
  pub parts : IsTrue s.tells_made → AllPairs ◌≢◌ names → (port : ℕ) (name : List ℕ) → slice_get names port ≡ Some name → IsPart s t name header
  pub others : IsTrue s.tells_made → (name : List ℕ) → IsNoneOf names name → t.made name ≡ s.made name

-- captures were created, or one couldn't be
abbrev pub CreatesCaptures : Disk → Disk → List (List ℕ) → List ℕ → Result (Unit {0}) Failed → Type 0
CreatesCaptures s t names ids (Ok done) = HasCreated s t names ids × (length ids ≡ length names)
CreatesCaptures s t names ids (Err e) = HasFailed s t names ids

-- files that were written were closed
pub record ClosesWritten (s t : Disk) (ids : List ℕ) (result : Result (Unit {0}) Failed) : Type 0 where
  pub faults : Counts s.write_faults t.write_faults result
  pub read_faults : t.read_faults ≡ s.read_faults
  pub held : SameHeld s t
  pub made : t.made ≡ s.made
  pub closes : DiffersBy t s ids

-- the captures and the log were created
pub record HasCreatedAll (s t : Disk) (outs : List (List ℕ)) (log : List ℕ) (ids : List ℕ) (log_id : ℕ) : Type 0 where
  pub ports : length ids ≡ length outs
  pub no_fault : NoFault s t
  pub held : SameHeld s t
  pub opens : DiffersBy s t (ids ++ log_id ∷ [])
  pub writable : AreWritable t (ids ++ log_id ∷ [])
  pub named : IsTrue s.tells_made → AreNamed t ids outs
  pub log_named : IsTrue s.tells_made → t.opened log_id ≡ writing log
  pub made : IsTrue s.tells_made → AllPairs ◌≢◌ outs → IsNoneOf outs log → (port : ℕ) (name : List ℕ) → slice_get outs port ≡ Some name →
      t.made name ≡ Some header
  pub log_made : IsTrue s.tells_made → t.made log ≡ Some []
  pub others : IsTrue s.tells_made → (name : List ℕ) → IsNoneOf (log ∷ outs) name → t.made name ≡ s.made name

-- the captures and the log couldn't all be created, and none is open
pub record HasFailedAll (s t : Disk) (outs : List (List ℕ)) (log : List ℕ) : Type 0 where
  pub rose : Rose s.write_faults t.write_faults
  pub read_faults : t.read_faults ≡ s.read_faults
  pub held : SameHeld s t
  pub ids : SameIds s t
  pub parts : IsTrue s.tells_made → AllPairs ◌≢◌ outs → (port : ℕ) (name : List ℕ) → slice_get outs port ≡ Some name → IsPart s t name header
  pub log_made : IsTrue s.tells_made → IsNoneOf outs log → t.made log ≡ s.made log
  pub others : IsTrue s.tells_made → (name : List ℕ) → IsNoneOf (log ∷ outs) name → t.made name ≡ s.made name
