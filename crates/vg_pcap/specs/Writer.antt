-- What is seen of a writer of a capture, and what its calls do. A writer is seen as the id of its file.
use Rattle.std.specs.Prelude.{ℕ, ◌≡◌, ◌≢◌, ◌⊎◌, ◌≤◌, List, take, length, IsTrue, Some, Result, IfOk, OnErr}
use Rattle.vg_base.specs.declared.faults.Failed.{Failed}
use Rattle.vg_base.specs.Files.{Disk, Writes, writing, Counts, SameHeld, SameIds, OpensOne}
use Rattle.vg_pcap.specs.Frames.{header}

-- a file is untouched, or it was created and holds a prefix of these bytes
abbrev pub IsBegun : Disk → Disk → List ℕ → List ℕ → Type 0
IsBegun s t name whole = (t.made name ≡ s.made name) ⊎ ((n : ℕ) × (n ≤ length whole) × (t.made name ≡ Some (take n whole)))

-- a capture was created, and its header written, or a fault was counted
pub record StartsWriting (s t : Disk) (name : List ℕ) (result : Result ℕ Failed) : Type 0 where
  pub faults : Counts s.write_faults t.write_faults result
  pub read_faults : t.read_faults ≡ s.read_faults
  pub shut_faults : t.shut_faults ≡ s.shut_faults
  pub held : SameHeld s t
  pub opens : IfOk result (OpensOne s t Writes)
  pub named : IfOk result (λ id. IsTrue s.tells_made → t.opened id ≡ writing name)
  pub made : IfOk result (λ id. IsTrue s.tells_made → t.made name ≡ Some header)
  pub others : IsTrue s.tells_made → (other : List ℕ) → other ≢ name → t.made other ≡ s.made other
  -- a refusal leaves nothing open, and no more than first bytes of the header
  pub closed : OnErr result (SameIds s t)
  pub begun : OnErr result (IsTrue s.tells_made → IsBegun s t name header)
