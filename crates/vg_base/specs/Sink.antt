-- What is seen of a sink, and what writing does to it.
use Rattle.std.specs.Prelude.{ℕ, ◌<◌, ◌≤◌, ◌≡◌, List, [], ◌++◌, length, take, Bool, IsTrue, Result, IfOk, OnOk, OnErr}
use Rattle.vg_base.specs.declared.faults.Failed.{Failed}
use Rattle.vg_base.specs.Files.{Counts}

-- what is seen of a sink: how often it failed, whether it tells what was written, and that
pub record Flow : Type 0 where
  pub faults : ℕ
  pub tells_made : Bool
  pub made : List ℕ

-- nothing is seen that was written, and nothing has failed
pub record IsFresh (s : Flow) : Type 0 where
  pub faults : s.faults ≡ 0
  pub made : s.made ≡ []

-- first bytes of a piece were written, or a fault was counted
pub record FlowsSome (s t : Flow) (piece : List ℕ) (result : Result ℕ Failed) : Type 0 where
  pub faults : Counts s.faults t.faults result
  pub tells_made : t.tells_made ≡ s.tells_made
  pub within : IfOk result (λ n. n ≤ length piece)
  pub some : IfOk result (λ n. 0 < length piece → 0 < n)
  pub grows : IfOk result (λ n. IsTrue s.tells_made → t.made ≡ s.made ++ take n piece)
  pub err : OnErr result (t.made ≡ s.made)

-- the whole of a piece was written, or a fault was counted and a prefix was written
pub record FlowsAll (s t : Flow) (piece : List ℕ) (result : Result (Unit {0}) Failed) : Type 0 where
  pub faults : Counts s.faults t.faults result
  pub tells_made : t.tells_made ≡ s.tells_made
  pub whole : OnOk result (IsTrue s.tells_made → t.made ≡ s.made ++ piece)
  pub prefix : OnErr result (IsTrue s.tells_made → (n : ℕ) × (n ≤ length piece) × (t.made ≡ s.made ++ take n piece))
