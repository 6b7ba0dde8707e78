-- What a small function does with a frame from a port (C11 6.8.4.1 for `if`, 6.8.6.4 for `return`), and what that costs:
-- what counts as a step is this program's own rule.
use Rattle.std.specs.Prelude.{ℕ, ◌+◌, ◌<◌, List, [], ◌∷◌, ◌==◌, if◌then◌else◌, Bool, true, false, All}
use Rattle.vg_small.specs.declared.small.Small.{Small}
use Rattle.vg_small.specs.declared.small.Test.{Test}
use Rattle.vg_core.specs.declared.verdict.Verdict.{Verdict}
use Rattle.vg_core.specs.declared.verdict.Verdict.TheVariants as verdicts

-- the value at a port: that of the first test that names the port, or the last value
abbrev pub value_at : List Test → ℕ → ℕ → ℕ
value_at [] last port = last
value_at (t ∷ ts) last port = if port == t.port then t.value else value_at ts last port

-- a small function sends each frame to the port that is its value
abbrev pub verdict_at : List Test → ℕ → ℕ → Verdict
verdict_at ts last port = verdicts.Send (value_at ts last port)

-- each value is the number of one of so many ports
pub record SendsBelow (ports : ℕ) (f : Small) : Type 0 where
  pub tests : All (λ (t : Test). t.value < ports) f.tests
  pub last : f.last < ports

-- the steps of a run: an `if` executed and its condition tested for each test up to the one that holds, then the
-- `return` executed
abbrev pub steps_at : List Test → ℕ → ℕ
steps_at [] port = 1
steps_at (t ∷ ts) port = if port == t.port then 2 + 1 else 2 + steps_at ts port

-- the sides that a run takes: false at each test that does not hold, and true at the one that does, the last one reached
abbrev pub sides_at : List Test → ℕ → List Bool
sides_at [] port = []
sides_at (t ∷ ts) port = if port == t.port then true ∷ [] else false ∷ sides_at ts port
