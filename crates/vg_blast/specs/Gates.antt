-- Gates, and a table of those that stand. No public clause rests on this file.
use Rattle.std.specs.Prelude.{◌≡◌, ℕ, ◌<◌, ℤ, pos, unsigned_abs, Bool, true, ◌&&◌, List}
use Rattle.vg_cnf.specs.Clauses.{ClauseSet, IsOver}
use Rattle.vg_blast.specs.Circuits.{truth, Holds, differ}
use Rattle.vg_blast.specs.declared.gate.Gate.{Gate}
use Rattle.vg_blast.specs.declared.gate.Gate.TheVariants as gates

-- what a gate answers
abbrev pub gate_value : List Bool → Gate → Bool
gate_value v (gates.And a b) = truth v a && truth v b
gate_value v (gates.Xor a b) = differ (truth v a) (truth v b)

-- the literal is the gate's output under each model
pub record IsOutput (set : ClauseSet) (gate : Gate) (out : ℤ) : Type 0 where
  pub over : IsOver set.variables out
  pub is : (v : List Bool) → Holds v set → truth v out ≡ gate_value v gate

-- an entry of the table
abbrev pub IsEntry : ClauseSet → Gate × ℤ → Type 0
IsEntry set e = IsOutput set e.0 e.1

-- the inputs of a gate are literals of the clauses
abbrev pub AreInputs : ClauseSet → Gate → Type 0
AreInputs set (gates.And a b) = IsOver set.variables a × IsOver set.variables b
AreInputs set (gates.Xor a b) = IsOver set.variables a × IsOver set.variables b

-- a gate that is a function of two literals, and has no other inputs
pub record IsGateFor (gate : Gate) (a b : ℤ) (f : Bool → Bool → Bool) : Type 0 where
  pub inputs : (set : ClauseSet) → IsOver set.variables a → IsOver set.variables b → AreInputs set gate
  pub is : (v : List Bool) → gate_value v gate ≡ f (truth v a) (truth v b)

-- a literal that stands for a function of two others, where the first variable is true
pub record Folds (a b out : ℤ) (f : Bool → Bool → Bool) : Type 0 where
  pub over : (n : ℕ) → 0 < n → IsOver n a → IsOver n b → IsOver n out
  pub is : (v : List Bool) → truth v (pos 1) ≡ true → truth v out ≡ f (truth v a) (truth v b)

-- where one literal tells whether just one of two variables is true, the other tells it of two literals
pub record HasSigns (a b out signed : ℤ) : Type 0 where
  pub over : (n : ℕ) → IsOver n out → IsOver n signed
  pub is : (v : List Bool) → truth v out ≡ differ (truth v (pos (unsigned_abs a))) (truth v (pos (unsigned_abs b)))
      → truth v signed ≡ differ (truth v a) (truth v b)
