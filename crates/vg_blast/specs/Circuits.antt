-- Circuits as clauses over new variables: what may come before and after a circuit is built, and what its output says. No public clause rests on this file.
use Rattle.std.specs.Prelude.{◌≡◌, ℕ, ◌+◌, ◌*◌, ◌<◌, ◌≤◌, ℤ, pos, Bool, true, not, if◌then◌else◌, List, [], ◌∷◌, ◌++◌, length, sum_by, All}
use Rattle.vg_bits.specs.Words.{bit}
use Rattle.vg_term.specs.Operations.{Bits}
use Rattle.vg_cnf.specs.Clauses.{ClauseSet, IsClauseOver, IsOver, IsModel, makes_literal_true, makes_true, makes_all_true}

-- whether the values make a literal true
abbrev pub truth : List Bool → ℤ → Bool
truth v l = makes_literal_true v l

-- the values make each clause true
abbrev pub Holds : List Bool → ClauseSet → Type 0
Holds v set = makes_all_true v set.clauses ≡ true

-- whether just one is true
abbrev pub differ : Bool → Bool → Bool
differ a b = if a then not b else b

-- the second where the first is true, and else the third
abbrev pub choose : Bool → Bool → Bool → Bool
choose c a b = if c then a else b

-- what at least two of three are
abbrev pub most : Bool → Bool → Bool → Bool
most a b c = if differ a b then c else a

-- the number that literals spell, the least significant first
abbrev pub number : List Bool → List ℤ → ℕ
number v [] = 0
number v (l ∷ ls) = bit (truth v l) + 2 * number v ls

-- how many literals the clauses have, counted as they stand
abbrev pub literals : ClauseSet → ℕ
literals set = sum_by length set.clauses

-- clauses over variables, of which the first is true
pub record IsNet (set : ClauseSet) : Type 0 where
  pub some : 0 < set.variables
  pub over : All (IsClauseOver set.variables) set.clauses
  pub constant : (v : List Bool) → Holds v set → truth v (pos 1) ≡ true

-- clauses and variables may have been added
pub record Grows (old new : ClauseSet) : Type 0 where
  pub net : IsNet new
  pub variables : old.variables ≤ new.variables
  pub weaker : (v : List Bool) → Holds v new → Holds v old

-- one more clause is required
pub record Adds (old new : ClauseSet) (clause : List ℤ) : Type 0 where
  pub variables : new.variables ≡ old.variables
  pub holds : (v : List Bool) → Holds v new → Holds v old × (makes_true v clause ≡ true)
  pub held : (v : List Bool) → Holds v old → makes_true v clause ≡ true → Holds v new
  pub literals : literals new ≤ literals old + length clause

-- clauses on new variables are added: what was true stays so, each model of the old gives one of the new, and so many literals more stand at most
pub record Builds (old new : ClauseSet) (cost : ℕ) : Type 0 where
  pub variables : old.variables ≤ new.variables
  pub weaker : (v : List Bool) → Holds v new → Holds v old
  pub extends : (v : List Bool) → IsModel v old → (more : List Bool) × IsModel (v ++ more) new
  pub literals : literals new ≤ literals old + cost

-- a literal is built that has this truth under each model
pub record MakesBit (old new : ClauseSet) (cost : ℕ) (out : ℤ) (says : List Bool → Bool) : Type 0 where
  pub builds : Builds old new cost
  pub over : IsOver new.variables out
  pub is : (v : List Bool) → Holds v new → truth v out ≡ says v

-- literals are built that spell this number under each model
pub record MakesWord (old new : ClauseSet) (cost : ℕ) (out : List ℤ) (w : ℕ) (says : List Bool → ℕ) : Type 0 where
  pub builds : Builds old new cost
  pub over : All (IsOver new.variables) out
  pub width : length out ≡ w
  pub is : (v : List Bool) → Holds v new → number v out ≡ says v

-- the literals of a word that is known, where the first variable is true
pub record IsConstant (out : List ℤ) (w value : ℕ) : Type 0 where
  pub width : length out ≡ w
  pub over : (n : ℕ) → 0 < n → All (IsOver n) out
  pub is : (v : List Bool) → truth v (pos 1) ≡ true → number v out ≡ value

-- the literal with this truth, where the first variable is true
pub record IsKnown (out : ℤ) (holds : Bool) : Type 0 where
  pub over : (n : ℕ) → 0 < n → IsOver n out
  pub is : (v : List Bool) → truth v (pos 1) ≡ true → truth v out ≡ holds

-- what is seen of a word: how many literals, and the number that they spell
abbrev pub bits_by : List Bool → List ℤ → Bits
bits_by v a = record { width = length a; value = number v a }
