-- What clauses say of facts: their models are the assignments that make every fact true, seen through the bits of the variables.
use Rattle.std.specs.Prelude.{◌≡◌, ℕ, ◌<◌, ℤ, Bool, List, slice_get, Some, All, true, Contains}
use Rattle.std.specs.List.{AllPairs}
use Rattle.std.specs.Int.{bit_at}
use Rattle.vg_bits.specs.Words.{bit}
use Rattle.vg_bits.specs.declared.word.Word.{Word}
use Rattle.vg_cnf.specs.Clauses.{ClauseSet, IsOver, IsModel, makes_literal_true}
use Rattle.vg_term.specs.Terms.{Term, width_at}
use Rattle.vg_term.specs.Value.{value_of, Assigns}
use Rattle.vg_term.specs.declared.node.TermId.{TermId}
use Rattle.vg_term.specs.declared.node.Node.TheVariants as nodes
use Rattle.vg_blast.specs.Cost.{is_reached}

-- a bit of a variable with its literal: the variable's term, the bit's number from the lowest on, and the literal that says that it is 1
abbrev pub BitName : Type 0
BitName = TermId × ℕ × ℤ

-- two entries speak of one bit
abbrev pub IsSameBit : BitName → BitName → Type 0
IsSameBit a b = (a.0 ≡ b.0) × (a.1 ≡ b.1)

-- the term is a variable
abbrev pub IsVariable : List Term → TermId → Type 0
IsVariable terms id = (number : ℕ) × (slice_get terms id.0 ≡ Some (nodes.Var number (width_at terms id), width_at terms id))

-- an entry names a bit that a variable has, by a literal over the variables up to n
pub record IsNamed (terms : List Term) (n : ℕ) (name : BitName) : Type 0 where
  pub variable : IsVariable terms name.0
  pub within : name.1 < width_at terms name.0
  pub over : IsOver n name.2

-- the literal has the truth of the bit
abbrev pub Agrees : List Bool → List Term → List Word → BitName → Type 0
Agrees values terms words name = bit (makes_literal_true values name.2) ≡ bit_at (value_of terms words name.0) name.1

-- the truth values and the words agree on each named bit
abbrev pub Agree : List Bool → List Term → List Word → List BitName → Type 0
Agree values terms words names = All (Agrees values terms words) names

-- each fact has the value 1
abbrev pub AreTrue : List Term → List Word → List TermId → Type 0
AreTrue terms words facts = All (λ fact. value_of terms words fact ≡ 1) facts

-- names of bits of variables, none twice
pub record AreNames (terms : List Term) (n : ℕ) (names : List BitName) : Type 0 where
  pub named : All (IsNamed terms n) names
  pub once : AllPairs (λ a b. ¬ IsSameBit a b) names

-- the clauses with these names stand for the facts
pub record IsBlasted (terms : List Term) (facts : List TermId) (set : ClauseSet) (names : List BitName) : Type 0 where
  -- the entries name bits of variables, each once
  pub names_ok : AreNames terms set.variables names
  -- each bit of each variable under the facts has its entry
  pub complete : (id : TermId) → is_reached terms facts id ≡ true → IsVariable terms id → (at : ℕ) → at < width_at terms id → (l : ℤ)
      × Contains names (id, at, l)
  -- an assignment that makes every fact true gives a model that agrees with it: where the clauses have none, nothing makes the facts true
  pub sound : (words : List Word) → Assigns words terms → AreTrue terms words facts → (values : List Bool) × IsModel values set × Agree values terms words names
  -- and an assignment that agrees with a model makes every fact true
  pub exact : (values : List Bool) (words : List Word) → IsModel values set → Assigns words terms → Agree values terms words names → AreTrue terms words facts

-- where the values are a model, the words make all facts true for which the clauses stand
abbrev pub MakesTrue : List Term → ClauseSet → List BitName → List Bool → List Word → Type 0
MakesTrue terms set names values words = (facts : List TermId) → IsBlasted terms facts set names → IsModel values set → AreTrue terms words facts
