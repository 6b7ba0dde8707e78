-- The facts as clauses. No public clause rests on this file.
use Rattle.std.specs.Prelude.{◌≡◌, ℕ, zero, suc, ◌+◌, ◌<◌, ◌≤◌, ℤ, pos, neg_ℤ, Bool, true, false, ◌&&◌, if◌then◌else◌, List, [], ◌∷◌, map, length}
use Rattle.std.specs.Prelude.{slice_index_or, All}
use Rattle.vg_bits.specs.declared.word.Word.{Word}
use Rattle.vg_cnf.specs.Clauses.{ClauseSet, IsOver}
use Rattle.vg_term.specs.Terms.{Term}
use Rattle.vg_term.specs.Value.{value_of, Assigns}
use Rattle.vg_term.specs.declared.node.TermId.{TermId}
use Rattle.vg_blast.specs.Circuits.{Adds, literals, Holds}
use Rattle.vg_blast.specs.Blasting.{BitName, Agree}
use Rattle.vg_blast.specs.Marking.{followed, is_marked}
use Rattle.vg_blast.specs.State.{word_at}
use Rattle.vg_blast.specs.Disjuncts.{SplitsInto, AreDisjuncts}
use Rattle.vg_blast.specs.declared.marking.Follow.TheVariants.{Conjuncts}
use Rattle.vg_blast.specs.declared.disjuncts.Part.{Part}

abbrev pub none_of : List TermId → Bool
none_of [] = true
none_of (id ∷ ids) = false

-- whether a term is no conjunction
abbrev pub is_leaf : List Term → TermId → Bool
is_leaf terms id = none_of (followed Conjuncts terms id)

-- the lowest literal of a term
abbrev pub first_of : List (List ℤ) → TermId → ℤ
first_of lists id = slice_index_or (word_at lists id) 0 (pos 1)

-- the literal of a part of a disjunction
abbrev pub literal_of : List (List ℤ) → Part → ℤ
literal_of lists part = if part.negated then neg_ℤ (first_of lists part.term) else first_of lists part.term

-- the term has a literal over the variables
pub record HasLiteral (set : ClauseSet) (lists : List (List ℤ)) (id : TermId) : Type 0 where
  pub within : id.0 < length lists
  pub some : 0 < length (word_at lists id)
  pub over : All (IsOver set.variables) (word_at lists id)

-- all parts of a term have a literal, however it is taken apart
abbrev pub HaveLiterals : List Term → ClauseSet → List (List ℤ) → TermId → Type 0
HaveLiterals terms set lists id = (parts : List Part) → SplitsInto terms id parts → All (λ part. HasLiteral set lists part.term) parts

-- the clause of the literals of the term's parts is added
pub record AddsDisjuncts (terms : List Term) (old new : ClauseSet) (lists : List (List ℤ)) (id : TermId) : Type 0 where
  pub parts : List Part
  pub are : AreDisjuncts terms id parts
  pub adds : Adds old new (map (literal_of lists) parts)

-- it is added where it is asked for, and else nothing is
pub record AddsIf (asked : Bool) (terms : List Term) (old new : ClauseSet) (lists : List (List ℤ)) (id : TermId) : Type 0 where
  pub added : asked ≡ true → AddsDisjuncts terms old new lists id
  pub kept : asked ≡ false → new ≡ old

-- how many literals the clauses for the first n terms may have
abbrev pub required_to : List Bool → ℕ → ℕ
required_to asserted zero = 0
required_to asserted (suc n) = required_to asserted n + (if is_marked asserted (record { 0 = n }) then 128 else 0)

-- the asserted ones of the first n terms that are no conjunctions are required
pub record Requires (terms : List Term) (names : List BitName) (asserted : List Bool) (n : ℕ) (old new : ClauseSet) : Type 0 where
  pub variables : new.variables ≡ old.variables
  pub weaker : (v : List Bool) → Holds v new → Holds v old
  pub sound : (words : List Word) (v : List Bool) → Assigns words terms → Agree v terms words names → Holds v new → (id : TermId) → id.0 < n
      → is_marked asserted id && is_leaf terms id ≡ true → value_of terms words id ≡ 1
  pub held : (words : List Word) (v : List Bool) → Assigns words terms → Agree v terms words names → Holds v old →
      ((id : TermId) → id.0 < n → is_marked asserted id && is_leaf terms id ≡ true → value_of terms words id ≡ 1) → Holds v new
  pub literals : literals new ≤ literals old + required_to asserted n
