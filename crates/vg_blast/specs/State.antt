-- Clauses for the terms up to a number. No public clause rests on this file.
use Rattle.std.specs.Prelude.{◌≡◌, ℕ, zero, suc, ◌+◌, ◌-◌, ◌<◌, ◌≤◌, ℤ, pos, Bool, true, if◌then◌else◌, List, [], ◌∷◌, ◌++◌, map, length, slice_get}
use Rattle.std.specs.Prelude.{slice_index_or, All, Contains}
use Rattle.vg_bits.specs.declared.word.Word.{Word}
use Rattle.vg_cnf.specs.Clauses.{ClauseSet, IsOver, IsModel}
use Rattle.vg_term.specs.Operations.{Bits, Fits, answer, width_of}
use Rattle.vg_term.specs.Terms.{Term, width_at}
use Rattle.vg_term.specs.Value.{value_of, Assigns}
use Rattle.vg_term.specs.declared.node.TermId.{TermId}
use Rattle.vg_term.specs.declared.node.Op.{Op}
use Rattle.vg_blast.specs.Circuits.{number, literals, Holds, MakesWord, bits_by}
use Rattle.vg_blast.specs.Cost.{entry_cost, greatest, operation_cost}
use Rattle.vg_blast.specs.Marking.{is_marked}
use Rattle.vg_blast.specs.Blasting.{BitName, IsVariable, AreNames, Agree}

-- the literals of the term with a number
abbrev pub word_at : List (List ℤ) → TermId → List ℤ
word_at words id = slice_index_or words id.0 []

-- what is seen of them
abbrev pub part_bits : List Bool → List (List ℤ) → TermId → Bits
part_bits v words id = bits_by v (word_at words id)

abbrev pub part_width : List (List ℤ) → TermId → ℕ
part_width words id = length (word_at words id)

-- the parts of an operation have literals that fit it
pub record AreReady (set : ClauseSet) (words : List (List ℤ)) (op : Op) (parts : List TermId) : Type 0 where
  pub within : All (λ part. part.0 < length words) parts
  pub over : All (λ part. All (IsOver set.variables) (word_at words part)) parts
  pub some : All (λ part. 0 < part_width words part) parts
  pub most : All (λ part. part_width words part ≤ 64) parts
  pub fits : Fits op (map (part_width words) parts)

-- the most literals that an operation on these parts adds
abbrev pub most_added : List (List ℤ) → Op → List TermId → ℕ
most_added words op parts = operation_cost op (greatest (map (part_width words) parts)) - 130

-- the literals of an operation on parts
abbrev pub MakesOperation : ClauseSet → ClauseSet → List (List ℤ) → Op → List TermId → List ℤ → Type 0
MakesOperation old new words op parts out =
    MakesWord old new (most_added words op parts) out (width_of op (map (part_width words) parts)) (λ v. answer op (map (part_bits v words) parts))

-- one more word, of an operation on parts
pub record AddsOperation (old new : ClauseSet) (lists more : List (List ℤ)) (op : Op) (parts : List TermId) : Type 0 where
  pub word : List ℤ
  pub makes : MakesOperation old new lists op parts word
  pub lists_are : more ≡ lists ++ word ∷ []

-- ---- new variables

-- the literals of w new variables after n
abbrev pub new_literals : ℕ → ℕ → List ℤ
new_literals n zero = []
new_literals n (suc w) = new_literals n w ++ pos (n + w + 1) ∷ []

-- their entries as bits of a variable
abbrev pub new_names : TermId → ℕ → ℕ → List BitName
new_names id n zero = []
new_names id n (suc w) = new_names id n w ++ (id, w, pos (n + w + 1)) ∷ []

-- ---- the terms up to a number

-- the literals spell the value of the term
pub record IsWordOf (terms : List Term) (set : ClauseSet) (names : List BitName) (id : TermId) (word : List ℤ) : Type 0 where
  pub over : All (IsOver set.variables) word
  pub width : length word ≡ width_at terms id
  pub is : (words : List Word) (v : List Bool) → Assigns words terms → Holds v set → Agree v terms words names → number v word ≡ value_of terms words id

-- how many literals the marked ones of the first n terms add at most
abbrev pub added_to : List Term → List Bool → ℕ → ℕ
added_to terms marks zero = 0
added_to terms marks (suc n) = added_to terms marks n + (if is_marked marks (record { 0 = n }) then entry_cost terms (slice_get terms n) - 130 else 0)

-- the marked ones of the first n terms have their literals
pub record IsState (terms : List Term) (marks : List Bool) (n : ℕ) (set : ClauseSet) (lists : List (List ℤ)) (names : List BitName) : Type 0 where
  pub count : length lists ≡ n
  pub each : (id : TermId) → id.0 < n → is_marked marks id ≡ true → IsWordOf terms set names id (word_at lists id)
  pub names_ok : AreNames terms set.variables names
  pub low : All (λ name. name.0.0 < n) names
  pub complete : (id : TermId) → id.0 < n → is_marked marks id ≡ true → IsVariable terms id → (at : ℕ) → at < width_at terms id → (l : ℤ)
      × Contains names (id, at, l)
  pub models : (words : List Word) → Assigns words terms → (v : List Bool) × IsModel v set × Agree v terms words names
  pub added : literals set ≤ 1 + added_to terms marks n
