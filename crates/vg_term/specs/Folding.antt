-- What the constructors that fold promise: another term may stand for the operation, and its value is the operation's under every assignment.
use Rattle.std.specs.Prelude.{◌≡◌, List, ◌++◌, map, length, Some, Result, IfOk, OnErr}
use Rattle.vg_bits.specs.declared.word.Word.{Word}
use Rattle.vg_term.specs.Operations.{answer, width_of, bits_of}
use Rattle.vg_term.specs.Terms.{Term, AreTerms, Stands, width_at, constant_at, variable_count}
use Rattle.vg_term.specs.Value.{value_of, bits_at, Assigns}
use Rattle.vg_term.specs.declared.known.Known.{Known}
use Rattle.vg_term.specs.declared.known.Known.TheVariants.{Standing, Constant}
use Rattle.vg_term.specs.declared.node.TermId.{TermId}
use Rattle.vg_term.specs.declared.node.Op.{Op}
use Rattle.vg_term.specs.declared.terms.Mark.{Mark}
use Rattle.vg_term.specs.declared.stops.TermStop.{TermStop}

-- the old terms stay, and others may come after them
abbrev pub Grows : List Term → List Term → Type 0
Grows old new = (more : List Term) × (new ≡ old ++ more)

-- the term stands for the operation on these parts: its width, and its value whatever the variables are
pub record StandsFor (terms : List Term) (id : TermId) (op : Op) (parts : List TermId) : Type 0 where
  pub stands : Stands terms id
  pub width : width_at terms id ≡ width_of op (map (width_at terms) parts)
  pub value : (words : List Word) → Assigns words terms → value_of terms words id ≡ answer op (map (bits_at terms words) parts)

-- a constructor that folds took old to new
pub record Folds (old new : List Term) (op : Op) (parts : List TermId) (result : Result TermId TermStop) : Type 0 where
  pub grows : Grows old new
  pub means : IfOk result (λ id. StandsFor new id op parts)
  pub kept : OnErr result (new ≡ old)

-- the term has this word under every assignment
abbrev pub IsWord : List Term → TermId → Word → Type 0
IsWord terms id w = (words : List Word) → bits_at terms words id ≡ bits_of w

-- the operation on these parts answers this word under every assignment
pub record IsAnswer (terms : List Term) (op : Op) (parts : List TermId) (w : Word) : Type 0 where
  pub width : w.width ≡ width_of op (map (width_at terms) parts)
  pub value : (words : List Word) → Assigns words terms → w.value ≡ answer op (map (bits_at terms words) parts)

-- the term is the constant of what the operation answers
pub record IsFolded (old new : List Term) (op : Op) (parts : List TermId) (id : TermId) : Type 0 where
  pub word : Word
  pub constant : constant_at new id ≡ Some word
  pub answer : IsAnswer old op parts word

-- a simpler form stands for the operation on these parts
abbrev pub IsKnown : List Term → Op → List TermId → Known → Type 0
IsKnown terms op parts (Standing id) = StandsFor terms id op parts
IsKnown terms op parts (Constant w) = IsAnswer terms op parts w

-- terms were added, and one that stands for the operation is answered
pub record Builds (old new : List Term) (op : Op) (parts : List TermId) (result : Result TermId TermStop) : Type 0 where
  pub made : AreTerms new
  pub grows : Grows old new
  pub means : IfOk result (λ id. StandsFor new id op parts)

-- how many terms stand, and how many of them are variables
abbrev pub IsMark : List Term → Mark → Type 0
IsMark terms mark = (mark.terms ≡ length terms) × (mark.variables ≡ variable_count terms)
