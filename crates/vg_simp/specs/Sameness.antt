-- What facts say of terms. A fact is true where its value is 1, and two terms are the same under facts where no assignment that makes the facts true
-- tells them apart.
use Rattle.std.specs.Prelude.{◌≡◌, List, All}
use Rattle.vg_bits.specs.declared.word.Word.{Word}
use Rattle.vg_term.specs.Terms.{Term, Stands, width_at}
use Rattle.vg_term.specs.Value.{value_of, Assigns}
use Rattle.vg_term.specs.declared.node.TermId.{TermId}

-- each fact has the value 1
abbrev pub AreTrue : List Term → List Word → List TermId → Type 0
AreTrue terms words facts = All (λ fact. value_of terms words fact ≡ 1) facts

-- the other term stands, is as wide, and has the same value wherever the facts are true
pub record IsSame (terms : List Term) (facts : List TermId) (id other : TermId) : Type 0 where
  pub stands : Stands terms other
  pub width : width_at terms other ≡ width_at terms id
  pub value : (words : List Word) → Assigns words terms → AreTrue terms words facts → value_of terms words other ≡ value_of terms words id
