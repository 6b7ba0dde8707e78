-- What a truth says of the parts of its term.
use Rattle.std.proofs.Common.{◌≡◌, ℕ, ◌<◌, ◌≤◌, ◌^◌, Bool, true, false, List, [], ◌∷◌, map, slice_get, Some, All, refl, sym, ap, subst, ◌∙◌, inl, inr, arith}
use Rattle.std.specs.Prelude.{bit_and, bit_or}
use Rattle.std.proofs.lemmas.Bool.Decides.{eqb_tells}
use Rattle.std.proofs.lemmas.Nat.{and_le_l, and_le_r, le_or_l, le_or_r}
use Rattle.std.proofs.lemmas.List.Elements.{All-head, All-tail}
use Rattle.std.proofs.lemmas.Option.{slice_get_within}
use Rattle.vg_bits.specs.Words as formulas
use Rattle.vg_bits.specs.declared.word.Word.{Word}
use Rattle.vg_term.specs.Operations.{answer}
use Rattle.vg_term.specs.Terms.{Term, AreTerms, Stands, width_at, width_in, listed}
use Rattle.vg_term.specs.Value.{value_of, bits_at, entry_value, Assigns}
use Rattle.vg_term.specs.Folding.{StandsFor}
use Rattle.vg_term.specs.declared.node.TermId.{TermId}
use Rattle.vg_term.specs.declared.node.Op.{Op}
use Rattle.vg_term.specs.declared.node.Op.TheVariants as ops
use Rattle.vg_term.specs.declared.node.Parts.{Parts}
use Rattle.vg_term.specs.declared.node.Parts.TheVariants as kinds
use Rattle.vg_term.specs.declared.node.Node.TheVariants as nodes
use Rattle.vg_term.proofs.Made.{is_made}
use Rattle.vg_term.proofs.Values.{value_follows}
use Rattle.vg_term.proofs.Ranges.{term_range}
use Rattle.vg_simp.specs.Sameness.{AreTrue, IsSame}
use Rattle.vg_simp.specs.Knowing.{IsTold}
use Rattle.vg_simp.specs.declared.knowledge.Literal.{Literal}

abbrev pub literal : TermId → Bool → Literal
literal id holds = record { term = id; holds = holds }

one_below : (n : ℕ) → n < 2 ^ 1 → n ≤ 1
one_below n h = let two : 2 ^ 1 ≡ 2 = refl in omega (arith, h, two)

-- the value of an operation that stands
pub op_value : {terms : List Term} → AreTerms terms → (id : TermId) (op : Op) (parts : Parts) (w : ℕ)
    → slice_get terms id.0 ≡ Some (nodes.Op op parts, w) → (words : List Word) → value_of terms words id ≡ answer op
    (map (bits_at terms words) (listed parts))
op_value {terms} made id op parts w here words = value_follows made words id ∙ ap (entry_value words (bits_at terms words)) here

pub part_stands : {terms : List Term} → AreTerms terms → (id : TermId) (op : Op) (parts : Parts) (w : ℕ)
    → slice_get terms id.0 ≡ Some (nodes.Op op parts, w) → All (Stands terms) (listed parts)
part_stands {terms} made id op parts w here k d below =
    let within = slice_get_within terms id.0 (nodes.Op op parts, w) here in
    let before = (is_made made id.0 op parts w here).before k d below in
    omega (arith, within, before)

module _ {terms : List Term} (made : AreTerms terms) (facts : List TermId) (id a b : TermId) (w : ℕ) where
  first_stands : (op : Op) → slice_get terms id.0 ≡ Some (nodes.Op op (kinds.Two a b), w) → Stands terms a
  first_stands op here = All-head (Stands terms) a (b ∷ []) (part_stands made id op (kinds.Two a b) w here)

  second_stands : (op : Op) → slice_get terms id.0 ≡ Some (nodes.Op op (kinds.Two a b), w) → Stands terms b
  second_stands op here = All-head (Stands terms) b [] (All-tail (Stands terms) a (b ∷ []) (part_stands made id op (kinds.Two a b) w here))

  -- of a conjunction that is true
  module _ (here : slice_get terms id.0 ≡ Some (nodes.Op ops.And (kinds.Two a b), w)) (told : IsTold terms facts (literal id true)) where
    and_width : width_at terms a ≡ 1
    and_width = sym (is_made made id.0 ops.And (kinds.Two a b) w here).width ∙ sym (ap width_in here) ∙ told.width

    and_other : width_at terms b ≡ 1
    and_other = sym (is_made made id.0 ops.And (kinds.Two a b) w here).fits ∙ and_width

    and_value : (words : List Word) → Assigns words terms → AreTrue terms words facts → bit_and (value_of terms words a) (value_of terms words b) ≡ 1
    and_value words assigns all = sym (op_value made id ops.And (kinds.Two a b) w here words) ∙ told.value words assigns all

    pub and_first : IsTold terms facts (literal a true)
    and_first = record {
      stands = first_stands ops.And here;
      width = and_width;
      value = λ words assigns all.
          let below = one_below (value_of terms words a) (subst (λ n. value_of terms words a < 2 ^ n) and_width
          (term_range made words assigns a (first_stands ops.And here)).below) in
          omega (arith, below, and_value words assigns all, and_le_l (value_of terms words a) (value_of terms words b));
    }

    pub and_second : IsTold terms facts (literal b true)
    and_second = record {
      stands = second_stands ops.And here;
      width = and_other;
      value = λ words assigns all.
          let below = one_below (value_of terms words b) (subst (λ n. value_of terms words b < 2 ^ n) and_other
          (term_range made words assigns b (second_stands ops.And here)).below) in
          omega (arith, below, and_value words assigns all, and_le_r (value_of terms words a) (value_of terms words b));
    }

  -- of a disjunction that is false
  module _ (here : slice_get terms id.0 ≡ Some (nodes.Op ops.Or (kinds.Two a b), w)) (told : IsTold terms facts (literal id false)) where
    or_width : width_at terms a ≡ 1
    or_width = sym (is_made made id.0 ops.Or (kinds.Two a b) w here).width ∙ sym (ap width_in here) ∙ told.width

    or_value : (words : List Word) → Assigns words terms → AreTrue terms words facts → bit_or (value_of terms words a) (value_of terms words b) ≡ 0
    or_value words assigns all = sym (op_value made id ops.Or (kinds.Two a b) w here words) ∙ told.value words assigns all

    pub or_first : IsTold terms facts (literal a false)
    or_first = record {
      stands = first_stands ops.Or here;
      width = or_width;
      value = λ words assigns all. omega (arith, or_value words assigns all, le_or_l (value_of terms words a) (value_of terms words b));
    }

    pub or_second : IsTold terms facts (literal b false)
    or_second = record {
      stands = second_stands ops.Or here;
      width = sym (is_made made id.0 ops.Or (kinds.Two a b) w here).fits ∙ or_width;
      value = λ words assigns all. omega (arith, or_value words assigns all, le_or_r (value_of terms words a) (value_of terms words b));
    }

  -- of an equality that is true
  module _ (here : slice_get terms id.0 ≡ Some (nodes.Op ops.Eq (kinds.Two a b), w)) (told : IsTold terms facts (literal id true)) where
    equal_value : (x y : ℕ) → formulas.eq x y ≡ 1 → x ≡ y
    equal_value x y e =
        elim (eqb_tells x y) [
          | inl same ↦ same.1
          | inr other ↦ let none : 0 ≡ 1 = sym (ap formulas.bit other.0) ∙ e in absurd (omega (arith, none))
        ]

    values_equal : (words : List Word) → Assigns words terms → AreTrue terms words facts → value_of terms words a ≡ value_of terms words b
    values_equal words assigns all = equal_value (value_of terms words a) (value_of terms words b)
        (sym (op_value made id ops.Eq (kinds.Two a b) w here words) ∙ told.value words assigns all)

    pub equal_first : Stands terms a
    equal_first = first_stands ops.Eq here

    pub equal_second : Stands terms b
    equal_second = second_stands ops.Eq here

    pub equal_same : IsSame terms facts a b
    equal_same = record {
      stands = equal_second;
      width = sym (is_made made id.0 ops.Eq (kinds.Two a b) w here).fits;
      value = λ words assigns all. sym (values_equal words assigns all);
    }

-- of a bit turned
not_bit : (v : ℕ) (holds other : Bool) → v ≤ 1 → formulas.not 1 v ≡ formulas.bit holds → (holds ≡ true → other ≡ false)
    → (holds ≡ false → other ≡ true) → v ≡ formulas.bit other
not_bit v true other below e t f = let ones : formulas.all_ones 1 ≡ 1 = refl in let zero : v ≡ 0 = omega (arith, below, e, ones) in zero
    ∙ sym (ap formulas.bit (t refl))
not_bit v false other below e t f = let ones : formulas.all_ones 1 ≡ 1 = refl in let one : v ≡ 1 = omega (arith, below, e, ones) in one
    ∙ sym (ap formulas.bit (f refl))

pub not_told : {terms : List Term} → AreTerms terms → (facts : List TermId) (id a : TermId) (w : ℕ) (holds other : Bool)
    → slice_get terms id.0 ≡ Some (nodes.Op ops.Not (kinds.One a), w) → IsTold terms facts (literal id holds) → (holds ≡ true → other ≡ false)
    → (holds ≡ false → other ≡ true) →
    IsTold terms facts (literal a other)
not_told {terms} made facts id a w holds other here told t f =
    let stands : Stands terms a = All-head (Stands terms) a [] (part_stands made id ops.Not (kinds.One a) w here) in
    let wide : width_at terms a ≡ 1 = sym (is_made made id.0 ops.Not (kinds.One a) w here).width ∙ sym (ap width_in here) ∙ told.width in
    record {
      stands = stands;
      width = wide;
      value = λ words assigns all.
          let below = one_below (value_of terms words a) (subst (λ n. value_of terms words a < 2 ^ n) wide (term_range made words assigns a stands).below) in
          not_bit (value_of terms words a) holds other below
          (ap (λ n. formulas.not n (value_of terms words a)) (sym wide) ∙ sym (op_value made id ops.Not (kinds.One a) w here words)
          ∙ told.value words assigns all) t f;
    }

-- ---- a truth as a constant

pub told_constant : (terms : List Term) (facts : List TermId) (id other : TermId) (holds : Bool) (word : Word) → IsTold terms facts (literal id holds)
    → word.width ≡ 1 → word.value ≡ formulas.bit holds → StandsFor terms other (ops.Const word) [] → IsSame terms facts id other
told_constant terms facts id other holds word told wide is for = record {
  stands = for.stands;
  width = for.width ∙ wide ∙ sym told.width;
  value = λ words assigns all. for.value words assigns ∙ is ∙ sym (told.value words assigns all);
}

-- ---- as the code reads them

pub here_is : (terms : List Term) (id : TermId) (op other : Op) (parts shape : Parts) (w : ℕ) → slice_get terms id.0 ≡ Some (nodes.Op op parts, w)
    → op ≡ other → parts ≡ shape → slice_get terms id.0 ≡ Some (nodes.Op other shape, w)
here_is terms id op other parts shape w here e f = here ∙ (λ j. Some (nodes.Op (e j) (f j), w))

pub told_so : (terms : List Term) (facts : List TermId) (l : Literal) (holds : Bool) → l.holds ≡ holds → IsTold terms facts l
    → IsTold terms facts (literal l.term holds)
told_so terms facts l holds is told = subst (λ (h : Bool). IsTold terms facts (literal l.term h)) is told

-- ---- the parts stand

module _ {terms : List Term} (made : AreTerms terms) (id : TermId) (op : Op) (parts : Parts) (w : ℕ)
    (here : slice_get terms id.0 ≡ Some (nodes.Op op parts, w)) where
  listed_stand : (shape : Parts) → parts ≡ shape → All (Stands terms) (listed shape)
  listed_stand shape is = subst (λ (p : Parts). All (Stands terms) (listed p)) is (part_stands made id op parts w here)

  pub lone_stands : (a : TermId) → parts ≡ kinds.One a → Stands terms a
  lone_stands a is = All-head (Stands terms) a [] (listed_stand (kinds.One a) is)

  pub left_stands : (a b : TermId) → parts ≡ kinds.Two a b → Stands terms a
  left_stands a b is = All-head (Stands terms) a (b ∷ []) (listed_stand (kinds.Two a b) is)

  pub right_stands : (a b : TermId) → parts ≡ kinds.Two a b → Stands terms b
  right_stands a b is = All-head (Stands terms) b [] (All-tail (Stands terms) a (b ∷ []) (listed_stand (kinds.Two a b) is))

  pub then_stands : (c a b : TermId) → parts ≡ kinds.Three c a b → Stands terms a
  then_stands c a b is = All-head (Stands terms) a (b ∷ []) (All-tail (Stands terms) c (a ∷ b ∷ []) (listed_stand (kinds.Three c a b) is))

  pub else_stands : (c a b : TermId) → parts ≡ kinds.Three c a b → Stands terms b
  else_stands c a b is = All-head (Stands terms) b []
      (All-tail (Stands terms) a (b ∷ []) (All-tail (Stands terms) c (a ∷ b ∷ []) (listed_stand (kinds.Three c a b) is)))
