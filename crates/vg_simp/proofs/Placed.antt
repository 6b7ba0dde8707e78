-- Terms as others moved up or down.
use Rattle.std.proofs.Common.{◌≡◌, ℕ, ◌+◌, ◌-◌, ◌<◌, ◌≤◌, ◌^◌, List, slice_get, Some, true, false, refl, sym, ap, subst, ◌∙◌, inl, inr, arith}
use Rattle.std.proofs.lemmas.Bool.{lt-ltb, le-ltb}
use Rattle.std.proofs.lemmas.Bool.Decides.{eqb_tells}
use Rattle.vg_bits.specs.Words as words
use Rattle.vg_term.specs.Terms.{Term, AreTerms, Stands, width_at, width_in}
use Rattle.vg_term.specs.Value.{value_of}
use Rattle.vg_term.specs.declared.node.TermId.{TermId}
use Rattle.vg_term.specs.declared.node.Op.TheVariants as ops
use Rattle.vg_term.specs.declared.node.Parts.TheVariants as kinds
use Rattle.vg_term.specs.declared.node.Node.TheVariants as nodes
use Rattle.vg_term.proofs.Made.{is_made}
use Rattle.vg_term.proofs.Ranges.{term_range}
use Rattle.vg_simp.specs.Ranges.{IsWithin}
use Rattle.vg_simp.specs.Knowing.{IsApart, IsGap, IsTold}
use Rattle.vg_simp.specs.Sums.{IsSum}
use Rattle.vg_simp.specs.Places.{IsPlace, IsSpan}
use Rattle.vg_simp.specs.declared.knowledge.Gap.{Gap}
use Rattle.vg_simp.specs.declared.placing.Place.{Place}
use Rattle.vg_simp.specs.declared.range.Range.{Range}
use Rattle.vg_simp.specs.declared.summing.Sum.{Sum}
use Rattle.vg_simp.proofs.Ranges.{add_plain, wrapped_once}
use Rattle.vg_simp.proofs.Telling.{literal, op_value, lone_stands}

pub place_itself : (terms : List Term) (facts : List TermId) (id : TermId) (place : Place) → Stands terms id → place.base ≡ id → place.plus ≡ 0
    → place.minus ≡ 0 → IsPlace terms facts id place
place_itself terms facts id place stands base plus minus = record {
  stands = subst (Stands terms) (sym base) stands;
  each = λ ws assigns all. (λ j. value_of terms ws (sym base j) + (minus ∙ sym plus) j);
}

pub moved_on : (terms : List Term) (facts : List TermId) (id : TermId) (place below next : Place) → IsPlace terms facts id place
    → IsPlace terms facts place.base below → next.base ≡ below.base → next.plus ≡ place.plus + below.plus → next.minus ≡ place.minus + below.minus
    → IsPlace terms facts id next
moved_on terms facts id place below next is under base plus minus = record {
  stands = subst (Stands terms) (sym base) under.stands;
  each = λ ws assigns all.
      let same : value_of terms ws next.base ≡ value_of terms ws below.base = ap (value_of terms ws) base in
      omega (arith, same, plus, minus, is.each ws assigns all, under.each ws assigns all);
}

pub apart_gap : (terms : List Term) (facts : List TermId) (low high : TermId) (by : ℕ) (x y : Place) (gap : Gap) → IsApart terms facts low by high
    → IsPlace terms facts low x → IsPlace terms facts high y →
    gap.low ≡ x.base → gap.high ≡ y.base → gap.up ≡ x.plus + by + y.minus + 0 → gap.down ≡ y.plus + x.minus + 0 + 0 → IsGap terms facts gap
apart_gap terms facts low high by x y gap apart first second l h up down = record {
  low = subst (Stands terms) (sym l) first.stands;
  high = subst (Stands terms) (sym h) second.stands;
  each = λ ws assigns all.
      let a : value_of terms ws gap.low ≡ value_of terms ws x.base = ap (value_of terms ws) l in
      let b : value_of terms ws gap.high ≡ value_of terms ws y.base = ap (value_of terms ws) h in
      omega (arith, a, b, up, down, apart.each ws assigns all, first.each ws assigns all, second.each ws assigns all);
}

module _ {terms : List Term} (made : AreTerms terms) (facts : List TermId) (id : TermId) where
  module _ (s : Sum) (is : IsSum terms id s) (range : Range) (within : IsWithin terms facts s.base range) (room mask : ℕ)
      (ones : mask ≡ words.all_ones s.word.width) (is_room : room ≡ mask - s.word.value) (place : Place) (base : place.base ≡ s.base) where
    pub plain_place : range.high ≤ room → place.plus ≡ s.word.value → place.minus ≡ 0 → IsPlace terms facts id place
    plain_place high plus minus = record {
      stands = subst (Stands terms) (sym base) is.stands;
      each = λ ws assigns all.
          let inside = within.value ws assigns all in
          let same : value_of terms ws place.base ≡ value_of terms ws s.base = ap (value_of terms ws) base in
          let small : value_of terms ws s.base + s.word.value < 2 ^ s.word.width = omega (arith, inside.most, high, is_room, ones, s.word.in_range) in
          let sum : value_of terms ws id ≡ value_of terms ws s.base + s.word.value = is.value ws assigns
          ∙ add_plain s.word.width (value_of terms ws s.base) s.word.value small in
          omega (arith, same, sum, plus, minus);
    }

    pub wrapped_place : room < range.low → place.plus ≡ 0 → place.minus ≡ room + 1 → IsPlace terms facts id place
    wrapped_place low plus minus = record {
      stands = subst (Stands terms) (sym base) is.stands;
      each = λ ws assigns all.
          let inside = within.value ws assigns all in
          let same : value_of terms ws place.base ≡ value_of terms ws s.base = ap (value_of terms ws) base in
          let wide : width_at terms s.base ≡ s.word.width = is.width ∙ sym is.word_width in
          let below : value_of terms ws s.base < 2 ^ s.word.width = subst (λ n. value_of terms ws s.base < 2 ^ n) wide
          (term_range made ws assigns s.base is.stands).below in
          let sum : value_of terms ws id ≡ value_of terms ws s.base + s.word.value - 2 ^ s.word.width =
          is.value ws assigns ∙ wrapped_once (2 ^ s.word.width) (value_of terms ws s.base + s.word.value)
          (omega (arith, inside.least, low, is_room, ones, s.word.in_range)) (omega (arith, below, s.word.in_range)) in
          omega (arith, same, sum, plus, minus, inside.least, low, is_room, ones, s.word.in_range, below);
    }

  pub extended_place : (part : TermId) (wide w : ℕ) (place : Place) → slice_get terms id.0 ≡ Some (nodes.Op (ops.Zext wide) (kinds.One part), w)
      → place.base ≡ part → place.plus ≡ 0 → place.minus ≡ 0 → IsPlace terms facts id place
  extended_place part wide w place here base plus minus = record {
    stands = subst (Stands terms) (sym base) (lone_stands made id (ops.Zext wide) (kinds.One part) w here part refl);
    each = λ ws assigns all.
        let same : value_of terms ws place.base ≡ value_of terms ws part = ap (value_of terms ws) base in
        let is : value_of terms ws id ≡ value_of terms ws part = op_value made id (ops.Zext wide) (kinds.One part) w here ws in
        omega (arith, same, is, plus, minus);
  }

pub same_id : (a b : TermId) → a.0 ≡ b.0 → a ≡ b
same_id a b e = ap (λ (n : ℕ). record { 0 = n }) e

pub no_gap : (terms : List Term) (facts : List TermId) (id : TermId) → Stands terms id → IsGap terms facts (record { low = id; up = 0; high = id; down = 0 })
no_gap terms facts id stands = record { low = stands; high = stands; each = λ ws assigns all. omega arith }

pub span_apart : (terms : List Term) (facts : List TermId) (low high : TermId) (by : ℕ) (x y : Place) (gap : Gap) → IsGap terms facts gap
    → IsSpan gap x by y → IsPlace terms facts low x → IsPlace terms facts high y → IsApart terms facts low by high
span_apart terms facts low high by x y gap is span first second = record {
  each = λ ws assigns all.
      let a : value_of terms ws gap.low ≡ value_of terms ws x.base = ap (value_of terms ws) span.from in
      let b : value_of terms ws gap.high ≡ value_of terms ws y.base = ap (value_of terms ws) span.to in
      omega (arith, a, b, span.enough, is.each ws assigns all, first.each ws assigns all, second.each ws assigns all);
}

-- ---- comparisons

apart_eq : (m n : ℕ) → (m ≡ n → ⊥) → words.eq m n ≡ 0
apart_eq m n h = elim (eqb_tells m n) [ inl same ↦ absurd (h same.1) | inr other ↦ ap words.bit other.0 ]

module _ {terms : List Term} (made : AreTerms terms) (facts : List TermId) (id a b : TermId) (w : ℕ) (stands : Stands terms id) where
  pub spaced_less : slice_get terms id.0 ≡ Some (nodes.Op ops.Ult (kinds.Two a b), w) → IsApart terms facts a 1 b → IsTold terms facts (literal id true)
  spaced_less here apart = record {
    stands = stands;
    width = ap width_in here ∙ (is_made made id.0 ops.Ult (kinds.Two a b) w here).width;
    value = λ ws assigns all. op_value made id ops.Ult (kinds.Two a b) w here ws ∙ ap words.bit
        (lt-ltb (value_of terms ws a) (value_of terms ws b) (omega (arith, apart.each ws assigns all)));
  }

  pub spaced_more : slice_get terms id.0 ≡ Some (nodes.Op ops.Ult (kinds.Two a b), w) → IsApart terms facts b 0 a → IsTold terms facts (literal id false)
  spaced_more here apart = record {
    stands = stands;
    width = ap width_in here ∙ (is_made made id.0 ops.Ult (kinds.Two a b) w here).width;
    value = λ ws assigns all. op_value made id ops.Ult (kinds.Two a b) w here ws ∙ ap words.bit
        (le-ltb (value_of terms ws a) (value_of terms ws b) (omega (arith, apart.each ws assigns all)));
  }

  pub spaced_below : slice_get terms id.0 ≡ Some (nodes.Op ops.Eq (kinds.Two a b), w) → IsApart terms facts a 1 b → IsTold terms facts (literal id false)
  spaced_below here apart = record {
    stands = stands;
    width = ap width_in here ∙ (is_made made id.0 ops.Eq (kinds.Two a b) w here).width;
    value = λ ws assigns all. op_value made id ops.Eq (kinds.Two a b) w here ws ∙ apart_eq (value_of terms ws a) (value_of terms ws b)
        (λ e. omega (arith, e, apart.each ws assigns all));
  }

  pub spaced_above : slice_get terms id.0 ≡ Some (nodes.Op ops.Eq (kinds.Two a b), w) → IsApart terms facts b 1 a → IsTold terms facts (literal id false)
  spaced_above here apart = record {
    stands = stands;
    width = ap width_in here ∙ (is_made made id.0 ops.Eq (kinds.Two a b) w here).width;
    value = λ ws assigns all. op_value made id ops.Eq (kinds.Two a b) w here ws ∙ apart_eq (value_of terms ws a) (value_of terms ws b)
        (λ e. omega (arith, e, apart.each ws assigns all));
  }
