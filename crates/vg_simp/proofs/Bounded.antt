-- Bounds that follow from comparisons.
use Rattle.std.proofs.Common.{◌≡◌, ℕ, ◌+◌, ◌-◌, ◌≤◌, true, false, List, slice_get, Some, sym, ap, ◌∙◌, inl, inr, arith}
use Rattle.std.proofs.lemmas.Bool.{cases_lt, lt-ltb, le-ltb}
use Rattle.std.proofs.lemmas.Bool.Decides.{eqb_tells}
use Rattle.vg_bits.specs.Words as words
use Rattle.vg_term.specs.Terms.{Term, AreTerms}
use Rattle.vg_term.specs.Value.{value_of}
use Rattle.vg_term.specs.declared.node.TermId.{TermId}
use Rattle.vg_term.specs.declared.node.Op.TheVariants as ops
use Rattle.vg_term.specs.declared.node.Parts.TheVariants as kinds
use Rattle.vg_term.specs.declared.node.Node.TheVariants as nodes
use Rattle.vg_simp.specs.Ranges.{IsWithin}
use Rattle.vg_simp.specs.Knowing.{IsApart, IsOther, IsTold}
use Rattle.vg_simp.specs.declared.range.Range.{Range}
use Rattle.vg_simp.proofs.Telling.{literal, op_value}

pub lower_within : (terms : List Term) (facts : List TermId) (low high : TermId) (by : ℕ) (x y r : Range) → IsApart terms facts low by high
    → IsWithin terms facts low x → IsWithin terms facts high y → r.low ≡ x.low → r.high ≡ y.high - by → IsWithin terms facts low r
lower_within terms facts low high by x y r apart first second e f = record {
  value = λ ws assigns all.
      let a = first.value ws assigns all in
      let b = second.value ws assigns all in
      let gap = apart.each ws assigns all in
      record { least = omega (arith, e, a.least); most = omega (arith, f, gap, b.most) };
}

pub upper_within : (terms : List Term) (facts : List TermId) (low high : TermId) (by : ℕ) (x y r : Range) → IsApart terms facts low by high
    → IsWithin terms facts low x → IsWithin terms facts high y → r.low ≡ x.low + by → r.high ≡ y.high → IsWithin terms facts high r
upper_within terms facts low high by x y r apart first second e f = record {
  value = λ ws assigns all.
      let a = first.value ws assigns all in
      let b = second.value ws assigns all in
      let gap = apart.each ws assigns all in
      record { least = omega (arith, e, gap, a.least); most = omega (arith, f, b.most) };
}

pub above_within : (terms : List Term) (facts : List TermId) (a b : TermId) (x y r : Range) → IsOther terms facts a b → IsWithin terms facts a x
    → IsWithin terms facts b y → y.high ≤ y.low → x.low ≡ y.low → r.low ≡ x.low + 1 → r.high ≡ x.high → IsWithin terms facts a r
above_within terms facts a b x y r other first second point is e f = record {
  value = λ ws assigns all.
      let m = first.value ws assigns all in
      let n = second.value ws assigns all in
      record {
        least = elim (cases_lt (value_of terms ws a) (x.low + 1)) [
          | inl less ↦ absurd (other.each ws assigns all (omega (arith, less, m.least, n.least, n.most, point, is)))
          | inr more ↦ omega (arith, more, e)
        ];
        most = omega (arith, f, m.most);
      };
}

pub below_within : (terms : List Term) (facts : List TermId) (a b : TermId) (x y r : Range) → IsOther terms facts a b → IsWithin terms facts a x
    → IsWithin terms facts b y → y.high ≤ y.low → x.high ≡ y.low → r.low ≡ x.low → r.high ≡ x.high - 1 → IsWithin terms facts a r
below_within terms facts a b x y r other first second point is e f = record {
  value = λ ws assigns all.
      let m = first.value ws assigns all in
      let n = second.value ws assigns all in
      record {
        least = omega (arith, e, m.least);
        most = elim (cases_lt (value_of terms ws a) x.high) [
          | inl less ↦ omega (arith, less, f)
          | inr more ↦ absurd (other.each ws assigns all (omega (arith, more, m.most, n.least, n.most, point, is)))
        ];
      };
}

-- ---- what comparisons say

less_value : (m n : ℕ) → words.ult m n ≡ 1 → m + 1 ≤ n
less_value m n e =
    elim (cases_lt m n) [
      | inl less ↦ omega (arith, less)
      | inr more ↦ let none : 0 ≡ 1 = sym (ap words.bit (le-ltb m n more)) ∙ e in absurd (omega (arith, none))
    ]

most_value : (m n : ℕ) → words.ult m n ≡ 0 → n + 0 ≤ m
most_value m n e =
    elim (cases_lt m n) [
      | inl less ↦ let none : 1 ≡ 0 = sym (ap words.bit (lt-ltb m n less)) ∙ e in absurd (omega (arith, none))
      | inr more ↦ omega (arith, more)
    ]

other_value : (m n : ℕ) → words.eq m n ≡ 0 → m ≡ n → ⊥
other_value m n e is =
    elim (eqb_tells m n) [
      | inl same ↦ let none : 1 ≡ 0 = sym (ap words.bit same.0) ∙ e in omega (arith, none)
      | inr other ↦ other.1 is
    ]

module _ {terms : List Term} (made : AreTerms terms) (facts : List TermId) (id a b : TermId) (w : ℕ) where
  pub less_apart : slice_get terms id.0 ≡ Some (nodes.Op ops.Ult (kinds.Two a b), w) → IsTold terms facts (literal id true) → IsApart terms facts a 1 b
  less_apart here told = record {
    each = λ ws assigns all. less_value (value_of terms ws a) (value_of terms ws b)
        (sym (op_value made id ops.Ult (kinds.Two a b) w here ws) ∙ told.value ws assigns all);
  }

  pub most_apart : slice_get terms id.0 ≡ Some (nodes.Op ops.Ult (kinds.Two a b), w) → IsTold terms facts (literal id false) → IsApart terms facts b 0 a
  most_apart here told = record {
    each = λ ws assigns all. most_value (value_of terms ws a) (value_of terms ws b)
        (sym (op_value made id ops.Ult (kinds.Two a b) w here ws) ∙ told.value ws assigns all);
  }

  pub apart_other : slice_get terms id.0 ≡ Some (nodes.Op ops.Eq (kinds.Two a b), w) → IsTold terms facts (literal id false) → IsOther terms facts a b
  apart_other here told = record {
    each = λ ws assigns all. other_value (value_of terms ws a) (value_of terms ws b)
        (sym (op_value made id ops.Eq (kinds.Two a b) w here ws) ∙ told.value ws assigns all);
  }

pub other_back : (terms : List Term) (facts : List TermId) (a b : TermId) → IsOther terms facts a b → IsOther terms facts b a
other_back terms facts a b other = record { each = λ ws assigns all e. other.each ws assigns all (sym e) }
