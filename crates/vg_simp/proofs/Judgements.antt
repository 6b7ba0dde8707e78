-- What ranges say of terms.
use Rattle.std.proofs.Common.{◌≡◌, ℕ, ◌/◌, ◌%◌, ◌<◌, ◌≤◌, ◌^◌, Bool, true, false, List, [], slice_get, Some, Result, Ok, Err, All, refl, sym, ap}
use Rattle.std.proofs.Common.{subst, ◌∙◌, inl, inr, arith}
use Rattle.std.proofs.Math.Nat.{mod-eq_of_lt, div-one}
use Rattle.std.proofs.lemmas.Bool.{lt-ltb, le-ltb}
use Rattle.std.proofs.lemmas.Bool.Decides.{eqb_tells}
use Rattle.std.proofs.lemmas.Nat.{pow_pos}
use Rattle.vg_bits.specs.Words as words
use Rattle.vg_bits.specs.declared.word.Word.{Word}
use Rattle.vg_term.specs.Terms.{Term, AreTerms, Stands, width_at, width_in}
use Rattle.vg_term.specs.Value.{value_of}
use Rattle.vg_term.specs.Folding.{Folds}
use Rattle.vg_term.specs.declared.node.TermId.{TermId}
use Rattle.vg_term.specs.declared.node.Op.TheVariants as ops
use Rattle.vg_term.specs.declared.node.Parts.TheVariants as kinds
use Rattle.vg_term.specs.declared.node.Node.TheVariants as nodes
use Rattle.vg_term.specs.declared.stops.TermStop.{TermStop}
use Rattle.vg_term.proofs.Made.{is_made}
use Rattle.vg_term.proofs.Ranges.{term_range}
use Rattle.vg_term.proofs.Wires.{width_later, value_later, assigns_later}
use Rattle.vg_simp.specs.Sameness.{IsSame}
use Rattle.vg_simp.specs.Ranges.{IsWithin, Decides, IsFixed}
use Rattle.vg_simp.specs.Knowing.{IsTold}
use Rattle.vg_simp.specs.Passing.{Simplifies}
use Rattle.vg_simp.specs.declared.range.Range.{Range}
use Rattle.vg_simp.proofs.Sames.{true_before}
use Rattle.vg_simp.proofs.Knowing.{told_later}
use Rattle.vg_simp.proofs.Telling.{literal, op_value, lone_stands, told_constant}

-- ---- numbers

pub less_true : (x y : Range) → x.high < y.low → Decides words.ult x y true
less_true x y h = record { each = λ m n a b. ap words.bit (lt-ltb m n (omega (arith, h, a.most, b.least))) }

pub less_false : (x y : Range) → y.high ≤ x.low → Decides words.ult x y false
less_false x y h = record { each = λ m n a b. ap words.bit (le-ltb m n (omega (arith, h, a.least, b.most))) }

apart : (m n : ℕ) → (m ≡ n → ⊥) → words.eq m n ≡ 0
apart m n h = elim (eqb_tells m n) [ inl same ↦ absurd (h same.1) | inr other ↦ ap words.bit other.0 ]

pub equal_below : (x y : Range) → x.high < y.low → Decides words.eq x y false
equal_below x y h = record { each = λ m n a b. apart m n (λ e. omega (arith, e, h, a.most, b.least)) }

pub equal_above : (x y : Range) → y.high < x.low → Decides words.eq x y false
equal_above x y h = record { each = λ m n a b. apart m n (λ e. omega (arith, e, h, a.least, b.most)) }

-- ---- terms

module _ {terms : List Term} (made : AreTerms terms) (facts : List TermId) (id a b : TermId) (w : ℕ) (x y : Range) (holds : Bool)
    (first : IsWithin terms facts a x) (second : IsWithin terms facts b y) (stands : Stands terms id) where
  pub less_told : slice_get terms id.0 ≡ Some (nodes.Op ops.Ult (kinds.Two a b), w) → Decides words.ult x y holds → IsTold terms facts (literal id holds)
  less_told here decides = record {
    stands = stands;
    width = ap width_in here ∙ (is_made made id.0 ops.Ult (kinds.Two a b) w here).width;
    value = λ ws assigns all. op_value made id ops.Ult (kinds.Two a b) w here ws ∙ decides.each (value_of terms ws a) (value_of terms ws b)
        (first.value ws assigns all) (second.value ws assigns all);
  }

  pub equal_told : slice_get terms id.0 ≡ Some (nodes.Op ops.Eq (kinds.Two a b), w) → Decides words.eq x y holds → IsTold terms facts (literal id holds)
  equal_told here decides = record {
    stands = stands;
    width = ap width_in here ∙ (is_made made id.0 ops.Eq (kinds.Two a b) w here).width;
    value = λ ws assigns all. op_value made id ops.Eq (kinds.Two a b) w here ws ∙ decides.each (value_of terms ws a) (value_of terms ws b)
        (first.value ws assigns all) (second.value ws assigns all);
  }

pub point_fixed : (terms : List Term) (facts : List TermId) (id : TermId) (r : Range) → r.low ≡ r.high → IsWithin terms facts id r
    → IsFixed terms facts id r.low
point_fixed terms facts id r e within = record { each = λ ws assigns all. let is = within.value ws assigns all in omega (arith, e, is.least, is.most) }

-- ---- constants are built

pub told_built : (terms new : List Term) (facts : List TermId) (id : TermId) (holds : Bool) (word : Word) (result : Result TermId TermStop)
    → AreTerms terms → AreTerms new → All (Stands terms) facts → IsTold terms facts (literal id holds) → word.width ≡ 1
    → word.value ≡ words.bit holds →
    Folds terms new (ops.Const word) [] result → Simplifies terms new facts id result
told_built terms new facts id holds word (Ok other) made after stand told wide is folds = record {
  grown = record { made = after; grows = folds.grows };
  same = told_constant new facts id other holds word (told_later terms new facts made folds.grows stand (literal id holds) told) wide is folds.means;
}
told_built terms new facts id holds word (Err stop) made after stand told wide is folds = record {
  grown =
      record { made = after; grows = folds.grows };
  same = tt;
}

pub fixed_built : (terms new : List Term) (facts : List TermId) (id : TermId) (value width : ℕ) (word : Word) (result : Result TermId TermStop)
    → AreTerms terms → AreTerms new → All (Stands terms) facts → Stands terms id → IsFixed terms facts id value → width ≡ width_at terms id →
    word.width ≡ width → word.value ≡ value % 2 ^ width → Folds terms new (ops.Const word) [] result → Simplifies terms new facts id result
fixed_built terms new facts id value width word (Ok other) made after stand stands fixed is_width wide is folds = record {
  grown = record { made = after; grows = folds.grows };
  same = record {
    stands = folds.means.stands;
    width = folds.means.width ∙ wide ∙ is_width ∙ sym (width_later terms new folds.grows id stands);
    value = λ ws assigns all.
        let before = assigns_later terms new folds.grows ws assigns in
        let e : value_of terms ws id ≡ value = fixed.each ws before (true_before terms new made folds.grows ws facts stand all) in
        let below : value < 2 ^ width =
        subst (λ n. value < 2 ^ n) (sym is_width) (subst (λ n. n < 2 ^ width_at terms id) e (term_range made ws before id stands).below) in
        folds.means.value ws assigns ∙ is ∙ mod-eq_of_lt below ∙ sym e ∙ sym (value_later terms new made folds.grows ws id stands);
  };
}
fixed_built terms new facts id value width word (Err stop) made after stand stands fixed is_width wide is folds =
    record { grown = record { made = after; grows = folds.grows }; same = tt }

-- ---- the whole for its extended lower part

low_part : (v k : ℕ) → v ≤ words.all_ones k → words.extract 0 k v ≡ v
low_part v k h =
    let one : v / 2 ^ 0 ≡ v = div-one v in
    ap (λ n. n % 2 ^ k) one ∙ mod-eq_of_lt (omega (arith, h, pow_pos k))

pub uncut_same : {terms : List Term} → AreTerms terms → (facts : List TermId) (id part whole : TermId) (wide from kept w v mask : ℕ) (r : Range)
    → slice_get terms id.0 ≡ Some (nodes.Op (ops.Zext wide) (kinds.One part), w) →
    slice_get terms part.0 ≡ Some (nodes.Op (ops.Extract from kept) (kinds.One whole), v) → from ≡ 0 → width_at terms whole ≡ width_at terms id
    → IsWithin terms facts whole r → r.high ≤ mask → mask ≡ words.all_ones (width_at terms part) → IsSame terms facts id whole
uncut_same {terms} made facts id part whole wide from kept w v mask r here below zero same within high ones =
    let part_width : width_at terms part ≡ kept = ap width_in below ∙ (is_made made part.0 (ops.Extract from kept) (kinds.One whole) v below).width in
    record {
      stands = lone_stands made part (ops.Extract from kept) (kinds.One whole) v below whole refl;
      width = same;
      value = λ ws assigns all.
          let is = within.value ws assigns all in
          let most : value_of terms ws whole ≤ words.all_ones kept = subst (λ n. value_of terms ws whole ≤ words.all_ones n) part_width
          (omega (arith, is.most, high, ones)) in
          sym (op_value made id (ops.Zext wide) (kinds.One part) w here ws ∙ op_value made part (ops.Extract from kept) (kinds.One whole) v below ws
          ∙ ap (λ n. words.extract n kept (value_of terms ws whole)) zero ∙ low_part (value_of terms ws whole) kept most);
    }
