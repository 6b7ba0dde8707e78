-- The ranges of terms.
use Rattle.std.proofs.Common.{◌≡◌, ℕ, ◌<◌, ◌^◌, Bool, true, false, cond, List, [], ◌∷◌, map, slice_get, Option, Some, None, refl, sym, ap, subst, ◌∙◌, arith}
use Rattle.std.specs.Prelude.{nat_eq, IfSome}
use Rattle.vg_bits.specs.declared.word.Word.{Word}
use Rattle.vg_term.specs.Operations.{Bits, answer, value_one, value_two, FitsThree}
use Rattle.vg_term.specs.Terms.{Term, AreTerms, Stands, width_at}
use Rattle.vg_term.specs.Value.{value_of, bits_at}
use Rattle.vg_term.specs.declared.node.TermId.{TermId}
use Rattle.vg_term.specs.declared.node.Op.{Op}
use Rattle.vg_term.specs.declared.node.Op.TheVariants as ops
use Rattle.vg_term.specs.declared.node.Parts.TheVariants as kinds
use Rattle.vg_term.specs.declared.node.Node.TheVariants as nodes
use Rattle.vg_term.specs.Folding.{IsWord}
use Rattle.vg_term.proofs.Made.{is_made}
use Rattle.vg_term.proofs.Ranges.{term_range}
use Rattle.vg_simp.specs.Ranges.{IsIn, IsMeet, IsMet, IsHull, IsWhole, CoversOne, CoversTwo, IsWithin}
use Rattle.vg_simp.specs.Knowing.{Bounds}
use Rattle.vg_simp.specs.declared.knowledge.Bound.{Bound}
use Rattle.vg_simp.specs.declared.range.Range.{Range}
use Rattle.vg_simp.proofs.Telling.{op_value}

pub whole_within : (terms : List Term) (facts : List TermId) (id : TermId) (w : ℕ) (r : Range) → AreTerms terms → Stands terms id
    → w ≡ width_at terms id → IsWhole w r → IsWithin terms facts id r
whole_within terms facts id w r made stands wide whole = record {
  value = λ words assigns all. whole.each (value_of terms words id) (subst (λ n. value_of terms words id < 2 ^ n) (sym wide)
      (term_range made words assigns id stands).below);
}

pub narrowed_within : (terms : List Term) (facts : List TermId) (id : TermId) (r result : Range) (b : Bound) → b.term.0 ≡ id.0
    → IsWithin terms facts id r → Bounds terms facts b → IsMeet r b.range result → IsWithin terms facts id result
narrowed_within terms facts id r result b is within bounds meet =
    let same : b.term ≡ id = ap (λ (n : ℕ). record { 0 = n }) is in
    record {
      value = λ words assigns all. meet.each (value_of terms words id) (within.value words assigns all)
          (subst (λ (x : TermId). IsIn b.range (value_of terms words x)) same (bounds.within.value words assigns all));
    }

pub if_some : {X : Type 0} (o : Option X) (P Q : X → Type 0) → ((x : X) → P x → Q x) → IfSome o P → IfSome o Q
if_some None P Q f h = tt
if_some (Some x) P Q f h = f x h

module _ {terms : List Term} (made : AreTerms terms) (facts : List TermId) (id : TermId) (op : Op) (w : ℕ) (noted result : Range)
    (within : IsWithin terms facts id noted) where
  pub one_within : (a : TermId) (x : Range) (width : ℕ) (other : Option Range) → slice_get terms id.0 ≡ Some (nodes.Op op (kinds.One a), w)
      → IsWithin terms facts a x → width ≡ width_at terms a → IfSome other (λ r. CoversOne op width x r) → IsMet noted other result →
      IsWithin terms facts id result
  one_within a x width other here inside wide covers met = record {
    value = λ words assigns all.
        met.each (value_of terms words id) (within.value words assigns all)
        (if_some other (λ r. CoversOne op width x r) (λ r. IsIn r (value_of terms words id))
        (λ r c.
        subst (IsIn r) (ap (λ n. value_one op (record { width = n; value = value_of terms words a })) wide
        ∙ sym (op_value made id op (kinds.One a) w here words))
        (c.each (value_of terms words a) (inside.value words assigns all))) covers);
  }

  pub two_within : (a b : TermId) (x y : Range) (width : ℕ) (other : Option Range) → slice_get terms id.0 ≡ Some (nodes.Op op (kinds.Two a b), w)
      → IsWithin terms facts a x → IsWithin terms facts b y → width ≡ width_at terms a → width_at terms b ≡ width →
      IfSome other (λ r. CoversTwo op width x y r) → IsMet noted other result → IsWithin terms facts id result
  two_within a b x y width other here first second wide alike covers met = record {
    value = λ words assigns all.
        met.each (value_of terms words id) (within.value words assigns all)
        (if_some other (λ r. CoversTwo op width x y r) (λ r. IsIn r (value_of terms words id))
        (λ r c.
        subst (IsIn r)
        ((λ j. value_two op (record { width = wide j; value = value_of terms words a }) (record {
          width = sym alike j;
          value =
              value_of terms words b;
        })) ∙ sym (op_value made id op (kinds.Two a b) w here words))
        (c.each (value_of terms words a) (value_of terms words b) (first.value words assigns all) (second.value words assigns all))) covers);
  }

choice_in : (c : Bool) (m n : ℕ) (r : Range) → IsIn r m → IsIn r n → IsIn r (cond c m n)
choice_in true m n r first second = first
choice_in false m n r first second = second

three_is : (op : Op) (c a b : ℕ) → FitsThree op c a b → op ≡ ops.Ite
three_is ops.Ite c a b fits = refl
three_is _ c a b fits = absurd fits

pub choice_within : {terms : List Term} → AreTerms terms → (facts : List TermId) (id c a b : TermId) (op : Op) (w : ℕ) (noted x y hull result : Range)
    → slice_get terms id.0 ≡ Some (nodes.Op op (kinds.Three c a b), w) → IsWithin terms facts id noted → IsWithin terms facts a x
    → IsWithin terms facts b y →
    IsHull x y hull → IsMeet noted hull result → IsWithin terms facts id result
choice_within {terms} made facts id c a b op w noted x y hull result here within first second covers meet =
    let is : op ≡ ops.Ite = three_is op (width_at terms c) (width_at terms a) (width_at terms b) (is_made made id.0 op (kinds.Three c a b) w here).fits in
    record {
      value = λ words assigns all.
          meet.each (value_of terms words id) (within.value words assigns all)
          (subst (IsIn hull) (ap (λ (o : Op). answer o (map (bits_at terms words) (c ∷ a ∷ b ∷ []))) (sym is)
          ∙ sym (op_value made id op (kinds.Three c a b) w here words))
          (choice_in (nat_eq (value_of terms words c) 1) (value_of terms words a) (value_of terms words b) hull
          (covers.first (value_of terms words a) (first.value words assigns all)) (covers.second (value_of terms words b)
          (second.value words assigns all))));
    }

pub constant_within : (terms : List Term) (facts : List TermId) (id : TermId) (word : Word) (r : Range) → IsWord terms id word → r.low ≡ word.value
    → r.high ≡ word.value → IsWithin terms facts id r
constant_within terms facts id word r is low high = record {
  value = λ words assigns all.
      let e : value_of terms words id ≡ word.value = ap (λ (b : Bits). b.value) (is words) in
      record { least = omega (arith, e, low); most = omega (arith, e, high) };
}
