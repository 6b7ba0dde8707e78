-- Each term has a width from 1 to 64, and a value in the range of its width.
use Rattle.std.proofs.Common.{◌≡◌, ℕ, suc, zero, ◌+◌, ◌^◌, ◌<◌, ◌≤◌, Bool, true, false, List, [], ◌∷◌, map, length, get_or, slice_get, Some, All}
use Rattle.std.proofs.Common.{refl, sym, ap, subst, ◌∙◌, arith}
use Rattle.std.specs.Prelude.{nat_eq, nat_lt, int_lt, if◌then◌else◌}
use Rattle.std.proofs.lemmas.List.Elements.{All-head, All-tail, All-map, All-weaker}
use Rattle.std.proofs.lemmas.Nat.{pow_pos, and_le_l, or_lt, xor_lt}
use Rattle.std.proofs.lemmas.Option.{slice_get-get_or, slice_get_within}
use Rattle.vg_bits.specs.Words as words
use Rattle.vg_bits.specs.declared.word.Word.{Word}
use Rattle.vg_bits.proofs.Laws as laws
use Rattle.vg_bits.proofs.Masks.{wider_below}
use Rattle.vg_term.specs.Operations.{Bits, bits_of, widths, answer, width_of, Fits, FitsNone, FitsOne, FitsTwo, FitsThree, value_none, value_one}
use Rattle.vg_term.specs.Operations.{value_two, value_three, width_none, width_one, width_two}
use Rattle.vg_term.specs.Terms.{Term, Stands, AreTerms, width_at, width_in, listed}
use Rattle.vg_term.specs.Value.{value_of, bits_at, entry_value, assigned, Assigns}
use Rattle.vg_term.specs.declared.node.TermId.{TermId}
use Rattle.vg_term.specs.declared.node.Op.{Op}
use Rattle.vg_term.specs.declared.node.Op.TheVariants.{Const, Not, Extract, Zext, Sext, Add, Sub, Mul, Udiv, Urem, And, Or, Xor, Shl, Lshr, Ashr, Eq}
use Rattle.vg_term.specs.declared.node.Op.TheVariants.{Ult, Slt, Concat, Ite}
use Rattle.vg_term.specs.declared.node.Node.TheVariants as nodes
use Rattle.vg_term.proofs.Made.{is_made, comes_next}
use Rattle.vg_term.proofs.Values.{value_follows, widths_bits}

-- a word's width and value
pub record IsRange (b : Bits) : Type 0 where
  pub some : 0 < b.width
  pub most : b.width ≤ 64
  pub below : b.value < 2 ^ b.width

of_word : (w : Word) → IsRange (bits_of w)
of_word w = record { some = w.not_empty; most = w.at_most_64; below = w.in_range }

range : (width value : ℕ) → 0 < width → width ≤ 64 → value < 2 ^ width → IsRange (record { width = width; value = value })
range width value some most below = record { some = some; most = most; below = below }

on_none : (op : Op) → FitsNone op → IsRange (record { width = width_none op; value = value_none op })
on_none (Const w) fits = of_word w
on_none _ fits = absurd fits

on_one : (op : Op) (a : Bits) → FitsOne op a.width → IsRange a → IsRange (record { width = width_one op a.width; value = value_one op a })
on_one Not a fits r = range a.width _ r.some r.most (laws.not-below a.width a.value)
on_one (Extract from width) a fits r = range width _ fits.0 (omega (arith, fits.1, r.most)) (laws.extract-below from width a.value)
on_one (Zext width) a fits r = range width _ (omega (arith, fits.0, r.some)) fits.1 (wider_below a.width width a.value r.below fits.0)
on_one (Sext width) a fits r = range width _ (omega (arith, fits.0, r.some)) fits.1 (laws.sext-below a.width width a.value)
on_one _ a fits r = absurd fits

flag : (holds : Bool) → IsRange (record { width = 1; value = words.bit holds })
flag holds = range 1 (words.bit holds) (omega arith) (omega arith) (laws.bit-below holds)

on_two : (op : Op) (a b : Bits) → FitsTwo op a.width b.width → IsRange a → IsRange b → IsRange
    (record { width = width_two op a.width b.width; value = value_two op a b })
on_two Add a b fits r s = range a.width _ r.some r.most (laws.add-below a.width a.value b.value)
on_two Sub a b fits r s = range a.width _ r.some r.most (laws.sub-below a.width a.value b.value)
on_two Mul a b fits r s = range a.width _ r.some r.most (laws.mul-below a.width a.value b.value)
on_two Udiv a b fits r s = range a.width _ r.some r.most (laws.udiv-below a.width a.value b.value r.below)
on_two Urem a b fits r s = range a.width _ r.some r.most (laws.urem-below a.width a.value b.value r.below)
on_two And a b fits r s = range a.width _ r.some r.most (omega (arith, and_le_l a.value b.value, r.below))
on_two Or a b fits r s = range a.width _ r.some r.most (or_lt a.width a.value b.value r.below (subst (λ n. b.value < 2 ^ n) (sym fits) s.below))
on_two Xor a b fits r s = range a.width _ r.some r.most (xor_lt a.width a.value b.value r.below (subst (λ n. b.value < 2 ^ n) (sym fits) s.below))
on_two Shl a b fits r s = range a.width _ r.some r.most (laws.shl-below a.width a.value b.value)
on_two Lshr a b fits r s = range a.width _ r.some r.most (laws.lshr-below a.width a.value b.value r.below)
on_two Ashr a b fits r s = range a.width _ r.some r.most (laws.ashr-below a.width a.value b.value)
on_two Eq a b fits r s = flag (nat_eq a.value b.value)
on_two Ult a b fits r s = flag (nat_lt a.value b.value)
on_two Slt a b fits r s = flag (int_lt (words.signed a.width a.value) (words.signed a.width b.value))
on_two Concat a b fits r s = range (a.width + b.width) _ (omega (arith, r.some)) fits (laws.concat-below a.width b.width a.value b.value r.below s.below)
on_two _ a b fits r s = absurd fits

chosen : (c : Bool) (a b : Bits) → a.width ≡ b.width → IsRange a → IsRange b → IsRange (record { width = a.width; value = if c then a.value else b.value })
chosen true a b same r s = r
chosen false a b same r s = range a.width b.value r.some r.most (subst (λ n. b.value < 2 ^ n) (sym same) s.below)

on_three : (op : Op) (c a b : Bits) → FitsThree op c.width a.width b.width → IsRange a → IsRange b
    → IsRange (record { width = a.width; value = value_three op c a b })
on_three Ite c a b fits r s = chosen (nat_eq c.value 1) a b fits.1 r s
on_three _ c a b fits r s = absurd fits

pub answer_range : (op : Op) (parts : List Bits) → Fits op (widths parts) → All IsRange parts
    → IsRange (record { width = width_of op (widths parts); value = answer op parts })
answer_range op [] fits all = on_none op fits
answer_range op (a ∷ []) fits all = on_one op a fits (All-head IsRange a [] all)
answer_range op (a ∷ b ∷ []) fits all = on_two op a b fits (All-head IsRange a (b ∷ []) all) (All-head IsRange b [] (All-tail IsRange a (b ∷ []) all))
answer_range op (c ∷ a ∷ b ∷ []) fits all =
    let rest = All-tail IsRange c (a ∷ b ∷ []) all in
    on_three op c a b fits (All-head IsRange a (b ∷ []) rest) (All-head IsRange b [] (All-tail IsRange a (b ∷ []) rest))
answer_range op (c ∷ a ∷ b ∷ d ∷ more) fits all = absurd fits

-- a variable's word
word_range : (words : List Word) (number w : ℕ) → (word : Word) × (slice_get words number ≡ Some word) × (word.width ≡ w)
    → IsRange (record { width = w; value = assigned (slice_get words number) })
word_range words number w word =
    subst (λ (b : Bits). IsRange b) (λ j. record { width = word.2 j; value = sym (ap assigned word.1) j }) (of_word word.0)

module _ {terms : List Term} (made : AreTerms terms) (words : List Word) (assigns : Assigns words terms) where
  -- a term that is at most so many levels deep
  range_to : (k : ℕ) (id : TermId) → id.0 < k → (t : Term) → slice_get terms id.0 ≡ Some t → IsRange (bits_at terms words id)
  range_to zero id h t here = let none : ⊥ = omega (arith, h) in absurd none
  range_to (suc k) id h (nodes.Var number width, w) here =
      let value : value_of terms words id ≡ assigned (slice_get words number) = value_follows made words id
      ∙ ap (entry_value words (bits_at terms words)) here in
      subst (λ (b : Bits). IsRange b) (λ j. record { width = sym (ap width_in here) j; value = sym value j })
      (word_range words number w (assigns id.0 (nodes.Var number width, w) here))
  range_to (suc k) id h (nodes.Op op parts, w) here =
      let is = is_made made id.0 op parts w here in
      let value : value_of terms words id ≡ answer op (map (bits_at terms words) (listed parts)) = value_follows made words id
      ∙ ap (entry_value words (bits_at terms words)) here in
      let wide : widths (map (bits_at terms words) (listed parts)) ≡ map (width_at terms) (listed parts) = widths_bits terms words (listed parts) in
      let width : width_at terms id ≡ width_of op (widths (map (bits_at terms words) (listed parts))) = ap width_in here ∙ is.width
      ∙ ap (width_of op) (sym wide) in
      let ranges : All IsRange (map (bits_at terms words) (listed parts)) =
      All-map IsRange (bits_at terms words) (listed parts)
      (All-weaker (λ (part : TermId). part.0 < id.0) (λ part. IsRange (bits_at terms words part)) (λ part before.
      let there : part.0 < length terms = omega (arith, before, slice_get_within terms id.0 (nodes.Op op parts, w) here) in
      let d : Term = (nodes.Op op parts, w) in
      range_to k part (omega (arith, before, h)) (get_or terms part.0 d) (slice_get-get_or terms part.0 d there)) (listed parts) is.before) in
      subst (λ (b : Bits). IsRange b) (λ j. record { width = sym width j; value = sym value j })
      (answer_range op (map (bits_at terms words) (listed parts)) (subst (Fits op) (sym wide) is.fits) ranges)

  pub term_range : (id : TermId) → Stands terms id → IsRange (bits_at terms words id)
  term_range id stands =
      let d : Term = (nodes.Var 0 0, 0) in
      range_to (suc id.0) id (omega arith) (get_or terms id.0 d) (slice_get-get_or terms id.0 d stands)

-- ---- widths alone: as of terms of value 0

zeros : List Term → TermId → Bits
zeros terms id = record { width = width_at terms id; value = 0 }

zeros_widths : (terms : List Term) (parts : List TermId) → widths (map (zeros terms) parts) ≡ map (width_at terms) parts
unfolding zeros
zeros_widths terms [] = refl
zeros_widths terms (part ∷ parts) = ap (λ ws. width_at terms part ∷ ws) (zeros_widths terms parts)

zero_range : (w : ℕ) → 0 < w → w ≤ 64 → IsRange (record { width = w; value = 0 })
zero_range w some most = range w 0 some most (pow_pos w)

module _ {terms : List Term} (made : AreTerms terms) where
  width_to : (k : ℕ) (id : TermId) → id.0 < k → (t : Term) → slice_get terms id.0 ≡ Some t → IsRange (zeros terms id)
  unfolding zeros
  width_to zero id h t here = let none : ⊥ = omega (arith, h) in absurd none
  width_to (suc k) id h (nodes.Var number width, w) here =
      let next = comes_next made id.0 (nodes.Var number width, w) here in
      subst (λ n. IsRange (record { width = n; value = 0 })) (sym (ap width_in here)) (zero_range w next.2 next.3)
  width_to (suc k) id h (nodes.Op op parts, w) here =
      let is = is_made made id.0 op parts w here in
      let wide : widths (map (zeros terms) (listed parts)) ≡ map (width_at terms) (listed parts) = zeros_widths terms (listed parts) in
      let width : width_at terms id ≡ width_of op (widths (map (zeros terms) (listed parts))) = ap width_in here ∙ is.width ∙ ap (width_of op) (sym wide) in
      let ranges : All IsRange (map (zeros terms) (listed parts)) =
      All-map IsRange (zeros terms) (listed parts)
      (All-weaker (λ (part : TermId). part.0 < id.0) (λ part. IsRange (zeros terms part)) (λ part before.
      let there : part.0 < length terms = omega (arith, before, slice_get_within terms id.0 (nodes.Op op parts, w) here) in
      let d : Term = (nodes.Op op parts, w) in
      width_to k part (omega (arith, before, h)) (get_or terms part.0 d) (slice_get-get_or terms part.0 d there)) (listed parts) is.before) in
      let whole = answer_range op (map (zeros terms) (listed parts)) (subst (Fits op) (sym wide) is.fits) ranges in
      subst (λ n. IsRange (record { width = n; value = 0 })) (sym width) (zero_range _ whole.some whole.most)

  width_range : (id : TermId) → Stands terms id → IsRange (zeros terms id)
  width_range id stands =
      let d : Term = (nodes.Var 0 0, 0) in
      width_to (suc id.0) id (omega arith) (get_or terms id.0 d) (slice_get-get_or terms id.0 d stands)

  pub width_some : (id : TermId) → Stands terms id → 0 < width_at terms id
  unfolding zeros
  width_some id stands = (width_range id stands).some

  pub width_most : (id : TermId) → Stands terms id → width_at terms id ≤ 64
  unfolding zeros
  width_most id stands = (width_range id stands).most

  -- the width of what an operation answers on terms
  pub op_width_range : (op : Op) (parts : List TermId) → All (Stands terms) parts → Fits op (map (width_at terms) parts)
      → (0 < width_of op (map (width_at terms) parts)) × (width_of op (map (width_at terms) parts) ≤ 64)
  op_width_range op parts stand fits =
      let wide : widths (map (zeros terms) parts) ≡ map (width_at terms) parts = zeros_widths terms parts in
      let ranges : All IsRange (map (zeros terms) parts) = All-map IsRange (zeros terms) parts
      (All-weaker (Stands terms) (λ (part : TermId). IsRange (zeros terms part)) (λ part there. width_range part there) parts stand) in
      let whole = answer_range op (map (zeros terms) parts) (subst (Fits op) (sym wide) fits) ranges in
      (subst (λ ws. 0 < width_of op ws) wide whole.some, subst (λ ws. width_of op ws ≤ 64) wide whole.most)
