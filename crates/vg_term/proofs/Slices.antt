-- Bits of a term, as an operation on bits of the parts that it is made of.
use Rattle.std.proofs.Common.{◌≡◌, ℕ, ◌+◌, ◌^◌, ◌<◌, ◌≤◌, Bool, cond, List, [], ◌∷◌, map, length, length-append, slice_get, Some, Result, Ok, Err}
use Rattle.std.proofs.Common.{All, refl, sym, ap, subst, ◌∙◌, inl, inr, arith}
use Rattle.std.specs.Prelude.{nat_eq}
use Rattle.std.proofs.lemmas.List.Elements.{All-head, All-tail, All-weaker, All-nil, All-cons}
use Rattle.std.proofs.lemmas.Option.{slice_get_within}
use Rattle.vg_bits.specs.Words as formulas
use Rattle.vg_bits.specs.declared.word.Word.{Word}
use Rattle.vg_term.specs.Operations.{Bits, answer, width_of, width_two, Fits, FitsTwo}
use Rattle.vg_term.specs.Terms.{Term, AreTerms, Stands, Needs, operation, width_at, listed}
use Rattle.vg_term.specs.Value.{value_of, bits_at, entry_value, Assigns}
use Rattle.vg_term.specs.Folding.{Grows, StandsFor, Builds}
use Rattle.vg_term.specs.Wiring.{Grown}
use Rattle.vg_term.specs.Narrowing.{CutsFrom}
use Rattle.vg_term.specs.Spending.{Spends}
use Rattle.vg_term.specs.declared.node.TermId.{TermId}
use Rattle.vg_term.specs.declared.node.Op.{Op}
use Rattle.vg_term.specs.declared.node.Op.TheVariants as ops
use Rattle.vg_term.specs.declared.node.Parts.{Parts}
use Rattle.vg_term.specs.declared.node.Parts.TheVariants as parts
use Rattle.vg_term.specs.declared.node.Node.TheVariants as nodes
use Rattle.vg_term.specs.declared.stops.TermStop.{TermStop}
use Rattle.vg_term.proofs.Made.{is_made, stays, same_widths}
use Rattle.vg_term.proofs.Values.{value_follows, bits_stay}
use Rattle.vg_term.proofs.Meanings.{folds_to_itself}
use Rattle.vg_term.proofs.Ranges.{term_range, width_some}
use Rattle.vg_term.proofs.Wires.{grown_on, stands_later, width_later, value_later, assigns_later}
use Rattle.vg_term.proofs.CutLaws.{word, cut_not, cut_bits, cut_choice, cut_low, cut_signed, cut_extended, cut_twice}

-- ---- what stays where terms are added

pub for_later : (old new : List Term) → AreTerms old → Grows old new → (id : TermId) (op : Op) (ps : List TermId) → All (Stands old) ps
    → StandsFor old id op ps → StandsFor new id op ps
for_later old new made g id op ps stand for = record {
  stands = stands_later old new g id for.stands;
  width = width_later old new g id for.stands ∙ for.width
      ∙ ap (width_of op) (sym (ap (λ (ts : List Term). map (width_at ts) ps) g.1 ∙ same_widths old g.0 ps stand));
  value = λ words assigns.
      value_later old new made g words id for.stands
      ∙ for.value words (assigns_later old new g words assigns)
      ∙ ap (answer op) (sym (ap (λ (ts : List Term). map (bits_at ts words) ps) g.1 ∙ bits_stay made g.0 words ps stand));
}

pub node_later : (old new : List Term) → Grows old new → (term : TermId) (t : Term) → slice_get old term.0 ≡ Some t → slice_get new term.0 ≡ Some t
node_later old new g term t here = ap (λ (ts : List Term). slice_get ts term.0) g.1 ∙ stays old g.0 term.0 (slice_get_within old term.0 t here) ∙ here

-- ---- the parts of a term

module _ {terms : List Term} (made : AreTerms terms) (term : TermId) (op : Op) (p : Parts) (w : ℕ)
    (here : slice_get terms term.0 ≡ Some (nodes.Op op p, w)) where
  pub node_stands : Stands terms term
  node_stands = slice_get_within terms term.0 (nodes.Op op p, w) here

  pub node_parts : All (Stands terms) (listed p)
  node_parts = All-weaker (λ (part : TermId). part.0 < term.0) (Stands terms) (λ part lower. let within : term.0 < _ = node_stands in
      omega (arith, lower, within)) (listed p) (is_made made term.0 op p w here).before

  pub node_fits : Fits op (map (width_at terms) (listed p))
  node_fits = (is_made made term.0 op p w here).fits

  pub node_width : w ≡ width_of op (map (width_at terms) (listed p))
  node_width = (is_made made term.0 op p w here).width

  pub node_value : (words : List Word) → value_of terms words term ≡ answer op (map (bits_at terms words) (listed p))
  node_value words = value_follows made words term ∙ ap (entry_value words (bits_at terms words)) here

pub one_stands : (terms : List Term) (a : TermId) → Stands terms a → All (Stands terms) (a ∷ [])
one_stands terms a h = All-cons (Stands terms) a [] h (All-nil (Stands terms))

-- the bits of a slice
slice_bits : {terms : List Term} (x a : TermId) (from w : ℕ) (words : List Word) → Assigns words terms
    → StandsFor terms x (ops.Extract from w) (a ∷ []) → bits_at terms words x ≡ word w (formulas.extract from w (value_of terms words a))
slice_bits x a from w words assigns for = (λ j. record { width = for.width j; value = for.value words assigns j })

-- ---- turned bits

pub turned_cut : {terms : List Term} → AreTerms terms → (term a x id : TermId) (wd from w : ℕ)
    → slice_get terms term.0 ≡ Some (nodes.Op ops.Not (parts.One a), wd) → from + w ≤ wd → StandsFor terms x (ops.Extract from w) (a ∷ []) →
    StandsFor terms id ops.Not (x ∷ []) → StandsFor terms id (ops.Extract from w) (term ∷ [])
turned_cut {terms} made term a x id wd from w here within part for =
    let there : Stands terms a = All-head (Stands terms) a [] (node_parts made term ops.Not (parts.One a) wd here) in
    let wide : wd ≡ width_at terms a = node_width made term ops.Not (parts.One a) wd here in
    record {
      stands = for.stands;
      width = for.width ∙ part.width;
      value = λ words assigns.
          for.value words assigns
          ∙ ap (λ (b : Bits). formulas.not b.width b.value) (slice_bits x a from w words assigns part)
          ∙ sym (cut_not (width_at terms a) from w (value_of terms words a) (omega (arith, within, wide)) (term_range made words assigns a there).below)
          ∙ ap (formulas.extract from w) (sym (node_value made term ops.Not (parts.One a) wd here words));
    }

-- ---- extended words

module _ (old new : List Term) (term a : TermId) (k wd from w : ℕ) (made : AreTerms old) (here : slice_get old term.0 ≡ Some
    (nodes.Op (ops.Sext k) (parts.One a), wd)) (now : AreTerms new) (g : Grows old new) (words : List Word) (assigns : Assigns words new) where
  part_there : Stands old a
  part_there = All-head (Stands old) a [] (node_parts made term (ops.Sext k) (parts.One a) wd here)

  part_wide : width_at new a ≡ width_at old a
  part_wide = width_later old new g a part_there

  part_narrower : width_at new a ≤ k
  part_narrower = let fits = node_fits made term (ops.Sext k) (parts.One a) wd here in omega (arith, fits.0, part_wide)

  part_some : 0 < width_at new a
  part_some = width_some now a (stands_later old new g a part_there)

  part_below : value_of new words a < 2 ^ width_at new a
  part_below = (term_range now words assigns a (stands_later old new g a part_there)).below

  term_is : value_of new words term ≡ formulas.sext (width_at new a) k (value_of new words a)
  term_is = node_value now term (ops.Sext k) (parts.One a) wd (node_later old new g term (nodes.Op (ops.Sext k) (parts.One a), wd) here) words

  from_part : from + w ≤ width_at old a → formulas.extract from w (value_of new words a) ≡ formulas.extract from w (value_of new words term)
  from_part within = sym (ap (formulas.extract from w) term_is ∙ cut_signed from w (width_at new a) k (value_of new words a) part_some part_narrower
      part_below (omega (arith, within, part_wide)))

  as_extension : from ≡ 0 → width_at old a ≤ w → w ≤ k → formulas.sext (width_at new a) w (value_of new words a) ≡ formulas.extract from w
      (value_of new words term)
  as_extension lowest more most =
      sym ((λ j. formulas.extract (lowest j) w (term_is j)) ∙ cut_extended w (width_at new a) k (value_of new words a) part_some
      (omega (arith, more, part_wide)) most part_below)

pub signed_builds : (old new : List Term) (term a : TermId) (k wd from w : ℕ) (result : Result TermId TermStop) → AreTerms old
    → slice_get old term.0 ≡ Some (nodes.Op (ops.Sext k) (parts.One a), wd) → from + w ≤ width_at old a →
    Builds old new (ops.Extract from w) (a ∷ []) result → Builds old new (ops.Extract from w) (term ∷ []) result
signed_builds old new term a k wd from w (Ok id) made here within h =
    record {
      made = h.made;
      grows = h.grows;
      means = record {
        stands = h.means.stands;
        width = h.means.width;
        value = λ words assigns. h.means.value words assigns
            ∙ from_part old new term a k wd from w made here h.made h.grows words assigns within;
      };
    }
signed_builds old new term a k wd from w (Err stop) made here within h = record { made = h.made; grows = h.grows; means = tt }

pub extended_builds : (old new : List Term) (term a : TermId) (k wd from w : ℕ) (result : Result TermId TermStop) → AreTerms old
    → slice_get old term.0 ≡ Some (nodes.Op (ops.Sext k) (parts.One a), wd) → from ≡ 0 → width_at old a ≤ w → w ≤ wd →
    Builds old new (ops.Sext w) (a ∷ []) result → Builds old new (ops.Extract from w) (term ∷ []) result
extended_builds old new term a k wd from w (Ok id) made here lowest more most h =
    let is_k : wd ≡ k = node_width made term (ops.Sext k) (parts.One a) wd here in
    record {
      made = h.made;
      grows = h.grows;
      means =
          record {
            stands = h.means.stands;
            width = h.means.width;
            value = λ words assigns. h.means.value words assigns
                ∙ as_extension old new term a k wd from w made here h.made h.grows words assigns lowest more (omega (arith, most, is_k));
          };
    }
extended_builds old new term a k wd from w (Err stop) made here lowest more most h = record { made = h.made; grows = h.grows; means = tt }

-- ---- choices

pub choice_cut : {terms : List Term} → AreTerms terms → (term c a b x y id : TermId) (wd from w : ℕ)
    → slice_get terms term.0 ≡ Some (nodes.Op ops.Ite (parts.Three c a b), wd) → StandsFor terms x (ops.Extract from w) (a ∷ []) →
    StandsFor terms y (ops.Extract from w) (b ∷ []) → StandsFor terms id ops.Ite (c ∷ x ∷ y ∷ []) → StandsFor terms id (ops.Extract from w) (term ∷ [])
choice_cut {terms} made term c a b x y id wd from w here left right for = record {
  stands = for.stands;
  width = for.width ∙ left.width;
  value = λ words assigns.
      let bit : Bool = nat_eq (value_of terms words c) 1 in
      for.value words assigns
      ∙ (λ j. cond bit (left.value words assigns j) (right.value words assigns j))
      ∙ sym (cut_choice from w bit (value_of terms words a) (value_of terms words b))
      ∙ ap (formulas.extract from w) (sym (node_value made term ops.Ite (parts.Three c a b) wd here words));
}

-- ---- operations on two parts

pub fits_alike : (op : Op) (from u v : ℕ) → CutsFrom op from → FitsTwo op u v → u ≡ v
fits_alike ops.Add from u v cuts fits = fits
fits_alike ops.Sub from u v cuts fits = fits
fits_alike ops.Mul from u v cuts fits = fits
fits_alike ops.And from u v cuts fits = fits
fits_alike ops.Or from u v cuts fits = fits
fits_alike ops.Xor from u v cuts fits = fits
fits_alike _ from u v cuts fits =
    elim cuts [
      | inl bits ↦ absurd bits
      | inr low ↦ absurd low.0
    ]

pub alike_fits : (op : Op) (from u v : ℕ) → CutsFrom op from → u ≡ v → FitsTwo op u v
alike_fits ops.Add from u v cuts e = e
alike_fits ops.Sub from u v cuts e = e
alike_fits ops.Mul from u v cuts e = e
alike_fits ops.And from u v cuts e = e
alike_fits ops.Or from u v cuts e = e
alike_fits ops.Xor from u v cuts e = e
alike_fits _ from u v cuts e =
    elim cuts [
      | inl bits ↦ absurd bits
      | inr low ↦ absurd low.0
    ]

pub width_alike : (op : Op) (from u v : ℕ) → CutsFrom op from → width_two op u v ≡ u
width_alike ops.Add from u v cuts = refl
width_alike ops.Sub from u v cuts = refl
width_alike ops.Mul from u v cuts = refl
width_alike ops.And from u v cuts = refl
width_alike ops.Or from u v cuts = refl
width_alike ops.Xor from u v cuts = refl
width_alike _ from u v cuts =
    elim cuts [
      | inl bits ↦ absurd bits
      | inr low ↦ absurd low.0
    ]

cut_law : (op : Op) (n from w a b : ℕ) → CutsFrom op from → from + w ≤ n → b < 2 ^ n → formulas.extract from w (answer op (word n a ∷ word n b ∷ []))
    ≡ answer op (word w (formulas.extract from w a) ∷ word w (formulas.extract from w b) ∷ [])
cut_law op n from w a b cuts within below =
    elim cuts [
      | inl bits ↦ cut_bits op n from w a b bits
      | inr low ↦
          subst (λ k. formulas.extract k w (answer op (word n a ∷ word n b ∷ [])) ≡ answer op
          (word w (formulas.extract k w a) ∷ word w (formulas.extract k w b) ∷ [])) (sym low.1)
          (cut_low op n w a b low.0 (omega (arith, within)) below)
    ]

pub two_cut : {terms : List Term} → AreTerms terms → (term a b x y id : TermId) (op : Op) (wd from w : ℕ)
    → slice_get terms term.0 ≡ Some (nodes.Op op (parts.Two a b), wd) → CutsFrom op from → from + w ≤ wd →
    StandsFor terms x (ops.Extract from w) (a ∷ []) → StandsFor terms y (ops.Extract from w) (b ∷ []) → StandsFor terms id op (x ∷ y ∷ [])
    → StandsFor terms id (ops.Extract from w) (term ∷ [])
two_cut {terms} made term a b x y id op wd from w here cuts within left right for =
    let stand = node_parts made term op (parts.Two a b) wd here in
    let there_b : Stands terms b = All-head (Stands terms) b [] (All-tail (Stands terms) a (b ∷ []) stand) in
    let alike : width_at terms a ≡ width_at terms b = fits_alike op from (width_at terms a) (width_at terms b) cuts
    (node_fits made term op (parts.Two a b) wd here) in
    let wide : wd ≡ width_at terms a = node_width made term op (parts.Two a b) wd here ∙ width_alike op from (width_at terms a) (width_at terms b) cuts in
    record {
      stands = for.stands;
      width = for.width ∙ width_alike op from (width_at terms x) (width_at terms y) cuts ∙ left.width;
      value = λ words assigns.
          let va = value_of terms words a in
          let vb = value_of terms words b in
          for.value words assigns
          ∙ (λ j. answer op (slice_bits x a from w words assigns left j ∷ slice_bits y b from w words assigns right j ∷ []))
          ∙ sym (cut_law op (width_at terms a) from w va vb cuts (omega (arith, within, wide))
          (subst (λ n. vb < 2 ^ n) (sym alike) (term_range made words assigns b there_b).below))
          ∙ ap (formulas.extract from w) ((λ j. answer op (word (width_at terms a) va ∷ word (alike j) vb ∷ []))
          ∙ sym (node_value made term op (parts.Two a b) wd here words));
    }

-- ---- cut twice

pub twice_cut : {terms : List Term} (term low id : TermId) (from w n : ℕ) → from + w ≤ n → StandsFor terms low (ops.Extract 0 n) (term ∷ [])
    → StandsFor terms id (ops.Extract from w) (low ∷ []) → StandsFor terms id (ops.Extract from w) (term ∷ [])
twice_cut {terms} term low id from w n within below for = record {
  stands = for.stands;
  width = for.width;
  value = λ words assigns. for.value words assigns ∙ ap (formulas.extract from w) (below.value words assigns)
      ∙ cut_twice from w n (value_of terms words term) within;
}

-- ---- what calls answer

-- what a call needs of a term whose operation it cuts
module _ {terms : List Term} (made : AreTerms terms) (term : TermId) (op : Op) (a : TermId) (wd : ℕ)
    (here : slice_get terms term.0 ≡ Some (nodes.Op op (parts.One a), wd)) where
  pub one_part_stands : Stands terms a
  one_part_stands = All-head (Stands terms) a [] (node_parts made term op (parts.One a) wd here)

module _ {terms : List Term} (made : AreTerms terms) (term : TermId) (a : TermId) (wd : ℕ)
    (here : slice_get terms term.0 ≡ Some (nodes.Op ops.Not (parts.One a), wd)) where
  pub turned_wide : (from w : ℕ) → from + w ≤ wd → from + w ≤ width_at terms a
  turned_wide from w within = subst (λ n. from + w ≤ n) (node_width made term ops.Not (parts.One a) wd here) within

module _ {terms : List Term} (made : AreTerms terms) (term : TermId) (op : Op) (a b : TermId) (wd from : ℕ)
    (here : slice_get terms term.0 ≡ Some (nodes.Op op (parts.Two a b), wd)) where
  pub left_stands : Stands terms a
  left_stands = All-head (Stands terms) a (b ∷ []) (node_parts made term op (parts.Two a b) wd here)

  pub right_stands : Stands terms b
  right_stands = All-head (Stands terms) b [] (All-tail (Stands terms) a (b ∷ []) (node_parts made term op (parts.Two a b) wd here))

  pub left_wide : CutsFrom op from → wd ≡ width_at terms a
  left_wide cuts = node_width made term op (parts.Two a b) wd here ∙ width_alike op from (width_at terms a) (width_at terms b) cuts

  pub right_wide : CutsFrom op from → wd ≡ width_at terms b
  right_wide cuts = left_wide cuts ∙ fits_alike op from (width_at terms a) (width_at terms b) cuts (node_fits made term op (parts.Two a b) wd here)

module _ {terms : List Term} (made : AreTerms terms) (term : TermId) (c a b : TermId) (wd : ℕ)
    (here : slice_get terms term.0 ≡ Some (nodes.Op ops.Ite (parts.Three c a b), wd)) where
  choice_parts : All (Stands terms) (c ∷ a ∷ b ∷ [])
  choice_parts = node_parts made term ops.Ite (parts.Three c a b) wd here

  pub condition_stands : Stands terms c
  condition_stands = All-head (Stands terms) c (a ∷ b ∷ []) choice_parts

  pub first_stands : Stands terms a
  first_stands = All-head (Stands terms) a (b ∷ []) (All-tail (Stands terms) c (a ∷ b ∷ []) choice_parts)

  pub second_stands : Stands terms b
  second_stands = All-head (Stands terms) b [] (All-tail (Stands terms) a (b ∷ []) (All-tail (Stands terms) c (a ∷ b ∷ []) choice_parts))

  pub condition_bit : width_at terms c ≡ 1
  condition_bit = (node_fits made term ops.Ite (parts.Three c a b) wd here).0

  pub first_wide : wd ≡ width_at terms a
  first_wide = node_width made term ops.Ite (parts.Three c a b) wd here

  pub second_wide : wd ≡ width_at terms b
  second_wide = first_wide ∙ (node_fits made term ops.Ite (parts.Three c a b) wd here).1

grown_by : (old new : List Term) → AreTerms new → Grows old new → Grown old new
grown_by old new made grows = record { made = made; grows = grows }

pub turned_builds : (old mid new : List Term) (term a x : TermId) (wd from w : ℕ) (result : Result TermId TermStop) → AreTerms old
    → slice_get old term.0 ≡ Some (nodes.Op ops.Not (parts.One a), wd) → from + w ≤ wd → Builds old mid (ops.Extract from w) (a ∷ []) (Ok x) →
    Builds mid new ops.Not (x ∷ []) result → Builds old new (ops.Extract from w) (term ∷ []) result
turned_builds old mid new term a x wd from w (Ok id) made here within part h =
    let whole = grown_on old mid new (grown_by old mid part.made part.grows) (grown_by mid new h.made h.grows) in
    let there = stands_later old mid part.grows a (one_part_stands made term ops.Not a wd here) in
    record {
      made = h.made;
      grows = whole.grows;
      means = turned_cut h.made term a x id wd from w (node_later old new whole.grows term (nodes.Op ops.Not (parts.One a), wd) here) within
          (for_later mid new part.made h.grows x (ops.Extract from w) (a ∷ []) (one_stands mid a there) part.means) h.means;
    }
turned_builds old mid new term a x wd from w (Err stop) made here within part h =
    record { made = h.made; grows = (grown_on old mid new (grown_by old mid part.made part.grows) (grown_by mid new h.made h.grows)).grows; means = tt }

module _ (old one two new : List Term) (term a b x y : TermId) (op' : Op) (wd from w : ℕ) (made : AreTerms old) (there_a : Stands old a)
    (there_b : Stands old b) (left : Builds old one (ops.Extract from w) (a ∷ []) (Ok x))
    (right : Builds one two (ops.Extract from w) (b ∷ []) (Ok y)) (grows : Grows two new) (now : AreTerms new) where
  all_grown : Grown old new
  all_grown = grown_on old one new (grown_by old one left.made left.grows) (grown_on one two new (grown_by one two right.made right.grows)
      (grown_by two new now grows))

  left_now : StandsFor new x (ops.Extract from w) (a ∷ [])
  left_now = for_later one new left.made (grown_on one two new (grown_by one two right.made right.grows) (grown_by two new now grows)).grows x
      (ops.Extract from w) (a ∷ []) (one_stands one a (stands_later old one left.grows a there_a)) left.means

  right_now : StandsFor new y (ops.Extract from w) (b ∷ [])
  right_now = for_later two new right.made grows y (ops.Extract from w) (b ∷ []) (one_stands two b
      (stands_later one two right.grows b (stands_later old one left.grows b there_b))) right.means

pub two_builds : (old one two new : List Term) (term a b x y : TermId) (op : Op) (wd from w : ℕ) (result : Result TermId TermStop) → AreTerms old
    → slice_get old term.0 ≡ Some (nodes.Op op (parts.Two a b), wd) → CutsFrom op from → from + w ≤ wd →
    Builds old one (ops.Extract from w) (a ∷ []) (Ok x) → Builds one two (ops.Extract from w) (b ∷ []) (Ok y) → Builds two new op (x ∷ y ∷ []) result
    → Builds old new (ops.Extract from w) (term ∷ []) result
two_builds old one two new term a b x y op wd from w (Ok id) made here cuts within left right h =
    let there_a = left_stands made term op a b wd from here in
    let there_b = right_stands made term op a b wd from here in
    let whole = all_grown old one two new term a b x y op wd from w made there_a there_b left right h.grows h.made in
    record {
      made = h.made;
      grows = whole.grows;
      means = two_cut h.made term a b x y id op wd from w (node_later old new whole.grows term (nodes.Op op (parts.Two a b), wd) here) cuts within
          (left_now old one two new term a b x y op wd from w made there_a there_b left right h.grows h.made)
          (right_now old one two new term a b x y op wd from w made there_a there_b left right h.grows h.made) h.means;
    }
two_builds old one two new term a b x y op wd from w (Err stop) made here cuts within left right h =
    record {
      made = h.made;
      grows =
          (all_grown old one two new term a b x y op wd from w made (left_stands made term op a b wd from here)
          (right_stands made term op a b wd from here) left right h.grows h.made).grows;
      means = tt;
    }

pub choice_builds : (old one two new : List Term) (term c a b x y : TermId) (wd from w : ℕ) (result : Result TermId TermStop) → AreTerms old
    → slice_get old term.0 ≡ Some (nodes.Op ops.Ite (parts.Three c a b), wd) →
    Builds old one (ops.Extract from w) (a ∷ []) (Ok x) → Builds one two (ops.Extract from w) (b ∷ []) (Ok y)
    → Builds two new ops.Ite (c ∷ x ∷ y ∷ []) result → Builds old new (ops.Extract from w) (term ∷ []) result
choice_builds old one two new term c a b x y wd from w (Ok id) made here left right h =
    let there_a = first_stands made term c a b wd here in
    let there_b = second_stands made term c a b wd here in
    let whole = all_grown old one two new term a b x y ops.Ite wd from w made there_a there_b left right h.grows h.made in
    record {
      made = h.made;
      grows = whole.grows;
      means = choice_cut h.made term c a b x y id wd from w (node_later old new whole.grows term (nodes.Op ops.Ite (parts.Three c a b), wd) here)
          (left_now old one two new term a b x y ops.Ite wd from w made there_a there_b left right h.grows h.made)
          (right_now old one two new term a b x y ops.Ite wd from w made there_a there_b left right h.grows h.made) h.means;
    }
choice_builds old one two new term c a b x y wd from w (Err stop) made here left right h =
    record {
      made = h.made;
      grows =
          (all_grown old one two new term a b x y ops.Ite wd from w made (first_stands made term c a b wd here) (second_stands made term c a b wd here)
          left right h.grows h.made).grows;
      means = tt;
    }

pub twice_builds : (old mid new : List Term) (term low : TermId) (from w n : ℕ) (result : Result TermId TermStop) → Stands old term → from + w ≤ n
    → Builds old mid (ops.Extract 0 n) (term ∷ []) (Ok low) → Builds mid new (ops.Extract from w) (low ∷ []) result →
    Builds old new (ops.Extract from w) (term ∷ []) result
twice_builds old mid new term low from w n (Ok id) there within below h =
    let whole = grown_on old mid new (grown_by old mid below.made below.grows) (grown_by mid new h.made h.grows) in
    record {
      made = h.made;
      grows = whole.grows;
      means = twice_cut term low id from w n within (for_later mid new below.made h.grows low (ops.Extract 0 n) (term ∷ [])
          (one_stands mid term (stands_later old mid below.grows term there)) below.means) h.means;
    }
twice_builds old mid new term low from w n (Err stop) there within below h =
    record { made = h.made; grows = (grown_on old mid new (grown_by old mid below.made below.grows) (grown_by mid new h.made h.grows)).grows; means = tt }

-- a cut that is made as it is
pub made_cut : (old new : List Term) (term : TermId) (from w : ℕ) (result : Result TermId TermStop) → AreTerms new → Stands old term → 0 < w
    → from + w ≤ width_at old term → Needs old new (operation old (ops.Extract from w) (term ∷ [])) result →
    Builds old new (ops.Extract from w) (term ∷ []) result
made_cut old new term from w result made there some within needs =
    let h = folds_to_itself old new (ops.Extract from w) (term ∷ []) result made (one_stands old term there) (some, within) needs in
    record { made = made; grows = h.grows; means = h.means }

pub needs_few : (old new : List Term) (t : Term) (result : Result TermId TermStop) → Needs old new t result → length new ≤ length old + 1
needs_few old new t (Ok id) needs =
    elim needs.either [
      | inl stood ↦ omega (arith, ap length stood.1)
      | inr none ↦ omega (arith, ap length none.1, length-append old (t ∷ []))
    ]
needs_few old new t (Err stop) needs = omega (arith, ap length needs.kept)

pub spends_few : (old new : List Term) (cuts own : ℕ) → length new ≤ length old + 1 → 1 ≤ own → Spends old new cuts cuts own
spends_few old new cuts own few some = record { cuts = omega arith; few = omega (arith, few, some) }

-- ---- what is asked of the operation on the bits

-- parts that stand and fit
pub record AreReady (terms : List Term) (op : Op) (ps : List TermId) : Type 0 where
  pub made : AreTerms terms
  pub parts_stand : All (Stands terms) ps
  pub fits : Fits op (map (width_at terms) ps)

pub two_ready : (old one two : List Term) (a b x y : TermId) (op : Op) (from w : ℕ) → CutsFrom op from
    → Builds old one (ops.Extract from w) (a ∷ []) (Ok x) → Builds one two (ops.Extract from w) (b ∷ []) (Ok y) → AreReady two op (x ∷ y ∷ [])
two_ready old one two a b x y op from w cuts left right =
    let there_x = stands_later one two right.grows x left.means.stands in
    record {
      made = right.made;
      parts_stand = All-cons (Stands two) x (y ∷ []) there_x (one_stands two y right.means.stands);
      fits = alike_fits op from (width_at two x) (width_at two y) cuts (width_later one two right.grows x left.means.stands ∙ left.means.width
          ∙ sym right.means.width);
    }

pub choice_ready : (old one two : List Term) (term c a b x y : TermId) (wd from w : ℕ) → AreTerms old
    → slice_get old term.0 ≡ Some (nodes.Op ops.Ite (parts.Three c a b), wd) → Builds old one (ops.Extract from w) (a ∷ []) (Ok x) →
    Builds one two (ops.Extract from w) (b ∷ []) (Ok y) → AreReady two ops.Ite (c ∷ x ∷ y ∷ [])
choice_ready old one two term c a b x y wd from w was here left right =
    let there_c = condition_stands was term c a b wd here in
    let c_one = stands_later old one left.grows c there_c in
    let there_x = stands_later one two right.grows x left.means.stands in
    record {
      made = right.made;
      parts_stand = All-cons (Stands two) c (x ∷ y ∷ []) (stands_later one two right.grows c c_one)
          (All-cons (Stands two) x (y ∷ []) there_x (one_stands two y right.means.stands));
      fits = (
        width_later one two right.grows c c_one ∙ width_later old one left.grows c there_c ∙ condition_bit was term c a b wd here,
        width_later one two right.grows x left.means.stands ∙ left.means.width ∙ sym right.means.width,
      );
    }
