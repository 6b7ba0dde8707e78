-- Comparisons in a narrower width, and operations with the sign on words whose sign is 0.
use Rattle.std.proofs.Common.{◌≡◌, ℕ, ◌+◌, ◌-◌, ◌*◌, ◌/◌, ◌%◌, ◌^◌, ◌<◌, ◌≤◌, false, List, [], ◌∷◌, map, get_or, slice_get, Some, Result, Ok, Err}
use Rattle.std.proofs.Common.{All, ◌⊎◌, refl, sym, ap, subst, ◌∙◌, inl, inr, arith, eq-eqb, le-ltb}
use Rattle.std.specs.Prelude.{nat_eq, nat_lt, int_lt}
use Rattle.std.specs.Int.{bit_at}
use Rattle.std.proofs.Math.Nat.{mod-eq_of_lt}
use Rattle.std.proofs.Math.Pow.{pow_mono}
use Rattle.std.proofs.lemmas.Bool.{cases_lt, lt-ltb, ne_eqb}
use Rattle.std.proofs.lemmas.Bool.Decides.{eqb_tells}
use Rattle.std.proofs.lemmas.List.Elements.{All-nil, All-head}
use Rattle.std.proofs.lemmas.Nat.{pow_pos, mod_below, shr_split, shr_below, shr_le}
use Rattle.std.proofs.lemmas.Nat.Bits.{same_from_bits, bit_at_above}
use Rattle.vg_bits.specs.Words as formulas
use Rattle.vg_bits.specs.declared.word.Word.{Word}
use Rattle.vg_bits.proofs.Laws.{signed-sext}
use Rattle.vg_bits.proofs.Machine.{signed_pos, signed_neg}
use Rattle.vg_term.specs.Operations.{Bits, answer, width_two, Fits, FitsTwo}
use Rattle.vg_term.specs.Terms.{Term, AreTerms, Stands, Needs, operation, width_at, width_in, listed}
use Rattle.vg_term.specs.Value.{value_of, bits_at, Assigns}
use Rattle.vg_term.specs.Folding.{Grows, StandsFor, Builds, IsWord}
use Rattle.vg_term.specs.Wiring.{wire_value, AllCarry, AnswersAs, IsNonnegative, IsWired, SameWire, Grown}
use Rattle.vg_term.specs.Narrowing.{AreNarrower, AreOff, IsComparison, IsExtended, IsExtendedWord, IsLess}
use Rattle.vg_term.specs.declared.wire.Wire.{Wire}
use Rattle.vg_term.specs.declared.wire.Wire.TheVariants.{Fixed, Bit}
use Rattle.vg_term.specs.declared.node.TermId.{TermId}
use Rattle.vg_term.specs.declared.node.Op.{Op}
use Rattle.vg_term.specs.declared.node.Op.TheVariants as ops
use Rattle.vg_term.specs.declared.node.Parts.{Parts}
use Rattle.vg_term.specs.declared.node.Parts.TheVariants as parts
use Rattle.vg_term.specs.declared.stops.TermStop.{TermStop}
use Rattle.vg_term.proofs.Ranges.{term_range, width_some}
use Rattle.vg_term.proofs.Wires.{grown_on, stands_later, width_later, value_later, assigns_later, wire_value_later, bit_cut}
use Rattle.vg_term.specs.declared.node.Node.TheVariants as nodes
use Rattle.vg_term.proofs.Meanings.{folds_to_itself, needs_grows}
use Rattle.vg_term.proofs.CutLaws.{word}
use Rattle.vg_term.proofs.Slices.{node_parts, node_fits, node_width, node_value}

-- ---- extended words keep their order

-- an extended word: itself where the sign is 0, and else with ones above it
abbrev Extended : ℕ → ℕ → ℕ → ℕ → Type 0
Extended v w a s = ((a < 2 ^ (v - 1)) × (s ≡ a)) ⊎ ((2 ^ (v - 1) ≤ a) × (s + 2 ^ v ≡ a + 2 ^ w))

extends : (v w a : ℕ) → 0 < v → v ≤ w → a < 2 ^ v → Extended v w a (formulas.sext v w a)
extends v w a some wider below =
    let whole : 2 ^ v ≤ 2 ^ w = pow_mono wider in
    elim (cases_lt a (2 ^ (v - 1))) [
      | inl low ↦
          let e : formulas.sext v w a ≡ a = rw (signed_pos v a low) (mod-eq_of_lt (omega arith)) in
          inl (low, e)
      | inr high ↦
          let c = 2 ^ v - 1 - a in
          let m : c % 2 ^ w ≡ c = mod-eq_of_lt (omega arith) in
          let e : formulas.sext v w a ≡ 2 ^ w - 1 - c = rw (signed_neg v a high below, m) refl in
          inr (high, omega (arith, e))
    ]

ordered : (h p q a b s t : ℕ) → p ≤ q → h ≤ p → a < p → b < p → ((a < h) × (s ≡ a)) ⊎ ((h ≤ a) × (s + p ≡ a + q)) → ((b < h) × (t ≡ b))
    ⊎ ((h ≤ b) × (t + p ≡ b + q)) → a < b → s < t
ordered h p q a b s t wider half below_a below_b (inl x) (inl y) less = omega (arith, x.1, y.1, less)
ordered h p q a b s t wider half below_a below_b (inl x) (inr y) less = omega (arith, x.0, x.1, y.0, y.1, wider, below_a)
ordered h p q a b s t wider half below_a below_b (inr x) (inl y) less = absurd (omega (arith, x.0, y.0, less))
ordered h p q a b s t wider half below_a below_b (inr x) (inr y) less = omega (arith, x.1, y.1, less)

not_at_most : (a b : ℕ) → b ≤ a → nat_lt a b ≡ false
not_at_most a b h = le-ltb a b h

not_less : (a b : ℕ) → b < a → nat_lt a b ≡ false
not_less a b h = not_at_most a b (omega (arith, h))

not_before_itself : (a : ℕ) → nat_lt a a ≡ false
not_before_itself a = not_at_most a a (omega arith)

module _ (v w : ℕ) (some : 0 < v) (wider : v ≤ w) (a b : ℕ) (below_a : a < 2 ^ v) (below_b : b < 2 ^ v) where
  up : (x y : ℕ) → x < 2 ^ v → y < 2 ^ v → x < y → formulas.sext v w x < formulas.sext v w y
  up x y p q less = ordered (2 ^ (v - 1)) (2 ^ v) (2 ^ w) x y (formulas.sext v w x) (formulas.sext v w y) (pow_mono wider)
      (pow_mono {i = v - 1} {j = v} (omega arith)) p q (extends v w x some wider p) (extends v w y some wider q) less

  less_kept : nat_lt (formulas.sext v w a) (formulas.sext v w b) ≡ nat_lt a b
  less_kept =
      elim (cases_lt a b) [
        | inl less ↦ lt-ltb (formulas.sext v w a) (formulas.sext v w b) (up a b below_a below_b less) ∙ sym (lt-ltb a b less)
        | inr more ↦
            elim (cases_lt b a) [
              | inl above ↦ not_less (formulas.sext v w a) (formulas.sext v w b) (up b a below_b below_a above) ∙ sym (not_at_most a b more)
              | inr equal ↦
                  let same : a ≡ b = omega (arith, more, equal) in
                  ap (λ n. nat_lt (formulas.sext v w n) (formulas.sext v w b)) same ∙ not_before_itself (formulas.sext v w b) ∙ sym (not_at_most a b more)
            ]
      ]

  same_kept : nat_eq (formulas.sext v w a) (formulas.sext v w b) ≡ nat_eq a b
  same_kept =
      elim (eqb_tells a b) [
        | inl same ↦ eq-eqb (formulas.sext v w a) (formulas.sext v w b) (ap (formulas.sext v w) same.1) ∙ sym same.0
        | inr other ↦
            ne_eqb (formulas.sext v w a) (formulas.sext v w b)
            (λ e.
            elim (cases_lt a b) [
              | inl less ↦ (let h = up a b below_a below_b less in let none : ⊥ = omega (arith, h, e) in absurd none)
              | inr more ↦
                  elim (cases_lt b a) [
                    | inl above ↦ (let h = up b a below_b below_a above in let none : ⊥ = omega (arith, h, e) in absurd none)
                    | inr equal ↦ other.1 (omega (arith, more, equal))
                  ]
            ])
            ∙ sym other.0
      ]

compared_alike : (op : Op) (v w a b : ℕ) → IsComparison op → 0 < v → v ≤ w → a < 2 ^ v → b < 2 ^ v
    → answer op (word w (formulas.sext v w a) ∷ word w (formulas.sext v w b) ∷ []) ≡ answer op (word v a ∷ word v b ∷ [])
compared_alike ops.Eq v w a b is some wider p q = ap formulas.bit (same_kept v w some wider a b p q)
compared_alike ops.Ult v w a b is some wider p q = ap formulas.bit (less_kept v w some wider a b p q)
compared_alike ops.Slt v w a b is some wider p q = (λ j. formulas.bit (int_lt (signed-sext v w a some wider p j) (signed-sext v w b some wider q j)))
compared_alike _ v w a b is some wider p q = absurd is

compared_width : (op : Op) (u v : ℕ) → IsComparison op → width_two op u v ≡ 1
compared_width ops.Eq u v is = refl
compared_width ops.Ult u v is = refl
compared_width ops.Slt u v is = refl
compared_width _ u v is = absurd is

pub compared_fits : (op : Op) (u v : ℕ) → IsComparison op → u ≡ v → FitsTwo op u v
compared_fits ops.Eq u v is e = e
compared_fits ops.Ult u v is e = e
compared_fits ops.Slt u v is e = e
compared_fits _ u v is e = absurd is

pub less_compares : (op : Op) → IsLess op → IsComparison op
less_compares ops.Ult is = tt
less_compares ops.Slt is = tt
less_compares _ is = absurd is

-- ---- the terms that were extended

extended_later : (old new : List Term) → AreTerms old → Grows old new → (id part : TermId) → Stands old id → IsExtended old id part → IsExtended new id part
extended_later old new made g id part there is =
    let wide_part : width_at new part ≡ width_at old part = width_later old new g part is.stands in
    let wide : width_at new id ≡ width_at old id = width_later old new g id there in
    record {
      stands = stands_later old new g part is.stands;
      wider = omega (arith, wide_part, wide, is.wider);
      value = λ words assigns.
          value_later old new made g words id there
          ∙ is.value words (assigns_later old new g words assigns)
          ∙ (λ j. formulas.sext (sym wide_part j) (sym wide j) (sym (value_later old new made g words part is.stands) j));
    }

narrower_stands_for : {terms : List Term} → AreTerms terms → (op : Op) (a b x y id : TermId) → IsComparison op → width_at terms a ≡ width_at terms b
    → AreNarrower terms a b x y → StandsFor terms id op (x ∷ y ∷ []) → StandsFor terms id op (a ∷ b ∷ [])
narrower_stands_for {terms} made op a b x y id is alike n for = record {
  stands = for.stands;
  width = for.width ∙ compared_width op (width_at terms x) (width_at terms y) is ∙ sym (compared_width op (width_at terms a) (width_at terms b) is);
  value = λ words assigns.
      let v = width_at terms x in
      let w = width_at terms a in
      let vx = value_of terms words x in
      let vy = value_of terms words y in
      for.value words assigns
      ∙ (λ j. answer op (word v vx ∷ word (sym n.alike j) vy ∷ []))
      ∙ sym (compared_alike op v w vx vy is (width_some made x n.left.stands) n.left.wider (term_range made words assigns x n.left.stands).below
      (subst (λ k. vy < 2 ^ k) (sym n.alike) (term_range made words assigns y n.right.stands).below))
      ∙ (λ j. answer op (word w (sym (n.left.value words assigns) j) ∷ word (alike j) (formulas.sext (n.alike j) (alike j) vy) ∷ []))
      ∙ (λ j. answer op (bits_at terms words a ∷ word (width_at terms b) (sym (n.right.value words assigns) j) ∷ []));
}

pub narrower_builds : (old mid new : List Term) (op : Op) (a b x y : TermId) (result : Result TermId TermStop) → IsComparison op → Grown old mid
    → Stands old a → Stands old b → width_at old a ≡ width_at old b → AreNarrower mid a b x y →
    Builds mid new op (x ∷ y ∷ []) result → Builds old new op (a ∷ b ∷ []) result
narrower_builds old mid new op a b x y (Ok id) is g there_a there_b alike n h =
    let whole = grown_on old mid new g (record { made = h.made; grows = h.grows }) in
    let mid_a = stands_later old mid g.grows a there_a in
    let mid_b = stands_later old mid g.grows b there_b in
    record {
      made = h.made;
      grows = whole.grows;
      means = narrower_stands_for h.made op a b x y id is (width_later old new whole.grows a there_a ∙ alike ∙ sym (width_later old new whole.grows b there_b))
          (record {
            left = extended_later mid new g.made h.grows a x mid_a n.left;
            right = extended_later mid new g.made h.grows b y mid_b n.right;
            alike = width_later mid new h.grows x n.left.stands ∙ n.alike ∙ sym (width_later mid new h.grows y n.right.stands);
          }) h.means;
    }
narrower_builds old mid new op a b x y (Err stop) is g there_a there_b alike n h = record {
  made = h.made;
  grows =
      (grown_on old mid new g (record { made = h.made; grows = h.grows })).grows;
  means = tt;
}

pub builds_after : (old mid new : List Term) (op : Op) (ps : List TermId) (result : Result TermId TermStop) → Grown old mid
    → Builds mid new op ps result → Builds old new op ps result
builds_after old mid new op ps result g h =
    record { made = h.made; grows = (grown_on old mid new g (record { made = h.made; grows = h.grows })).grows; means = h.means }

-- ---- the lowest bits, where those above are 0

pub low_whole : (old new : List Term) (a x : TermId) (wires : List Wire) (w end : ℕ) → AreTerms old → AreTerms new → Grows old new → Stands old a
    → AllCarry old (ops.Extract 0 w) (a ∷ []) wires w → w ≡ width_at old a → AreOff wires end w → end ≤ w →
    IsWired new x wires 0 end → (words : List Word) → Assigns words new → value_of new words x ≡ value_of new words a
low_whole old new a x wires w end was made g there carry wide off le wired words assigns =
    let before = assigns_later old new g words assigns in
    let d : Wire = Fixed false in
    let va = value_of old words a in
    let small_x : value_of new words x < 2 ^ end = subst (λ k. value_of new words x < 2 ^ k) wired.width (term_range made words assigns x wired.stands).below in
    let small_a : va < 2 ^ w = subst (λ k. va < 2 ^ k) (sym wide) (term_range was words before a there).below in
    let wire_is : (i : ℕ) → i < w → wire_value old words (get_or wires i d) ≡ bit_at va i =
    λ i below. (carry.each i d below).value words before ∙ bit_cut va 0 w i below ∙ ap (bit_at va) (let e : 0 + i ≡ i = omega arith in e) in
    same_from_bits (value_of new words x) va
    (λ i.
    elim (cases_lt i end) [
      | inl low ↦
          let within : i < w = omega (arith, low, le) in
          wired.bits words assigns i d low
          ∙ ap (λ k. wire_value new words (get_or wires k d)) (let e : 0 + i ≡ i = omega arith in e)
          ∙ wire_value_later old new was g words (get_or wires i d) (carry.each i d within).stands
          ∙ wire_is i within
      | inr high ↦
          bit_at_above (value_of new words x) end i small_x high
          ∙ elim (cases_lt i w) [
            | inl within ↦ sym (ap (wire_value old words) (off.each i d high within)) ∙ wire_is i within
            | inr above ↦ sym (bit_at_above va w i small_a above)
          ]
    ])
    ∙ sym (value_later old new was g words a there)

less_as_unsigned : (op : Op) (n v a b : ℕ) → IsLess op → a < 2 ^ (n - 1) → b < 2 ^ (n - 1)
    → answer ops.Ult (word v a ∷ word v b ∷ []) ≡ answer op (word n a ∷ word n b ∷ [])
less_as_unsigned ops.Ult n v a b is p q = refl
less_as_unsigned ops.Slt n v a b is p q = (λ j. formulas.bit (int_lt (sym (signed_pos n a p) j) (sym (signed_pos n b q) j)))
less_as_unsigned _ n v a b is p q = absurd is

pub less_builds : (old one two new : List Term) (op : Op) (a b x y : TermId) (left right : List Wire) (w end : ℕ) (result : Result TermId TermStop)
    → IsLess op → AreTerms old → Stands old a → Stands old b → width_at old a ≡ width_at old b → w ≡ width_at old a →
    AllCarry old (ops.Extract 0 w) (a ∷ []) left w → AllCarry old (ops.Extract 0 w) (b ∷ []) right w → AreOff left end w → AreOff right end w
    → end < w → Grown old one → IsWired one x left 0 end → Grown one two → IsWired two y right 0 end →
    Builds two new ops.Ult (x ∷ y ∷ []) result → Builds old new op (a ∷ b ∷ []) result
less_builds old one two new op a b x y left right w end (Ok id) is made there_a there_b alike wide carry_a carry_b off_a off_b less g1 up g2 down h =
    let g3 : Grown two new = record { made = h.made; grows = h.grows } in
    let g_one = grown_on one two new g2 g3 in
    let g_two = grown_on old one two g1 g2 in
    let whole = grown_on old one new g1 g_one in
    record {
      made = h.made;
      grows = whole.grows;
      means = record {
        stands = h.means.stands;
        width = h.means.width ∙ sym (compared_width op (width_at new a) (width_at new b) (less_compares op is));
        value = λ words assigns.
            let in_two = assigns_later two new h.grows words assigns in
            let in_one = assigns_later one new g_one.grows words assigns in
            let x_is : value_of new words x ≡ value_of new words a =
            value_later one new g1.made g_one.grows words x up.stands ∙ low_whole old one a x left w end made g1.made g1.grows there_a carry_a wide
            off_a (omega (arith, less)) up words in_one
            ∙ sym (value_later one new g1.made g_one.grows words a (stands_later old one g1.grows a there_a)) in
            let y_is : value_of new words y ≡ value_of new words b =
            value_later two new g2.made h.grows words y down.stands ∙ low_whole old two b y right w end made g2.made g_two.grows there_b carry_b
            (wide ∙ alike) off_b (omega (arith, less)) down words in_two
            ∙ sym (value_later two new g2.made h.grows words b (stands_later old two g_two.grows b there_b)) in
            let wide_x : width_at new x ≡ end = width_later one new g_one.grows x up.stands ∙ up.width in
            let wide_y : width_at new y ≡ end = width_later two new h.grows y down.stands ∙ down.width in
            let wide_a : width_at new a ≡ w = width_later old new whole.grows a there_a ∙ sym wide in
            let wide_b : width_at new b ≡ w = width_later old new whole.grows b there_b ∙ sym alike ∙ sym wide in
            let half : 2 ^ end ≤ 2 ^ (w - 1) = pow_mono (omega (arith, less)) in
            let small_x = subst (λ k. value_of new words x < 2 ^ k) wide_x (term_range h.made words assigns x
            (stands_later one new g_one.grows x up.stands)).below in
            let small_y = subst (λ k. value_of new words y < 2 ^ k) wide_y (term_range h.made words assigns y
            (stands_later two new h.grows y down.stands)).below in
            h.means.value words assigns
            ∙ (λ j. answer ops.Ult (word (wide_x j) (x_is j) ∷ word (wide_y j) (y_is j) ∷ []))
            ∙ less_as_unsigned op w end (value_of new words a) (value_of new words b) is (subst (λ n. n < 2 ^ (w - 1)) x_is
            (omega (arith, small_x, half))) (subst (λ n. n < 2 ^ (w - 1)) y_is (omega (arith, small_y, half)))
            ∙ (λ j. answer op (word (sym wide_a j) (value_of new words a) ∷ word (sym wide_b j) (value_of new words b) ∷ []));
      };
    }
less_builds old one two new op a b x y left right w end (Err stop) is made there_a there_b alike wide carry_a carry_b off_a off_b less g1 up g2 down h =
    record { made = h.made; grows = (grown_on old one new g1 (grown_on one two new g2 (record { made = h.made; grows = h.grows }))).grows; means = tt }

-- ---- words whose sign is 0

top_zero : (v k : ℕ) → v < 2 ^ (1 + k) → bit_at v k ≡ 0 → v < 2 ^ k
top_zero v k below none =
    let q : v / 2 ^ k < 2 = shr_below v 1 k below in
    let z : v / 2 ^ k ≡ 0 = sym (mod-eq_of_lt q) ∙ none in
    let r : v % 2 ^ k < 2 ^ k = mod_below v (2 ^ k) (pow_pos k) in
    let whole : 0 * 2 ^ k + v % 2 ^ k ≡ v = ap (λ n. n * 2 ^ k + v % 2 ^ k) (sym z) ∙ shr_split v k in
    omega (arith, r, whole)

pub nonnegative : (terms : List Term) (term : TermId) (at : ℕ) (wire : Wire) → AreTerms terms → Stands terms term → at + 1 ≡ width_at terms term
    → SameWire terms (Bit term at) wire → wire ≡ Fixed false → IsNonnegative terms term
nonnegative terms term at wire made there top same off words assigns =
    let wide : width_at terms term ≡ 1 + at = omega (arith, top) in
    let k : at ≡ width_at terms term - 1 = omega (arith, top) in
    subst (λ n. value_of terms words term < 2 ^ n) k
    (top_zero (value_of terms words term) at (subst (λ n. value_of terms words term < 2 ^ n) wide (term_range made words assigns term there).below)
    (sym (same.value words assigns) ∙ ap (wire_value terms words) off))

pub same_answers : (terms : List Term) (op op' other : Op) (p q : Parts) → op ≡ op' → p ≡ q → All (Stands terms) (listed p)
    → Fits op (map (width_at terms) (listed p)) →
    (All (Stands terms) (listed q) → Fits op' (map (width_at terms) (listed q)) → AnswersAs terms op' other (listed q)) → AnswersAs terms op other (listed p)
same_answers terms op op' other p q e f stand fits base =
    subst (λ (o : Op). AnswersAs terms o other (listed p)) (sym e)
    (subst (λ (r : Parts). AnswersAs terms op' other (listed r)) (sym f)
    (base (subst (λ (r : Parts). All (Stands terms) (listed r)) f stand) (subst (λ (r : Parts). Fits op' (map (width_at terms) (listed r))) f
    (subst (λ (o : Op). Fits o (map (width_at terms) (listed p))) e fits))))

pub zeros_for_sign : (terms : List Term) (w : ℕ) (a : TermId) → AreTerms terms → IsNonnegative terms a → All (Stands terms) (a ∷ [])
    → Fits (ops.Sext w) (map (width_at terms) (a ∷ [])) → AnswersAs terms (ops.Sext w) (ops.Zext w) (a ∷ [])
zeros_for_sign terms w a made small stand fits = record {
  fits = fits;
  width = refl;
  value = λ words assigns.
      let v = width_at terms a in
      let va = value_of terms words a in
      let there = All-head (Stands terms) a [] stand in
      let below = (term_range made words assigns a there).below in
      let whole : 2 ^ v ≤ 2 ^ w = pow_mono fits.0 in
      sym (rw (signed_pos v va (small words assigns)) (mod-eq_of_lt (omega (arith, below, whole))));
}

pub shift_for_sign : (terms : List Term) (a b : TermId) → AreTerms terms → IsNonnegative terms a → All (Stands terms) (a ∷ b ∷ [])
    → Fits ops.Ashr (map (width_at terms) (a ∷ b ∷ [])) → AnswersAs terms ops.Ashr ops.Lshr (a ∷ b ∷ [])
shift_for_sign terms a b made small stand fits = record {
  fits = fits;
  width = refl;
  value = λ words assigns.
      let v = width_at terms a in
      let va = value_of terms words a in
      let vb = value_of terms words b in
      let there = All-head (Stands terms) a (b ∷ []) stand in
      let below = (term_range made words assigns a there).below in
      let less : va / 2 ^ vb < 2 ^ v = omega (arith, shr_le va vb, below) in
      sym (rw (signed_pos v va (small words assigns)) (mod-eq_of_lt less));
}

-- ---- what was extended

pub extended_of : {terms : List Term} → AreTerms terms → (term part : TermId) (v w : ℕ) → slice_get terms term.0 ≡ Some
    (nodes.Op (ops.Sext v) (parts.One part), w) → IsExtended terms term part
extended_of {terms} made term part v w here =
    let fits = node_fits made term (ops.Sext v) (parts.One part) w here in
    let wide : width_at terms term ≡ v = ap width_in here ∙ node_width made term (ops.Sext v) (parts.One part) w here in
    record {
      stands = All-head (Stands terms) part [] (node_parts made term (ops.Sext v) (parts.One part) w here);
      wider = omega (arith, wide, fits.0);
      value = λ words assigns. node_value made term (ops.Sext v) (parts.One part) w here words
          ∙ ap (λ n. formulas.sext (width_at terms part) n (value_of terms words part)) (sym wide);
    }

pub extended_word_of : (terms : List Term) (term : TermId) (width : ℕ) (word low r : Word) → IsWord terms term word → width ≤ word.width
    → low.width ≡ width → r.value ≡ formulas.sext low.width word.width low.value → r.value ≡ word.value → IsExtendedWord terms term width low
extended_word_of terms term width word low r is wider low_width extended same =
    let wide : width_at terms term ≡ word.width = ap (λ (b : Bits). b.width) (is []) in
    record {
      width_is = low_width;
      wider = omega (arith, wider, wide);
      value = λ words assigns. ap (λ (b : Bits). b.value) (is words) ∙ sym same ∙ extended ∙ (λ j. formulas.sext (low_width j) (sym wide j) low.value);
    }

word_later : (old new : List Term) (id y : TermId) (n : ℕ) (w : Word) → AreTerms old → AreTerms new → Grows old new → Stands old id
    → IsExtendedWord old id n w → Needs old new (operation old (ops.Const w) []) (Ok y) → IsExtended new id y × (width_at new y ≡ n)
word_later old new id y n w was made g there is needs =
    let for = (folds_to_itself old new (ops.Const w) [] (Ok y) made (All-nil (Stands old)) tt needs).means in
    let wide : width_at new id ≡ width_at old id = width_later old new g id there in
    let wide_y : width_at new y ≡ n = for.width ∙ is.width_is in (
      record {
        stands = for.stands;
        wider = omega (arith, wide_y, wide, is.wider);
        value = λ words assigns.
            value_later old new was g words id there
            ∙ is.value words (assigns_later old new g words assigns)
            ∙ (λ j. formulas.sext (sym wide_y j) (sym wide j) (sym (for.value words assigns) j));
      },
      wide_y,
    )

pub narrower_right : (old new : List Term) (a b x y : TermId) (n : ℕ) (w : Word) → AreTerms old → AreTerms new → Stands old a → Stands old b
    → IsExtended old a x → n ≡ width_at old x → IsExtendedWord old b n w → Needs old new (operation old (ops.Const w) []) (Ok y)
    → AreNarrower new a b x y
narrower_right old new a b x y n w was made there_a there_b left wide right needs =
    let g = needs_grows old new (operation old (ops.Const w) []) (Ok y) needs in
    let second = word_later old new b y n w was made g there_b right needs in
    record { left = extended_later old new was g a x there_a left; right = second.0; alike = width_later old new g x left.stands ∙ sym wide ∙ sym second.1 }

pub narrower_left : (old new : List Term) (a b x y : TermId) (n : ℕ) (w : Word) → AreTerms old → AreTerms new → Stands old a → Stands old b
    → IsExtended old b y → n ≡ width_at old y → IsExtendedWord old a n w → Needs old new (operation old (ops.Const w) []) (Ok x)
    → AreNarrower new a b x y
narrower_left old new a b x y n w was made there_a there_b right wide left needs =
    let g = needs_grows old new (operation old (ops.Const w) []) (Ok x) needs in
    let first = word_later old new a x n w was made g there_a left needs in
    record { left = first.0; right = extended_later old new was g b y there_b right; alike = first.1 ∙ wide ∙ sym (width_later old new g y right.stands) }

pub off_more : (wires : List Wire) (m n w : ℕ) → AreOff wires m w → m ≤ n → AreOff wires n w
off_more wires m n w off le = record { each = λ i d from below. off.each i d (omega (arith, from, le)) below }

-- parts that are compared after other terms were added
pub ready_later : (old mid : List Term) (a b : TermId) → Grown old mid → Stands old a → Stands old b → width_at old a ≡ width_at old b → Stands mid a
    × Stands mid b × (width_at mid a ≡ width_at mid b)
ready_later old mid a b g there_a there_b alike = (
  stands_later old mid g.grows a there_a,
  stands_later old mid g.grows b there_b,
  width_later old mid g.grows a there_a ∙ alike
      ∙ sym (width_later old mid g.grows b there_b),
)
