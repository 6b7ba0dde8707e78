-- Terms as a term and a constant.
use Rattle.std.proofs.Common.{◌≡◌, ℕ, ◌+◌, ◌-◌, ◌%◌, ◌<◌, ◌≤◌, ◌^◌, List, [], ◌∷◌, slice_get, Some, Result, Ok, Err, All, refl, sym, ap, subst, ◌∙◌, arith}
use Rattle.std.proofs.Math.Nat.{add-mod-mod}
use Rattle.std.proofs.Math.Pow.{pow_mono}
use Rattle.std.proofs.lemmas.Nat.{pow_pos}
use Rattle.vg_bits.specs.Words as words
use Rattle.vg_bits.specs.declared.word.Word.{Word}
use Rattle.vg_bits.proofs.Machine.{sub-is}
use Rattle.vg_term.specs.Operations.{Bits}
use Rattle.vg_term.specs.Terms.{Term, AreTerms, Stands, width_at, width_in}
use Rattle.vg_term.specs.Value.{value_of}
use Rattle.vg_term.specs.Folding.{Folds, StandsFor, IsWord}
use Rattle.vg_term.specs.Wiring.{Grown}
use Rattle.vg_term.specs.declared.node.TermId.{TermId}
use Rattle.vg_term.specs.declared.node.Op.TheVariants as ops
use Rattle.vg_term.specs.declared.node.Parts.TheVariants as kinds
use Rattle.vg_term.specs.declared.node.Node.TheVariants as nodes
use Rattle.vg_term.specs.declared.stops.TermStop.{TermStop}
use Rattle.vg_term.proofs.Made.{is_made}
use Rattle.vg_term.proofs.Ranges.{term_range}
use Rattle.vg_term.proofs.Wires.{grown_on, width_later, value_later, assigns_later}
use Rattle.vg_simp.specs.Ranges.{IsWithin}
use Rattle.vg_simp.specs.Sums.{IsSum, IsWideSum, IsWidened, IsSumOf, BuildsSum, IsSumAs}
use Rattle.vg_simp.specs.Passing.{Simplifies}
use Rattle.vg_simp.specs.declared.range.Range.{Range}
use Rattle.vg_simp.specs.declared.summing.Sum.{Sum}
use Rattle.vg_simp.proofs.Sames.{true_before}
use Rattle.vg_simp.proofs.Ranges.{add_plain, wrapped_once}
use Rattle.vg_simp.proofs.Telling.{op_value, left_stands, right_stands}

abbrev pub sum : TermId → Word → Sum
sum base word = record { base = base; word = word }

-- ---- numbers

pub widened_plain : (range : Range) (narrow wide : Word) (room mask : ℕ) → narrow.width ≤ wide.width → mask ≡ words.all_ones narrow.width
    → room ≡ mask - narrow.value → range.high ≤ room → wide.value ≡ narrow.value → IsWidened range narrow wide
widened_plain range narrow wide room mask wider ones is high same = record {
  each = λ n below inside.
      let p : 2 ^ narrow.width ≤ 2 ^ wide.width = pow_mono wider in
      let small : n + narrow.value < 2 ^ narrow.width = omega (arith, inside.most, high, is, ones, narrow.in_range) in
      add_plain narrow.width n narrow.value small ∙ ap (λ v. n + v) (sym same) ∙ sym (add_plain wide.width n wide.value (omega (arith, small, same, p)));
}

pub widened_wrapped : (range : Range) (narrow wide : Word) (room mask ones : ℕ) → narrow.width ≤ wide.width → mask ≡ words.all_ones narrow.width
    → room ≡ mask - narrow.value → room < range.low → ones ≡ words.all_ones wide.width → wide.value ≡ ones - room → IsWidened range narrow wide
widened_wrapped range narrow wide room mask ones wider mask_is is low ones_is value = record {
  each = λ n below inside.
      let p : 2 ^ narrow.width ≤ 2 ^ wide.width = pow_mono wider in
      let some = pow_pos wide.width in
      let left : words.add narrow.width n narrow.value ≡ n + narrow.value - 2 ^ narrow.width =
      wrapped_once (2 ^ narrow.width) (n + narrow.value) (omega (arith, inside.least, low, is, mask_is, narrow.in_range))
      (omega (arith, below, narrow.in_range)) in
      let right : words.add wide.width n wide.value ≡ n + wide.value - 2 ^ wide.width =
      wrapped_once (2 ^ wide.width) (n + wide.value) (omega (arith, inside.least, low, is, mask_is, ones_is, value, narrow.in_range, p, some))
      (omega (arith, below, is, mask_is, ones_is, value, narrow.in_range, p, some)) in
      left ∙ (let e : n + narrow.value - 2 ^ narrow.width ≡ n + wide.value - 2 ^ wide.width =
      omega (arith, inside.least, low, is, mask_is, ones_is, value, narrow.in_range, below, p, some) in e) ∙ sym right;
}

-- adding what was reduced
add_reduced : (p m n : ℕ) → (m + n % p) % p ≡ (m + n) % p
add_reduced p m n = add-mod-mod m n p

turned_sum : (w m c : ℕ) → c < 2 ^ w → words.sub w m c ≡ words.add w m (words.sub w 0 c)
turned_sum w m c below =
    let le : c ≤ 2 ^ w = omega (arith, below) in
    let zero : 0 + (2 ^ w - c) ≡ 2 ^ w - c = omega arith in
    sub-is w m c le
    ∙ sym (add_reduced (2 ^ w) m (2 ^ w - c))
    ∙ ap (λ n. (m + n) % 2 ^ w) (sym (sub-is w 0 c le ∙ ap (λ n. n % 2 ^ w) zero))

add_swapped : (w m n : ℕ) → words.add w m n ≡ words.add w n m
add_swapped w m n = ap (λ k. k % 2 ^ w) (let e : m + n ≡ n + m = omega arith in e)

-- m + c + d, reduced twice
add_twice : (w m c d : ℕ) → words.add w (words.add w m c) d ≡ words.add w m (words.add w c d)
add_twice w m c d =
    add_swapped w (words.add w m c) d
    ∙ add_reduced (2 ^ w) d (m + c)
    ∙ ap (λ k. k % 2 ^ w) (let e : d + (m + c) ≡ m + (c + d) = omega arith in e)
    ∙ sym (add_reduced (2 ^ w) m (c + d))

-- ---- a term as a sum

word_width : (terms : List Term) (id : TermId) (word : Word) → IsWord terms id word → word.width ≡ width_at terms id
word_width terms id word is = sym (ap (λ (b : Bits). b.width) (is []))

word_value : (terms : List Term) (id : TermId) (word : Word) → IsWord terms id word → (ws : List Word) → value_of terms ws id ≡ word.value
word_value terms id word is ws = ap (λ (b : Bits). b.value) (is ws)

module _ {terms : List Term} (made : AreTerms terms) (id a b : TermId) (w : ℕ) (word : Word) where
  pub sum_right : slice_get terms id.0 ≡ Some (nodes.Op ops.Add (kinds.Two a b), w) → IsWord terms b word → IsSum terms id (sum a word)
  sum_right here is =
      let m = is_made made id.0 ops.Add (kinds.Two a b) w here in
      let wide : width_at terms a ≡ width_at terms id = sym (ap width_in here ∙ m.width) in
      let wb : word.width ≡ width_at terms a = word_width terms b word is ∙ sym m.fits in
      record {
        stands = left_stands made id ops.Add (kinds.Two a b) w here a b refl;
        width = wide;
        word_width = wb ∙ wide;
        value = λ ws assigns. op_value made id ops.Add (kinds.Two a b) w here ws
            ∙ (λ j. words.add (sym wb j) (value_of terms ws a) (word_value terms b word is ws j));
      }

  pub sum_left : slice_get terms id.0 ≡ Some (nodes.Op ops.Add (kinds.Two a b), w) → IsWord terms a word → IsSum terms id (sum b word)
  sum_left here is =
      let m = is_made made id.0 ops.Add (kinds.Two a b) w here in
      let wide : width_at terms a ≡ width_at terms id = sym (ap width_in here ∙ m.width) in
      let wa : word.width ≡ width_at terms a = word_width terms a word is in
      record {
        stands = right_stands made id ops.Add (kinds.Two a b) w here a b refl;
        width = sym m.fits ∙ wide;
        word_width = wa ∙ wide;
        value = λ ws assigns.
            op_value made id ops.Add (kinds.Two a b) w here ws ∙ (λ j. words.add (sym wa j) (word_value terms a word is ws j) (value_of terms ws b))
            ∙ add_swapped word.width word.value (value_of terms ws b);
      }

  pub sum_less : slice_get terms id.0 ≡ Some (nodes.Op ops.Sub (kinds.Two a b), w) → IsWord terms b word → (turned : Word) → turned.width ≡ word.width
      → turned.value ≡ words.sub word.width 0 word.value → IsSum terms id (sum a turned)
  sum_less here is turned same value =
      let m = is_made made id.0 ops.Sub (kinds.Two a b) w here in
      let wide : width_at terms a ≡ width_at terms id = sym (ap width_in here ∙ m.width) in
      let wb : word.width ≡ width_at terms a = word_width terms b word is ∙ sym m.fits in
      record {
        stands = left_stands made id ops.Sub (kinds.Two a b) w here a b refl;
        width = wide;
        word_width = same ∙ wb ∙ wide;
        value = λ ws assigns.
            op_value made id ops.Sub (kinds.Two a b) w here ws
            ∙ (λ j. words.sub (sym wb j) (value_of terms ws a) (word_value terms b word is ws j))
            ∙ turned_sum word.width (value_of terms ws a) word.value word.in_range
            ∙ (λ j. words.add (sym same j) (value_of terms ws a) (sym value j));
      }

pub sum_itself : (terms : List Term) (s : Sum) → Stands terms s.base → width_at terms s.base ≡ s.word.width → IsSumAs terms s s
sum_itself terms s stands width = record { stands = stands; width = width; word_width = refl; value = λ ws assigns. refl }

pub sum_flattened : (terms : List Term) (s inner : Sum) (word : Word) → width_at terms s.base ≡ s.word.width → IsSum terms s.base inner
    → word.width ≡ inner.word.width → word.value ≡ words.add inner.word.width inner.word.value s.word.value → IsSumAs terms s (sum inner.base word)
sum_flattened terms s inner word width is same value =
    let k : inner.word.width ≡ s.word.width = is.word_width ∙ width in
    record {
      stands = is.stands;
      width = is.width ∙ sym is.word_width ∙ sym same;
      word_width = same ∙ k;
      value = λ ws assigns.
          (λ j. words.add (sym k j) (is.value ws assigns j) s.word.value)
          ∙ add_twice inner.word.width (value_of terms ws inner.base) inner.word.value s.word.value
          ∙ (λ j. words.add (sym same j) (value_of terms ws inner.base) (sym value j));
    }

pub sum_wide : (terms : List Term) (facts : List TermId) (id : TermId) (s other : Sum) → IsSum terms id s → IsSumAs terms s other
    → IsWideSum terms facts id other
sum_wide terms facts id s other is flat = record {
  stands = flat.stands;
  width = omega (arith, flat.width);
  word_width = flat.word_width ∙ is.word_width;
  value = λ ws assigns all. is.value ws assigns ∙ flat.value ws assigns;
}

pub zext_wide : {terms : List Term} → AreTerms terms → (facts : List TermId) (id part : TermId) (wide w : ℕ) (s : Sum) (range : Range) (word : Word)
    → slice_get terms id.0 ≡ Some (nodes.Op (ops.Zext wide) (kinds.One part), w) → Stands terms part → IsSum terms part s
    → IsWithin terms facts s.base range →
    word.width ≡ width_at terms id → IsWidened range s.word word → IsWideSum terms facts id (sum s.base word)
zext_wide {terms} made facts id part wide w s range word here there is within same widened =
    let m = is_made made id.0 (ops.Zext wide) (kinds.One part) w here in
    let k : s.word.width ≡ width_at terms s.base = is.word_width ∙ sym is.width in
    let outer : width_at terms id ≡ wide = ap width_in here ∙ m.width in
    record {
      stands = is.stands;
      width = omega (arith, is.width, m.fits.0, outer, same);
      word_width = same;
      value = λ ws assigns all.
          op_value made id (ops.Zext wide) (kinds.One part) w here ws
          ∙ is.value ws assigns
          ∙ widened.each (value_of terms ws s.base) (subst (λ n. value_of terms ws s.base < 2 ^ n) (sym k)
          (term_range made ws assigns s.base is.stands).below) (within.value ws assigns all);
    }

pub zext_wider : {terms : List Term} → AreTerms terms → (id part : TermId) (wide w : ℕ) (s : Sum)
    → slice_get terms id.0 ≡ Some (nodes.Op (ops.Zext wide) (kinds.One part), w) → IsSum terms part s → s.word.width ≤ width_at terms id
zext_wider {terms} made id part wide w s here is =
    let m = is_made made id.0 (ops.Zext wide) (kinds.One part) w here in
    omega (arith, is.word_width, m.fits.0, ap width_in here, m.width)

-- ---- a sum is built

pub built_sum : (old mid last new : List Term) (s : Sum) (wide constant id : TermId) → AreTerms old → Stands old s.base → Grown old mid
    → StandsFor mid wide (ops.Zext s.word.width) (s.base ∷ []) → Grown mid last → StandsFor last constant (ops.Const s.word) [] → Grown last new →
    StandsFor new id ops.Add (wide ∷ constant ∷ []) → IsSumOf new id s
built_sum old mid last new s wide constant id made stands first is_wide second is_constant third is_sum =
    let mid_new = grown_on mid last new second third in
    let old_new = grown_on old mid new first mid_new in
    let k : width_at new wide ≡ s.word.width = width_later mid new mid_new.grows wide is_wide.stands ∙ is_wide.width in
    record {
      stands = is_sum.stands;
      width = is_sum.width ∙ k;
      value = λ ws assigns.
          let at_mid = assigns_later mid new mid_new.grows ws assigns in
          let at_last = assigns_later last new third.grows ws assigns in
          let x : value_of new ws wide ≡ value_of new ws s.base =
          value_later mid new first.made mid_new.grows ws wide is_wide.stands ∙ is_wide.value ws at_mid
          ∙ value_later old mid made first.grows ws s.base stands ∙ sym (value_later old new made old_new.grows ws s.base stands) in
          let c : value_of new ws constant ≡ s.word.value = value_later last new second.made third.grows ws constant is_constant.stands
          ∙ is_constant.value ws at_last in
          is_sum.value ws assigns ∙ (λ j. words.add (k j) (x j) (c j));
    }

pub builds_sum : (old mid last new : List Term) (s : Sum) (wide constant : TermId) (result : Result TermId TermStop) → AreTerms old
    → Stands old s.base → Grown old mid → StandsFor mid wide (ops.Zext s.word.width) (s.base ∷ []) → Grown mid last
    → StandsFor last constant (ops.Const s.word) [] →
    AreTerms new → Folds last new ops.Add (wide ∷ constant ∷ []) result → BuildsSum old new s result
builds_sum old mid last new s wide constant (Ok id) made stands first is_wide second is_constant after folds =
    let third : Grown last new = record { made = after; grows = folds.grows } in
    record {
      grown = grown_on old mid new first (grown_on mid last new second third);
      is_sum =
          built_sum old mid last new s wide constant id made stands first is_wide second is_constant third folds.means;
    }
builds_sum old mid last new s wide constant (Err stop) made stands first is_wide second is_constant after folds =
    record { grown = grown_on old mid new first (grown_on mid last new second (record { made = after; grows = folds.grows })); is_sum = tt }

pub wide_sum_simplifies : (old new : List Term) (facts : List TermId) (id : TermId) (s : Sum) (result : Result TermId TermStop) → AreTerms old
    → All (Stands old) facts → Stands old id → IsWideSum old facts id s → BuildsSum old new s result → Simplifies old new facts id result
wide_sum_simplifies old new facts id s (Ok other) made stand stands wide builds = record {
  grown = builds.grown;
  same = record {
    stands = builds.is_sum.stands;
    width = builds.is_sum.width ∙ wide.word_width ∙ sym (width_later old new builds.grown.grows id stands);
    value = λ ws assigns all.
        let g = builds.grown.grows in
        builds.is_sum.value ws assigns
        ∙ ap (λ n. words.add s.word.width n s.word.value) (value_later old new made g ws s.base wide.stands)
        ∙ sym (wide.value ws (assigns_later old new g ws assigns) (true_before old new made g ws facts stand all))
        ∙ sym (value_later old new made g ws id stands);
  };
}
wide_sum_simplifies old new facts id s (Err stop) made stand stands wide builds = record { grown = builds.grown; same = tt }
