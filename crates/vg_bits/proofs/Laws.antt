-- Laws of the operations, for the crates above: each result is below 2 ^ w, the edges of shifts and divisions, signed readings, and words cut and joined again.
use Rattle.std.proofs.Common.{◌≡◌, ℕ, ◌+◌, ◌-◌, ◌*◌, ◌/◌, ◌%◌, ◌^◌, ◌<◌, ◌≤◌, refl, sym, ap, subst, ◌∙◌, arith, inl, inr, true, false}
use Rattle.std.specs.Prelude.{ℤ, pos, negsuc, ◌-ℤ◌, Bool}
use Rattle.std.specs.Int.{int_div_euclid}
use Rattle.std.proofs.Math.Nat.{div-one, div-eq_of_lt, mod-eq_of_lt, mod-add-mod, mod-le, zero-mod, div-le_self}
use Rattle.std.proofs.Math.Pow.{pow_mono}
use Rattle.std.proofs.Math.Bridge.{le_prop}
use Rattle.std.proofs.lemmas.Bool.{cases_lt}
use Rattle.std.proofs.lemmas.Nat.{pow_pos, mod_below, mod_low, shr_high}
use Rattle.vg_bits.specs.Words as words
use Rattle.vg_bits.specs.declared.word.Word.{Word}
use Rattle.vg_bits.proofs.Masks.{shifted_off, shifted_out, sum_below}
use Rattle.vg_bits.proofs.Machine.{signed_pos, signed_neg, halves}

-- ---- a word is its width and its value

made : (w v : ℕ) → 0 < w → w ≤ 64 → v < 2 ^ w → Word
made w v some most below = record { width = w; value = v; not_empty = some; at_most_64 = most; in_range = below }

same_facts : (w v : ℕ) (p p' : 0 < w) (q q' : w ≤ 64) (r r' : v < 2 ^ w) → made w v p q r ≡ made w v p' q' r'
same_facts w v p p' q q' r r' =
    ap (λ (x : 0 < w). made w v x q r) (le_prop p p')
    ∙ ap (λ (x : w ≤ 64). made w v p' x r) (le_prop q q')
    ∙ ap (λ (x : v < 2 ^ w). made w v p' q' x) (le_prop r r')

same_made : (w w' v v' : ℕ) (p : 0 < w) (q : w ≤ 64) (r : v < 2 ^ w) (p' : 0 < w') (q' : w' ≤ 64) (r' : v' < 2 ^ w') → w ≡ w' → v ≡ v'
    → made w v p q r ≡ made w' v' p' q' r'
same_made w w' v v' p q r p' q' r' width value =
    subst (λ (x : ℕ). (p' : 0 < x) (q' : x ≤ 64) (r' : v' < 2 ^ x) → made w v p q r ≡ made x v' p' q' r') width
    (subst (λ (y : ℕ). (p' : 0 < w) (q' : w ≤ 64) (r' : y < 2 ^ w) → made w v p q r ≡ made w y p' q' r') value
    (λ p' q' r'. same_facts w v p p' q q' r r'))
    p' q' r'

pub same_word : (a b : Word) → a.width ≡ b.width → a.value ≡ b.value → a ≡ b
unfolding made
same_word a b width value =
    same_made a.width b.width a.value b.value a.not_empty a.at_most_64 a.in_range b.not_empty b.at_most_64 b.in_range width value

-- ---- each result is below 2 ^ w

pub reduced-below : (w : ℕ) (z : ℤ) → words.reduced w z < 2 ^ w
reduced-below w (pos n) = mod_below n (2 ^ w) (pow_pos w)
reduced-below w (negsuc n) = omega (arith, pow_pos w)

pub add-below : (w a b : ℕ) → words.add w a b < 2 ^ w
add-below w a b = mod_below (a + b) (2 ^ w) (pow_pos w)

pub sub-below : (w a b : ℕ) → words.sub w a b < 2 ^ w
sub-below w a b = reduced-below w (pos a -ℤ pos b)

pub mul-below : (w a b : ℕ) → words.mul w a b < 2 ^ w
mul-below w a b = mod_below (a * b) (2 ^ w) (pow_pos w)

pub udiv-below : (w a b : ℕ) → a < 2 ^ w → words.udiv w a b < 2 ^ w
udiv-below w a b below = grind (arith, div-le_self a b, pow_pos w)

pub urem-below : (w a b : ℕ) → a < 2 ^ w → words.urem a b < 2 ^ w
urem-below w a b below = grind (arith, mod-le a b)

pub not-below : (w a : ℕ) → words.not w a < 2 ^ w
not-below w a = omega (arith, pow_pos w)

pub shl-below : (w a b : ℕ) → words.shl w a b < 2 ^ w
shl-below w a b = mod_below (a * 2 ^ b) (2 ^ w) (pow_pos w)

pub lshr-below : (w a b : ℕ) → a < 2 ^ w → words.lshr a b < 2 ^ w
lshr-below w a b below = omega (arith, div-le_self a (2 ^ b))

pub ashr-below : (w a b : ℕ) → words.ashr w a b < 2 ^ w
ashr-below w a b = reduced-below w (int_div_euclid (words.signed w a) (pos (2 ^ b)))

pub bit-below : (holds : Bool) → words.bit holds < 2 ^ 1
bit-below true = omega arith
bit-below false = omega arith

pub concat-below : (v w high low : ℕ) → high < 2 ^ v → low < 2 ^ w → words.concat w high low < 2 ^ (v + w)
concat-below v w high low p q = sum_below v w high low p q

pub extract-below : (from w a : ℕ) → words.extract from w a < 2 ^ w
extract-below from w a = mod_below (a / 2 ^ from) (2 ^ w) (pow_pos w)

pub sext-below : (v w a : ℕ) → words.sext v w a < 2 ^ w
sext-below v w a = reduced-below w (words.signed v a)

-- ---- sums

-- to reduce a part of a sum on the way changes nothing
pub add-reduced : (w a b : ℕ) → words.add w (a % 2 ^ w) b ≡ words.add w a b
add-reduced w a b = mod-add-mod a (2 ^ w) b

pub add-comm : (w a b : ℕ) → words.add w a b ≡ words.add w b a
add-comm w a b = let e : a + b ≡ b + a = omega arith in ap (λ n. n % 2 ^ w) e

pub add-assoc : (w a b c : ℕ) → words.add w (words.add w a b) c ≡ words.add w a (words.add w b c)
add-assoc w a b c =
    let e : a + b + c ≡ b + c + a = omega arith in
    add-reduced w (a + b) c ∙ ap (λ n. n % 2 ^ w) e ∙ sym (add-reduced w (b + c) a) ∙ add-comm w (words.add w b c) a

-- ---- signed readings

-- the word of a word's signed reading is that word
pub reduced-signed : (w a : ℕ) → a < 2 ^ w → words.reduced w (words.signed w a) ≡ a
reduced-signed w a below =
    elim (cases_lt a (2 ^ (w - 1))) [
      | inl low ↦ rw (signed_pos w a low) (mod-eq_of_lt below)
      | inr high ↦
          let c = 2 ^ w - 1 - a in
          let left : c < 2 ^ w = omega arith in
          let e : c % 2 ^ w ≡ c = mod-eq_of_lt left in
          rw (signed_neg w a high below, e) (omega arith)
    ]

-- an extension with the sign keeps the signed reading
pub signed-sext : (v w a : ℕ) → 0 < v → v ≤ w → a < 2 ^ v → words.signed w (words.sext v w a) ≡ words.signed v a
signed-sext v w a some wider below =
    let half : 2 ^ (v - 1) ≤ 2 ^ (w - 1) = pow_mono (omega arith) in
    let halves_v = halves v some in
    let halves_w = halves w (omega arith) in
    elim (cases_lt a (2 ^ (v - 1))) [
      | inl low ↦
          let e : words.sext v w a ≡ a = rw (signed_pos v a low) (mod-eq_of_lt (omega arith)) in
          ap (words.signed w) e ∙ signed_pos w a (omega arith) ∙ sym (signed_pos v a low)
      | inr high ↦
          let c = 2 ^ v - 1 - a in
          let small : c < 2 ^ (w - 1) = omega arith in
          let m : c % 2 ^ w ≡ c = mod-eq_of_lt (omega arith) in
          let e : words.sext v w a ≡ 2 ^ w - 1 - c = rw (signed_neg v a high below, m) refl in
          let back : 2 ^ w - 1 - (2 ^ w - 1 - c) ≡ c = omega arith in
          ap (words.signed w) e ∙ signed_neg w (2 ^ w - 1 - c) (omega arith) (omega arith) ∙ ap negsuc back ∙ sym (signed_neg v a high below)
    ]

-- the sign in every bit, where the shift leaves nothing else
pub ashr-far_positive : (w a b : ℕ) → a < 2 ^ (w - 1) → w ≤ b → words.ashr w a b ≡ 0
ashr-far_positive w a b low h =
    let l : a < 2 ^ b = omega (arith, pow_mono {i = w - 1} {j = b} (omega arith)) in
    rw (signed_pos w a low, div-eq_of_lt l) (zero-mod (2 ^ w))

pub ashr-far_negative : (w a b : ℕ) → 2 ^ (w - 1) ≤ a → a < 2 ^ w → w ≤ b → words.ashr w a b ≡ words.all_ones w
ashr-far_negative w a b high below h =
    let l : 2 ^ w - 1 - a < 2 ^ b = omega (arith, pow_mono {i = w} {j = b} h) in
    rw (signed_neg w a high below, div-eq_of_lt l, zero-mod (2 ^ w)) (omega arith)

-- ---- shifts by the width or more

pub shl-far : (w a b : ℕ) → w ≤ b → words.shl w a b ≡ 0
shl-far w a b h = sym (shifted_off w a b h)

pub lshr-far : (w a b : ℕ) → a < 2 ^ w → w ≤ b → words.lshr a b ≡ 0
lshr-far w a b below h = sym (shifted_out w a b below h)

-- ---- cut and joined

-- the low part of a joined word
pub extract_low-concat : (h w l : ℕ) → l < 2 ^ w → words.extract 0 w (words.concat w h l) ≡ l
extract_low-concat h w l below = rw (div-one (h * 2 ^ w + l)) (mod_low h w l below)

-- the high part of a joined word
pub extract_high-concat : (v h w l : ℕ) → h < 2 ^ v → l < 2 ^ w → words.extract w v (words.concat w h l) ≡ h
extract_high-concat v h w l high below = ap (λ n. n % 2 ^ v) (shr_high h w l below) ∙ mod-eq_of_lt high
