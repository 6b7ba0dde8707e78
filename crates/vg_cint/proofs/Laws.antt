-- Laws of words and the integers that they stand for, for the crates above.
use Rattle.std.proofs.Common.{◌≡◌, ℕ, ◌+◌, ◌-◌, ◌%◌, ◌^◌, ◌<◌, Bool, true, false, ℤ, suc, zero, pos, negsuc, refl, ap, ◌∙◌, arith}
use Rattle.std.specs.Prelude.{◌&&◌, if◌then◌else◌, neg_ℤ, int_le, IsTrue}
use Rattle.std.proofs.Math.Nat.{mod-eq_of_lt}
use Rattle.std.proofs.lemmas.Bool.{and_parts, leb-true}
use Rattle.std.proofs.lemmas.Nat.{pow_pos}
use Rattle.vg_bits.specs.Words as bits
use Rattle.vg_bits.proofs.Laws.{reduced-below}
use Rattle.vg_bits.proofs.Machine.{halves, signed_pos, signed_neg}
use Rattle.vg_core.specs.declared.types.Integer.{Integer}
use Rattle.vg_cint.specs.Types.{width}
use Rattle.vg_cint.specs.Values.{reading, word_of, can_hold}

pub width_some : (t : Integer) → 0 < width t
width_some t = grind arith

-- the word of an integer is below 2 ^ width
pub word_of_below : (t : Integer) (z : ℤ) → word_of t z < 2 ^ width t
unfolding word_of
word_of_below t z = reduced-below (width t) z

above_least : (k n : ℕ) → int_le (neg_ℤ (pos k)) (negsuc n) ≡ true → n < k
above_least zero n h = cc
above_least (suc k) n h = omega (arith, leb-true n k h)

signed_kept : (w : ℕ) (z : ℤ) → 0 < w → int_le (neg_ℤ (pos (2 ^ (w - 1)))) z ≡ true → int_le z (pos (2 ^ (w - 1) - 1)) ≡ true →
    bits.signed w (bits.reduced w z % 2 ^ w) ≡ z
signed_kept w (pos n) some least greatest =
    let half : 2 ^ w ≡ 2 ^ (w - 1) + 2 ^ (w - 1) = halves w some in
    let low : n < 2 ^ (w - 1) = omega (arith, leb-true n (2 ^ (w - 1) - 1) greatest, pow_pos (w - 1)) in
    let e : n % 2 ^ w ≡ n = mod-eq_of_lt (omega arith) in
    rw (e, e) (signed_pos w n low)
signed_kept w (negsuc n) some least greatest =
    let half : 2 ^ w ≡ 2 ^ (w - 1) + 2 ^ (w - 1) = halves w some in
    let low : n < 2 ^ (w - 1) = above_least (2 ^ (w - 1)) n least in
    let e : n % 2 ^ w ≡ n = mod-eq_of_lt (omega arith) in
    let c : (2 ^ w - 1 - n) % 2 ^ w ≡ 2 ^ w - 1 - n = mod-eq_of_lt (omega arith) in
    let back : 2 ^ w - 1 - (2 ^ w - 1 - n) ≡ n = omega arith in
    rw (e, c) (signed_neg w (2 ^ w - 1 - n) (omega arith) (omega arith) ∙ ap negsuc back)

unsigned_kept : (w : ℕ) (z : ℤ) → int_le (pos 0) z ≡ true → int_le z (pos (2 ^ w - 1)) ≡ true → pos (bits.reduced w z % 2 ^ w) ≡ z
unsigned_kept w (pos n) least greatest =
    let low : n < 2 ^ w = omega (arith, leb-true n (2 ^ w - 1) greatest, pow_pos w) in
    let e : n % 2 ^ w ≡ n = mod-eq_of_lt low in
    rw (e, e) refl
unsigned_kept w (negsuc n) least greatest = cc

kept_at : (b : Bool) (w : ℕ) (z : ℤ) → 0 < w →
    (int_le (if b then neg_ℤ (pos (2 ^ (w - 1))) else pos 0) z && int_le z (if b then pos (2 ^ (w - 1) - 1) else pos (2 ^ w - 1))) ≡ true →
    (if b then bits.signed w (bits.reduced w z % 2 ^ w) else pos (bits.reduced w z % 2 ^ w)) ≡ z
kept_at true w z some h = let both = and_parts _ _ h in signed_kept w z some both.0 both.1
kept_at false w z some h = let both = and_parts _ _ h in unsigned_kept w z both.0 both.1

-- a type keeps a value that it can hold
pub kept : (t : Integer) (z : ℤ) → IsTrue (can_hold t z) → reading t (word_of t z) ≡ z
unfolding reading word_of can_hold
kept t z h = kept_at t.signed (width t) z (width_some t) h
