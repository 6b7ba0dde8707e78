-- A reading times a power of two below 2 ^ 64 fits a machine word of 128 bits.
use Rattle.std.proofs.Common.{◌≡◌, ℕ, ◌-◌, ◌^◌, ◌<◌, ◌≤◌, arith, ℤ, pos, negsuc, ◌*ℤ◌, ◌≤ℤ◌, ◌<ℤ◌, FitsSigned, sym, ap, subst, lit<}
use Rattle.std.specs.Prelude.{neg_ℤ, unsigned_abs}
use Rattle.std.specs.Int.{w128, cast_unsigned, cast_signed}
use Rattle.std.proofs.Math.Pow.{pow_mono}
use Rattle.std.proofs.lemmas.Int.{ints, fits_signed_mul, to_z-of_z}

abs_below : (z : ℤ) → neg_ℤ (pos (2 ^ 63)) ≤ℤ z → z <ℤ pos (2 ^ 64) → unsigned_abs z ≤ 2 ^ 64 - 1
abs_below (pos n) least greatest = omega (arith, ints, greatest)
abs_below (negsuc n) least greatest = omega (arith, ints, least)

pub scaled_fits : (z p : ℤ) (n : ℕ) → p ≡ pos (2 ^ n) → neg_ℤ (pos (2 ^ 63)) ≤ℤ z → z <ℤ pos (2 ^ 64) → n < 64 → FitsSigned w128 (z *ℤ p)
scaled_fits z p n e least greatest below =
    subst (λ (q : ℤ). FitsSigned w128 (z *ℤ q)) (sym e)
    (fits_signed_mul w128 z (pos (2 ^ n)) (2 ^ 64 - 1) (2 ^ 63) (abs_below z least greatest) (pow_mono {i = n} {j = 63} (omega arith)) (lit< tt))

-- what the code computes, with its readings of signed bits and back
pub scaled_back : (z p : ℤ) (n : ℕ) → FitsSigned w128 z → FitsSigned w128 p → p ≡ pos (2 ^ n) → neg_ℤ (pos (2 ^ 63)) ≤ℤ z → z <ℤ pos (2 ^ 64) → n < 64 →
    cast_signed w128 (cast_unsigned w128 (cast_signed w128 (cast_unsigned w128 z) *ℤ cast_signed w128 (cast_unsigned w128 p))) ≡ z *ℤ pos (2 ^ n)
scaled_back z p n f g e least greatest below =
    rw (to_z-of_z w128 z f, to_z-of_z w128 p g, to_z-of_z w128 (z *ℤ p) (scaled_fits z p n e least greatest below)) (ap (λ q. z *ℤ q) e)
