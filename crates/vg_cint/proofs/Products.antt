-- Products: at an unsigned type the words' formula is the whole numbers', and at a signed one an `i128` holds them.
use Rattle.std.proofs.Common.{◌≡◌, ℕ, ◌≤◌, ◌^◌, refl, false, Ok, arith, ℤ, pos, negsuc, ◌*ℤ◌, FitsSigned, lit<}
use Rattle.std.specs.Prelude.{unsigned_abs}
use Rattle.std.specs.Int.{w64, w128}
use Rattle.std.proofs.lemmas.Int.{fits_signed_mul}
use Rattle.vg_bits.specs.Words as bits
use Rattle.vg_core.specs.declared.types.Integer.{Integer}
use Rattle.vg_cint.specs.Types.{width}
use Rattle.vg_cint.specs.Values.{low, reading, word_of, fits}
use Rattle.vg_cint.specs.Operators.{multiply}

pub unsigned_product : (t : Integer) (a b : ℕ) → t.signed ≡ false → multiply t a b ≡ Ok (bits.mul (width t) (low t a) (low t b))
unfolding reading word_of fits
unsigned_product t a b e = rw e refl

abs_at_most : (z : ℤ) → FitsSigned w64 z → unsigned_abs z ≤ 2 ^ 63
abs_at_most (pos n) fits = omega (arith, fits.sfits)
abs_at_most (negsuc n) fits = omega (arith, fits.sfits)

pub product_fits : (x y : ℤ) → FitsSigned w64 x → FitsSigned w64 y → FitsSigned w128 (x *ℤ y)
product_fits x y p q = fits_signed_mul w128 x y (2 ^ 63) (2 ^ 63) (abs_at_most x p) (abs_at_most y q) (lit< tt)
