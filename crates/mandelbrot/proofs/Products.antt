-- The product of two numbers of 32 bits.
use Rattle.std.proofs.Common.{◌≤◌, ◌^◌, ◌≡◌, arith, w32, w64, ℤ, ◌*ℤ◌, FitsSigned, to_z, of_z, mul-le-mul}
use Rattle.std.specs.Int.RustNames.{unsigned_abs}
use Rattle.std.proofs.lemmas.Int.{ints, unsigned_abs-mul, fits_signed_from_abs}

pub narrow_abs : (z : ℤ) → FitsSigned w32 z → unsigned_abs z ≤ 2 ^ 31
narrow_abs z f = omega (arith, ints)

pub wide-narrow : (z : ℤ) → FitsSigned w32 z → to_z w64 (of_z w64 z) ≡ z
wide-narrow z f = omega (arith, ints)

pub product_abs : (a b : ℤ) → FitsSigned w32 a → FitsSigned w32 b → unsigned_abs (a *ℤ b) ≤ 2 ^ 62
product_abs a b f g = omega (arith, unsigned_abs-mul a b, mul-le-mul (narrow_abs a f) (narrow_abs b g))

pub product_fits : (a b : ℤ) → FitsSigned w32 a → FitsSigned w32 b → FitsSigned w64 (a *ℤ b)
product_fits a b f g = fits_signed_from_abs w64 (a *ℤ b) (omega (arith, product_abs a b f g))
