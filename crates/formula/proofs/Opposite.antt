-- The opposite of a signed 32-bit number and its magnitude, as the machine computes them on bits.
-- Assumes nothing.
use Prim.Native.Nat.{zero, suc, ◌^◌, ◌<◌}
use native.Mathlib.Omega.{arith}
use mathlib.Core.Path.{◌≡◌, refl, ap, ◌∙◌}
use mathlib.Core.Bool.{true, false, true≢false}
use borrow.Author.Tests.{ltb-true, lt-ltb, le-ltb}
use lib.Dec.{T, leb-suc-zero}
use lib.IntN.{ℤ, pos, negsuc, neg_ℤ, nat_abs, ◌-ℤ◌, +ℤ_idl}
use lib.Signed.{mag, lt_z, non_neg}
use mir.Facts.{to_z-of_z}
use mir.Syntax.{w32}
use mir.Val.{SFits, of_z, to_z}
use Rattle.formula.specs.Causes.{beyond}
use Rattle.formula.specs.Literal.{negative}

-- The bits of the lowest number are those of its magnitude.
pub nat_abs_lowest : (z : ℤ) → of_z w32 z ≡ 2147483648 → nat_abs z ≡ 2147483648
nat_abs_lowest (pos n) bits = bits
nat_abs_lowest (negsuc n) bits = omega arith

-- Every other has its magnitude in the type.
pub nat_abs_other : (z : ℤ) → SFits w32 z → (of_z w32 z ≡ 2147483648 → ⊥) → nat_abs z < 2 ^ 31
nat_abs_other (pos n) fits other = fits.sfits
nat_abs_other (negsuc n) fits other = omega (arith, fits.sfits)

-- So the lowest is the one number beyond 2,147,483,647.
pub beyond_lowest : (z : ℤ) → of_z w32 z ≡ 2147483648 → beyond 2147483647 z ≡ true
beyond_lowest z bits = let size = nat_abs_lowest z bits in lt-ltb 2147483647 (nat_abs z) (omega arith)

pub beyond_other : (z : ℤ) → SFits w32 z → (of_z w32 z ≡ 2147483648 → ⊥) → beyond 2147483647 z ≡ false
beyond_other z fits other = let small = nat_abs_other z fits other in le-ltb 2147483647 (nat_abs z) (omega arith)

-- A number as a callee or an operation reads it back from its bits.
pub bits_opposite : {z : ℤ} → SFits w32 z → pos 0 -ℤ to_z w32 (of_z w32 z) ≡ neg_ℤ z
bits_opposite {z} fits = +ℤ_idl (neg_ℤ (to_z w32 (of_z w32 z))) ∙ ap neg_ℤ (to_z-of_z fits)

pub opposite_fits : (z : ℤ) → nat_abs z < 2 ^ 31 → SFits w32 (neg_ℤ z)
opposite_fits (pos zero) small = record { sfits = omega arith }
opposite_fits (pos (suc n)) small = record { sfits = omega arith }
opposite_fits (negsuc n) small = record { sfits = omega arith }

pub nat_abs_opposite : (z : ℤ) → nat_abs (neg_ℤ z) ≡ nat_abs z
nat_abs_opposite (pos zero) = refl
nat_abs_opposite (pos (suc n)) = refl
nat_abs_opposite (negsuc n) = refl

pub non_neg_opposite : (z : ℤ) → lt_z z (pos 0) ≡ true → T (non_neg (neg_ℤ z))
non_neg_opposite (pos n) below = absurd (let h = ltb-true n 0 below in omega arith)
non_neg_opposite (negsuc n) below = tt

pub non_neg_other : (z : ℤ) → lt_z z (pos 0) ≡ false → T (non_neg z)
non_neg_other (pos n) above = tt
non_neg_other (negsuc n) above = absurd (true≢false above)

pub below_zero_negative : (z : ℤ) → lt_z z (pos 0) ≡ negative z
below_zero_negative (pos n) = leb-suc-zero n
below_zero_negative (negsuc n) = refl

-- A callee reads its argument back from its bits.
pub nat_abs_bits : (z : ℤ) → mag z < 2 ^ 31 → nat_abs (to_z w32 (of_z w32 z)) ≡ nat_abs z
nat_abs_bits z small = ap nat_abs (to_z-of_z {w = w32} {z = z} (record { sfits = small }))
