-- A literal and its code as the machine computes them on bits. Assumes nothing.
use Prim.Native.Nat.{◌+◌, ◌*◌, ◌^◌, ◌≤◌, ◌<◌}
use native.Mathlib.Omega.{arith}
use mathlib.Core.Path.{◌≡◌, refl, sym, ◌∙◌, ap}
use mathlib.Core.Bool.{true, false, true≢false}
use borrow.Author.Tests.{ltb-true}
use lib.Dec.{leb-suc-suc}
use lib.IntN.{ℤ, pos, negsuc, neg_ℤ, nat_abs, ◌-ℤ◌}
use lib.Signed.{mag, lt_z}
use mir.Facts.{to_z-of_z}
use mir.Syntax.{w32}
use mir.Val.{SFits, of_z, to_z}
use Rattle.formula.specs.Formula.{max_unknowns}
use Rattle.formula.specs.Causes.{beyond}
use Rattle.formula.proofs.Opposite.{bits_opposite, opposite_fits, nat_abs_opposite}
use Rattle.codes.specs.Codes.{code_of}

-- A callee reads its argument back from its bits.
pub bits : {A : Type 0} (f : ℤ → A) (z : ℤ) → mag z < 2 ^ 31 → f (to_z w32 (of_z w32 z)) ≡ f z
bits f z small = ap f (to_z-of_z {w = w32} {z = z} (record { sfits = small }))

module _ (z : ℤ) (fits : SFits w32 z) (small : nat_abs z ≤ max_unknowns) where
  pub opposite_fits_word : SFits w32 (pos 0 -ℤ to_z w32 (of_z w32 z))
  opposite_fits_word = rw (bits_opposite fits) (opposite_fits z (omega arith))

  pub opposite_bits : to_z w32 (of_z w32 (pos 0 -ℤ to_z w32 (of_z w32 z))) ≡ neg_ℤ z
  opposite_bits = to_z-of_z opposite_fits_word ∙ bits_opposite fits

  pub opposite_name : nat_abs (to_z w32 (of_z w32 (pos 0 -ℤ to_z w32 (of_z w32 z)))) ≡ nat_abs z
  opposite_name = ap nat_abs opposite_bits ∙ nat_abs_opposite z

  pub name_bits : nat_abs (to_z w32 (of_z w32 z)) ≡ nat_abs z
  name_bits = ap nat_abs (to_z-of_z fits)

pub code_of_negative : (z : ℤ) → lt_z z (pos 0) ≡ true → 2 * nat_abs z + 1 ≡ code_of z
code_of_negative (pos n) below = absurd (let h = ltb-true n 0 below in omega arith)
code_of_negative (negsuc n) below = refl

pub code_of_positive : (z : ℤ) → lt_z z (pos 0) ≡ false → 2 * nat_abs z ≡ code_of z
code_of_positive (pos n) above = refl
code_of_positive (negsuc n) above = absurd (true≢false above)

-- ---- whether a literal names an unknown above the last, by its sign

pub beyond_negative : (z : ℤ) → lt_z z (pos 0) ≡ true → lt_z z (negsuc 127) ≡ beyond max_unknowns z
beyond_negative (pos n) below = absurd (let h = ltb-true n 0 below in omega arith)
beyond_negative (negsuc n) below = sym (leb-suc-suc 128 n)

pub beyond_positive : (z : ℤ) → lt_z z (pos 0) ≡ false → lt_z (pos 128) z ≡ beyond max_unknowns z
beyond_positive (pos n) above = refl
beyond_positive (negsuc n) above = absurd (true≢false above)
