-- What the new sheet changes: exact halves alone. Assumes nothing.
use Prim.Native.Nat.{ℕ, ◌+◌, ◌-◌, ◌/◌, ◌%◌, ◌<◌, ◌≤◌}
use native.Mathlib.Omega.{arith}
use mathlib.Core.Path.{◌≡◌, refl}
use mathlib.Core.Bool.{Bool, true, false}
use borrow.Author.Tests.{ltb-true, ltb-false}
use lib.Dec.{ltb}
use Rattle.fee.specs.Rounding.{nearest_even}
use Rattle.fee.specs.HalfUp.{half_up}
use Rattle.fee.specs.Fee.{price, total, changes, risen, fee_on}
use Rattle.fee.specs.Bands.{price_with}
use Rattle.fee.specs.Halves.{OnHalf, Within, RoundedRight, FeesRounded}

-- Below the half, above it, and on it.
data Place (x : ℕ) : Type 0 where
  below : x % 1000 < 500 → nearest_even x ≡ x / 1000 → Place x
  above : 500 < x % 1000 → nearest_even x ≡ x / 1000 + 1 → Place x
  half : OnHalf x → nearest_even x ≡ x / 1000 + x / 1000 % 2 → Place x

place : (x : ℕ) → Place x
unfolding nearest_even
place x = first (ltb (x % 1000) 500) refl
  where
    second : 500 ≤ x % 1000 → (b : Bool) → ltb 500 (x % 1000) ≡ b → ltb (x % 1000) 500 ≡ false → Place x
    second l true e f = above (ltb-true _ _ e) (rw (f, e) (omega arith))
    second l false e f = let m : x % 1000 ≤ 500 = ltb-false _ _ e in half (omega arith) (rw (f, e))

    first : (b : Bool) → ltb (x % 1000) 500 ≡ b → Place x
    first true e = below (ltb-true _ _ e) (rw e)
    first false e = second (ltb-false _ _ e) (ltb 500 (x % 1000)) refl e

module _ (x : ℕ) where
  off : Place x → (OnHalf x → ⊥) → nearest_even x ≡ half_up x
  off (below l e) h = omega arith
  off (above l e) h = omega arith
  off (half l e) h = absurd (h l)

  on : Place x → OnHalf x → (nearest_even x % 2 ≡ 0) × (nearest_even x ≡ half_up x - half_up x % 2)
  on (below l e) h = absurd (omega arith)
  on (above l e) h = absurd (omega arith)
  on (half l e) h = (omega arith, omega arith)

  within : Place x → Within x (nearest_even x)
  within (below l e) = record { not_over = omega arith; not_under = omega arith }
  within (above l e) = record { not_over = omega arith; not_under = omega arith }
  within (half l e) = record { not_over = omega arith; not_under = omega arith }

  two : Place x → (others : ℕ) → Within x others → (others ≡ nearest_even x → ⊥) → nearest_even x % 2 ≡ 0
  two (below l e) others w other = absurd (other (omega (arith, w.not_over, w.not_under)))
  two (above l e) others w other = absurd (other (omega (arith, w.not_over, w.not_under)))
  two (half l e) others w other = (on (half l e) l).0

  pub rounded_right : RoundedRight x
  rounded_right =
      record {
        off_half = off (place x);
        on_half = λ h. (on (place x) h).0;
        as_before = λ h even. omega (arith, (on (place x) h).1);
        one_less = λ h odd. omega (arith, (on (place x) h).1);
        near = within (place x);
        of_two = two (place x);
      }

pub fees_rounded : FeesRounded
unfolding fee_on
fees_rounded =
    record {
      built_in = λ kinds rounds. (rounded_right (risen (total price rounds) (changes kinds))).off_half;
      by_bands = λ firsts prices kinds rounds. (rounded_right (risen (total (price_with firsts prices) rounds) (changes kinds))).off_half;
      built_in_half = λ kinds rounds. (rounded_right (risen (total price rounds) (changes kinds))).on_half;
      by_bands_half = λ firsts prices kinds rounds. (rounded_right (risen (total (price_with firsts prices) rounds) (changes kinds))).on_half;
    }
