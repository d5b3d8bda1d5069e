-- The house rule is 01's entry, for every number.
-- Assumes nothing.
use mathlib.Core.Path.{◌≡◌, refl, sym, ◌∙◌, ap}
use Prim.Native.Nat.{ℕ, zero, suc, ◌+◌, ◌/◌, ◌%◌, ◌^◌, ◌<◌}
use native.Mathlib.Nat.{mod-lt}
use native.Mathlib.Omega.{arith}
use lib.Count.{ones as all_ones, ones_step}
use Rattle.preference.specs.Preference.{odd, ones, parity}
use Rattle.preference.specs.HouseRule.{HouseRuleRight}

-- A number below 2 ^ digits has no more binary digits than that, so the definition counts all of its ones.
pub ones_counted : (digits n : ℕ) → n < 2 ^ digits → all_ones n ≡ ones digits n
unfolding all_ones
ones_counted zero zero h = refl
ones_counted zero (suc n) h = absurd (omega arith)
ones_counted (suc digits) n h = ones_step n ∙ ap (λ x. n % 2 + x) (ones_counted digits (n / 2) (omega arith))

pub whole_form : (i : ℕ) → i < 256 → parity i ≡ odd (all_ones i)
unfolding parity
whole_form i h = sym (ap odd (ones_counted 8 i h))

pub house_rule_right : HouseRuleRight
house_rule_right = record { whole_form = whole_form; every_number = λ i. whole_form (i % 256) (mod-lt _ (omega arith)) }
