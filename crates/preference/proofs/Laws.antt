-- The definition of a preference by its two cases, as the code tests them.
-- Assumes nothing.
use mathlib.Core.Path.{◌≡◌, refl}
use mathlib.Core.List.{List, [], ◌∷◌}
use Prim.Native.Nat.{ℕ, ◌%◌}
use native.Mathlib.Omega.{arith}
use lib.ListN.{length, get_or}
use Rattle.preference.specs.Preference.{odd, house, prefer}

pub prefer_none : (lent : List ℕ) (i : ℕ) → length lent ≡ 0 → prefer lent i ≡ house i
unfolding prefer
prefer_none [] i h = refl
prefer_none (b ∷ bs) i h = absurd (omega arith)

pub prefer_lent : (lent : List ℕ) (i : ℕ) → (length lent ≡ 0 → ⊥) → prefer lent i ≡ odd (get_or lent (i % length lent) 0)
unfolding prefer
prefer_lent [] i h = absurd (h refl)
prefer_lent (b ∷ bs) i h = refl
