-- Kinds, as the code tells them apart.
-- Assumes nothing.
use Prim.Native.Nat.{ℕ, zero, suc, ◌≤◌, ◌<◌}
use native.Mathlib.Omega.{arith}
use mathlib.Core.Path.{◌≡◌, refl, sym}
use mathlib.Core.Bool.{true, false}
use mathlib.Core.List.{List, [], ◌∷◌}
use borrow.Author.Tests.{lt-ltb}
use lib.Dec.{ltb}
use lib.ListN.{length}
use Rattle.std.specs.List.{list_any, filter}
use Rattle.formula.specs.Formula.{universal, prefix}
use Rattle.formula.specs.Causes.{any, other_kind, count}

pub other_above : (k : ℕ) → 1 < k → other_kind k ≡ true
other_above zero above = absurd (omega arith)
other_above (suc zero) above = absurd (omega arith)
other_above (suc (suc k)) above = refl

pub kind_below : (k : ℕ) → k ≤ 1 → other_kind k ≡ false
kind_below zero below = refl
kind_below (suc zero) below = refl
kind_below (suc (suc k)) below = absurd (omega arith)

-- A kind that is not 0 counts as universal, and one that is 0 does not.
pub count_universal : (k : ℕ) (ks : List ℕ) → (k ≡ 0 → ⊥) → count universal (prefix (k ∷ ks)) ≡ suc (count universal (prefix ks))
count_universal zero ks other = absurd (other refl)
count_universal (suc k) ks other = refl

pub count_existential : (k : ℕ) (ks : List ℕ) → k ≡ 0 → count universal (prefix (k ∷ ks)) ≡ count universal (prefix ks)
count_existential zero ks e = refl
count_existential (suc k) ks e = absurd (omega arith)

-- A kind other than 0 and 1 is one above 1.
pub other_is_above : (ks : List ℕ) → any other_kind ks ≡ list_any (ltb 1) ks
other_is_above [] = refl
other_is_above (k ∷ ks) = rw (above k, other_is_above ks)
  where
    above : (k : ℕ) → other_kind k ≡ ltb 1 k
    above zero = refl
    above (suc zero) = refl
    above (suc (suc k)) = sym (lt-ltb 1 (suc (suc k)) (omega arith))

-- The universal unknowns are those of a kind above 0.
pub universals_are : (ks : List ℕ) → count universal (prefix ks) ≡ length (filter (ltb 0) ks)
universals_are [] = refl
universals_are (zero ∷ ks) = universals_are ks
universals_are (suc k ∷ ks) = rw (lt-ltb 0 (suc k) (omega arith), universals_are ks)
