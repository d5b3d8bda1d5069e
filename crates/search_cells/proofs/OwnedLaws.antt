-- Which unknowns are the side's own, and how many of the other side's stand before a position. Assumes nothing.
use Prim.Native.Nat.{ℕ, zero, suc, ◌+◌, ◌≤◌, ◌<◌}
use mathlib.Core.Path.{◌≡◌, refl, ap}
use mathlib.Core.Bool.{Bool, true, false}
use mathlib.Core.List.{List, [], ◌∷◌}
use native.Mathlib.Nat.{le_of_suc-le-suc, not-suc-le-zero}
use native.Mathlib.Numerals.{add-one}
use native.Mathlib.Omega.{arith}
use lib.Dec.{eqb}
use lib.ListN.{length, get_or}
use Rattle.expansion.specs.Cells.{others_before}
use Rattle.search_cells.specs.Cells.{owned}

pub owned_at : (kinds : List ℕ) (side k : ℕ) → k < length kinds → get_or (owned kinds side) k false ≡ eqb (get_or kinds k 0) side
owned_at [] side k h = absurd (not-suc-le-zero h)
owned_at (kind ∷ kinds) side zero h = refl
owned_at (kind ∷ kinds) side (suc k) h = owned_at kinds side k (le_of_suc-le-suc h)

pub length_owned : (kinds : List ℕ) (side : ℕ) → length (owned kinds side) ≡ length kinds
length_owned [] side = refl
length_owned (kind ∷ kinds) side = ap suc (length_owned kinds side)

pub others_before_most : (ts : List Bool) (k : ℕ) → others_before ts k ≤ k
others_before_most ts zero = omega arith
others_before_most [] (suc k) = omega arith
others_before_most (true ∷ ts) (suc k) = let h = others_before_most ts k in omega arith
others_before_most (false ∷ ts) (suc k) = let h = others_before_most ts k in omega arith

others_before_own' : (ts : List Bool) (k : ℕ) → get_or ts k false ≡ true → others_before ts (suc k) ≡ others_before ts k
others_before_own' [] k o = let z : ◌≡◌ {A = ℕ} 0 1 = cc in absurd (omega arith)
others_before_own' (true ∷ ts) zero o = refl
others_before_own' (false ∷ ts) zero o = let z : ◌≡◌ {A = ℕ} 0 1 = cc in absurd (omega arith)
others_before_own' (true ∷ ts) (suc k) o = others_before_own' ts k o
others_before_own' (false ∷ ts) (suc k) o = ap suc (others_before_own' ts k o)

others_before_other' : (ts : List Bool) (k : ℕ) → k < length ts → get_or ts k false ≡ false → others_before ts (suc k) ≡ suc (others_before ts k)
others_before_other' [] k h o = absurd (not-suc-le-zero h)
others_before_other' (true ∷ ts) zero h o = let z : ◌≡◌ {A = ℕ} 0 1 = cc in absurd (omega arith)
others_before_other' (false ∷ ts) zero h o = refl
others_before_other' (true ∷ ts) (suc k) h o = others_before_other' ts k (le_of_suc-le-suc h) o
others_before_other' (false ∷ ts) (suc k) h o = ap suc (others_before_other' ts k (le_of_suc-le-suc h) o)

-- One position more: an own one counts nothing, another one counts.
pub others_before_own : (ts : List Bool) (k : ℕ) → get_or ts k false ≡ true → others_before ts (k + 1) ≡ others_before ts k
others_before_own ts k o = rw (add-one k) (others_before_own' ts k o)

pub others_before_other : (ts : List Bool) (k : ℕ) → k < length ts → get_or ts k false ≡ false → others_before ts (k + 1) ≡ others_before ts k + 1
others_before_other ts k h o = rw (add-one k, add-one (others_before ts k)) (others_before_other' ts k h o)
