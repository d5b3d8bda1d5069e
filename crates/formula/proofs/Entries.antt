-- Zeros among the entries, as the code finds them: by the bits of an entry at a place.
-- Assumes nothing.
use Prim.Native.Nat.{zero, suc, ◌^◌, ◌<◌}
use native.Mathlib.Omega.{arith}
use mathlib.Core.Path.{◌≡◌, refl}
use mathlib.Core.Bool.{true}
use mathlib.Core.List.{List, [], ◌∷◌}
use borrow.Author.Tests.{ne_eqb}
use lib.Dec.{eqb}
use lib.IntN.{ℤ, pos, negsuc}
use lib.ListN.{length}
use lib.Signed.{mag}
use mir.Syntax.{w32}
use mir.Val.{SFits, of_z}
use Rattle.formula.specs.Causes.{zeros, is_zero, ended}

-- An entry is 0 if its bits are.
pub is_zero_bits : (z : ℤ) → SFits w32 z → eqb (of_z w32 z) 0 ≡ is_zero z
is_zero_bits (pos zero) fits = refl
is_zero_bits (pos (suc n)) fits = ne_eqb (suc n) 0 (λ e. omega arith)
is_zero_bits (negsuc n) fits = ne_eqb (of_z w32 (negsuc n)) 0 (λ e. omega arith)

pub ended_empty : (l : List ℤ) → length l ≡ 0 → ended l ≡ true
ended_empty [] e = refl
ended_empty (z ∷ zs) e = absurd (omega arith)

-- An entry whose bits are 0 ends a clause, and no other does.
pub zeros_zero : (z : ℤ) (zs : List ℤ) → mag z < 2 ^ 31 → of_z w32 z ≡ 0 → zeros (z ∷ zs) ≡ suc (zeros zs)
zeros_zero (pos zero) zs small e = refl
zeros_zero (pos (suc n)) zs small e = absurd (omega arith)
zeros_zero (negsuc n) zs small e = absurd (omega arith)

pub zeros_other : (z : ℤ) (zs : List ℤ) → (of_z w32 z ≡ 0 → ⊥) → zeros (z ∷ zs) ≡ zeros zs
zeros_other (pos zero) zs other = absurd (other refl)
zeros_other (pos (suc n)) zs other = refl
zeros_other (negsuc n) zs other = refl
