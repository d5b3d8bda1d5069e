-- The kind of an unknown by its name, from 1.
-- Assumes nothing.
use Prim.Native.Nat.{ℕ, zero, suc, ◌-◌, ◌<◌}
use native.Mathlib.Omega.{arith}
use mathlib.Core.Path.{◌≡◌, refl, ap}
use mathlib.Core.List.{List, ◌∷◌}
use lib.ListN.{length, get_or, get_or-eq_default}

pub kind_none : (kinds : List ℕ) (v : ℕ) → v ≡ 0 → get_or (0 ∷ kinds) v 0 ≡ 0
kind_none kinds zero e = refl
kind_none kinds (suc v) e = absurd (omega arith)

pub kind_past : (kinds : List ℕ) (v : ℕ) → length kinds < v → get_or (0 ∷ kinds) v 0 ≡ 0
kind_past kinds zero past = refl
kind_past kinds (suc v) past = get_or-eq_default kinds 0 (omega arith)

pub kind_named : (kinds : List ℕ) (v : ℕ) → 0 < v → get_or (0 ∷ kinds) v 0 ≡ get_or kinds (v - 1) 0
kind_named kinds zero some = absurd (omega arith)
kind_named kinds (suc v) some = ap (λ (k : ℕ). get_or kinds k 0) (let e : v ≡ suc v - 1 = omega arith in e)
