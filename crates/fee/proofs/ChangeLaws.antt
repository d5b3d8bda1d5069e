-- There are no changes of kind from the last kind on, and how many there can be. Assumes nothing.
use Prim.Native.Nat.{ℕ, ◌-◌, ◌<◌, ◌≤◌}
use native.Mathlib.Omega.{arith}
use mathlib.Core.Path.{◌≡◌, refl}
use mathlib.Core.Bool.{Bool, true, false, cond}
use mathlib.Core.List.{List, [], ◌∷◌}
use lib.Dec.{eqb}
use lib.ListN.{length, drop, length-drop}
use Rattle.formula.specs.Formula.{max_unknowns}
use Rattle.fee.specs.Fee.{changes}

module _ (ks : List ℕ) where
  pub none_past : (i : ℕ) → length ks ≤ i → changes (drop (i - 1) ks) ≡ 0
  none_past i past = short (drop (i - 1) ks) (simp length-drop (omega arith))
    where
      short : (l : List ℕ) → length l ≤ 1 → changes l ≡ 0
      short [] h = refl
      short (k ∷ []) h = refl
      short (k ∷ l ∷ ls) h = absurd (omega arith)

one_at_most : (same : Bool) → cond same 0 1 ≤ 1
one_at_most true = omega arith
one_at_most false = omega arith

fewer : (k : ℕ) (ks : List ℕ) → changes (k ∷ ks) ≤ length ks
fewer k [] = omega arith
fewer k (l ∷ ks) = omega (arith, one_at_most (eqb k l), fewer l ks)

pub changes_few : (ks : List ℕ) → length ks ≤ max_unknowns → changes ks < max_unknowns
changes_few [] h = omega arith
changes_few (k ∷ ks) h = omega (arith, fewer k ks)
