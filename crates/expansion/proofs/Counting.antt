-- Counting: there are at most 2 ^ a different rows of a values. Assumes nothing.
use mathlib.Core.Path.{◌≡◌, refl, ap}
use mathlib.Core.Bool.{Bool, true, false}
use mathlib.Core.List.{List, [], ◌∷◌}
use mathlib.Core.Logic.{inl, inr}
use Prim.Native.Nat.{ℕ, zero, suc, ◌+◌, ◌^◌, ◌≤◌}
use native.Mathlib.Omega.{arith}
use lib.ListN.{length}
use Rattle.expansion.specs.Play.{Row}
use Rattle.expansion.proofs.Membership.{In, Distinct}

-- Every row of the list has a values.
abbrev pub Sized : ℕ → List Row → Type 0
Sized a rows = (r : Row) → In r rows → length r ≡ a

-- What stands behind the value v in the rows that begin with it.
abbrev behind : Bool → List Row → List Row
behind v [] = []
behind v ([] ∷ rows) = behind v rows
behind true ((true ∷ r) ∷ rows) = r ∷ behind true rows
behind true ((false ∷ r) ∷ rows) = behind true rows
behind false ((true ∷ r) ∷ rows) = behind false rows
behind false ((false ∷ r) ∷ rows) = r ∷ behind false rows

in_behind : (v : Bool) (r : Row) (rows : List Row) → In r (behind v rows) → In (v ∷ r) rows
in_behind v r [] h = absurd h
in_behind v r ([] ∷ rows) h = inr (in_behind v r rows h)
in_behind true r ((true ∷ s) ∷ rows) (inl e) = inl (ap (λ (t : Row). true ∷ t) e)
in_behind true r ((true ∷ s) ∷ rows) (inr h) = inr (in_behind true r rows h)
in_behind true r ((false ∷ s) ∷ rows) h = inr (in_behind true r rows h)
in_behind false r ((true ∷ s) ∷ rows) h = inr (in_behind false r rows h)
in_behind false r ((false ∷ s) ∷ rows) (inl e) = inl (ap (λ (t : Row). false ∷ t) e)
in_behind false r ((false ∷ s) ∷ rows) (inr h) = inr (in_behind false r rows h)

distinct_behind : (v : Bool) (rows : List Row) → Distinct rows → Distinct (behind v rows)
distinct_behind v [] d = tt
distinct_behind v ([] ∷ rows) d = distinct_behind v rows d.1
distinct_behind true ((true ∷ s) ∷ rows) d = (λ h. d.0 (in_behind true s rows h), distinct_behind true rows d.1)
distinct_behind true ((false ∷ s) ∷ rows) d = distinct_behind true rows d.1
distinct_behind false ((true ∷ s) ∷ rows) d = distinct_behind false rows d.1
distinct_behind false ((false ∷ s) ∷ rows) d = (λ h. d.0 (in_behind false s rows h), distinct_behind false rows d.1)

length_behind : (a : ℕ) (rows : List Row) → Sized (suc a) rows → length rows ≡ length (behind true rows) + length (behind false rows)
length_behind a [] sized = refl
length_behind a ([] ∷ rows) sized = absurd (omega (arith, sized [] (inl refl)))
length_behind a ((true ∷ s) ∷ rows) sized = omega (arith, length_behind a rows (λ r h. sized r (inr h)))
length_behind a ((false ∷ s) ∷ rows) sized = omega (arith, length_behind a rows (λ r h. sized r (inr h)))

-- 'A list of pairwise different rows of a values has at most 2 ^ a entries': those that begin with true and those that begin with false
-- are lists of different rows of a - 1 values.
pub at_most_all_rows : (a : ℕ) (rows : List Row) → Distinct rows → Sized a rows → length rows ≤ 2 ^ a
at_most_all_rows zero [] d sized = omega arith
at_most_all_rows zero (r ∷ []) d sized = omega arith
at_most_all_rows zero ([] ∷ [] ∷ rows) d sized = absurd (d.0 (inl refl))
at_most_all_rows zero ([] ∷ (b ∷ s) ∷ rows) d sized = absurd (omega (arith, sized (b ∷ s) (inr (inl refl))))
at_most_all_rows zero ((b ∷ r) ∷ s ∷ rows) d sized = absurd (omega (arith, sized (b ∷ r) (inl refl)))
at_most_all_rows (suc a) rows d sized =
    let half : (v : Bool) → length (behind v rows) ≤ 2 ^ a =
    λ v. at_most_all_rows a (behind v rows) (distinct_behind v rows d) (λ r h. omega (arith, sized (v ∷ r) (in_behind v r rows h))) in
    omega (arith, half true, half false, length_behind a rows sized)
