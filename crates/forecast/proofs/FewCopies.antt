-- The copies are never more than the own unknowns times the rows. Assumes nothing.
use Prim.Native.Nat.{ℕ, zero, suc, ◌*◌, ◌≤◌}
use native.Mathlib.Nat.{suc-mul}
use native.Mathlib.Omega.{arith}
use mathlib.Core.Path.{◌≡◌, refl, ap, subst}
use mathlib.Core.Bool.{Bool, true, false}
use mathlib.Core.List.{List, [], ◌∷◌, map}
use lib.ListN.{length, length-map, length-append}
use Rattle.formula.specs.Formula.{Kind, existential, universal, prefix}
use Rattle.formula.specs.Causes.{count}
use Rattle.rows.proofs.TableLaws.{length_rows_of}
use Rattle.expansion.specs.Side.{flags}
use Rattle.expansion.specs.OtherSide.{other}
use Rattle.expansion.specs.Play.{Row, restriction}
use Rattle.expansion.specs.Copies.{fresh, copy_at, copies_at, copies_from, copies}
use Rattle.expansion.proofs.FreshLaws.{length_fresh}
use Rattle.forecast.specs.Outcome.{Given, width, lent_rows, copies_over}
use Rattle.forecast.specs.Forecast.{Bounded}

few_copies_at : (ts : List Bool) (rows : List Row) (k : ℕ) → length (copies_at ts rows k) ≤ length rows
few_copies_at ts rows k =
    let few = length_fresh [] (map (restriction ts k) rows) in
    omega (arith, length-map rows (restriction ts k), length-map (fresh [] (map (restriction ts k) rows)) (copy_at k))

-- The own ones among some flags.
abbrev owns : List Bool → ℕ
owns [] = 0
owns (true ∷ ts) = suc (owns ts)
owns (false ∷ ts) = owns ts

few_copies_from : (ts : List Bool) (rows : List Row) (k : ℕ) (left : List Bool) → length (copies_from ts rows k left) ≤ owns left * length rows
few_copies_from ts rows k [] = omega arith
few_copies_from ts rows k (true ∷ left) =
    let here = few_copies_at ts rows k in
    let later = few_copies_from ts rows (suc k) left in
    omega (arith, length-append (copies_at ts rows k) (copies_from ts rows (suc k) left), suc-mul (owns left) (length rows))
few_copies_from ts rows k (false ∷ left) = few_copies_from ts rows (suc k) left

owns_flags : (side : Kind) (ks : List Kind) → owns (flags side ks) ≡ count side ks
owns_flags side [] = refl
owns_flags existential (existential ∷ ks) = ap suc (owns_flags existential ks)
owns_flags existential (universal ∷ ks) = owns_flags existential ks
owns_flags universal (existential ∷ ks) = owns_flags universal ks
owns_flags universal (universal ∷ ks) = ap suc (owns_flags universal ks)

few_copies : (kind : Kind) (kinds table : List ℕ) (n : ℕ) → copies_over kind kinds table n ≤ width (other kind) kinds * n
unfolding copies_over copies
few_copies kind kinds table n =
    let ts = flags (other kind) (prefix kinds) in
    let few = few_copies_from ts (lent_rows kind kinds table n) zero ts in
    subst (λ (rows : ℕ). length (copies_from ts (lent_rows kind kinds table n) zero ts) ≤ width (other kind) kinds * rows)
    (length_rows_of (width kind kinds) n table)
    (subst (λ (own : ℕ). length (copies_from ts (lent_rows kind kinds table n) zero ts) ≤ own * length (lent_rows kind kinds table n))
    (owns_flags (other kind) (prefix kinds)) few)

pub bounded : (g : Given) → Bounded g
bounded g = record {
  over_universal = few_copies universal g.kinds g.universal_rows g.universals;
  over_existential = few_copies existential g.kinds g.existential_rows g.existentials;
}
