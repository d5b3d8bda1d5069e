-- The most rows that the universal table held: at least its count, at most its room; and its count if it is never cleared. Assumes nothing.
use Prim.Native.Nat.{ℕ, zero, suc, ◌≤◌}
use native.Mathlib.Omega.{arith}
use native.Mathlib.Decide.{le_ind}
use mathlib.Core.Path.{◌≡◌, refl, ap}
use lib.ListN.{length, length-append}
use Rattle.formula.specs.Formula.{universal}
use Rattle.rounds.specs.Run.{Outcome, Lent, run, highest}
use Rattle.rounds.proofs.RoundLaws.{Over, never_clears}
use Rattle.rounds.proofs.RunLaws.{run_extends, run_stays}

pub count_at_most_highest : (l : Lent) (r : ℕ) → length (run l r).A ≤ highest l r
unfolding run highest
count_at_most_highest l zero = omega arith
count_at_most_highest l (suc r) = omega arith

-- With k = 0 no place is given up.
pub highest_if_never : (l : Lent) (r : ℕ) → l.clear_every ≡ 0 → highest l r ≡ length (run l r).A
unfolding run highest
highest_if_never l zero never = refl
highest_if_never l (suc r) never =
    let before = highest_if_never l r never in
    let grows = run_extends l r (suc r) (omega arith) universal (λ p _ _. never_clears l p never) in
    let longer : length (run l r).A ≤ length (run l (suc r)).A = rw grows.1 (simp length-append (omega arith)) in
    omega arith

-- A run that is over reaches over no more places.
pub highest_stays : (l : Lent) (r limit : ℕ) → r ≤ limit → Over (run l r).answer → highest l limit ≡ highest l r
unfolding highest
highest_stays l r limit h over =
    le_ind
    (λ (m : ℕ). highest l m ≡ highest l r)
    refl
    (λ m below e.
    let same = ap (λ (o : Outcome). length o.A) (run_stays l r (suc m) (omega arith) over) in
    let most = count_at_most_highest l r in
    omega arith)
    limit
    h
