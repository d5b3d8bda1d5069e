-- `search_sets::ones_above` meets its contract. Assumes nothing.
use mathlib.Core.Path.{◌≡◌, ap}
use Prim.Native.Nat.{ℕ, ◌-◌, ◌^◌, min}
use native.Mathlib.Omega.{arith}
use Rattle.search_sets.specs.Sets.{ones as ones_below}
use Rattle.search_sets.proofs.ones_above.Goals as goal

pub returns-then-k-lt64 : goal.returns-then-k-lt64
unfolding ones_below
returns-then-k-lt64 c =
    let none : 0 ≡ min (c.args.k - 64) 64 = omega arith in
    ap (λ (m : ℕ). 2 ^ m - 1) none
