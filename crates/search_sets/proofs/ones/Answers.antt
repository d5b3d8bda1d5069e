-- `search_sets::ones` meets its contract. Assumes nothing.
use mathlib.Core.Path.{◌≡◌, ap, ◌∙◌}
use Prim.Native.Nat.{ℕ, ◌-◌, ◌^◌, min}
use native.Mathlib.Omega.{arith}
use Rattle.search_sets.proofs.MaskLaws.{one_shifted}
use Rattle.search_sets.specs.Sets.{ones as ones_below}
use Rattle.search_sets.proofs.ones.Goals as goal

pub returns-then-k-lt64 : goal.returns-then-k-lt64
unfolding ones_below
returns-then-k-lt64 c =
    let all : c.args.k ≡ min c.args.k 64 = omega arith in
    ap (λ (x : ℕ). x - 1) (one_shifted c.args.k c.if-k-lt64.true) ∙ ap (λ (m : ℕ). 2 ^ m - 1) all

pub returns-else-k-lt64 : goal.returns-else-k-lt64
unfolding ones_below
returns-else-k-lt64 c =
    let all : 64 ≡ min c.args.k 64 = omega arith in
    ap (λ (m : ℕ). 2 ^ m - 1) all
