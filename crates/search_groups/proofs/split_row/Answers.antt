-- `search_groups::split_row` meets its contract. The loop's invariant: mid is the earliest of the rows before i. Assumes nothing.
use Prim.Native.Nat.{ℕ, ◌+◌, ◌-◌}
use mathlib.Core.Path.{◌≡◌, sym, ap, ◌∙◌}
use native.Mathlib.Omega.{arith}
use Rattle.search_groups.specs.Groups.{earliest}
use Rattle.search_groups.proofs.ScanLaws.{split_row_none, split_row_is}
use Rattle.search_groups.proofs.split_row.Goals as goal

pub returns-then-hi-lo : goal.returns-then-hi-lo
returns-then-hi-lo c = split_row_none _ _ _ (λ low high. omega arith)

pub returns-then-differences-hi : goal.returns-then-differences-hi
returns-then-differences-hi c = split_row_none _ _ _ (λ low high. omega arith)

pub returns : goal.returns
returns c =
    let given = c.args in
    let end : c.loop-i.i ≡ given.hi = omega arith in
    c.loop-i.invariant.2.is ∙ ap (λ (n : ℕ). earliest given.differences.now given.lo (n - (given.lo + 1))) end
    ∙ sym (split_row_is _ _ _ (omega arith) (omega arith))
