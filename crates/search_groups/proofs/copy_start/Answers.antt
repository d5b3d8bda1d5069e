-- `search_groups::copy_start` meets its contract. The invariant: the copy of row i goes back as far as that of the rows up to `from`. Assumes nothing.
use Prim.Native.Nat.{◌+◌, ◌-◌}
use mathlib.Core.Bool.{true, false}
use mathlib.Core.Path.{◌≡◌, sym, ◌∙◌}
use native.Mathlib.Omega.{arith}
use lib.ListN.{get_or}
use borrow.Author.Tests.{lt-ltb, le-ltb}
use Rattle.search_groups.specs.Groups.{differ_before}
use Rattle.search_groups.proofs.ScanLaws.{copy_start_none, copy_start_is, last_behind_step, last_behind_end}
use Rattle.search_groups.proofs.copy_start.Goals as goal

pub returns-then-i-lo : goal.returns-then-i-lo
returns-then-i-lo c = copy_start_none _ _ _ _ (λ low high. omega arith)

pub returns-then-differences-i : goal.returns-then-differences-i
returns-then-differences-i c = copy_start_none _ _ _ _ (λ low high. omega arith)

pub loop-from-init : goal.loop-from-init
loop-from-init c =
    let last : c.args.i + 1 - 1 ≡ c.args.i = omega arith in
    (omega arith, omega arith, rw last (copy_start_is _ _ _ _ (omega arith) (omega arith)))

pub returns-then-from-k : goal.returns-then-from-k
returns-then-from-k c =
    let loop = c.loop-from in
    let given = c.args in
    let from = loop.from - 1 in
    sym
    (loop.invariant.2
    ∙ last_behind_step (differ_before given.differences.now given.k) given.lo from true (omega arith)
    (lt-ltb (get_or given.differences.now from 0) given.k (omega arith)))

pub loop-from-preserved : goal.loop-from-preserved
loop-from-preserved c =
    let loop = c.loop-from in
    let given = c.args in
    let from = loop.from - 1 in (
      omega arith,
      omega arith,
      loop.invariant.2
          ∙ last_behind_step (differ_before given.differences.now given.k) given.lo from false (omega arith)
          (le-ltb (get_or given.differences.now from 0) given.k (omega arith)),
    )

pub returns : goal.returns
returns c =
    let given = c.args in
    let end : c.loop-from.from - 1 ≡ given.lo = omega arith in
    sym (c.loop-from.invariant.2 ∙ last_behind_end (differ_before given.differences.now given.k) given.lo (c.loop-from.from - 1) end ∙ end)
