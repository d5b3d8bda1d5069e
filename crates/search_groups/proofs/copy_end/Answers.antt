-- `search_groups::copy_end` meets its contract. The invariant: the copy of row i goes as far as that of the rows from `to` on. Assumes nothing.
use mathlib.Core.Bool.{false}
use mathlib.Core.Path.{◌∙◌}
use native.Mathlib.Omega.{arith}
use lib.ListN.{get_or}
use borrow.Author.Tests.{le-ltb}
use Rattle.search_cells.proofs.DifferenceLaws.{first_from_step}
use Rattle.search_groups.specs.Groups.{differ_before}
use Rattle.search_groups.proofs.ScanLaws.{copy_end_none, copy_end_is}
use Rattle.search_groups.proofs.copy_end.Goals as goal

pub returns-then-hi-i : goal.returns-then-hi-i
returns-then-hi-i c = copy_end_none _ _ _ _ (λ low high. omega arith)

pub returns-then-differences-hi : goal.returns-then-differences-hi
returns-then-differences-hi c = copy_end_none _ _ _ _ (λ low high. omega arith)

pub loop-to-init : goal.loop-to-init
loop-to-init c = (omega arith, copy_end_is _ _ _ _ (omega arith) (omega arith))

pub loop-to-preserved : goal.loop-to-preserved
loop-to-preserved c =
    let loop = c.loop-to in
    let given = c.args in
    let to = loop.to in (
      omega arith,
      loop.invariant.1
          ∙ first_from_step (differ_before given.differences.now given.k) to given.hi false (omega arith)
          (le-ltb (get_or given.differences.now to 0) given.k (omega arith)),
    )
