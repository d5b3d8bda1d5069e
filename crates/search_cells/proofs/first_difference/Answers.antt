-- `search_cells::first_difference` meets its contract. The loop's invariant: the search from the position reached on finds what the whole search finds.
-- Assumes nothing.
use mathlib.Core.Path.{◌≡◌, sym, ◌∙◌}
use mathlib.Core.Bool.{true, false}
use native.Mathlib.Omega.{arith}
use lib.ListN.{length}
use Rattle.search_cells.specs.Steps.{differ}
use Rattle.search_cells.proofs.DifferenceLaws.{first_from_step, differ_own, differ_other}
use Rattle.search_cells.proofs.first_difference.Goals as goal
use Rattle.search_cells.proofs.first_difference.Goals.{else-kind-side, then-kind-side+else-value}

pub returns-then-value : goal.returns-then-value
returns-then-value c =
    let given = c.args in
    let loop = c.loop-k in
    sym (loop.invariant.1
    ∙ first_from_step (differ given.kinds.now given.side given.work.now given.i) loop.k (length given.kinds.now) true (omega arith)
    (differ_other given.kinds.now given.side given.work.now given.i loop.k c.value.result c.value-then-kind-side.result
    c.if-kind-side.true c.value.ensures c.value-then-kind-side.ensures ∙ c.if-value.true))

pub loop-k-preserved : goal.loop-k-preserved
loop-k-preserved c =
    let given = c.args in
    let loop = c.loop-k in
    let same : differ given.kinds.now given.side given.work.now given.i loop.k ≡ false =
    elim c.if-kind-side.branch [
      | then-kind-side+else-value t ↦ differ_other given.kinds.now given.side given.work.now given.i loop.k t.value.result t.value-then-kind-side.result
          t.if-kind-side.true t.value.ensures
          t.value-then-kind-side.ensures ∙ t.if-value.false
      | else-kind-side t ↦ differ_own given.kinds.now given.side given.work.now given.i loop.k t.if-kind-side.false
    ] in (
      omega arith,
      loop.invariant.1 ∙ first_from_step (differ given.kinds.now given.side given.work.now given.i) loop.k (length given.kinds.now)
          false (omega arith) same,
    )
