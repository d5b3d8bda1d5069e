-- `search_cells::fill_row` meets its contract. The loop's invariant: the steps left give what all the steps give, and the row's next bit is the
-- number of the other side's unknowns among the positions passed. Assumes nothing.
use mathlib.Core.Path.{refl, ap, ◌∙◌}
use native.Mathlib.Omega.{arith}
use lib.ListN.{length}
use Rattle.search_cells.specs.Cells.{owned}
use Rattle.search_cells.proofs.OwnedLaws.{others_before_most}
use Rattle.search_cells.proofs.FillLaws.{given_row_steps, turn_own, turn_other}
use Rattle.search_cells.proofs.fill_row.Goals as goal
use Rattle.search_cells.proofs.fill_row.Goals.{else-kind-side, then-kind-side}

pub loop-k-init : goal.loop-k-init
loop-k-init c =
    let given = c.args in
    (omega arith, refl, omega arith, given_row_steps given.kinds.now given.rows.now given.side given.row given.i given.work.now)

pub overflow_add-bit : goal.overflow_add-bit
overflow_add-bit c =
    let given = c.args in
    omega (arith, others_before_most (owned given.kinds.now given.side) c.loop-k.k)

pub loop-k-preserved : goal.loop-k-preserved
loop-k-preserved c =
    let given = c.args in
    let loop = c.loop-k in
    elim c.if-kind-side.branch [
      | then-kind-side t ↦ let turn = turn_other given.kinds.now given.rows.now given.side given.row given.i loop.k loop.bit loop.work (omega arith)
          loop.invariant.1 t.bit.result t.set.new.work t.if-kind-side.true t.bit.ensures t.set.ensures in
          (omega arith, t.bit-is ∙ turn.0, omega (arith, ap length t.work-is), rw t.work-is (loop.invariant.3 ∙ turn.1))
      | else-kind-side t ↦ let turn = turn_own given.kinds.now given.rows.now given.side given.row given.i loop.k loop.bit loop.work (omega arith)
          loop.invariant.1 t.if-kind-side.false in
          (omega arith, t.bit-is ∙ turn.0, omega (arith, ap length t.work-is), rw t.work-is (loop.invariant.3 ∙ turn.1))
    ]
