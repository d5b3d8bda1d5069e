-- `search_cells::fill` meets its contract. The loop's invariant: the steps left give what all the steps give. Assumes nothing.
use mathlib.Core.Path.{sym, ◌∙◌}
use native.Mathlib.Omega.{arith}
use lib.ListN.{length}
use Rattle.search_cells.specs.Steps.{rows_filled}
use Rattle.search_cells.proofs.StepLaws.{fitting_sizes, steps_all, steps_none, steps_next}
use Rattle.search_cells.proofs.FillLaws.{row_step, rows_filled_inside}
use Rattle.search_cells.proofs.fill.Goals as goal

pub returns-else-is_table : goal.returns-else-is_table
unfolding rows_filled
returns-else-is_table c = rw (sym c.is_table.ensures ∙ c.if-is_table.false)

pub loop-row-init : goal.loop-row-init
loop-row-init c =
    let given = c.args in
    let sizes = fitting_sizes (length given.work.now) (length given.kinds.now) (length given.place.now) (sym c.is_table.ensures ∙ c.if-is_table.true) in (
      sizes.0,
      sizes.1,
      sizes.2,
      omega arith,
      sizes.0,
      steps_all (row_step given.kinds.now given.rows.now given.place.now given.side) (length given.place.now)
          given.work.now,
    )

pub loop-row-preserved : goal.loop-row-preserved
loop-row-preserved c =
    let given = c.args in
    let loop = c.loop-row in (
      loop.invariant.0,
      loop.invariant.1,
      loop.invariant.2,
      omega arith,
      omega arith,
      loop.invariant.5
          ∙ steps_next (row_step given.kinds.now given.rows.now given.place.now given.side) (length given.place.now) loop.row loop.work (omega arith)
          ∙ rw (c.fill_row.ensures, c.from.ensures),
    )

pub returns : goal.returns
returns c =
    let given = c.args in
    let loop = c.loop-row in
    sym (steps_none (row_step given.kinds.now given.rows.now given.place.now given.side) (length given.place.now) loop.row loop.work (omega arith))
    ∙ sym loop.invariant.5
    ∙ sym (rows_filled_inside given.kinds.now given.rows.now given.place.now given.side given.work.now loop.invariant.0 loop.invariant.1 loop.invariant.2)
