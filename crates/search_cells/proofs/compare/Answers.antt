-- `search_cells::compare` meets its contract. The loop's invariant: the steps left give what all the steps give. Assumes nothing.
use Prim.Native.Nat.{◌+◌, ◌-◌}
use mathlib.Core.Path.{◌≡◌, sym, ◌∙◌}
use native.Mathlib.Omega.{arith}
use borrow.Author.Tests.{ne_eqb}
use lib.ListN.{length, length-set}
use Rattle.formula.specs.Formula.{max_rows}
use Rattle.search_cells.specs.Steps.{with_split, rows_compared}
use Rattle.search_cells.proofs.StepLaws.{fitting_sizes, steps_all, steps_none, steps_next}
use Rattle.search_cells.proofs.DifferenceLaws.{first_difference_found, rows_compared_inside}
use Rattle.search_cells.proofs.compare.Goals as goal

pub returns-else-is_table : goal.returns-else-is_table
unfolding rows_compared
returns-else-is_table c = rw (sym c.is_table.ensures ∙ c.if-is_table.false)

pub returns-then-differences-ne-ROWS : goal.returns-then-differences-ne-ROWS
unfolding rows_compared
returns-then-differences-ne-ROWS c = rw (
  sym c.is_table.ensures ∙ c.if-is_table.true,
  ne_eqb
      (length c.args.differences.now) max_rows c.if-differences-ne-ROWS.true,
)

pub loop-i-init : goal.loop-i-init
loop-i-init c =
    let given = c.args in
    let sizes = fitting_sizes (length given.work.now) (length given.kinds.now) given.count
    (sym c.is_table.ensures ∙ c.if-is_table.true) in (
      sizes.0,
      sizes.1,
      sizes.2,
      omega arith,
      c.if-differences-ne-ROWS.false,
      steps_all (with_split given.kinds.now given.side given.work.now) (given.count - 1)
          given.differences.now,
    )

pub overflow_cast-differences : goal.overflow_cast-differences
overflow_cast-differences c =
    let given = c.args in
    omega (arith, c.first_difference.ensures, (first_difference_found given.kinds.now given.side given.work.now (c.loop-i.i - 1)).most)

pub loop-i-preserved : goal.loop-i-preserved
loop-i-preserved c =
    let given = c.args in
    let loop = c.loop-i in
    let here : loop.i - 1 + 1 ≡ loop.i = omega arith in
    let next : loop.i + 1 - 1 ≡ loop.i = omega arith in (
      loop.invariant.0,
      loop.invariant.1,
      loop.invariant.2,
      omega arith,
      simp length-set (omega arith),
      loop.invariant.5
          ∙ rw (next, c.first_difference.ensures)
          (rw here at (steps_next (with_split given.kinds.now given.side given.work.now) (given.count - 1) (loop.i - 1) loop.differences (omega arith))),
    )

pub returns : goal.returns
returns c =
    let given = c.args in
    let loop = c.loop-i in
    sym (steps_none (with_split given.kinds.now given.side given.work.now) (given.count - 1) (loop.i - 1) loop.differences (omega arith))
    ∙ sym loop.invariant.5
    ∙ sym (rows_compared_inside given.kinds.now given.work.now given.count given.side given.differences.now loop.invariant.0 loop.invariant.1
    loop.invariant.2 c.if-differences-ne-ROWS.false)
