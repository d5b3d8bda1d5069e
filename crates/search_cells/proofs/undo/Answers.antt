-- `search_cells::undo` meets its contract. The loop's invariant: the steps left give what all the steps give. Assumes nothing.
use Prim.Native.Nat.{◌*◌}
use mathlib.Core.Path.{refl, sym, ◌∙◌}
use native.Mathlib.Omega.{arith}
use lib.ListN.{length, length-set}
use Rattle.formula.specs.Formula.{max_unknowns}
use Rattle.search_cells.specs.Steps.{with_bounded, rows_opened}
use Rattle.search_cells.proofs.StepLaws.{fitting_sizes, steps_none, steps_next}
use Rattle.search_cells.proofs.OpenLaws.{rows_opened_inside}
use Rattle.search_cells.proofs.undo.Goals as goal

pub returns-else-is_table : goal.returns-else-is_table
unfolding rows_opened
returns-else-is_table c = rw (sym c.is_table.ensures ∙ c.if-is_table.false)

pub returns-then-hi-lo : goal.returns-then-hi-lo
unfolding rows_opened
returns-then-hi-lo c =
    let given = c.args in
    rw (sym c.is_table.ensures ∙ c.if-is_table.true)
    (sym (steps_none (with_bounded given.bound) (max_unknowns * given.hi) (max_unknowns * given.lo) given.work.now (omega arith)))

pub loop-at-init : goal.loop-at-init
loop-at-init c =
    let sizes = fitting_sizes (length c.args.work.now) 0 c.args.hi (sym c.is_table.ensures ∙ c.if-is_table.true) in
    (sizes.2, sizes.0, sizes.0, refl)

pub loop-at-preserved : goal.loop-at-preserved
loop-at-preserved c =
    let given = c.args in
    let loop = c.loop-at in (
      loop.invariant.0,
      loop.invariant.1,
      simp length-set (omega arith),
      loop.invariant.3
          ∙ steps_next (with_bounded given.bound) (max_unknowns * given.hi) loop.at loop.work (omega arith)
          ∙ rw c.within.ensures,
    )

pub returns : goal.returns
returns c =
    let given = c.args in
    let loop = c.loop-at in
    sym (steps_none (with_bounded given.bound) (max_unknowns * given.hi) loop.at loop.work (omega arith))
    ∙ sym loop.invariant.3
    ∙ sym (rows_opened_inside given.lo given.hi given.bound given.work.now loop.invariant.1 loop.invariant.0)

pub overflow_step-at : goal.overflow_step-at
overflow_step-at c = omega (arith, fitting_sizes (length c.args.work.now) 0 c.args.hi (sym c.is_table.ensures ∙ c.if-is_table.true))

pub overflow_mul-at-end : goal.overflow_mul-at-end
overflow_mul-at-end c = omega (arith, fitting_sizes (length c.args.work.now) 0 c.args.hi (sym c.is_table.ensures ∙ c.if-is_table.true))
