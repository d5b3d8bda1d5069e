-- `search_cells::set_rows` meets its contract. The loop's invariant: the steps left give what all the steps give. Assumes nothing.
use mathlib.Core.Path.{refl, sym, ◌∙◌}
use native.Mathlib.Omega.{arith}
use lib.ListN.{length}
use Rattle.formula.specs.Formula.{max_unknowns}
use Rattle.search_cells.specs.Steps.{with_cell, rows_set}
use Rattle.search_cells.proofs.StepLaws.{fitting_sizes, steps_none, steps_next}
use Rattle.search_cells.proofs.SetLaws.{rows_set_inside}
use borrow.Author.Tests.{le-ltb}
use Rattle.search_cells.proofs.set_rows.Goals as goal

pub returns-else-is_table : goal.returns-else-is_table
unfolding rows_set
returns-else-is_table c = rw (sym c.is_table.ensures ∙ c.if-is_table.false)

pub returns-then-k-ge-UNKNOWNS : goal.returns-then-k-ge-UNKNOWNS
unfolding rows_set
returns-then-k-ge-UNKNOWNS c = rw (sym c.is_table.ensures ∙ c.if-is_table.true, le-ltb c.args.k max_unknowns c.if-k-ge-UNKNOWNS.true)

pub loop-i-init : goal.loop-i-init
loop-i-init c =
    let sizes = fitting_sizes (length c.args.work.now) 0 c.args.hi (sym c.is_table.ensures ∙ c.if-is_table.true) in
    (sizes.2, sizes.0, sizes.0, refl)

pub loop-i-preserved : goal.loop-i-preserved
loop-i-preserved c =
    let given = c.args in
    let loop = c.loop-i in (
      loop.invariant.0,
      loop.invariant.1,
      omega arith,
      loop.invariant.3
          ∙ steps_next (λ j. with_cell j given.k given.level given.value) given.hi loop.i loop.work (omega arith)
          ∙ rw c.set.ensures,
    )

pub returns : goal.returns
returns c =
    let given = c.args in
    let loop = c.loop-i in
    sym (steps_none (λ j. with_cell j given.k given.level given.value) given.hi loop.i loop.work (omega arith))
    ∙ sym loop.invariant.3
    ∙ sym (rows_set_inside given.k given.lo given.hi given.level given.value given.work.now loop.invariant.1 (omega arith) loop.invariant.0)
