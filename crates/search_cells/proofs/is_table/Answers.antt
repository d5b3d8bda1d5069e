-- `search_cells::is_table` meets its contract. Assumes nothing.
use borrow.Author.Tests.{eq-eqb, ne_eqb, le-leb, lt-leb}
use Rattle.formula.specs.Formula.{work_size, max_unknowns}
use Rattle.search_cells.specs.Steps.{fits}
use Rattle.search_cells.proofs.is_table.Goals as goal

pub returns-then-area-ne-WORK : goal.returns-then-area-ne-WORK
unfolding fits
returns-then-area-ne-WORK c = rw (ne_eqb c.args.area work_size c.if-area-ne-WORK.true)

pub returns-then-positions-gt-UNKNOWNS : goal.returns-then-positions-gt-UNKNOWNS
unfolding fits
returns-then-positions-gt-UNKNOWNS c = rw (
  eq-eqb c.args.area work_size c.if-area-ne-WORK.false,
  lt-leb c.args.positions max_unknowns
      c.if-positions-gt-UNKNOWNS.true,
)

pub returns : goal.returns
unfolding fits
returns c = rw (
  eq-eqb c.args.area work_size c.if-area-ne-WORK.false,
  le-leb c.args.positions max_unknowns
      c.if-positions-gt-UNKNOWNS.false,
)
