-- `search_evaluation::level` meets its contract. Assumes nothing.
use mathlib.Core.Path.{sym, ◌∙◌}
use native.Mathlib.Omega.{arith}
use borrow.Author.Tests.{lt-ltb, le-ltb}
use Rattle.formula.specs.Formula.{max_unknowns}
use Rattle.search_cells.proofs.CellLaws.{level_at}
use Rattle.search_evaluation.specs.Evaluation.{level_in}
use Rattle.search_evaluation.proofs.CellReads.{row_given}
use Rattle.search_evaluation.proofs.level.Goals as goal

pub returns-else-has_row : goal.returns-else-has_row
unfolding level_in
returns-else-has_row c = rw (sym c.has_row.ensures ∙ c.if-has_row.false)

pub returns-then-k-ge-UNKNOWNS : goal.returns-then-k-ge-UNKNOWNS
unfolding level_in
returns-then-k-ge-UNKNOWNS c = rw (
  sym c.has_row.ensures ∙ c.if-has_row.true,
  le-ltb c.args.k max_unknowns
      (omega arith),
)

pub returns : goal.returns
unfolding level_in
returns c =
    let has_row_call = c.has_row in
    let given = c.args in
    let row = row_given given.work.now given.i (sym has_row_call.ensures ∙ c.if-has_row.true) in
    rw (sym has_row_call.ensures ∙ c.if-has_row.true, lt-ltb given.k max_unknowns (omega arith))
    (sym (level_at given.i given.k row.1 (omega arith) given.work.now))
