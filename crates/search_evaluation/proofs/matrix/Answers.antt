-- `search_evaluation::matrix` meets its contract. Assumes nothing.
use mathlib.Core.Path.{sym, ◌∙◌}
use Rattle.search_evaluation.specs.Evaluation.{matrix_in}
use Rattle.search_evaluation.proofs.matrix.Goals as goal

pub returns-else-has_row : goal.returns-else-has_row
unfolding matrix_in
returns-else-has_row c = rw (sym c.has_row.ensures ∙ c.if-has_row.false)

pub returns : goal.returns
unfolding matrix_in
returns c = rw (sym c.has_row.ensures ∙ c.if-has_row.true) c.matrix_on.ensures
