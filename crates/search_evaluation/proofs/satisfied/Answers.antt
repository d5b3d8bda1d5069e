-- `search_evaluation::satisfied` meets its contract. Assumes nothing.
use mathlib.Core.Path.{sym, ◌∙◌}
use Rattle.search_evaluation.specs.Evaluation.{satisfied_at}
use Rattle.search_evaluation.proofs.satisfied.Goals as goal

pub returns-else-has_row : goal.returns-else-has_row
unfolding satisfied_at
returns-else-has_row c = rw (sym c.has_row.ensures ∙ c.if-has_row.false)

pub returns : goal.returns
unfolding satisfied_at
returns c = rw (sym c.has_row.ensures ∙ c.if-has_row.true) c.is_satisfied.ensures
