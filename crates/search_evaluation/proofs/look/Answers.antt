-- `search_evaluation::look` meets its contract. Assumes nothing.
use mathlib.Core.Path.{sym, ◌∙◌}
use Rattle.search_evaluation.specs.Evaluation.{look_at}
use Rattle.search_evaluation.proofs.look.Goals as goal

pub returns-else-has_row : goal.returns-else-has_row
unfolding look_at
returns-else-has_row c = rw (sym c.has_row.ensures ∙ c.if-has_row.false)

pub returns : goal.returns
unfolding look_at
returns c = rw (sym c.has_row.ensures ∙ c.if-has_row.true) c.look_on.ensures
