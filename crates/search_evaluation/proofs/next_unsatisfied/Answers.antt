-- `search_evaluation::next_unsatisfied` meets its contract. Assumes nothing.
use mathlib.Core.Path.{sym, ◌∙◌}
use Rattle.search_evaluation.specs.Evaluation.{next_unsatisfied_at}
use Rattle.search_evaluation.proofs.next_unsatisfied.Goals as goal

pub returns-else-has_row : goal.returns-else-has_row
unfolding next_unsatisfied_at
returns-else-has_row c = rw (sym c.has_row.ensures ∙ c.if-has_row.false)

pub returns : goal.returns
unfolding next_unsatisfied_at
returns c = rw (sym c.has_row.ensures ∙ c.if-has_row.true) c.next_unsatisfied_on.ensures
