-- `search_evaluation::unsatisfied` meets its contract. Assumes nothing.
use mathlib.Core.Path.{sym, ◌∙◌}
use Rattle.search_evaluation.specs.Evaluation.{unsatisfied_at}
use Rattle.search_evaluation.proofs.unsatisfied.Goals as goal

pub returns-else-has_row : goal.returns-else-has_row
unfolding unsatisfied_at
returns-else-has_row c = rw (sym c.has_row.ensures ∙ c.if-has_row.false)

pub returns : goal.returns
unfolding unsatisfied_at
returns c = rw (sym c.has_row.ensures ∙ c.if-has_row.true) c.unsatisfied_on.ensures
