-- `run::counted` meets its contract. Assumes nothing.
use mathlib.Core.Path.{sym, ◌∙◌}
use Rattle.engine.specs.Outcome.{tables_counted}
use Rattle.engine.proofs.run.counted.Goals as goal

pub returns-then-counts_fit : goal.returns-then-counts_fit
unfolding tables_counted
returns-then-counts_fit c = rw (sym c.counts_fit.ensures ∙ c.if-counts_fit.true) c.counts_fit-then-counts_fit.ensures

pub returns-else-counts_fit : goal.returns-else-counts_fit
unfolding tables_counted
returns-else-counts_fit c = rw (sym c.counts_fit.ensures ∙ c.if-counts_fit.false)
