-- `run::side_fits` meets its contract. Assumes nothing.
use Rattle.engine.specs.Outcome.{side_fits}
use mathlib.Core.Path.{sym, ◌∙◌}
use Rattle.engine.proofs.run.side_fits.Goals as goal

pub returns-then-table_fits : goal.returns-then-table_fits
unfolding side_fits
returns-then-table_fits c = rw (sym c.table_fits.ensures ∙ c.if-table_fits.true) c.marks_fit.ensures

pub returns-else-table_fits : goal.returns-else-table_fits
unfolding side_fits
returns-else-table_fits c = rw (sym c.table_fits.ensures ∙ c.if-table_fits.false)
