-- `run::fits` meets its contract. Assumes nothing.
use mathlib.Core.Path.{sym, ◌∙◌}
use Rattle.engine.specs.Outcome.{tables_fit}
use Rattle.engine.proofs.run.fits.Goals as goal

pub returns-then-side_fits : goal.returns-then-side_fits
unfolding tables_fit
returns-then-side_fits c = rw (sym c.side_fits.ensures ∙ c.if-side_fits.true) c.side_fits-then-side_fits.ensures

pub returns-else-side_fits : goal.returns-else-side_fits
unfolding tables_fit
returns-else-side_fits c = rw (sym c.side_fits.ensures ∙ c.if-side_fits.false)
