-- `check_given` meets its contract. Assumes nothing.
use mathlib.Core.Path.{refl}
use Rattle.engine.proofs.search.SatisfiedRows.{rows_live}
use Rattle.engine.proofs.search.satisfied_rows.check_given.Goals as goal

pub returns-else-sizes_fit : goal.returns-else-sizes_fit
returns-else-sizes_fit c = rows_live _ _ _ _ _ _ _ _ (record { same = λ p lt l. refl })

pub check_rows-requires : goal.check_rows-requires
check_rows-requires c = c.sizes_fit.ensures c.if-sizes_fit.true

pub returns : goal.returns
returns c = c.check_rows.ensures
