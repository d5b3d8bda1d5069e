-- `row_satisfied` meets its contract. Assumes nothing.
use mathlib.Core.Path.{refl}
use Rattle.engine.proofs.search.SatisfiedRows.{told_unsatisfied, told_looked}
use Rattle.engine.proofs.search.satisfied_rows.row_satisfied.Goals as goal

pub returns-then-left-eq0 : goal.returns-then-left-eq0
returns-then-left-eq0 c = c.satisfied_by_terms.ensures

pub returns-then-left : goal.returns-then-left
returns-then-left c = told_looked _ _ _ _ _ _ _ c.none_unsatisfied.ensures

pub returns : goal.returns
returns c = told_unsatisfied _ _ _ _ _ _ _ (record { same = λ p lt l. refl })
