-- `search_sets::numbers_fit` meets its contract. Assumes nothing.
use mathlib.Core.Path.{sym, ◌∙◌}
use Rattle.search_sets.specs.Sets.{numbers_fit}
use Rattle.search_sets.proofs.numbers_fit.Goals as goal

pub returns-then-has_place : goal.returns-then-has_place
unfolding numbers_fit
returns-then-has_place c = rw (sym c.has_place.ensures ∙ c.if-has_place.true)

pub returns-else-has_place : goal.returns-else-has_place
unfolding numbers_fit
returns-else-has_place c = rw (sym c.has_place.ensures ∙ c.if-has_place.false)
