-- `search_sets::has` meets its contract. Assumes nothing.
use mathlib.Core.Path.{sym, ◌∙◌}
use lib.ListN.{length}
use Rattle.formula.specs.Formula.{max_unknowns}
use Rattle.search_sets.proofs.TestLaws.{numbers_within}
use Rattle.search_sets.specs.Sets.{has}
use Rattle.search_sets.proofs.has.Goals as goal

pub has_at-requires : goal.has_at-requires
has_at-requires c =
    let given = c.args in
    numbers_within (length given.sets.now) given.of given.p max_unknowns c.numbers_fit.ensures c.if-numbers_fit.true

pub returns-then-numbers_fit : goal.returns-then-numbers_fit
unfolding has
returns-then-numbers_fit c = rw (sym c.numbers_fit.ensures ∙ c.if-numbers_fit.true) c.has_at.ensures

pub returns-else-numbers_fit : goal.returns-else-numbers_fit
unfolding has
returns-else-numbers_fit c = rw (sym c.numbers_fit.ensures ∙ c.if-numbers_fit.false)
