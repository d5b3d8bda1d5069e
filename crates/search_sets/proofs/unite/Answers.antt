-- `search_sets::unite` meets its contract. Assumes nothing.
use mathlib.Core.Path.{sym, ◌∙◌}
use native.Mathlib.Omega.{arith}
use lib.ListN.{length}
use Rattle.search_sets.proofs.TestLaws.{numbers_within}
use Rattle.search_sets.specs.Sets.{united, set_places}
use Rattle.search_sets.proofs.unite.Goals as goal

pub returns-else-numbers_fit : goal.returns-else-numbers_fit
unfolding united
returns-else-numbers_fit c = rw (sym c.numbers_fit.ensures ∙ c.if-numbers_fit.false)

pub unite_at-requires : goal.unite_at-requires
unite_at-requires c =
    let given = c.args in
    let within = numbers_within (length given.sets.now) given.to given.from set_places c.numbers_fit.ensures
    c.if-numbers_fit.true in
    (within.0, omega arith, omega arith)

pub returns : goal.returns
unfolding united
returns c = rw (sym c.numbers_fit.ensures ∙ c.if-numbers_fit.true)
    c.unite_at.ensures
