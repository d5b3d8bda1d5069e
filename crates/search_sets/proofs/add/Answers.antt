-- `search_sets::add` meets its contract. Assumes nothing.
use mathlib.Core.Path.{sym, ◌∙◌}
use native.Mathlib.Omega.{arith}
use lib.ListN.{length}
use Rattle.formula.specs.Formula.{max_unknowns}
use Rattle.search_sets.proofs.TestLaws.{numbers_within}
use Rattle.search_sets.specs.Sets.{added}
use Rattle.search_sets.proofs.add.Goals as goal

pub returns-else-numbers_fit : goal.returns-else-numbers_fit
unfolding added
returns-else-numbers_fit c = rw (sym c.numbers_fit.ensures ∙ c.if-numbers_fit.false)

pub add_at-requires : goal.add_at-requires
add_at-requires c =
    let given = c.args in
    let within = numbers_within (length given.sets.now) given.to given.p max_unknowns c.numbers_fit.ensures
    c.if-numbers_fit.true in
    (within.0, omega arith, omega arith)

pub returns : goal.returns
unfolding added
returns c = rw (sym c.numbers_fit.ensures ∙ c.if-numbers_fit.true)
    c.add_at.ensures
