-- `search_sets::empty` meets its contract. Assumes nothing.
use mathlib.Core.Path.{sym, ◌∙◌}
use native.Mathlib.Omega.{arith}
use lib.ListN.{length}
use Rattle.search_sets.proofs.TestLaws.{place_there}
use Rattle.search_sets.specs.Sets.{emptied}
use Rattle.search_sets.proofs.empty.Goals as goal

pub returns-else-has_place : goal.returns-else-has_place
unfolding emptied
returns-else-has_place c = rw (sym c.has_place.ensures ∙ c.if-has_place.false)

pub put-requires : goal.put-requires
put-requires c =
    let given = c.args in
    let within = place_there (length given.sets.now) given.to c.has_place.ensures c.if-has_place.true in (within.0, omega arith)

pub returns : goal.returns
unfolding emptied
returns c = rw (sym c.has_place.ensures ∙ c.if-has_place.true)
    c.put.ensures
