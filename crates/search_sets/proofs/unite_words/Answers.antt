-- `search_sets::unite_words` meets its contract. Assumes nothing.
use mathlib.Core.Path.{sym, ◌∙◌}
use native.Mathlib.Omega.{arith}
use lib.ListN.{length}
use Rattle.search_sets.proofs.TestLaws.{place_there}
use Rattle.search_sets.specs.Sets.{united_words}
use Rattle.search_sets.proofs.unite_words.Goals as goal

pub returns-else-has_place : goal.returns-else-has_place
unfolding united_words
returns-else-has_place c = rw (sym c.has_place.ensures ∙ c.if-has_place.false)

pub join-requires : goal.join-requires
join-requires c =
    let given = c.args in
    let within = place_there (length given.sets.now) given.to c.has_place.ensures c.if-has_place.true in (within.0, omega arith)

pub returns : goal.returns
unfolding united_words
returns c = rw (sym c.has_place.ensures ∙ c.if-has_place.true)
    c.join.ensures
