-- `search_sets::add_reasons` meets its contract. The loop's invariant: the codes to come make of the sets what all of them make of the first ones.
-- Assumes nothing.
use mathlib.Core.Path.{refl, sym, ◌∙◌}
use native.Mathlib.Omega.{arith}
use lib.ListN.{length}
use Rattle.search_sets.specs.Sets.{reasons_added}
use Rattle.search_sets.proofs.TestLaws.{place_there}
use Rattle.search_sets.proofs.LoopLaws.{codes_stop, codes_end}
use Rattle.search_sets.proofs.add_reasons.Goals as goal

pub returns-else-has_place : goal.returns-else-has_place
unfolding reasons_added
returns-else-has_place c = rw (sym c.has_place.ensures ∙ c.if-has_place.false)

pub loop-e-init : goal.loop-e-init
loop-e-init c =
    let given = c.args in
    let there = place_there (length given.sets.now) given.to c.has_place.ensures c.if-has_place.true in (there.0, refl)

pub returns-then-c-eq0 : goal.returns-then-c-eq0
unfolding reasons_added
returns-then-c-eq0 c =
    let loop = c.loop-e in
    let given = c.args in
    rw (sym c.has_place.ensures ∙ c.if-has_place.true)
    (codes_stop given.codes.now given.to loop.e loop.sets (omega arith) (omega arith) ∙ loop.invariant.1)

pub unite_at-requires : goal.unite_at-requires
unite_at-requires c =
    let given = c.args in
    let there = place_there (length given.sets.now) given.to c.has_place.ensures c.if-has_place.true in
    (c.loop-e.invariant.0, there.1, omega arith)

pub returns : goal.returns
unfolding reasons_added
returns c =
    let given = c.args in
    rw (sym c.has_place.ensures ∙ c.if-has_place.true)
    (codes_end given.codes.now given.to c.loop-e.e c.loop-e.sets (omega arith) ∙ c.loop-e.invariant.1)
