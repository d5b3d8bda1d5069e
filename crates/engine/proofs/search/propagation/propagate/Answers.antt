-- `propagation::propagate` meets its contract. The invariant: no look has failed. Assumes nothing.
use Rattle.engine.proofs.search.PropagationLaws.{going_noted, going_then, going_ends}
use Rattle.engine.proofs.search.propagation.propagate.Goals as goal

pub returns-in_default : goal.returns-in_default
returns-in_default c = (going_noted c.loop.invariant c.take_lowest.ensures.kept c.take_lowest.auto.sets).propagates

pub returns-else-propagate_occurrences : goal.returns-else-propagate_occurrences
returns-else-propagate_occurrences c =
    let look = c.propagate_occurrences in
    going_ends (going_noted c.loop.invariant c.take_lowest.ensures.kept c.take_lowest.auto.sets) look.new.work look.new.sets look.result look.ensures
    c.if-propagate_occurrences.false

pub loop-preserved : goal.loop-preserved
loop-preserved c =
    let look = c.propagate_occurrences in
    going_then (going_noted c.loop.invariant c.take_lowest.ensures.kept c.take_lowest.auto.sets) look.result look.ensures
    c.if-propagate_occurrences.true look.auto.work look.auto.sets
