-- `propagation::propagate` meets its contract. The invariant: no look has failed. Assumes nothing.
use Rattle.engine.specs.Private.Steps.{Indexed}
use Rattle.engine.proofs.search.PropagationLaws.{Going}
use Rattle.engine.proofs.search.propagation.propagate.Given as goal

abbrev pub invariant-loop : goal.invariant-loop
invariant-loop l = Going (Indexed 0 l.codes l.index) l.differences l.codes l.lo l.hi l.level l.initial.work l.work
    l.initial.sets l.sets
