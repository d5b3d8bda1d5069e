-- `propagation::propagate_list` meets its contract. The invariant: no look has failed. Assumes nothing.
use lib.ListN.{length}
use Rattle.engine.specs.Private.Steps.{Starts}
use Rattle.engine.proofs.search.PropagationLaws.{Going}
use Rattle.engine.proofs.search.propagation.propagate_list.Given as goal

abbrev pub invariant-loop-place : goal.invariant-loop-place
invariant-loop-place l = Going
    (Starts l.codes l.list 0 (length l.list)) l.differences
    l.codes l.lo l.hi l.level l.initial.work l.work l.initial.sets l.sets
