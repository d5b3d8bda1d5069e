-- `propagation::propagate_rows` meets its contract. The invariant: no look has failed. Assumes nothing.
use lib.ListN.{length}
use Rattle.engine.specs.Private.Steps.{Indexed, Starts}
use Rattle.engine.proofs.search.PropagationLaws.{Going}
use Rattle.engine.proofs.search.propagation.propagate_rows.Given as goal

abbrev pub invariant-loop-i : goal.invariant-loop-i
invariant-loop-i l = Going (Indexed 0 l.codes l.index × Starts l.codes l.short 0 (length l.short)) l.differences l.codes 0
    (length l.differences) 1
    l.initial.work l.work l.initial.sets l.sets
