-- `search_evaluation::look_on` meets its contract. The loop's invariant: what the codes left make of the unit is what all codes show. Assumes nothing.
use Rattle.search_evaluation.proofs.ReadingLaws.{Looking}
use Rattle.search_evaluation.proofs.look_on.Given as goal

abbrev pub invariant-loop-e : goal.invariant-loop-e
invariant-loop-e l = Looking l.codes l.work l.i l.start l.unit l.e
