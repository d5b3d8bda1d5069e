-- `search_evaluation::unsatisfied_on` meets its contract. The loop's invariant: the clause lives if the codes left say so. Assumes nothing.
use Rattle.search_evaluation.proofs.ReadingLaws.{Living}
use Rattle.search_evaluation.proofs.unsatisfied_on.Given as goal

abbrev pub invariant-loop-e : goal.invariant-loop-e
invariant-loop-e l = Living l.codes l.work l.i l.start l.e
