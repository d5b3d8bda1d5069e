-- `search_evaluation::next_unsatisfied_on` meets its contract. The loop's invariant: the clause sought is the one that the codes left lead to. Assumes nothing.
use Rattle.search_evaluation.proofs.ReadingLaws.{Seeking}
use Rattle.search_evaluation.proofs.next_unsatisfied_on.Given as goal

abbrev pub invariant-loop-e : goal.invariant-loop-e
invariant-loop-e l = Seeking l.codes l.work l.i l.from l.start l.hit l.e
