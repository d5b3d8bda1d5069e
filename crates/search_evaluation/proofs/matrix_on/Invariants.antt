-- `search_evaluation::matrix_on` meets its contract. The loop's invariant: the matrix is that of the codes left. Assumes nothing.
use Rattle.search_evaluation.proofs.ReadingLaws.{Matching}
use Rattle.search_evaluation.proofs.matrix_on.Given as goal

abbrev pub invariant-loop-code : goal.invariant-loop-code
invariant-loop-code l = Matching l.codes l.work l.i l.met l.code-index
