-- `column` meets its contract. The invariant: the rows passed are told. Assumes nothing.
use Rattle.engine.specs.Private.TermSteps.{Told}
use Rattle.engine.proofs.search.term_table.column.Given as goal

abbrev pub invariant-loop-l : goal.invariant-loop-l
invariant-loop-l l = Told l.kind l.work l.k l.from l.l l.on l.off
