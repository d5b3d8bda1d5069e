-- `first_block::rules_out` meets its contract. The loop's invariant: before j the row has the remembered values. Assumes nothing.
use Rattle.engine.proofs.search.FirstBlockLaws.{Before}
use Rattle.engine.proofs.search.first_block.rules_out.Given as goal

abbrev pub invariant-loop-j : goal.invariant-loop-j
invariant-loop-j l = Before l.block l.work l.i l.j
