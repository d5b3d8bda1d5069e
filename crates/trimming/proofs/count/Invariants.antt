-- `trimming::count` meets its contract. The loop's invariant: what is counted and what the rest of the clause has come to the whole.
-- Assumes nothing.
use Rattle.trimming.proofs.DropLaws.{Counting}
use Rattle.trimming.proofs.count.Given as goal

abbrev pub invariant-loop-i : goal.invariant-loop-i
invariant-loop-i l = Counting l.table l.start l.counts l.i
