-- `trimming::count` meets its contract. The loop's invariant: what is counted and what the rest of the clause has come to the whole.
-- Assumes nothing.
use Rattle.trimming.proofs.DropLaws.{counting_begins}
use Rattle.trimming.proofs.count.Goals as goal

pub loop-i-init : goal.loop-i-init
loop-i-init c = counting_begins c.args.table.now c.args.start c.args.counts.now c.requires.1
