-- The loop of `spread` ends: each step takes a bit away. Assumes nothing.
use Rattle.engine.proofs.search.term_table.spread.Given as goal

abbrev pub decreases-loop-left : goal.decreases-loop-left
decreases-loop-left l = l.left
