-- `remaining` meets its contract. The invariant: a row is left, or a literal that was read hits in it. Assumes nothing.
use Rattle.engine.proofs.search.ClauseLaws.{Reading}
use Rattle.engine.proofs.search.term_table.remaining.Given as goal

abbrev pub invariant-loop-e : goal.invariant-loop-e
invariant-loop-e l = Reading l.codes l.misses l.start l.rows l.left l.e
