-- `fill_word` meets its contract. The invariant: the clauses passed have their terms open. Assumes nothing.
use Rattle.engine.proofs.search.RowLaws.{Visiting}
use Rattle.engine.proofs.search.term_table.fill_word.Given as goal

abbrev pub invariant-loop-j : goal.invariant-loop-j
invariant-loop-j l = Visiting l.codes l.terms l.misses l.w l.all l.j l.initial.opened l.opened
