-- `earliest_own` meets its contract. The invariant: what the rest has, the clause has. Assumes nothing.
use Rattle.engine.proofs.search.TermLaws.{Earliest}
use Rattle.engine.proofs.search.satisfied_rows.earliest_own.Given as goal

abbrev pub invariant-loop-e : goal.invariant-loop-e
invariant-loop-e l = Earliest l.kinds l.codes l.work l.i l.start l.e l.best
