-- `is_false_but` meets its contract. The invariant: what holds of the rest gives the whole clause. Assumes nothing.
use Rattle.engine.proofs.search.HeldSteps.{Reading}
use Rattle.engine.proofs.search.shortening.is_false_but.Given as goal

abbrev pub invariant-loop-e : goal.invariant-loop-e
invariant-loop-e l = Reading l.codes l.line l.start l.but l.e
