-- `probe` meets its contract. The invariant: what is set is held, and after a conflict the set behind is denied. Assumes nothing.
use Rattle.formula.specs.Formula.{max_unknowns}
use Rattle.codes.specs.Private.Clauses.{Coded}
use Rattle.engine.specs.Private.Held.{Moved}
use Rattle.engine.proofs.search.shortening.probe.Given as goal

abbrev pub invariant-loop-left : goal.invariant-loop-left
invariant-loop-left l = Coded max_unknowns l.codes → Moved l.codes l.work l.sets l.i l.line l.own l.going
