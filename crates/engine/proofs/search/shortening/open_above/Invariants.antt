-- `open_above` meets its contract. The invariant: positions were opened. Assumes nothing.
use Rattle.engine.specs.Private.Held.{LineOpened}
use Rattle.engine.proofs.search.shortening.open_above.Given as goal

abbrev pub invariant-loop-x : goal.invariant-loop-x
invariant-loop-x l = LineOpened l.initial.line l.line
