-- `backjump_target` meets its contract. The invariant: the sets stay. Assumes nothing.
use Rattle.engine.specs.Private.Held.{Same}
use Rattle.engine.proofs.search.shortening.backjump_target.Given as goal

abbrev pub invariant-loop-d : goal.invariant-loop-d
invariant-loop-d l = Same l.initial.own l.own
