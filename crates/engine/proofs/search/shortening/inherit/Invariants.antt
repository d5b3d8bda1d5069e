-- `inherit` meets its contract. The invariant: so far the set at p has those of the other. Assumes nothing.
use Rattle.engine.specs.Private.Held.{Inheriting}
use Rattle.engine.proofs.search.shortening.inherit.Given as goal

abbrev pub invariant-loop-l : goal.invariant-loop-l
invariant-loop-l l = Inheriting l.p l.l l.initial.own l.own
