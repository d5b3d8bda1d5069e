-- `propagate_occurrences` meets its contract. The invariant: no look has failed. Assumes nothing.
use mathlib.Core.Bool.{true}
use Rattle.engine.specs.Private.Held.{Moves}
use Rattle.engine.proofs.search.shortening.propagate_occurrences.Given as goal

abbrev pub invariant-loop-at : goal.invariant-loop-at
invariant-loop-at l = Moves l.codes l.initial.line l.line l.initial.own l.own true
