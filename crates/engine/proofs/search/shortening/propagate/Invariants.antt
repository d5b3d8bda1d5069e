-- `propagate` meets its contract. The invariant: no look has failed. Assumes nothing.
use mathlib.Core.Bool.{true}
use Rattle.engine.specs.Private.Held.{Moves}
use Rattle.engine.proofs.search.shortening.propagate.Given as goal

abbrev pub invariant-loop-h : goal.invariant-loop-h
invariant-loop-h l = Moves l.codes l.initial.line l.line l.initial.own l.own true
