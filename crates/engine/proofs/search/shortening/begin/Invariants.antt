-- `begin` meets its contract. The invariant: what is set so far is held. Assumes nothing.
use mathlib.Core.List.{List}
use Prim.Native.Nat.{ℕ}
use Rattle.engine.specs.Private.Held.{Held}
use Rattle.engine.proofs.search.shortening.begin.Given as goal

abbrev pub invariant-loop-p : goal.invariant-loop-p
invariant-loop-p l = (codes : List ℕ) → Held codes l.work l.sets l.i l.line l.own
