-- `narrow` meets its contract. The invariant: what is found is a reason. Assumes nothing.
use Prim.Native.Nat.{◌≤◌, ◌-◌}
use mathlib.Core.Path.{◌≡◌}
use mathlib.Core.Bool.{true}
use Rattle.formula.specs.Formula.{max_unknowns}
use Rattle.codes.specs.Private.Clauses.{Coded}
use Rattle.search_sets.specs.Private.Masks.{words}
use Rattle.engine.specs.Private.Reasons.{IsReason}
use Rattle.engine.proofs.search.shortening.narrow.Given as goal

abbrev pub invariant-loop-from : goal.invariant-loop-from
invariant-loop-from l =
    (l.to ≤ l.k) × (Coded max_unknowns l.codes → l.found ≡ true → IsReason l.codes l.work l.sets l.i l.k (words l.low l.high))

abbrev pub decreases-loop-from : goal.decreases-loop-from
decreases-loop-from l = l.to - l.from
