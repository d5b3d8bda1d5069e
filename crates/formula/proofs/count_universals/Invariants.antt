-- `formula::count_universals` meets its contract. The loop's invariant: `universals` is those among the kinds passed.
-- Assumes nothing.
use Prim.Native.Nat.{◌+◌, ◌≤◌}
use mathlib.Core.Path.{◌≡◌}
use lib.ListN.{length, drop}
use Rattle.formula.specs.Formula.{universal, prefix}
use Rattle.formula.specs.Causes.{count}
use Rattle.formula.proofs.count_universals.Given as goal

abbrev pub invariant-loop-kind : goal.invariant-loop-kind
invariant-loop-kind l = (l.kind-index ≤ length l.kinds) × (l.universals ≤ l.kind-index) ×
    (count universal (prefix l.kinds) ≡ l.universals + count universal (prefix (drop l.kind-index l.kinds)))
