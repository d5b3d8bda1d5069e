-- `formula::has_other_kind` meets its contract. The loop's invariant: `found` is true if a kind passed is neither 0 nor 1.
-- Assumes nothing.
use Prim.Native.Nat.{◌≤◌}
use mathlib.Core.Path.{◌≡◌}
use mathlib.Core.Bool.{◌||◌}
use lib.ListN.{length, drop}
use Rattle.formula.specs.Causes.{any, other_kind}
use Rattle.formula.proofs.has_other_kind.Given as goal

abbrev pub invariant-loop-kind : goal.invariant-loop-kind
invariant-loop-kind l = (l.kind-index ≤ length l.kinds) × (any other_kind l.kinds ≡ (l.found || any other_kind (drop l.kind-index l.kinds)))
