-- `formula::count_zeros` meets its contract. The loop's invariant: `count` is the zeros among the entries passed.
-- Assumes nothing.
use Prim.Native.Nat.{◌+◌, ◌≤◌}
use mathlib.Core.Path.{◌≡◌}
use lib.ListN.{length, drop}
use Rattle.formula.specs.Causes.{zeros}
use Rattle.formula.proofs.count_zeros.Given as goal

abbrev pub invariant-loop-literal : goal.invariant-loop-literal
invariant-loop-literal l = (l.literal-index ≤ length l.literals) × (l.count ≤ l.literal-index) ×
    (zeros l.literals ≡ l.count + zeros (drop l.literal-index l.literals))
