-- `codes::has_beyond` meets its contract. The loop's invariant: `found` is true if an entry passed is beyond 128.
-- Assumes nothing.
use Prim.Native.Nat.{◌≤◌}
use mathlib.Core.Path.{◌≡◌}
use mathlib.Core.Bool.{◌||◌}
use lib.ListN.{length, drop}
use Rattle.formula.specs.Formula.{max_unknowns}
use Rattle.formula.specs.Causes.{any, beyond}
use Rattle.codes.proofs.has_beyond.Given as goal

abbrev pub invariant-loop-literal : goal.invariant-loop-literal
invariant-loop-literal l =
    (l.literal-index ≤ length l.literals) × (any (beyond max_unknowns) l.literals ≡ (l.found || any (beyond max_unknowns) (drop l.literal-index l.literals)))
