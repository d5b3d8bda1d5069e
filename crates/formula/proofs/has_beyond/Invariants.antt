-- `formula::has_beyond` meets its contract. The loop's invariant: `found` is true if an entry passed is beyond the unknowns.
-- Assumes nothing.
use Prim.Native.Nat.{◌≤◌}
use mathlib.Core.Path.{◌≡◌}
use mathlib.Core.Bool.{◌||◌}
use lib.ListN.{length, drop}
use Rattle.formula.specs.Causes.{any, beyond}
use Rattle.formula.proofs.has_beyond.Given as goal

abbrev pub invariant-loop-literal : goal.invariant-loop-literal
invariant-loop-literal l =
    (l.literal-index ≤ length l.literals) × (any (beyond l.unknowns) l.literals ≡ (l.found || any (beyond l.unknowns) (drop l.literal-index l.literals)))
