-- `codes::past_clause` meets its contract. The loop's invariant: what is passed is of the clause.
-- Assumes nothing.
use Prim.Native.Nat.{◌≤◌}
use mathlib.Core.Path.{◌≡◌}
use lib.ListN.{length, drop}
use Rattle.codes.specs.Codes.{always_true, encoding_from}
use Rattle.codes.proofs.past_clause.Given as goal

abbrev pub invariant-loop-i : goal.invariant-loop-i
invariant-loop-i l = (l.from ≤ l.i) × (l.i ≤ length l.literals) × (encoding_from always_true (drop l.from l.literals) ≡ encoding_from always_true
    (drop l.i l.literals))
