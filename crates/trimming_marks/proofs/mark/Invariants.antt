-- `trimming_marks::mark` meets its contract. The loop's invariant: what is marked so far, and the rest of the clause marked, are the whole.
-- Assumes nothing.
use Prim.Native.Nat.{◌+◌}
use mathlib.Core.Path.{◌≡◌}
use mathlib.Core.List.{◌++◌}
use lib.ListN.{take, drop}
use Rattle.trimming_marks.specs.Marks.{first_length, mark_clause}
use Rattle.trimming_marks.proofs.mark.Given as goal

abbrev pub invariant-loop-i : goal.invariant-loop-i
invariant-loop-i l =
    (l.start + first_length (drop l.start l.initial.table) ≡ l.i + first_length (drop l.i l.table))
    × (take l.start l.initial.table ++ mark_clause l.low l.high (drop l.start l.initial.table) ≡ take l.i l.table ++ mark_clause l.low l.high
    (drop l.i l.table))
