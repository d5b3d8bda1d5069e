-- `trimming_marks::past` meets its contract. The loop's invariant: the places passed and those left of the clause are its length.
-- Assumes nothing.
use Prim.Native.Nat.{◌+◌}
use mathlib.Core.Path.{◌≡◌}
use lib.ListN.{drop}
use Rattle.trimming_marks.specs.Marks.{first_length}
use Rattle.trimming_marks.proofs.past.Given as goal

abbrev pub invariant-loop-i : goal.invariant-loop-i
invariant-loop-i l =
    l.start + first_length (drop l.start l.table) ≡ l.i + first_length (drop l.i l.table)
