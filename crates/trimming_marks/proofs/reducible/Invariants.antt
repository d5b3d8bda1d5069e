-- `trimming_marks::reducible` meets its contract. The loop's invariant: `low` is what the entries passed give.
-- Assumes nothing.
use mathlib.Core.Path.{◌≡◌}
use lib.ListN.{drop}
use Rattle.trimming_marks.specs.Marks.{first_clause, reducible_from}
use Rattle.trimming_marks.proofs.reducible.Given as goal

abbrev pub invariant-loop-i : goal.invariant-loop-i
invariant-loop-i l =
    reducible_from l.kinds 2 (first_clause (drop l.start l.table)) ≡ reducible_from l.kinds l.low (first_clause (drop l.i l.table))
