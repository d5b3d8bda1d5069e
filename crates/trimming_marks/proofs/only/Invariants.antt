-- `trimming_marks::only` meets its contract. The loop's invariant: `found` is the only entry passed that is left, or 0.
-- Assumes nothing.
use mathlib.Core.Path.{◌≡◌}
use lib.ListN.{drop}
use Rattle.trimming_marks.specs.Marks.{first_clause, only}
use Rattle.trimming_marks.proofs.only.Given as goal

abbrev pub invariant-loop-i : goal.invariant-loop-i
invariant-loop-i l =
    only 0 (first_clause (drop l.start l.table)) ≡ only l.found (first_clause (drop l.i l.table))
