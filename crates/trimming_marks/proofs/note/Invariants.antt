-- `trimming_marks::note` meets its contract. The loop's invariant: what is noted so far, and the rest of the clause noted, are the whole.
-- Assumes nothing.
use mathlib.Core.Path.{◌≡◌}
use lib.ListN.{drop}
use Rattle.trimming_marks.specs.Marks.{first_clause, noted}
use Rattle.trimming_marks.proofs.note.Given as goal

abbrev pub invariant-loop-i : goal.invariant-loop-i
invariant-loop-i l =
    noted l.initial.seen (first_clause (drop l.start l.table)) ≡ noted l.seen (first_clause (drop l.i l.table))
