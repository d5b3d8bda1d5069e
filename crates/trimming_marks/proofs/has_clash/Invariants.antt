-- `trimming_marks::has_clash` meets its contract. The loop's invariant: no entry passed is one that is looked for.
-- Assumes nothing.
use mathlib.Core.Path.{◌≡◌}
use lib.ListN.{drop}
use Rattle.formula.specs.Causes.{any}
use Rattle.trimming_marks.specs.Marks.{first_clause, noted_clash}
use Rattle.trimming_marks.proofs.has_clash.Given as goal

abbrev pub invariant-loop-i : goal.invariant-loop-i
invariant-loop-i l =
    any (noted_clash l.seen) (first_clause (drop l.start l.table)) ≡ any (noted_clash l.seen) (first_clause (drop l.i l.table))
