-- `trimming::has_from` meets its contract. The loop's invariant: no entry passed is one that is looked for.
-- Assumes nothing.
use mathlib.Core.Path.{◌≡◌}
use lib.ListN.{drop}
use Rattle.formula.specs.Causes.{any}
use Rattle.trimming_marks.specs.Marks.{first_clause}
use Rattle.trimming.specs.Private.Table.{left_from}
use Rattle.trimming.proofs.has_from.Given as goal

abbrev pub invariant-loop-i : goal.invariant-loop-i
invariant-loop-i l = any (left_from l.low) (first_clause (drop l.start l.table)) ≡ any (left_from l.low) (first_clause (drop l.i l.table))
