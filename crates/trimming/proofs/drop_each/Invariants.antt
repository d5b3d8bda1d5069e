-- `trimming::drop_each` meets its contract. The loop's invariant: what is dropped so far, and what is still to drop makes the clause that is wanted.
-- Assumes nothing.
use mathlib.Core.Path.{◌≡◌}
use Rattle.trimming.specs.Private.Table.{marked_at, Dropping}
use Rattle.trimming.proofs.drop_each.Given as goal

abbrev pub invariant-loop-at : goal.invariant-loop-at
invariant-loop-at l =
    Dropping l.low l.start l.table l.index l.counts l.at × (marked_at l.low 511 l.start l.table ≡ marked_at l.low 511 l.start l.initial.table)
