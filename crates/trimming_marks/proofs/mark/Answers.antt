-- `trimming_marks::mark` meets its contract. The loop's invariant: what is marked so far, and the rest of the clause marked, are the whole.
-- Assumes nothing.
use native.Mathlib.Omega.{arith}
use mathlib.Core.Path.{sym, ◌∙◌}
use Rattle.trimming_marks.proofs.Walks.{mark_end}
use Rattle.trimming_marks.proofs.mark.Goals as goal

pub returns-then-is_end-clause-table_after : goal.returns-then-is_end-clause-table_after
returns-then-is_end-clause-table_after c =
    mark_end c.loop-i.table c.loop-i.i (omega arith) c.args.low c.args.high c.marked.result c.marked.ensures
    (sym c.is_end.ensures ∙ c.if-is_end.true) ∙ sym c.loop-i.invariant.1
