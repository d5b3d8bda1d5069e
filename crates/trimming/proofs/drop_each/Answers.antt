-- `trimming::drop_each` meets its contract. The loop's invariant: what is dropped so far, and what is still to drop makes the clause that is wanted.
-- Assumes nothing.
use mathlib.Core.Path.{sym, ◌∙◌}
use Rattle.trimming.proofs.DropLaws.{all_dropped, ends_here}
use Rattle.trimming.proofs.drop_each.Goals as goal

pub returns-then-is_end-clause-table_after : goal.returns-then-is_end-clause-table_after
returns-then-is_end-clause-table_after c =
    let dropping = c.loop-at.invariant.0 in
    (sym (all_dropped dropping c.requires.1 (sym c.is_end.ensures ∙ c.if-is_end.true)) ∙ c.loop-at.invariant.1, dropping.indexed)

pub returns-then-is_end-clause-result_value : goal.returns-then-is_end-clause-result_value
returns-then-is_end-clause-result_value c = ends_here c.loop-at.invariant.0 (sym c.is_end.ensures ∙ c.if-is_end.true)
