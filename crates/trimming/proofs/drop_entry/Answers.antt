-- `trimming::drop_entry` meets its contract.
-- Assumes nothing.
use lib.ListN.{get_or}
use mathlib.Core.Path.{sym, ◌∙◌}
use Rattle.trimming.proofs.DropLaws.{left_bounds, not_left, passes, drops, marks_same, moved_on}
use Rattle.trimming.proofs.drop_entry.Goals as goal

pub returns-then-is_left_from : goal.returns-then-is_left_from
returns-then-is_left_from c =
    let pre = c.requires in
    let left = left_bounds c.args.low (get_or c.args.table.now c.args.at 0) (sym c.is_left_from.ensures ∙ c.if-is_left_from.true) in
    record {
      dropping = moved_on (drops pre.0 pre.1 left.0 left.1) c.forget.ensures.index_after c.forget.ensures.counts_after;
      table_unchanged = marks_same pre.0 pre.1 left.0 left.1;
    }

pub returns-else-is_left_from-clause-dropping : goal.returns-else-is_left_from-clause-dropping
returns-else-is_left_from-clause-dropping c =
    passes c.requires.0 c.requires.1
    (not_left c.args.low (get_or c.args.table.now c.args.at 0) (sym c.is_left_from.ensures ∙ c.if-is_left_from.false))
