-- `trimming::drop_if_true` meets its contract.
-- Assumes nothing.
use mathlib.Core.Path.{sym, ◌∙◌}
use Rattle.trimming.proofs.LoopLaws.{true_here, true_dropped_at, true_kept_at}
use Rattle.trimming.proofs.drop_if_true.Goals as goal

pub drop_clause-requires : goal.drop_clause-requires
drop_clause-requires c =
    let pre = c.requires in
    true_here pre.0 pre.1 pre.2 pre.3 (sym c.is_always_true.ensures ∙ c.if-is_always_true.true)

pub returns-then-is_always_true : goal.returns-then-is_always_true
returns-then-is_always_true c =
    let drop_clause_call = c.drop_clause in
    let given = c.args in (
      true_dropped_at given.table.now drop_clause_call.new.table given.start (sym (c.is_always_true.ensures) ∙
          c.if-is_always_true.true) drop_clause_call.ensures.0,
      drop_clause_call.ensures.1,
    )

pub returns-else-is_always_true : goal.returns-else-is_always_true
returns-else-is_always_true c =
    let given = c.args in (
      true_kept_at given.table.now given.start (sym c.is_always_true.ensures ∙ c.if-is_always_true.false),
      c.requires.2,
    )
