-- `trimming::reduce_clause` meets its contract.
-- Assumes nothing.
use native.Mathlib.Omega.{arith}
use Prim.Native.Nat.{ℕ, ◌≤◌}
use mathlib.Core.Path.{sym, ◌∙◌, ap, subst}
use lib.ListN.{drop}
use Rattle.trimming_marks.specs.Marks.{first_clause}
use Rattle.trimming.specs.Private.Table.{marked_at}
use Rattle.trimming.proofs.ReduceLaws.{two_from}
use Rattle.trimming.proofs.AgainLaws.{nothing_from}
use Rattle.trimming.proofs.reduce_clause.Goals as goal

pub drop_entries-requires : goal.drop_entries-requires
drop_entries-requires c =
    let given = c.args in (
      c.requires,
      subst (λ (n : ℕ). 2 ≤ n) (sym c.reducible-low.ensures)
          (two_from given.kinds.now (first_clause (drop given.start given.table.now)) 2 (omega arith)),
    )

pub returns-then-has_from : goal.returns-then-has_from
returns-then-has_from c =
    let drop_entries_call = c.drop_entries in
    let given = c.args in (
      drop_entries_call.ensures.table_after.0 ∙ ap (λ (n : ℕ). marked_at n 511 given.start given.table.now) (c.reducible-low.ensures),
      drop_entries_call.ensures.table_after.1,
    )

pub returns-else-has_from : goal.returns-else-has_from
returns-else-has_from c =
    let reducible_call = c.reducible-low in
    let given = c.args in
    let pre = c.requires in (
      nothing_from pre reducible_call.result
          (subst (λ (n : ℕ). 2 ≤ n) (sym reducible_call.ensures) (two_from given.kinds.now (first_clause (drop given.start given.table.now)) 2
          (omega arith))) (sym c.has_from.ensures ∙ c.if-has_from.false)
          ∙ ap (λ (n : ℕ). marked_at n 511 given.start given.table.now) reducible_call.ensures,
      pre.indexed,
    )
