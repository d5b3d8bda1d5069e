-- `trimming::drop_clause` meets its contract.
-- Assumes nothing.
use native.Mathlib.Omega.{arith}
use mathlib.Core.Path.{◌∙◌}
use Rattle.trimming.proofs.EndLaws.{end_inside, whole_dropped, end_forgotten}
use Rattle.trimming.proofs.drop_clause.Goals as goal

pub drop_entries-at-requires : goal.drop_entries-at-requires
drop_entries-at-requires c = (c.requires, omega arith)

pub offset_bounds-table-at : goal.offset_bounds-table-at
offset_bounds-table-at c =
    let drop_entries_call = c.drop_entries-at in
    let pre = c.requires in
    let h = end_inside pre drop_entries_call.new.table drop_entries_call.new.index drop_entries_call.ensures.table_after.0
    drop_entries_call.ensures.table_after.1
    drop_entries_call.result drop_entries_call.ensures.result_value in
    omega (arith, pre.few, drop_entries_call.auto.table)

pub bounds-table-at : goal.bounds-table-at
bounds-table-at c =
    let drop_entries_call = c.drop_entries-at in
    end_inside (c.requires) drop_entries_call.new.table drop_entries_call.new.index drop_entries_call.ensures.table_after.0
    drop_entries_call.ensures.table_after.1 drop_entries_call.result drop_entries_call.ensures.result_value

pub returns : goal.returns
returns c =
    let drop_entries_call = c.drop_entries-at in
    let pre = c.requires in (
      whole_dropped pre drop_entries_call.new.table drop_entries_call.new.index drop_entries_call.ensures.table_after.0 drop_entries_call.ensures.table_after.1
          drop_entries_call.result drop_entries_call.ensures.result_value,
      c.remove.ensures ∙ end_forgotten pre drop_entries_call.new.table
          drop_entries_call.new.index drop_entries_call.ensures.table_after.0 drop_entries_call.ensures.table_after.1 drop_entries_call.result
          drop_entries_call.ensures.result_value,
    )
