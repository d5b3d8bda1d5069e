-- `trimming::drop_entries` meets its contract.
-- Assumes nothing.
use mathlib.Core.Path.{refl}
use Rattle.trimming.proofs.EndLaws.{dropping_begins}
use Rattle.trimming.proofs.drop_entries.Goals as goal

pub count-requires : goal.count-requires
count-requires c = (c.requires.0.few, refl)

pub drop_each-requires : goal.drop_each-requires
drop_each-requires c =
    let count_call = c.count in
    let pre = c.requires in
    (dropping_begins pre.0 (c.args.low) count_call.new.counts count_call.ensures, pre.1)

pub returns : goal.returns
returns c =
    let both = c.drop_each.ensures in
    record { table_after = both.table_after; result_value = both.result_value }
