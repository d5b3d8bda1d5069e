-- `trimming::with_table` meets its contract.
-- Assumes nothing.
use Rattle.trimming.proofs.with_table.Goals as goal

pub over_table-requires : goal.over_table-requires
over_table-requires c = let given = c.requires in (given.0, given.1, given.0.few_entries)

pub returns : goal.returns
returns c = let trimming = c.over_table in record {
  value = trimming.ensures.value;
  output_after = trimming.ensures.output_after;
}
