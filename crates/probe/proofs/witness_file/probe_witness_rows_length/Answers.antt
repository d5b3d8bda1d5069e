-- `probe::witness_file::probe_witness_rows_length` meets its contract. Assumes nothing.
use mathlib.Core.Path.{ap}
use lib.ListN.{length}
use Rattle.probe.proofs.witness_file.probe_witness_rows_length.Goals as goal

pub returns : goal.returns
returns c = ap length c.rows-rows.ensures.result_value
