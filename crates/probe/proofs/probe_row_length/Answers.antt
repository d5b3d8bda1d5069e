-- `probe::probe_row_length` meets its contract. Assumes nothing.
use mathlib.Core.Path.{ap}
use lib.ListN.{length}
use Rattle.probe.proofs.probe_row_length.Goals as goal

pub returns : goal.returns
returns c = ap length c.row-row.ensures.result_value
