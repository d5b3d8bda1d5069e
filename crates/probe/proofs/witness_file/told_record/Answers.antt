-- `probe::witness_file::told_record` meets its contract. Assumes nothing.
use mathlib.Core.Path.{sym, ap}
use Rattle.probe.specs.WitnessFile.{record_told}
use Rattle.probe.proofs.witness_file.told_record.Goals as goal

pub returns-in-Err : goal.returns-in-Err
returns-in-Err c = sym (ap record_told c.in-Err.is)
