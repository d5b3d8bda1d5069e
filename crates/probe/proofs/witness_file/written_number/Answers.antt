-- `probe::witness_file::written_number` meets its contract. Assumes nothing.
use mathlib.Core.Path.{sym, ap, ◌∙◌}
use Rattle.probe.specs.WitnessFile.{writing_number}
use Rattle.probe.proofs.witness_file.written_number.Goals as goal

pub returns-in-Err : goal.returns-in-Err
returns-in-Err c = c.refusal_number.ensures ∙ sym (ap writing_number c.in-Err.is)
