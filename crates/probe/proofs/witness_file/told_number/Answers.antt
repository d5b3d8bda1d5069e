-- `probe::witness_file::told_number` meets its contract. Assumes nothing.
use mathlib.Core.Path.{sym, ap, ◌∙◌}
use Rattle.probe.specs.WitnessFile.{reading_number}
use Rattle.probe.proofs.witness_file.told_number.Goals as goal

pub returns-in-Err : goal.returns-in-Err
returns-in-Err c = c.refusal_number.ensures ∙ sym (ap reading_number c.in-Err.is)
