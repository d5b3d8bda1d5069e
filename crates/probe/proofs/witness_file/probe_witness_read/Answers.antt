-- `probe::witness_file::probe_witness_read` meets its contract. Assumes nothing.
use mathlib.Core.Path.{ap, ◌∙◌}
use Rattle.probe.specs.WitnessFile.{reading_number, record_told}
use Rattle.probe.proofs.witness_file.probe_witness_read.Goals as goal

pub returns : goal.returns
returns c =
    let answer = c.read-answer.ensures.value in record {
      value = c.told_number.ensures ∙ ap reading_number answer;
      record_told = record { told = c.told_record-told.ensures ∙ ap record_told answer };
    }
