-- `probe::witness_file::probe_witness_write` meets its contract. Assumes nothing.
use mathlib.Core.Path.{ap, ◌∙◌}
use Rattle.probe.specs.WitnessFile.{writing_number, length_told}
use Rattle.probe.proofs.witness_file.probe_witness_write.Goals as goal

pub returns : goal.returns
returns c =
    let write = c.write-answer.ensures in record {
      value = c.written_number.ensures ∙ ap writing_number write.value;
      length_after = c.written_length.ensures ∙ ap length_told write.value;
      out_after = write.out_after;
    }
