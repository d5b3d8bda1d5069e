-- `probe::probe_trim` meets its contract. Assumes nothing.
use mathlib.Core.Path.{ap, ◌∙◌}
use Rattle.trimming.specs.Outcome.{used}
use Rattle.probe.specs.Numbers.{trim_number}
use Rattle.probe.proofs.probe_trim.Goals as goal

pub returns : goal.returns
returns c =
    let trim = c.trim-end.ensures in record {
      value = c.trim_number.ensures ∙ ap trim_number trim.value;
      output_after = trim.output_after;
      used_after = c.used_entries.ensures ∙ ap used trim.value;
    }
