-- `probe::restrictions::probe_set_first` meets its contract. Assumes nothing.
use mathlib.Core.Path.{ap, ◌∙◌}
use Rattle.restriction.specs.Outcome.{used}
use Rattle.probe.specs.Restrictions.{set_number}
use Rattle.probe.proofs.restrictions.probe_set_first.Goals as goal

pub returns : goal.returns
returns c =
    let end = c.set_first-end.ensures in record {
      value = c.number_of.ensures ∙ ap set_number end.value;
      output_after = end.output_after;
      used_after = c.set_entries.ensures ∙ ap used end.value;
    }
