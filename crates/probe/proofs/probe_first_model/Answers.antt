-- `probe::probe_first_model` meets its contract. Assumes nothing.
use mathlib.Core.Path.{ap, ◌∙◌}
use Rattle.probe.specs.Numbers.{search_number}
use Rattle.probe.proofs.probe_first_model.Goals as goal

pub returns : goal.returns
returns c =
    let search = c.first_model.ensures in record {
      value = c.search_number.ensures ∙ ap search_number search.returned;
      work_after = search.area;
    }
