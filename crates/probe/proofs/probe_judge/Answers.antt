-- `probe::probe_judge` meets its contract. Assumes nothing.
use mathlib.Core.Path.{ap, ◌∙◌}
use Rattle.probe.specs.Numbers.{judge_number}
use Rattle.probe.proofs.probe_judge.Goals as goal

pub returns : goal.returns
returns c =
    let judge = c.judge.ensures in record {
      value = c.judge_number.ensures ∙ ap judge_number judge.returned;
      work_after = judge.area;
    }
