-- `probe::outlook::probe_forecast` meets its contract. Assumes nothing.
use mathlib.Core.Path.{ap, ◌∙◌}
use Rattle.forecast.specs.Outcome.{universal_copies, existential_copies}
use Rattle.probe.specs.Outlook.{outlook_number}
use Rattle.probe.proofs.outlook.probe_forecast.Goals as goal

pub returns : goal.returns
returns c =
    let answer = c.forecast-answer.ensures.proved.returned in record {
      value = c.told_number.ensures ∙ ap outlook_number answer;
      over_universal_after = c.copies_over_universal.ensures ∙ ap universal_copies answer;
      over_existential_after = c.copies_over_existential.ensures ∙ ap existential_copies answer;
    }
