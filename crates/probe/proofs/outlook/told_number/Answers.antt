-- `probe::outlook::told_number` meets its contract. Assumes nothing.
use mathlib.Core.Path.{sym, ap, ◌∙◌}
use Rattle.probe.specs.Outlook.{outlook_number}
use Rattle.probe.proofs.outlook.told_number.Goals as goal

pub returns-in-Err : goal.returns-in-Err
returns-in-Err c = c.refusal_number.ensures ∙ sym (ap outlook_number c.in-Err.is)
