-- `probe::trim_number` meets its contract. Assumes nothing.
use mathlib.Core.Path.{sym, ap, ◌∙◌}
use Rattle.probe.specs.Numbers.{trim_number}
use Rattle.probe.proofs.trim_number.Goals as goal

pub returns-in-Err : goal.returns-in-Err
returns-in-Err c = c.refusal_number.ensures ∙ sym (ap trim_number c.in-Err.is)
