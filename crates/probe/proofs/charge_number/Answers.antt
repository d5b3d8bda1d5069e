-- `probe::charge_number` meets its contract. Assumes nothing.
use mathlib.Core.Path.{sym, ap, ◌∙◌}
use Rattle.probe.specs.Numbers.{charge_number}
use Rattle.probe.proofs.charge_number.Goals as goal

pub returns-in-Err : goal.returns-in-Err
returns-in-Err c = c.refusal_number.ensures ∙ sym (ap charge_number c.in-Err.is)
