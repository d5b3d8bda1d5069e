-- `probe::restrictions::number_of` meets its contract. Assumes nothing.
use mathlib.Core.Path.{sym, ap, ◌∙◌}
use Rattle.probe.specs.Restrictions.{set_number}
use Rattle.probe.proofs.restrictions.number_of.Goals as goal

pub returns-in-Err : goal.returns-in-Err
returns-in-Err c = c.refusal_number.ensures ∙ sym (ap set_number c.in-Err.is)
