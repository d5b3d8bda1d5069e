-- `probe::probe_preference` meets its contract. Assumes nothing.
use mathlib.Core.Path.{sym, ap, ◌∙◌}
use Rattle.probe.specs.Numbers.{value_number}
use Rattle.probe.proofs.probe_preference.Goals as goal

pub returns-then-preference : goal.returns-then-preference
returns-then-preference c = ap value_number (sym c.if-preference.true ∙ c.preference.ensures)

pub returns-else-preference : goal.returns-else-preference
returns-else-preference c = ap value_number (sym c.if-preference.false ∙ c.preference.ensures)
