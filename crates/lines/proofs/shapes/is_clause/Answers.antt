-- Assumes nothing.
use mathlib.Core.Path.{refl, sym, ◌∙◌}
use Rattle.lines.specs.Shapes.{is_clause}
use Rattle.lines.proofs.shapes.is_clause.Goals as goal

pub returns-then-is_trimmed : goal.returns-then-is_trimmed
unfolding is_clause
returns-then-is_trimmed c = rw (sym c.is_trimmed.ensures ∙ c.if-is_trimmed.true) c.closed.ensures

pub returns-else-is_trimmed : goal.returns-else-is_trimmed
unfolding is_clause
returns-else-is_trimmed c = rw (sym c.is_trimmed.ensures ∙ c.if-is_trimmed.false) refl
