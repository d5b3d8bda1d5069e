-- The word without its minus sign. Assumes nothing.
use mathlib.Core.Path.{ap, sym, ◌∙◌}
use Rattle.lines.specs.Numbers.{number}
use Rattle.lines.proofs.Words.{unsigned_minus, unsigned_plain}
use Rattle.lines.proofs.numbers.magnitude.Goals as goal

pub returns-then-negative : goal.returns-then-negative
returns-then-negative c = c.number.ensures ∙ ap number (unsigned_minus c.args.word.now
    (sym c.negative.ensures ∙ c.if-negative.true))

pub returns-else-negative : goal.returns-else-negative
returns-else-negative c = c.number-else-negative.ensures ∙ ap number (unsigned_plain c.args.word.now
    (sym c.negative.ensures ∙ c.if-negative.false))
