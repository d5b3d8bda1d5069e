-- The number 0 is the single digit 0. Assumes nothing.
use mathlib.Core.Path.{sym}
use Rattle.lines.proofs.Words.{zero_longer, zero_single}
use Rattle.lines.proofs.numbers.is_zero.Goals as goal

pub returns-then-word-ne1 : goal.returns-then-word-ne1
returns-then-word-ne1 c = sym (zero_longer c.args.word.now c.if-word-ne1.true)

pub returns : goal.returns
returns c = sym (zero_single c.args.word.now c.if-word-ne1.false)
