-- A word is a number if its length and its first digit allow it. Assumes nothing.
use mathlib.Core.Path.{sym, ◌∙◌}
use native.Mathlib.Omega.{arith}
use Rattle.lines.proofs.Words.{number_short, number_long, number_single, number_leading, number_decimal}
use Rattle.lines.proofs.numbers.number.Goals as goal

pub returns-then-n-lt1 : goal.returns-then-n-lt1
returns-then-n-lt1 c = sym (number_short _ c.args.word.now (omega arith))

pub returns-then-most-n : goal.returns-then-most-n
returns-then-most-n c = let given = c.args in sym (number_long given.most given.word.now (omega arith))

pub returns-then-n-gt9 : goal.returns-then-n-gt9
returns-then-n-gt9 c = let given = c.args in sym (number_long given.most given.word.now (omega arith))

pub returns-then-n-eq1 : goal.returns-then-n-eq1
returns-then-n-eq1 c =
    let given = c.args in
    c.decimal.ensures ∙ sym (number_single given.most given.word.now (omega arith) (omega arith) c.if-n-eq1.true)

pub returns-then-word-eq48 : goal.returns-then-word-eq48
returns-then-word-eq48 c =
    let given = c.args in
    sym (number_leading given.most given.word.now (omega arith) (omega arith) c.if-n-eq1.false c.if-word-eq48.true)

pub returns : goal.returns
returns c =
    let given = c.args in
    c.decimal-2.ensures ∙ sym (number_decimal given.most given.word.now (omega arith) (omega arith) c.if-n-eq1.false
    c.if-word-eq48.false)
