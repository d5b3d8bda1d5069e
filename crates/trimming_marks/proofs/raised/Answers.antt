-- `trimming_marks::raised` meets its contract.
-- Assumes nothing.
use native.Mathlib.Omega.{arith}
use borrow.Author.Tests.{le-leb, lt-leb, lt-ltb, le-ltb}
use mathlib.Core.Path.{sym, ◌∙◌}
use Rattle.trimming_marks.specs.Marks.{raised}
use Rattle.trimming_marks.proofs.raised.Goals as goal

pub returns-else-is_universal : goal.returns-else-is_universal
unfolding raised
returns-else-is_universal c =
    let given = c.args in
    rw (lt-ltb given.x 512 (omega arith), le-leb given.low given.x (omega arith), sym c.is_universal.ensures ∙ c.if-is_universal.false)

pub returns-then-is_universal : goal.returns-then-is_universal
unfolding raised
returns-then-is_universal c =
    let given = c.args in
    rw (lt-ltb given.x 512 (omega arith), le-leb given.low given.x (omega arith), sym c.is_universal.ensures ∙ c.if-is_universal.true)

pub returns-else-x-low : goal.returns-else-x-low
unfolding raised
returns-else-x-low c =
    let given = c.args in
    rw (lt-ltb given.x 512 (omega arith), lt-leb given.low given.x (omega arith))

pub returns-else-x-lt512 : goal.returns-else-x-lt512
unfolding raised
returns-else-x-lt512 c = rw (le-ltb c.args.x 512 (omega arith))
