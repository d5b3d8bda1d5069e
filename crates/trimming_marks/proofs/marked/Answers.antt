-- `trimming_marks::marked` meets its contract.
-- Assumes nothing.
use borrow.Author.Tests.{le-leb, lt-leb, lt-ltb, le-ltb}
use Rattle.trimming_marks.specs.Marks.{marked}
use Rattle.trimming_marks.proofs.marked.Goals as goal

pub returns-then-x-lt512 : goal.returns-then-x-lt512
unfolding marked
returns-then-x-lt512 c = rw (le-leb _ _ c.if-low-x.true, le-leb _ _ c.if-x-high.true, lt-ltb _ _ c.if-x-lt512.true)

pub returns-else-x-lt512 : goal.returns-else-x-lt512
unfolding marked
returns-else-x-lt512 c = rw (le-leb _ _ c.if-low-x.true, le-leb _ _ c.if-x-high.true, le-ltb _ _ c.if-x-lt512.false)

pub returns-else-x-high : goal.returns-else-x-high
unfolding marked
returns-else-x-high c = rw (le-leb _ _ c.if-low-x.true, lt-leb _ _ c.if-x-high.false)

pub returns-else-low-x : goal.returns-else-low-x
unfolding marked
returns-else-low-x c = rw (lt-leb _ _ c.if-low-x.false)
