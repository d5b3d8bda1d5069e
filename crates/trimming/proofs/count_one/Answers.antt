-- `trimming::count_one` meets its contract.
-- Assumes nothing.
use Prim.Native.Nat.{◌+◌}
use native.Mathlib.Omega.{arith}
use mathlib.Core.Path.{◌∙◌}
use lib.ListN.{get_or, length-set}
use Rattle.trimming.proofs.DropLaws.{one_more, no_more}
use Rattle.trimming.proofs.count_one.Goals as goal

pub overflow_add-counts : goal.overflow_add-counts
overflow_add-counts c = let h = c.requires.1 c.args.x in omega arith

pub returns-then-code-lt-CODES : goal.returns-then-code-lt-CODES
returns-then-code-lt-CODES c =
    let given = c.args in
    let counts = given.counts.now in
    let x = given.x in
    (length-set counts x (get_or counts x 0 + 1) ∙ c.requires.0, one_more counts c.requires.0 x c.if-code-lt-CODES.true)

pub returns-else-code-lt-CODES : goal.returns-else-code-lt-CODES
returns-else-code-lt-CODES c = (c.requires.0, no_more c.args.counts.now c.requires.0 c.args.x c.if-code-lt-CODES.false)
