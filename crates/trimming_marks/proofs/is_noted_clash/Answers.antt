-- `trimming_marks::is_noted_clash` meets its contract.
-- Assumes nothing.
use native.Mathlib.Omega.{arith}
use borrow.Author.Tests.{lt-ltb, le-ltb}
use Prim.Native.Nat.{◌+◌}
use Rattle.codes.specs.Codes.{last_code}
use Rattle.trimming_marks.specs.Marks.{noted_clash}
use Rattle.codes.proofs.ReadLaws.{opposite_below}
use Rattle.trimming_marks.proofs.is_noted_clash.Goals as goal

pub bounds-seen-opposite : goal.bounds-seen-opposite
bounds-seen-opposite c = rw c.opposite.ensures (opposite_below c.from-code.result (omega arith))

pub returns-then-code-lt-CODES : goal.returns-then-code-lt-CODES
unfolding noted_clash
returns-then-code-lt-CODES c =
    rw (lt-ltb c.args.x (last_code + 1) (omega arith), c.opposite.ensures, c.from-code.ensures)

pub returns-else-code-lt-CODES : goal.returns-else-code-lt-CODES
unfolding noted_clash
returns-else-code-lt-CODES c = rw (le-ltb c.args.x (last_code + 1) (omega arith))
