-- `trimming_marks::note_one` meets its contract.
-- Assumes nothing.
use Prim.Native.Nat.{◌+◌}
use native.Mathlib.Omega.{arith}
use borrow.Author.Tests.{lt-ltb, le-ltb}
use Rattle.codes.specs.Codes.{last_code}
use Rattle.trimming_marks.specs.Marks.{noted_one}
use Rattle.trimming_marks.proofs.note_one.Goals as goal

pub returns-then-code-lt-CODES : goal.returns-then-code-lt-CODES
unfolding noted_one
returns-then-code-lt-CODES c = rw (c.from-code.ensures, lt-ltb c.args.x (last_code + 1) (omega arith))

pub returns-else-code-lt-CODES : goal.returns-else-code-lt-CODES
unfolding noted_one
returns-else-code-lt-CODES c = rw (le-ltb c.args.x (last_code + 1) (omega arith))
