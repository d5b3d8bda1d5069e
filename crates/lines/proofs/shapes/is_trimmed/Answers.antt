-- The first and the last byte are tested. Assumes nothing.
use mathlib.Core.Path.{refl}
use native.Mathlib.Omega.{arith}
use borrow.Author.Tests.{ne_eqb}
use lib.ListN.{length, get_or, get_or-eq_default}
use Rattle.lines.specs.Shapes.{is_trimmed}
use Prim.Native.Nat.{◌-◌}
use Rattle.lines.proofs.shapes.is_trimmed.Goals as goal

pub returns-then-n-eq0 : goal.returns-then-n-eq0
unfolding is_trimmed
returns-then-n-eq0 c = rw (
  get_or-eq_default c.args.line.now 0 {n = 0} (omega arith),
  get_or-eq_default c.args.line.now 0
      {n = length c.args.line.now - 1} (omega arith),
) refl

pub returns-then-line-eq32 : goal.returns-then-line-eq32
unfolding is_trimmed
returns-then-line-eq32 c = rw c.if-line-eq32.true refl

pub returns : goal.returns
unfolding is_trimmed
returns c = rw (ne_eqb (get_or c.args.line.now 0 0) 32 c.if-line-eq32.false) refl
