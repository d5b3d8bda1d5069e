-- A name is small, so its negation fits. Assumes nothing.
use mathlib.Core.Path.{refl}
use native.Mathlib.Omega.{arith}
use lib.IntN.{pos, neg_ℤ}
use mir.Syntax.{w32}
use mir.ValLaws.{to_z-of_z}
use Rattle.named.proofs.Negation.{as_positive, as_negative, negative_fits}
use Rattle.named.proofs.signed.Goals as goal

pub overflow_sub-result : goal.overflow_sub-result
overflow_sub-result c = rw (as_negative c.args.v (omega arith)) (negative_fits c.args.v (omega arith))

pub returns-then-negative : goal.returns-then-negative
returns-then-negative c = rw (
  as_negative c.args.v (omega arith),
  to_z-of_z w32 (neg_ℤ (pos c.args.v))
      (negative_fits c.args.v (omega arith)),
  c.if-negative.true,
) refl

pub returns-else-negative : goal.returns-else-negative
returns-else-negative c = rw (as_positive c.args.v (omega arith), c.if-negative.false) refl
