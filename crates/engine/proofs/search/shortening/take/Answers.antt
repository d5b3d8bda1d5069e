-- `take` meets its contract. Assumes nothing.
use mathlib.Core.Path.{sym, ◌∙◌}
use Rattle.expansion.proofs.Booleans.{never_both}
use Rattle.engine.proofs.search.HeldSteps.{inheriting_passed, inheriting_more, has_at}
use native.Mathlib.Omega.{arith}
use Rattle.engine.proofs.search.shortening.take.Goals as goal

pub returns-then-has : goal.returns-then-has
returns-then-has c = λ o so_far. inheriting_more (omega arith) so_far (omega arith) (omega arith) c.add.ensures

pub returns-else-has : goal.returns-else-has
returns-else-has c = λ o so_far. inheriting_passed (omega arith) so_far
    (λ h n. never_both h (sym (has_at _ (omega arith) _ (omega arith) c.has.ensures) ∙ c.if-has.false))
