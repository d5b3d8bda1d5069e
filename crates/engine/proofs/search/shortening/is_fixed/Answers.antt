-- `is_fixed` meets its contract: the position is fixed if it says so. Assumes nothing.
use mathlib.Core.Path.{sym, ◌∙◌}
use borrow.Author.Tests.{ltb-true, eqb-true}
use Rattle.engine.proofs.search.HeldSteps.{level_set}
use native.Mathlib.Omega.{arith}
use Rattle.engine.proofs.search.shortening.is_fixed.Goals as goal
use Rattle.engine.proofs.search.shortening.is_fixed.Goals.{then-sets-p-eq0, else-sets-p-eq0}

pub returns-then-sets-p-eq0-2 : goal.returns-then-sets-p-eq0-2
returns-then-sets-p-eq0-2 c = λ e.
    elim c.if-sets-p-eq0.branch [
      | then-sets-p-eq0 w ↦ record {
        set = level_set _ _ _ c.level.ensures (ltb-true _ _ e);
        low = omega arith;
        high = eqb-true _ 0 (sym w.value-is ∙ c.if-sets-p-eq0-2.true);
      }
      | else-sets-p-eq0 w ↦ absurd (w.if-sets-p-eq0.false (eqb-true _ 0 (sym w.value-is ∙ c.if-sets-p-eq0-2.true)))
    ]
