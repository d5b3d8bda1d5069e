-- `search_evaluation::look_on` meets its contract. The loop's invariant: what the codes left make of the unit is what all codes show. Assumes nothing.
use mathlib.Core.Path.{sym, ◌∙◌}
use Rattle.search_evaluation.proofs.ReadingLaws.{looked_true}
use Rattle.search_evaluation.proofs.ReadingLaws.{looked_second}
use native.Mathlib.Omega.{arith}
use Rattle.search_evaluation.proofs.look_on.Goals as goal

pub returns-then-is_true : goal.returns-then-is_true
returns-then-is_true c = looked_true c.loop-e.invariant (omega arith) c.from-c.ensures
    (λ z. omega arith) (sym c.is_set.ensures ∙ c.if-is_set.true) (sym c.is_true.ensures ∙ c.if-is_true.true)

pub returns-then-unit-ne0 : goal.returns-then-unit-ne0
returns-then-unit-ne0 c = looked_second c.loop-e.invariant (omega arith) c.from-c.ensures
    (λ z. omega arith) (sym c.is_set.ensures ∙ c.if-is_set.false) (λ z. omega arith)
