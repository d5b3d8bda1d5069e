-- `trimming_marks::unit` meets its contract.
-- Assumes nothing.
use mathlib.Core.Path.{sym, ◌∙◌, ap}
use mathlib.Core.Bool.{Bool, cond}
use lib.ListN.{drop}
use Rattle.trimming_marks.specs.Marks.{first_clause, is_universal, only, unit}
use Rattle.trimming_marks.proofs.unit.Goals as goal

pub returns-then-is_universal : goal.returns-then-is_universal
unfolding unit
returns-then-is_universal c =
    let given = c.args in
    sym (ap (λ (b : Bool). cond b 0 (only 0 (first_clause (drop given.start given.table.now))))
    (ap (λ x. is_universal given.kinds.now x) (sym c.only-code.ensures) ∙ sym c.is_universal.ensures ∙ c.if-is_universal.true))

pub returns-else-is_universal : goal.returns-else-is_universal
unfolding unit
returns-else-is_universal c =
    let given = c.args in
    c.only-code.ensures ∙ sym (ap (λ (b : Bool). cond b 0 (only 0 (first_clause (drop given.start given.table.now))))
    (ap (λ x. is_universal given.kinds.now x) (sym c.only-code.ensures) ∙ sym c.is_universal.ensures ∙ c.if-is_universal.false))
