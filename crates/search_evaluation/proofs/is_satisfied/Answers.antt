-- `search_evaluation::is_satisfied` meets its contract. Assumes nothing.
use mathlib.Core.Path.{sym, ap, ◌∙◌}
use mathlib.Core.Bool.{Bool, ◌&&◌}
use Rattle.search_evaluation.specs.Evaluation.{is_true, is_satisfied}
use Rattle.search_evaluation.proofs.is_satisfied.Goals as goal

pub returns-then-is_set : goal.returns-then-is_set
unfolding is_satisfied
returns-then-is_set c =
    let given = c.args in
    c.is_true.ensures ∙ ap (λ (b : Bool). b && is_true given.work.now given.i given.c)
    (sym c.if-is_set.true ∙ c.is_set.ensures)

pub returns-else-is_set : goal.returns-else-is_set
unfolding is_satisfied
returns-else-is_set c =
    let given = c.args in
    ap (λ (b : Bool). b && is_true given.work.now given.i given.c) (sym c.if-is_set.false ∙ c.is_set.ensures)
