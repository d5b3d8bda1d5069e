-- `study::study` meets its contract. Assumes nothing.
use mathlib.Core.Path.{sym, ◌∙◌}
use Rattle.engine.specs.Outcome.{areas}
use Rattle.study.proofs.TurnLaws.{ready_at_once}
use Rattle.study.proofs.study.Goals as goal

pub in_turn-requires : goal.in_turn-requires
in_turn-requires c =
    let if1_test = c.if-runs_at_once in
    let runs_at_once_call = c.runs_at_once in
    let lent = c.args in
    ready_at_once lent.kinds.now lent.literals.now lent.settings.now (areas lent.universal_rows.now lent.universal_marks.now lent.universal_counts.now lent.existential_rows.now lent.existential_marks.now lent.existential_counts.now lent.work.now) (sym runs_at_once_call.ensures ∙ if1_test.true)
