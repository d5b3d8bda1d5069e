-- `study::after_test` meets its contract. Assumes nothing.
use lib.IntN.{ℤ, pos}
use lib.ListN.{length-replicate}
use Rattle.formula.specs.Formula.{max_entries}
use Rattle.engine.specs.Outcome.{areas}
use Rattle.study.specs.Study.{cause}
use Rattle.study.proofs.TurnLaws.{untouched, first_cause, refused_with, not_refused, refused_so, held, ready, studies_found}
use Rattle.study.proofs.after_test.Goals as goal

pub returns-in-Err : goal.returns-in-Err
returns-in-Err c =
    let lent = c.args in
    let found = areas lent.universal_rows.now lent.universal_marks.now lent.universal_counts.now lent.existential_rows.now lent.existential_marks.now lent.existential_counts.now lent.work.now in
    let told = first_cause lent.kinds.now lent.literals.now lent.settings.now found c.run-tested.result _ c.run-tested.ensures c.number.result c.first_cause.result c.number.ensures c.first_cause.ensures in
    let with = refused_with (cause lent.kinds.now lent.literals.now lent.settings.now found) _ c.first_cause.result told c.in-Err.is in
    refused_so lent.kinds.now lent.literals.now lent.settings.now found _ c.refused.result _ with.0 with.1 c.refused.ensures
    (untouched lent.kinds.now lent.literals.now lent.settings.now found c.run-tested.result _ c.run-tested.ensures)

pub in_turn-requires : goal.in_turn-requires
in_turn-requires c =
    let trim_into_call = c.trim_into-entries in
    let run_call = c.run-tested in
    let lent = c.args in
    let found = areas lent.universal_rows.now lent.universal_marks.now lent.universal_counts.now lent.existential_rows.now lent.existential_marks.now lent.existential_counts.now lent.work.now in
    let told = first_cause lent.kinds.now lent.literals.now lent.settings.now found run_call.result _ run_call.ensures c.number.result c.first_cause.result c.number.ensures c.first_cause.ensures in
    let none = not_refused (cause lent.kinds.now lent.literals.now lent.settings.now found) c.first_cause.result told c.in_default.not-Err in
    ready lent.kinds.now lent.literals.now lent.settings.now found none _ _ trim_into_call.result (untouched lent.kinds.now lent.literals.now lent.settings.now found run_call.result _ run_call.ensures)
    (held lent.kinds.now lent.literals.now lent.settings.now found none _ _ _ trim_into_call.result (length-replicate {A = ℤ} max_entries (pos 0)) trim_into_call.ensures.value trim_into_call.ensures.table_after)

pub returns : goal.returns
returns c =
    let in_turn_call = c.in_turn in
    let run_call = c.run-tested in
    let lent = c.args in
    let found = areas lent.universal_rows.now lent.universal_marks.now lent.universal_counts.now lent.existential_rows.now lent.existential_marks.now lent.existential_counts.now lent.work.now in
    studies_found (untouched lent.kinds.now lent.literals.now lent.settings.now found run_call.result _ run_call.ensures) in_turn_call.ensures
