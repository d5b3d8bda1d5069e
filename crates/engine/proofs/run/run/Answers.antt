-- `run::run` meets its contract. Assumes nothing.
use Prim.Native.Nat.{ℕ}
use mathlib.Core.Path.{◌≡◌, sym, ap, ◌∙◌}
use Rattle.cause.specs.Cause.{number as number_of_cause, told}
use Rattle.cause.proofs.Numbers.{from_1}
use Rattle.engine.specs.declared.run.Answer.TheVariants.{Refused}
use Rattle.engine.specs.Outcome.{areas, given, cause}
use Rattle.engine.specs.Private.Growing.{said, not_opened}
use Rattle.engine.proofs.run.OutcomeLaws.{refused_so, same_cause, answered_so}
use Rattle.engine.proofs.run.run.Goals as goal

pub returns-in-Err : goal.returns-in-Err
returns-in-Err c =
    let q = c.args in
    let found = areas q.universal_rows.now q.universal_marks.now q.universal_counts.now q.existential_rows.now q.existential_marks.now
    q.existential_counts.now q.work.now in
    let g = given q.kinds.now q.literals.now q.preferences.now found q.limit q.clear_every in
    let first : cause g ≡ number_of_cause c.in-Err.cause = sym (same_cause q.kinds.now q.literals.now q.preferences.now found q.limit
    q.clear_every) ∙ sym c.check.ensures.first ∙ ap (told {A = ℕ}) c.in-Err.is in
    refused_so g (number_of_cause c.in-Err.cause) c.unopened.result first (from_1 c.in-Err.cause)
    (c.unopened.ensures ∙ ap not_opened (c.ended.ensures ∙ ap (λ (n : ℕ). said (Refused n) 0 0 0) c.number.ensures))

pub rounds-end-requires : goal.rounds-end-requires
rounds-end-requires c = c.check.ensures.ready c.in-Ok.universals c.in-Ok.is

pub shape_of-universal_rows : goal.shape_of-universal_rows
shape_of-universal_rows c = c.rounds-end.auto.universal_rows

pub shape_of-universal_marks : goal.shape_of-universal_marks
shape_of-universal_marks c = c.rounds-end.auto.universal_marks

pub shape_of-universal_counts : goal.shape_of-universal_counts
shape_of-universal_counts c = c.rounds-end.auto.universal_counts

pub shape_of-existential_rows : goal.shape_of-existential_rows
shape_of-existential_rows c = c.rounds-end.auto.existential_rows

pub shape_of-existential_marks : goal.shape_of-existential_marks
shape_of-existential_marks c = c.rounds-end.auto.existential_marks

pub shape_of-existential_counts : goal.shape_of-existential_counts
shape_of-existential_counts c = c.rounds-end.auto.existential_counts

pub shape_of-work : goal.shape_of-work
shape_of-work c = c.clear.auto.area ∙ c.rounds-end.auto.work

pub returns : goal.returns
returns c =
    let rounds_call = c.rounds-end in
    let q = c.args in
    let found = areas q.universal_rows.now q.universal_marks.now q.universal_counts.now q.existential_rows.now q.existential_marks.now
    q.existential_counts.now q.work.now in
    let g = given q.kinds.now q.literals.now q.preferences.now found q.limit q.clear_every in
    let checked = c.check.ensures in
    let none : cause g ≡ 0 = sym (same_cause q.kinds.now q.literals.now q.preferences.now found q.limit q.clear_every) ∙ sym checked.first
    ∙ ap (told {A = ℕ}) c.in-Ok.is in
    answered_so g none (checked.some_limit c.in-Ok.universals c.in-Ok.is) rounds_call.result _ _ _ _ _ _ _ _ _ rounds_call.ensures.shows_run
    rounds_call.ensures.counts_show
    c.clear.ensures c.opened.ensures
