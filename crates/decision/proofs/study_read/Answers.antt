-- `decision::study_read` meets its contract, in each case. Assumes nothing.
use Prim.Native.Nat.{ℕ}
use mathlib.Core.Path.{refl, sym, ap, ◌∙◌}
use Rattle.decision.specs.Deciding.{of_refusal}
use lib.Seq.{length-take-le}
use Rattle.decision.proofs.StudyLaws.{small}
use Rattle.decision.proofs.DecidingLaws.{usable_at, refused_at, taken_at}
use Rattle.decision.proofs.study_read.Goals as goal

pub refused-requires : goal.refused-requires
refused-requires c =
    let lent = c.args in
    let asked = c.requires in
    usable_at lent.kinds.now lent.literals.now c.in-Err.is (asked)

pub slice_bounds-study-end : goal.slice_bounds-study-end
slice_bounds-study-end c =
    let lent = c.args in
    let asked = c.requires in
    sym (length-take-le _ _ (usable_at lent.kinds.now lent.literals.now c.in-Ok.is (asked)).kinds_there)

pub slice_bounds-study-end-in-Ok : goal.slice_bounds-study-end-in-Ok
slice_bounds-study-end-in-Ok c =
    let lent = c.args in
    let asked = c.requires in
    sym (length-take-le _ _ (usable_at lent.kinds.now lent.literals.now c.in-Ok.is (asked)).literals_there)

pub studied-requires : goal.studied-requires
studied-requires c =
    let study_call = c.study-end in
    let lent = c.args in
    let asked = c.requires in
    let formula = usable_at lent.kinds.now lent.literals.now c.in-Ok.is (asked) in
    (small study_call.ensures, formula.variables_fit, formula.clauses_fit)

pub returns-in-Err : goal.returns-in-Err
returns-in-Err c =
    let refused_call = c.refused in
    let lent = c.args in
    refused_at lent.kinds.now lent.literals.now lent.settings.now c.in-Err.is
    (record { decision_so = refused_call.ensures ∙ ap (λ (n : ℕ). of_refusal n c.in-Err.refusal.line) c.number.ensures; unmoved = refl })

pub shape_of-universal_rows : goal.shape_of-universal_rows
shape_of-universal_rows c =
    let study_call = c.study-end in
    study_call.auto.universal_rows

pub shape_of-universal_marks : goal.shape_of-universal_marks
shape_of-universal_marks c =
    let study_call = c.study-end in
    study_call.auto.universal_marks

pub shape_of-universal_counts : goal.shape_of-universal_counts
shape_of-universal_counts c =
    let study_call = c.study-end in
    study_call.auto.universal_counts

pub shape_of-existential_rows : goal.shape_of-existential_rows
shape_of-existential_rows c =
    let study_call = c.study-end in
    study_call.auto.existential_rows

pub shape_of-existential_marks : goal.shape_of-existential_marks
shape_of-existential_marks c =
    let study_call = c.study-end in
    study_call.auto.existential_marks

pub shape_of-existential_counts : goal.shape_of-existential_counts
shape_of-existential_counts c =
    let study_call = c.study-end in
    study_call.auto.existential_counts

pub shape_of-work : goal.shape_of-work
shape_of-work c =
    let study_call = c.study-end in
    study_call.auto.work

pub returns-in-Ok : goal.returns-in-Ok
returns-in-Ok c =
    let studied_call = c.studied in
    let study_call = c.study-end in
    let lent = c.args in
    taken_at lent.kinds.now lent.literals.now c.in-Ok.is
    (record { result = study_call.result; decision_so = studied_call.ensures; studies = study_call.ensures })
