-- `decision::decide` meets its contract. Assumes nothing.
use Rattle.text.specs.Offered.{offered}
use Rattle.engine.specs.Outcome.{areas}
use Rattle.decision.proofs.DecidingLaws.{usable_so, decides_so}
use Rattle.decision.proofs.decide.Goals as goal

pub study_read-requires : goal.study_read-requires
study_read-requires c =
    let read_form_call = c.read_form-reading in
    let lent = c.args in
    usable_so lent.form (offered lent.buffer.now lent.count) lent.settings.now read_form_call.ensures.written

pub shape_of-kinds : goal.shape_of-kinds
shape_of-kinds c =
    let read_form_call = c.read_form-reading in
    read_form_call.auto.kinds

pub shape_of-literals : goal.shape_of-literals
shape_of-literals c =
    let read_form_call = c.read_form-reading in
    read_form_call.auto.literals

pub shape_of-names : goal.shape_of-names
shape_of-names c =
    let read_form_call = c.read_form-reading in
    read_form_call.auto.names

pub shape_of-universal_rows : goal.shape_of-universal_rows
shape_of-universal_rows c =
    let study_read_call = c.study_read in
    study_read_call.auto.universal_rows

pub shape_of-universal_marks : goal.shape_of-universal_marks
shape_of-universal_marks c =
    let study_read_call = c.study_read in
    study_read_call.auto.universal_marks

pub shape_of-universal_counts : goal.shape_of-universal_counts
shape_of-universal_counts c =
    let study_read_call = c.study_read in
    study_read_call.auto.universal_counts

pub shape_of-existential_rows : goal.shape_of-existential_rows
shape_of-existential_rows c =
    let study_read_call = c.study_read in
    study_read_call.auto.existential_rows

pub shape_of-existential_marks : goal.shape_of-existential_marks
shape_of-existential_marks c =
    let study_read_call = c.study_read in
    study_read_call.auto.existential_marks

pub shape_of-existential_counts : goal.shape_of-existential_counts
shape_of-existential_counts c =
    let study_read_call = c.study_read in
    study_read_call.auto.existential_counts

pub shape_of-work : goal.shape_of-work
shape_of-work c =
    let study_read_call = c.study_read in
    study_read_call.auto.work

pub returns : goal.returns
returns c =
    let study_read_call = c.study_read in
    let read_form_call = c.read_form-reading in
    let lent = c.args in
    decides_so lent.form (offered lent.buffer.now lent.count) lent.settings.now read_form_call.ensures.written (areas lent.universal_rows.now lent.universal_marks.now lent.universal_counts.now lent.existential_rows.now lent.existential_marks.now lent.existential_counts.now lent.work.now) study_read_call.ensures
