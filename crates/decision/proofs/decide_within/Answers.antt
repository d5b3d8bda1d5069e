-- `decision::decide_within` meets its contract: the text is read before its bytes are the work area. Assumes nothing.
use mathlib.Core.Path.{refl, sym}
use lib.ListN.{length}
use lib.Seq.{length-take-le}
use Rattle.text.specs.Offered.{offered}
use Rattle.engine.specs.Outcome.{areas}
use Rattle.decision.proofs.DecidingLaws.{usable_so, front_there, within_so}
use Rattle.decision.proofs.decide_within.Goals as goal

pub slice_bounds-study_read-end : goal.slice_bounds-study_read-end
slice_bounds-study_read-end c =
    let front_end_call = c.front_end-end in
    let lent = c.args in
    front_there (length lent.area.now) front_end_call.ensures

pub slice_bounds-study_read-end-2 : goal.slice_bounds-study_read-end-2
slice_bounds-study_read-end-2 c =
    let front_end_call = c.front_end-end in
    let lent = c.args in
    sym (length-take-le _ lent.area.now (front_there (length lent.area.now) front_end_call.ensures))

pub study_read-requires : goal.study_read-requires
study_read-requires c =
    let read_form_call = c.read_form-reading in
    let lent = c.args in
    usable_so lent.form (offered lent.area.now lent.count) lent.settings.now read_form_call.ensures.written

pub shape_of-kinds : goal.shape_of-kinds
shape_of-kinds c =
    let read_form_call = c.read_form-reading in
    read_form_call.auto.kinds

pub shape_of-literals : goal.shape_of-literals
shape_of-literals c =
    let read_form_call = c.read_form-reading in
    read_form_call.auto.literals

pub shape_of-names : goal.shape_of-names
shape_of-names c =
    let read_form_call = c.read_form-reading in
    read_form_call.auto.names

pub shape_of-universal_rows : goal.shape_of-universal_rows
shape_of-universal_rows c =
    let study_read_call = c.study_read in
    study_read_call.auto.universal_rows

pub shape_of-universal_marks : goal.shape_of-universal_marks
shape_of-universal_marks c =
    let study_read_call = c.study_read in
    study_read_call.auto.universal_marks

pub shape_of-universal_counts : goal.shape_of-universal_counts
shape_of-universal_counts c =
    let study_read_call = c.study_read in
    study_read_call.auto.universal_counts

pub shape_of-existential_rows : goal.shape_of-existential_rows
shape_of-existential_rows c =
    let study_read_call = c.study_read in
    study_read_call.auto.existential_rows

pub shape_of-existential_marks : goal.shape_of-existential_marks
shape_of-existential_marks c =
    let study_read_call = c.study_read in
    study_read_call.auto.existential_marks

pub shape_of-existential_counts : goal.shape_of-existential_counts
shape_of-existential_counts c =
    let study_read_call = c.study_read in
    study_read_call.auto.existential_counts

pub returns : goal.returns
returns c =
    let study_read_call = c.study_read in
    let front_end_call = c.front_end-end in
    let read_form_call = c.read_form-reading in
    let lent = c.args in
    let both = within_so lent.area.now front_end_call.ensures lent.form (offered lent.area.now lent.count) lent.settings.now read_form_call.ensures.written
    (λ w. areas lent.universal_rows.now lent.universal_marks.now lent.universal_counts.now lent.existential_rows.now lent.existential_marks.now lent.existential_counts.now w)
    (λ w. areas study_read_call.new.universal_rows study_read_call.new.universal_marks study_read_call.new.universal_counts study_read_call.new.existential_rows study_read_call.new.existential_marks study_read_call.new.existential_counts w)
    (λ w. refl) _ study_read_call.auto.work study_read_call.ensures in
    record { decides = both.0; area = both.1 }
