-- `probe::study_runs::probe_study` meets its contract. Assumes nothing.
use mathlib.Core.Path.{ap}
use Rattle.study.specs.Study.{Ending}
use Rattle.probe.proofs.Reports.{reported}
use Rattle.probe.proofs.study_runs.probe_study.Goals as goal

pub shape_of-universal_rows : goal.shape_of-universal_rows
shape_of-universal_rows c = c.study-end.auto.universal_rows

pub shape_of-universal_marks : goal.shape_of-universal_marks
shape_of-universal_marks c = c.study-end.auto.universal_marks

pub shape_of-universal_counts : goal.shape_of-universal_counts
shape_of-universal_counts c = c.study-end.auto.universal_counts

pub shape_of-existential_rows : goal.shape_of-existential_rows
shape_of-existential_rows c = c.study-end.auto.existential_rows

pub shape_of-existential_marks : goal.shape_of-existential_marks
shape_of-existential_marks c = c.study-end.auto.existential_marks

pub shape_of-existential_counts : goal.shape_of-existential_counts
shape_of-existential_counts c = c.study-end.auto.existential_counts

pub shape_of-work : goal.shape_of-work
shape_of-work c = c.study-end.auto.work

pub returns : goal.returns
returns c =
    let all = c.study-end.ensures.studied_so in record {
      reported = reported c.one_number.ensures (ap (λ (e : Ending). e.result.outcome) all);
      setting = ap (λ (e : Ending). e.result.setting) all;
      left = ap (λ (e : Ending). e.areas_left) all;
    }
