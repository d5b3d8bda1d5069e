-- `probe::probe_run` meets its contract. Assumes nothing.
use Rattle.probe.proofs.Reports.{reported}
use Rattle.probe.proofs.probe_run.Goals as goal

pub shape_of-universal_rows : goal.shape_of-universal_rows
shape_of-universal_rows c = c.run-end.auto.universal_rows

pub shape_of-universal_marks : goal.shape_of-universal_marks
shape_of-universal_marks c = c.run-end.auto.universal_marks

pub shape_of-universal_counts : goal.shape_of-universal_counts
shape_of-universal_counts c = c.run-end.auto.universal_counts

pub shape_of-existential_rows : goal.shape_of-existential_rows
shape_of-existential_rows c = c.run-end.auto.existential_rows

pub shape_of-existential_marks : goal.shape_of-existential_marks
shape_of-existential_marks c = c.run-end.auto.existential_marks

pub shape_of-existential_counts : goal.shape_of-existential_counts
shape_of-existential_counts c = c.run-end.auto.existential_counts

pub shape_of-work : goal.shape_of-work
shape_of-work c = c.run-end.auto.work

pub returns : goal.returns
returns c = record {
  reported = reported c.one_number.ensures c.run-end.ensures.returned_so;
  left = c.run-end.ensures.left_so;
}
