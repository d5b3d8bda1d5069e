-- `rows::write` meets its contract. Assumes nothing.
use mathlib.Core.Path.{refl, sym, ap, ◌∙◌}
use lib.ListN.{length}
use borrow.Author.Tests.{lt-ltb, le-ltb}
use Rattle.rows.specs.Access.{placed, rows_written, marks_written}
use Rattle.rows.proofs.TableLaws.{inside_true, inside_false, row_at_inside}
use Rattle.rows.proofs.WriteLaws.{rows_written_inside, marks_written_inside}
use Rattle.rows.proofs.write.Goals as goal

pub returns-then-rows-i-clause-rows_after : goal.returns-then-rows-i-clause-rows_after
unfolding rows_written marks_written
returns-then-rows-i-clause-rows_after c =
    let given = c.args in rw (inside_false given.rows.now given.i c.if-rows-i.true) (refl)

pub returns-then-rows-i-clause-marks_after : goal.returns-then-rows-i-clause-marks_after
unfolding rows_written marks_written
returns-then-rows-i-clause-marks_after c =
    let given = c.args in rw (inside_false given.rows.now given.i c.if-rows-i.true) (refl)

pub returns-then-marks-i-clause-rows_after : goal.returns-then-marks-i-clause-rows_after
unfolding rows_written marks_written
returns-then-marks-i-clause-rows_after c =
    let given = c.args in rw (inside_true given.rows.now given.i c.if-rows-i.false, le-ltb given.i (length given.marks.now) c.if-marks-i.true) (refl)

pub returns-then-marks-i-clause-marks_after : goal.returns-then-marks-i-clause-marks_after
unfolding rows_written marks_written
returns-then-marks-i-clause-marks_after c =
    let given = c.args in rw (inside_true given.rows.now given.i c.if-rows-i.false, le-ltb given.i (length given.marks.now) c.if-marks-i.true) (refl)

pub returns-then-other-j-clause-rows_after : goal.returns-then-other-j-clause-rows_after
unfolding rows_written marks_written
returns-then-other-j-clause-rows_after c =
    let given = c.args in rw (
      inside_true given.rows.now given.i c.if-rows-i.false,
      lt-ltb given.i (length given.marks.now) c.if-marks-i.false,
      inside_false given.other.now given.j c.if-other-j.true,
    ) (refl)

pub returns-then-other-j-clause-marks_after : goal.returns-then-other-j-clause-marks_after
unfolding rows_written marks_written
returns-then-other-j-clause-marks_after c =
    let given = c.args in rw (
      inside_true given.rows.now given.i c.if-rows-i.false,
      lt-ltb given.i (length given.marks.now) c.if-marks-i.false,
      inside_false given.other.now given.j c.if-other-j.true,
    ) (refl)

pub returns : goal.returns
returns c =
    let if3 = c.if-other-j in
    let if2 = c.if-marks-i in
    let if1 = c.if-rows-i in
    let given = c.args in record {
      rows_after = c.copy_row.ensures
          ∙ ap (placed given.rows.now given.i) (sym (row_at_inside given.other.now given.j if3.false))
          ∙ sym (rows_written_inside given.rows.now given.marks.now given.i given.other.now given.j if1.false if2.false if3.false);
      marks_after = sym (marks_written_inside given.rows.now given.marks.now given.i given.other.now given.j if1.false if2.false if3.false
          given.mark);
    }
