-- A text that is longer than its buffer is refused; every other one is read as it stands there, in the form that was found. Assumes nothing.
use mathlib.Core.Path.{sym}
use lib.ListN.{length}
use lib.Seq.{length-take-le}
use Rattle.text.specs.Form.{has_gates}
use Rattle.text.specs.Offered.{offered}
use Rattle.text.proofs.ReadingLaws.{refused_whole}
use Rattle.text.proofs.OfferedLaws.{past_stops, form_read_so}
use Rattle.text.proofs.FormRight.{form_right}
use Rattle.text.proofs.read_form.Goals as goal

pub returns-then-buffer-count : goal.returns-then-buffer-count
returns-then-buffer-count c =
    let given = c.args in
    let text = offered given.buffer.now given.count in
    let stops = past_stops given.buffer.now given.count c.if-buffer-count.true (has_gates given.form text) in record {
      written = refused_whole (stops (length given.kinds.now) (length given.literals.now) (length given.names.now));
      proved = form_right text;
    }

pub slice_bounds-has_gates-end : goal.slice_bounds-has_gates-end
slice_bounds-has_gates-end c = sym (length-take-le _ _ c.if-buffer-count.false)

pub slice_bounds-read_as-end : goal.slice_bounds-read_as-end
slice_bounds-read_as-end c = sym (length-take-le _ _ c.if-buffer-count.false)

pub returns : goal.returns
returns c =
    let given = c.args in
    let text = offered given.buffer.now given.count in
    let found = form_read_so given.buffer.now given.count c.if-buffer-count.false given.form c.has_gates-gates.ensures
    (length given.kinds.now) (length given.literals.now) (length given.names.now) c.read_as.ensures.written in record {
      written = found;
      proved = form_right text;
    }
