-- `within_as` meets its contract: the text is read before its bytes are the work area. Assumes nothing.
use mathlib.Core.Path.{sym}
use lib.Seq.{length-take-le}
use Rattle.formula.specs.Formula.{work_size}
use Rattle.answer.proofs.WithinLaws.{reading_usable, short_puts, past_puts, within_puts}
use Rattle.answer.proofs.within_as.Goals as goal

pub returns-then-area-lt-WORK : goal.returns-then-area-lt-WORK
returns-then-area-lt-WORK c =
    let given = c.args in
    short_puts given.area.now _ _ given.out.now c.if-area-lt-WORK.true

pub returns-then-area-length : goal.returns-then-area-length
returns-then-area-length c =
    let given = c.args in
    past_puts given.area.now given.gates given.length c.if-area-lt-WORK.false c.if-area-length.true c.refusal.ensures.value c.refusal.ensures.out_after

pub slice_bounds-read_as-end : goal.slice_bounds-read_as-end
slice_bounds-read_as-end c = c.if-area-length.false

pub slice_bounds-read_as-end-2 : goal.slice_bounds-read_as-end-2
slice_bounds-read_as-end-2 c = sym (length-take-le _ _ c.if-area-length.false)

pub slice_bounds-put_lines-end-3 : goal.slice_bounds-put_lines-end-3
slice_bounds-put_lines-end-3 c = c.if-area-lt-WORK.false

pub slice_bounds-put_lines-end-4 : goal.slice_bounds-put_lines-end-4
slice_bounds-put_lines-end-4 c = sym (length-take-le work_size c.args.area.now c.if-area-lt-WORK.false)

pub put_lines-requires : goal.put_lines-requires
put_lines-requires c =
    let given = c.args in
    (reading_usable given.gates _ c.read_as-reading.ensures.written, length-take-le work_size given.area.now c.if-area-lt-WORK.false)

pub returns : goal.returns
returns c =
    let given = c.args in
    within_puts given.area.now given.gates given.length c.if-area-lt-WORK.false c.if-area-length.false c.read_as-reading.ensures.written c.put_lines.ensures
