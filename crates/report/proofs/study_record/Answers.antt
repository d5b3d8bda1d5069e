-- `report::study_record` meets its contract: the text that is delivered is the record's line. Assumes nothing.
use mathlib.Core.Path.{◌≡◌, refl}
use native.Mathlib.Omega.{arith}
use lib.ListN.{take, length-take}
use borrow.Author.Rules.{rules}
use Rattle.report.specs.Record.{record_line}
use Rattle.report.proofs.study_record.Goals as goal

pub slice_bounds-deliver-end : goal.slice_bounds-deliver-end
slice_bounds-deliver-end c = simp length-take (omega arith)

pub returns-clause-value : goal.returns-clause-value
unfolding record_line
returns-clause-value c =
    let given = c.args in
    let answered = c.field-next in
    let whole = c.pair-end in
    let line : take whole.result whole.new.text ≡ record_line given.answer given.rounds given.cents = rw (whole.ensures.text_after, answered.ensures.text_after) in rw line at c.deliver.ensures.value

pub returns-clause-out_after : goal.returns-clause-out_after
unfolding record_line
returns-clause-out_after c =
    let given = c.args in
    let answered = c.field-next in
    let whole = c.pair-end in
    let line : take whole.result whole.new.text ≡ record_line given.answer given.rounds given.cents = rw (whole.ensures.text_after, answered.ensures.text_after) in rw line at c.deliver.ensures.out_after
