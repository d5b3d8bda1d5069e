-- `report::page` meets its contract: the text that is delivered is the four lines. Assumes nothing.
use mathlib.Core.Path.{◌≡◌}
use native.Mathlib.Omega.{arith}
use Rattle.report.proofs.Laws.{page_behind}
use lib.ListN.{take, length-take}
use Rattle.report.specs.Page.{page_lines}
use borrow.Author.Rules.{rules}
use Rattle.report.proofs.page.Goals as goal

pub slice_bounds-deliver-end : goal.slice_bounds-deliver-end
slice_bounds-deliver-end c = simp length-take (omega arith)

pub returns-clause-value : goal.returns-clause-value
returns-clause-value c =
    let given = c.args in
    let end = c.append-end in
    let lines = page_lines given.answer_0 given.answer_1 given.answer_2 given.answer_3 given.answer_4 given.rounds given.studies
    given.most given.first given.fees in
    let all : take end.result end.new.out ≡ lines = rw (
      end.ensures.out_after_2,
      c.field-d.ensures.text_after,
      c.most_rounds-c.ensures.text_after,
      c.pair-b.ensures.text_after,
      c.answers-a.ensures.text_after,
    )
    (page_behind given.answer_0 given.answer_1 given.answer_2 given.answer_3 given.answer_4 given.rounds given.studies given.most
    given.first given.fees) in rw all at c.deliver.ensures.value

pub returns-clause-out_after : goal.returns-clause-out_after
returns-clause-out_after c =
    let given = c.args in
    let end = c.append-end in
    let lines = page_lines given.answer_0 given.answer_1 given.answer_2 given.answer_3 given.answer_4 given.rounds given.studies
    given.most given.first given.fees in
    let all : take end.result end.new.out ≡ lines = rw (
      end.ensures.out_after_2,
      c.field-d.ensures.text_after,
      c.most_rounds-c.ensures.text_after,
      c.pair-b.ensures.text_after,
      c.answers-a.ensures.text_after,
    )
    (page_behind given.answer_0 given.answer_1 given.answer_2 given.answer_3 given.answer_4 given.rounds given.studies given.most
    given.first given.fees) in rw all at c.deliver.ensures.out_after
