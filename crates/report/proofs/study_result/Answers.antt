-- `report::study_result` meets its contract: the text that is delivered is line one, the setting's line and line two. Assumes nothing.
use mathlib.Core.Path.{◌≡◌}
use native.Mathlib.Omega.{arith}
use lib.ListN.{take, length-take}
use borrow.Author.Rules.{rules}
use Rattle.report.specs.Studied.{study_lines}
use Rattle.report.proofs.study_result.Goals as goal

pub slice_bounds-deliver-end : goal.slice_bounds-deliver-end
slice_bounds-deliver-end c = simp length-take (omega arith)

pub returns-clause-value : goal.returns-clause-value
unfolding study_lines
returns-clause-value c =
    let given = c.args in
    let one = c.line_one-one in
    let two = c.line_setting-two in
    let three = c.line_two-three in
    let lines = study_lines given.answer given.variables given.clauses given.setting given.rounds given.universal given.existential in
    let all : take three.result three.new.text ≡ lines = rw (three.ensures.text_after, two.ensures.text_after, one.ensures.text_after) in rw all at c.deliver.ensures.value

pub returns-clause-out_after : goal.returns-clause-out_after
unfolding study_lines
returns-clause-out_after c =
    let given = c.args in
    let one = c.line_one-one in
    let two = c.line_setting-two in
    let three = c.line_two-three in
    let lines = study_lines given.answer given.variables given.clauses given.setting given.rounds given.universal given.existential in
    let all : take three.result three.new.text ≡ lines = rw (three.ensures.text_after, two.ensures.text_after, one.ensures.text_after) in rw all at c.deliver.ensures.out_after
