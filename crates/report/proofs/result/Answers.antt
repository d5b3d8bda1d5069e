-- `report::result` meets its contract: the text that is delivered is line one and line two. Assumes nothing.
use mathlib.Core.Path.{◌≡◌}
use native.Mathlib.Omega.{arith}
use lib.ListN.{take, length-take}
use borrow.Author.Rules.{rules}
use Rattle.report.specs.Report.{result_lines}
use Rattle.report.proofs.result.Goals as goal

pub slice_bounds-deliver-end : goal.slice_bounds-deliver-end
slice_bounds-deliver-end c = simp length-take (omega arith)

pub returns-clause-value : goal.returns-clause-value
unfolding result_lines
returns-clause-value c =
    let given = c.args in
    let one = c.line_one-one in
    let two = c.line_two-two in
    let lines = result_lines given.answer given.variables given.clauses given.rounds given.universal given.existential in
    let both : take two.result two.new.text ≡ lines = rw (two.ensures.text_after, one.ensures.text_after) in rw both at c.deliver.ensures.value

pub returns-clause-out_after : goal.returns-clause-out_after
unfolding result_lines
returns-clause-out_after c =
    let given = c.args in
    let one = c.line_one-one in
    let two = c.line_two-two in
    let lines = result_lines given.answer given.variables given.clauses given.rounds given.universal given.existential in
    let both : take two.result two.new.text ≡ lines = rw (two.ensures.text_after, one.ensures.text_after) in rw both at c.deliver.ensures.out_after
