-- `report::refusal` meets its contract: the text that is delivered is the refusal's line. Assumes nothing.
use mathlib.Core.Path.{◌≡◌}
use native.Mathlib.Omega.{arith}
use lib.ListN.{take, length-take}
use borrow.Author.Rules.{rules}
use Rattle.report.specs.Report.{refusal_line}
use Rattle.report.proofs.refusal.Goals as goal

pub slice_bounds-deliver-end : goal.slice_bounds-deliver-end
slice_bounds-deliver-end c = simp length-take (omega arith)

pub returns-clause-value : goal.returns-clause-value
unfolding refusal_line
returns-clause-value c =
    let given = c.args in
    let end = c.pair-end in
    let line : take end.result end.new.text ≡ refusal_line given.number given.line = end.ensures.text_after in rw line at c.deliver.ensures.value

pub returns-clause-out_after : goal.returns-clause-out_after
unfolding refusal_line
returns-clause-out_after c =
    let given = c.args in
    let end = c.pair-end in
    let line : take end.result end.new.text ≡ refusal_line given.number given.line = end.ensures.text_after in rw line at c.deliver.ensures.out_after
