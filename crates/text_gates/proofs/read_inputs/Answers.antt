-- The inputs before `at` are passed: what the words from there on add makes the whole. Assumes nothing.
use mathlib.Core.Path.{refl, sym, ◌∙◌}
use native.Mathlib.Omega.{arith}
use Rattle.lines.proofs.Pieces.{words_none}
use Rattle.text_gates.proofs.GateLineLaws.{passed_all, passed_more}
use Rattle.text_gates.proofs.read_inputs.Goals as goal

pub loop-at-preserved : goal.loop-at-preserved
loop-at-preserved c =
    let if1 = c.if-start-end in
    let next_call = c.next-w in
    let loop = c.loop-at in
    let given = c.args in
    passed_more given.line.now given.i given.places.now loop.count loop.at loop.inputs loop.invariant _ _
    (next_call.ensures.some (omega (arith, next_call.ensures.ordered, if1.false))) (sym c.is_zero.ensures ∙ c.if-is_zero.false) next_call.result.end
    c.keep.new.inputs c.in_ok-literal.ensures
    refl refl (next_call.ensures.onward (omega (arith, next_call.ensures.ordered, if1.false)))
    next_call.ensures.within c.keep.ensures

pub returns : goal.returns
returns c =
    let loop = c.loop-at in
    let given = c.args in
    passed_all given.line.now given.i given.places.now loop.count loop.at loop.inputs loop.invariant
    (words_none given.line.now loop.at c.loop-at-test.false)
