-- The inputs are read, then the clauses are put. Assumes nothing.
use Rattle.std.proofs.lemmas.Result.{err_from_is_err_and}
use mathlib.Core.Path.{refl, ap}
use lib.IntN.{ℤ, pos}
use lib.ListN.{length-replicate}
use Rattle.formula.specs.Formula.{max_clauses}
use Rattle.lines.specs.Lines.{words}
use Rattle.lines.proofs.ShapeLaws.{taken_word}
use Rattle.text_gates.specs.GateLine.{function_of}
use Rattle.text_gates.proofs.GateLineLaws.{some_cause, zeros_small, line_refused, line_put}
use Rattle.text_gates.proofs.put_clauses.Goals as goal

pub read_inputs-requires : goal.read_inputs-requires
read_inputs-requires c = (c.next-name.ensures.within, length-replicate {A = ℤ} max_clauses (pos 0), zeros_small max_clauses)

pub returns-in_err-count : goal.returns-in_err-count
returns-in_err-count c =
    let next2_call = c.next-name in
    let given = c.args in
    let q0 = taken_word {ws = words given.line.now} c.next-word.ensures refl in
    let cause = err_from_is_err_and c.from_residual.result c.from_residual.ensures.1 in
    rw (cause.1, cause.2) (line_refused given.line.now next2_call.result.end given.v given.made given.m given.places.now given.literals.now
    c.requires (taken_word next2_call.ensures q0.1).1 c.in_err-count.ensures (some_cause _))

pub returns : goal.returns
returns c =
    let next2_call = c.next-name in
    let given = c.args in
    let q0 = taken_word {ws = words given.line.now} c.next-word.ensures refl in
    line_put given.line.now next2_call.result.end given.v given.made given.m given.places.now given.literals.now
    c.requires (taken_word next2_call.ensures q0.1).1 _ (ap function_of q0.0)
    c.in_ok-count.ensures refl c.put_gate.ensures
