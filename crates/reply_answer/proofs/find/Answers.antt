-- `reply_answer::find` meets its contract. Assumes nothing.
use mathlib.Core.Path.{sym}
use mathlib.Core.Bool.{false}
use mir.Syntax.{w32}
use lib.Seq.{length-take-le}
use Rattle.text.specs.Offered.{offered}
use Rattle.text.specs.Reading.{read_as}
use Rattle.text.proofs.FrontLaws.{read_refused, read_taken}
use Rattle.text.proofs.ReadAsLaws.{reading_line}
use Rattle.reply_answer.proofs.AnswerLaws.{text_refused, text_taken}
use native.Mathlib.Omega.{arith}
use borrow.Author.Rules.{Fits-under}
use Rattle.reply_answer.proofs.find.Goals as goal

pub overflow_cast-result : goal.overflow_cast-result
overflow_cast-result c =
    let read_offered_call = c.read_offered in
    let given = c.args in
    let text = offered given.input.now given.length in
    let refusal = read_refused read_offered_call.ensures.written c.in-Err.is in
    Fits-under w32 _ 4294967296 (omega (arith, reading_line false text _ _ refusal)) tt

pub slice_bounds-kinds-end : goal.slice_bounds-kinds-end
slice_bounds-kinds-end c =
    let read_offered_call = c.read_offered in
    (read_taken read_offered_call.ensures.written c.in-Ok.is).kinds_there

pub slice_bounds-on_formula-end : goal.slice_bounds-on_formula-end
slice_bounds-on_formula-end c =
    let read_offered_call = c.read_offered in
    sym
    (length-take-le c.in-Ok.field-0.unknowns read_offered_call.new.kinds
    (read_taken read_offered_call.ensures.written c.in-Ok.is).kinds_there)

pub slice_bounds-literals-end : goal.slice_bounds-literals-end
slice_bounds-literals-end c =
    let read_offered_call = c.read_offered in
    (read_taken read_offered_call.ensures.written c.in-Ok.is).literals_there

pub slice_bounds-on_formula-end-in-Ok : goal.slice_bounds-on_formula-end-in-Ok
slice_bounds-on_formula-end-in-Ok c =
    let read_offered_call = c.read_offered in
    sym
    (length-take-le c.in-Ok.field-0.entries read_offered_call.new.literals
    (read_taken read_offered_call.ensures.written c.in-Ok.is).literals_there)

pub returns-in-Err : goal.returns-in-Err
returns-in-Err c =
    let read_offered_call = c.read_offered in
    let given = c.args in
    let found = text_refused (read_as false (offered given.input.now given.length)) given.file.now given.moves.now
    (read_refused read_offered_call.ensures.written c.in-Err.is) in
    rw (c.number.ensures) found

pub returns-in-Ok : goal.returns-in-Ok
returns-in-Ok c =
    let on_formula_call = c.on_formula in
    let read_offered_call = c.read_offered in
    let given = c.args in
    text_taken (read_as false (offered given.input.now given.length)) given.file.now given.moves.now
    (read_taken read_offered_call.ensures.written c.in-Ok.is) on_formula_call.ensures
