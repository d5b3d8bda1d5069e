-- `judgement::find_as` meets its contract, from what `read_form` promises of the tables and `on_formula` of their fronts. Assumes nothing.
use native.Mathlib.Omega.{arith}
use mathlib.Core.Path.{sym}
use mir.Syntax.{w32}
use lib.Seq.{length-take-le}
use Rattle.text.specs.Offered.{offered}
use Rattle.text.proofs.FrontLaws.{read_refused, read_taken}
use Rattle.text.specs.Form.{has_gates, form_read}
use Rattle.text.proofs.ReadAsLaws.{reading_line}
use Rattle.judgement.proofs.FindingLaws.{text_refused, text_taken}
use borrow.Author.Rules.{Fits-under}
use Rattle.judgement.proofs.find_as.Goals as goal

pub overflow_cast-result : goal.overflow_cast-result
overflow_cast-result c =
    let read_call = c.read_form in
    let given = c.args in
    let text = offered given.input.now given.length in
    let refusal = read_refused read_call.ensures.written c.in-Err.is in
    Fits-under w32 _ 4294967296 (omega (arith, reading_line (has_gates given.form text) text _ _ refusal)) tt

pub slice_bounds-kinds-end : goal.slice_bounds-kinds-end
slice_bounds-kinds-end c = (read_taken c.read_form.ensures.written c.in-Ok.is).kinds_there

pub slice_bounds-on_formula-end : goal.slice_bounds-on_formula-end
slice_bounds-on_formula-end c =
    let read_call = c.read_form in
    sym (length-take-le c.in-Ok.field-0.unknowns read_call.new.kinds (read_taken read_call.ensures.written c.in-Ok.is).kinds_there)

pub slice_bounds-literals-end : goal.slice_bounds-literals-end
slice_bounds-literals-end c = (read_taken c.read_form.ensures.written c.in-Ok.is).literals_there

pub slice_bounds-on_formula-end-in-Ok : goal.slice_bounds-on_formula-end-in-Ok
slice_bounds-on_formula-end-in-Ok c =
    let read_call = c.read_form in
    sym (length-take-le c.in-Ok.field-0.entries read_call.new.literals (read_taken read_call.ensures.written c.in-Ok.is).literals_there)

pub returns-in-Err : goal.returns-in-Err
returns-in-Err c =
    let read_call = c.read_form in
    let given = c.args in
    let reading = form_read given.form (offered given.input.now given.length) in
    let found = text_refused reading given.file.now given.work.now (read_refused read_call.ensures.written c.in-Err.is) in
    rw (c.number.ensures) found

pub returns-in-Ok : goal.returns-in-Ok
returns-in-Ok c =
    let formula_call = c.on_formula in
    let read_call = c.read_form in
    let given = c.args in
    let reading = form_read given.form (offered given.input.now given.length) in
    text_taken reading given.file.now given.work.now (read_taken read_call.ensures.written c.in-Ok.is) formula_call.ensures
