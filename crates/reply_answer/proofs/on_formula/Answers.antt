-- `reply_answer::on_formula` meets its contract. Assumes nothing.
use mathlib.Core.Path.{sym, ap, ◌∙◌}
use Rattle.std.specs.Prelude.{ℕ}
use Rattle.witness.specs.File.{reading_number}
use Rattle.reply_answer.specs.declared.Answer.TheVariants.{Refused}
use Rattle.reply_answer.proofs.AnswerLaws.{formula_read, formula_refused}
use Rattle.reply_answer.proofs.on_formula.Goals as goal

pub returns-in-Ok : goal.returns-in-Ok
returns-in-Ok c =
    let on_record_call = c.on_record in
    let read_call = c.read in
    let given = c.args in
    on_record_call.ensures
    ∙ formula_read given.kinds.now given.literals.now given.file.now given.moves.now c.in-Ok.«record»
    (sym read_call.ensures.value ∙ c.in-Ok.is)

pub returns-in-Err : goal.returns-in-Err
returns-in-Err c =
    let read_call = c.read in
    let given = c.args in
    ap (λ (n : ℕ). Refused n 0) c.number.ensures
    ∙ formula_refused given.kinds.now given.literals.now given.file.now given.moves.now c.in-Err.cause
    (sym read_call.ensures.value ∙ c.in-Err.is) (sym (ap reading_number c.in-Err.is) ∙ read_call.ensures.numbered)
