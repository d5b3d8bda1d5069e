-- `reply_answer::on_claim` meets its contract, in each case of the reply. Assumes nothing.
use mathlib.Core.Path.{ap, ◌∙◌}
use Rattle.std.specs.Prelude.{ℕ, Ok, Err}
use Rattle.reply.specs.declared.Next.TheVariants as Next
use Rattle.reply_answer.specs.declared.Answer.TheVariants.{Refused}
use Rattle.reply_answer.proofs.AnswerLaws.{claim_answered}
use Rattle.reply_answer.proofs.on_claim.Goals as goal

pub returns-in-Ok-Value : goal.returns-in-Ok-Value
returns-in-Ok-Value c =
    let next_move_call = c.next_move in
    let rows_call = c.rows-rows in
    let given = c.args in
    claim_answered given.kinds.now given.literals.now given.file.now given.moves.now given.claim
    (Ok (Next.Value c.in-Ok-Value.value)) rows_call.ensures.result_value (c.in-Ok-Value.is ∙ ap Ok c.in-Ok-Value.field-0-is) next_move_call.ensures.value

pub returns-in-Ok-OthersTurn : goal.returns-in-Ok-OthersTurn
returns-in-Ok-OthersTurn c =
    let next_move_call = c.next_move in
    let rows_call = c.rows-rows in
    let given = c.args in
    claim_answered given.kinds.now given.literals.now given.file.now given.moves.now given.claim
    (Ok Next.OthersTurn) rows_call.ensures.result_value (c.in-Ok-OthersTurn.is ∙ ap Ok c.in-Ok-OthersTurn.field-0-is) next_move_call.ensures.value

pub returns-in-Ok-Done : goal.returns-in-Ok-Done
returns-in-Ok-Done c =
    let next_move_call = c.next_move in
    let rows_call = c.rows-rows in
    let given = c.args in
    claim_answered given.kinds.now given.literals.now given.file.now given.moves.now given.claim
    (Ok Next.Done) rows_call.ensures.result_value (c.in-Ok-Done.is ∙ ap Ok c.in-Ok-Done.field-0-is) next_move_call.ensures.value

pub returns-in-Ok-NotBorneOut : goal.returns-in-Ok-NotBorneOut
returns-in-Ok-NotBorneOut c =
    let next_move_call = c.next_move in
    let rows_call = c.rows-rows in
    let given = c.args in
    claim_answered given.kinds.now given.literals.now given.file.now given.moves.now given.claim
    (Ok Next.NotBorneOut) rows_call.ensures.result_value (c.in-Ok-NotBorneOut.is ∙ ap Ok c.in-Ok-NotBorneOut.field-0-is) next_move_call.ensures.value

pub returns-in-Err : goal.returns-in-Err
returns-in-Err c =
    let next_move_call = c.next_move in
    let rows_call = c.rows-rows in
    let given = c.args in
    let found = claim_answered given.kinds.now given.literals.now given.file.now given.moves.now given.claim
    (Err c.in-Err.cause) rows_call.ensures.result_value c.in-Err.is next_move_call.ensures.value in
    ap (λ (n : ℕ). Refused n 0) c.number.ensures ∙ found
