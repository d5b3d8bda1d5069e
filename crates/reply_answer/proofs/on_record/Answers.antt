-- `reply_answer::on_record` meets its contract. Assumes nothing.
use mathlib.Core.Path.{◌∙◌}
use Rattle.reply_answer.proofs.AnswerLaws.{record_unclaimed, record_claimed}
use Rattle.reply_answer.proofs.on_record.Goals as goal

pub returns-then-record-ne1 : goal.returns-then-record-ne1
returns-then-record-ne1 c =
    let test = c.if-record-ne1 in
    let given = c.args in
    record_unclaimed given.kinds.now given.literals.now given.file.now given.moves.now given.«record» test.true

pub returns : goal.returns
returns c =
    let on_claim_call = c.on_claim in
    let test = c.if-record-ne1 in
    let given = c.args in
    on_claim_call.ensures ∙ record_claimed given.kinds.now given.literals.now given.file.now given.moves.now given.«record» test.false
