-- `reply_answer::put_value` meets its contract. Assumes nothing.
use mathlib.Core.Path.{refl}
use mathlib.Core.Bool.{true, false}
use Rattle.report.specs.Report.{ascii}
use Rattle.judgement.proofs.FindingLaws.{line_put}
use Rattle.reply_answer.proofs.AnswerLaws.{value_put}
use Rattle.reply_answer.proofs.put_value.Goals as goal

pub returns-then-value : goal.returns-then-value
returns-then-value c =
    let append_call = c.append in
    let test = c.if-value in
    let given = c.args in
    let both = value_put given.out.now true test.true
    (line_put (ascii "1\n") given.out.now refl append_call.ensures.value append_call.ensures.out_after) in
    record { value = both.0; out_after = both.1 }

pub returns : goal.returns
returns c =
    let append2_call = c.append-2 in
    let test = c.if-value in
    let given = c.args in
    let both = value_put given.out.now false test.false
    (line_put (ascii "0\n") given.out.now refl append2_call.ensures.value append2_call.ensures.out_after) in
    record { value = both.0; out_after = both.1 }
