-- `reply_answer::put_line` meets its contract. Assumes nothing.
use mathlib.Core.Path.{refl}
use Rattle.report.specs.Report.{ascii}
use Rattle.judgement.proofs.FindingLaws.{line_put}
use Rattle.reply_answer.specs.declared.Answer.TheVariants.{Replied, OthersTurn, Done, NotBorneOut, Refused}
use Rattle.reply_answer.proofs.AnswerLaws.{case_put}
use Rattle.reply_answer.proofs.put_line.Goals as goal

pub returns-in-Replied : goal.returns-in-Replied
returns-in-Replied c =
    let put_value_call = c.put_value in
    let given = c.args in
    let both = case_put given.out.now (Replied c.in-Replied.value) c.in-Replied.is (put_value_call.ensures.value, put_value_call.ensures.out_after) in
    record { value = both.0; out_after = both.1 }

pub returns-in-OthersTurn : goal.returns-in-OthersTurn
returns-in-OthersTurn c =
    let append_call = c.append in
    let given = c.args in
    let both = case_put given.out.now OthersTurn c.in-OthersTurn.is
    (line_put (ascii "others\n") given.out.now refl append_call.ensures.value append_call.ensures.out_after) in
    record { value = both.0; out_after = both.1 }

pub returns-in-Done : goal.returns-in-Done
returns-in-Done c =
    let append2_call = c.append-in-Done in
    let given = c.args in
    let both = case_put given.out.now Done c.in-Done.is
    (line_put (ascii "done\n") given.out.now refl append2_call.ensures.value append2_call.ensures.out_after) in
    record { value = both.0; out_after = both.1 }

pub returns-in-NotBorneOut : goal.returns-in-NotBorneOut
returns-in-NotBorneOut c =
    let append3_call = c.append-in-NotBorneOut in
    let given = c.args in
    let both = case_put given.out.now NotBorneOut c.in-NotBorneOut.is
    (line_put (ascii "not borne out\n") given.out.now refl append3_call.ensures.value append3_call.ensures.out_after) in
    record { value = both.0; out_after = both.1 }

pub returns-in-Refused : goal.returns-in-Refused
returns-in-Refused c =
    let refusal_call = c.refusal in
    let given = c.args in
    let both = case_put given.out.now (Refused c.in-Refused.number c.in-Refused.line) c.in-Refused.is
    (refusal_call.ensures.value, refusal_call.ensures.out_after) in
    record { value = both.0; out_after = both.1 }
