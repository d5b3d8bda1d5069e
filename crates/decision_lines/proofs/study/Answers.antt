-- `decision_lines::study` meets its contract. Assumes nothing.
use mathlib.Core.Path.{sym, ap, ◌∙◌}
use Rattle.report.specs.Report.{put, put_count}
use Rattle.decision_lines.proofs.LinesRight.{study_by}
use Rattle.decision_lines.proofs.study.Goals as goal

pub returns-then-is_refusal : goal.returns-then-is_refusal
returns-then-is_refusal c =
    let refusal_call = c.refusal in
    let number_call = c.number in
    let if1_test = c.if-is_refusal in
    let is_refusal_call = c.is_refusal in
    let lent = c.args in
    let bytes = study_by lent.decision (sym is_refusal_call.ensures ∙ if1_test.true) number_call.ensures in record {
      counted = refusal_call.ensures.value ∙ ap (λ l. put_count l lent.out.now) bytes;
      written = refusal_call.ensures.out_after ∙ ap (λ l. put l lent.out.now) bytes;
    }

pub returns : goal.returns
returns c =
    let study_result_call = c.study_result in
    let number2_call = c.number-2 in
    let if1_test = c.if-is_refusal in
    let is_refusal_call = c.is_refusal in
    let lent = c.args in
    let bytes = study_by lent.decision (sym is_refusal_call.ensures ∙ if1_test.false) number2_call.ensures in record {
      counted = study_result_call.ensures.value ∙ ap (λ l. put_count l lent.out.now) bytes;
      written = study_result_call.ensures.out_after ∙ ap (λ l. put l lent.out.now) bytes;
    }
