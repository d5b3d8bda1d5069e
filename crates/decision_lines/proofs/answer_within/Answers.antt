-- `decision_lines::answer_within` meets its contract. Assumes nothing.
use mathlib.Core.Path.{ap, ◌∙◌}
use Rattle.report.specs.Report.{put, put_count}
use Rattle.text.specs.Offered.{offered}
use Rattle.decision_lines.specs.Lines.{result_of}
use Rattle.decision_lines.proofs.LinesRight.{answer_right}
use Rattle.decision_lines.proofs.answer_within.Goals as goal

pub returns : goal.returns
returns c =
    let result_call = c.result in
    let decided_call = c.decided-decision in
    let lent = c.args in
    let bytes = ap result_of decided_call.ensures.value in record {
      counted = result_call.ensures.counted ∙ ap (λ l. put_count l lent.out.now) bytes;
      written = result_call.ensures.written ∙ ap (λ l. put l lent.out.now) bytes;
      left = decided_call.ensures.area_after;
      proved = answer_right lent.form (offered lent.area.now lent.count) lent.area.now;
    }
