-- `decision_lines::study_within` meets its contract. Assumes nothing.
use mathlib.Core.Path.{ap, ◌∙◌}
use Rattle.report.specs.Report.{put, put_count}
use Rattle.text.specs.Offered.{offered}
use Rattle.decision_lines.specs.Lines.{study_of}
use Rattle.decision_lines.proofs.LinesRight.{study_answer_right}
use Rattle.decision_lines.proofs.study_within.Goals as goal

pub returns : goal.returns
returns c =
    let study_call = c.study in
    let decided_call = c.decided-decision in
    let lent = c.args in
    let bytes = ap study_of decided_call.ensures.value in record {
      counted = study_call.ensures.counted ∙ ap (λ l. put_count l lent.out.now) bytes;
      written = study_call.ensures.written ∙ ap (λ l. put l lent.out.now) bytes;
      left = decided_call.ensures.area_after;
      proved = study_answer_right lent.form (offered lent.area.now lent.count) lent.area.now;
    }
