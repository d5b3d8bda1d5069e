use native.Mathlib.Omega.{arith}
use mathlib.Core.Path.{sym, ◌∙◌}
use lib.ListN.{replicate}
use lib.Seq.{length-take-le}
use Rattle.report.specs.Report.{put, put_count}
use Rattle.text.specs.Offered.{offered}
use Rattle.text.specs.Form.{form_read}
use Rattle.decision.specs.Settings.{own_areas}
use Rattle.decision.specs.Deciding.{front}
use Rattle.decision_record.specs.Recorded.{recorded, kinds_of, decision_in}
use Rattle.decision_record.proofs.RecordedRight.{recorded_right}
use Rattle.decision_record.proofs.WithinLaws.{few_unknowns, kinds_front, same_decision}
use Rattle.decision_record.proofs.put_within.Goals as goal

-- src/lib.rt:59:19
pub slice_bounds-kinds-end : goal.slice_bounds-kinds-end
slice_bounds-kinds-end c =
    let call = c.decide_within-decision in
    let given = c.args in
    let text = offered given.area.now given.count in
    let lent = own_areas (front given.area.now) in
    let few = few_unknowns given.form text given.settings.now lent call.ensures.decides.decided_so in
    omega (arith, few, call.auto.kinds)

-- src/lib.rt:59:19
pub slice_bounds-put-end : goal.slice_bounds-put-end
slice_bounds-put-end c =
    let call = c.decide_within-decision in
    let given = c.args in
    let text = offered given.area.now given.count in
    let lent = own_areas (front given.area.now) in
    let few = few_unknowns given.form text given.settings.now lent call.ensures.decides.decided_so in
    sym (length-take-le _ _ (omega (arith, few, call.auto.kinds)))

-- src/lib.rt:20:1
pub returns : goal.returns
returns c =
    let call = c.decide_within-decision in
    let given = c.args in
    let put_call = c.put in
    let text = offered given.area.now given.count in
    let lent = own_areas (front given.area.now) in
    let list = given.settings.now in
    let so = call.ensures.decides.decided_so in
    let decision_so = same_decision given.form text list lent so in
    let kinds_so = kinds_front given.form text list lent so (replicate 128 0) call.ensures.decides.writes_kinds in record {
      counted = put_call.ensures.counted ∙ (λ i. put_count (recorded (decision_so i) (kinds_so i)) given.out.now);
      written = put_call.ensures.written ∙ (λ i. put (recorded (decision_so i) (kinds_so i)) given.out.now);
      left = call.ensures.area;
      proved = recorded_right (decision_in given.form text list given.area.now) (kinds_of (form_read given.form text));
    }
