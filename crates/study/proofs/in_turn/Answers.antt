-- `study::in_turn` meets its contract. The loop's invariant: the runs made so far gave no verdict, and the study goes on from this place, over the
-- areas as they are. Assumes nothing.
use mathlib.Core.Path.{sym, ◌∙◌}
use Rattle.engine.specs.Outcome.{areas}
use Rattle.study.proofs.TurnLaws.{going_from_start, holds_here, turned, goes_on}
use Rattle.study.proofs.in_turn.Goals as goal

pub loop-at-init : goal.loop-at-init
loop-at-init c =
    let lent = c.args in
    let asked = c.requires in
    going_from_start lent.kinds.now lent.literals.now lent.settings.now (areas lent.universal_rows.now lent.universal_marks.now lent.universal_counts.now
    lent.existential_rows.now lent.existential_marks.now lent.existential_counts.now lent.work.now) lent.table.now lent.entries (asked)

pub with_setting-outcome-requires : goal.with_setting-outcome-requires
with_setting-outcome-requires c =
    let setting_at_call = c.setting_at-setting in
    let at_loop = c.loop-at in
    let lent = c.args in
    let asked = c.requires in
    holds_here lent.kinds.now lent.literals.now lent.settings.now (areas lent.universal_rows.now lent.universal_marks.now lent.universal_counts.now
    lent.existential_rows.now lent.existential_marks.now lent.existential_counts.now lent.work.now) lent.table.now lent.entries (asked) _ at_loop.at
    at_loop.invariant
    setting_at_call.result setting_at_call.ensures

pub returns-then-is_over : goal.returns-then-is_over
returns-then-is_over c =
    let if1_test = c.if-is_over in
    let is_over_call = c.is_over in
    let with_setting_call = c.with_setting-outcome in
    let setting_at_call = c.setting_at-setting in
    let at_loop = c.loop-at in
    let lent = c.args in
    let asked = c.requires in
    turned lent.kinds.now lent.literals.now lent.settings.now (areas lent.universal_rows.now lent.universal_marks.now lent.universal_counts.now
    lent.existential_rows.now lent.existential_marks.now lent.existential_counts.now lent.work.now) lent.table.now lent.entries (asked) _ at_loop.at
    at_loop.invariant
    setting_at_call.result setting_at_call.ensures with_setting_call.result _ with_setting_call.ensures (sym is_over_call.ensures ∙ if1_test.true)

pub loop-at-preserved : goal.loop-at-preserved
loop-at-preserved c =
    let if1_test = c.if-is_over in
    let is_over_call = c.is_over in
    let with_setting_call = c.with_setting-outcome in
    let setting_at_call = c.setting_at-setting in
    let at_loop = c.loop-at in
    let lent = c.args in
    let asked = c.requires in
    let sizes = at_loop.invariant.sizes in
    goes_on lent.kinds.now lent.literals.now lent.settings.now (areas lent.universal_rows.now lent.universal_marks.now lent.universal_counts.now
    lent.existential_rows.now lent.existential_marks.now lent.existential_counts.now lent.work.now) lent.table.now lent.entries (asked) _ at_loop.at
    at_loop.invariant
    setting_at_call.result setting_at_call.ensures with_setting_call.result _ with_setting_call.ensures (sym is_over_call.ensures ∙ if1_test.false)
    (record {
      universal_rows = with_setting_call.auto.universal_rows ∙ sizes.universal_rows;
      universal_marks = with_setting_call.auto.universal_marks ∙ sizes.universal_marks;
      universal_counts = with_setting_call.auto.universal_counts ∙ sizes.universal_counts;
      existential_rows = with_setting_call.auto.existential_rows ∙ sizes.existential_rows;
      existential_marks = with_setting_call.auto.existential_marks ∙ sizes.existential_marks;
      existential_counts = with_setting_call.auto.existential_counts ∙ sizes.existential_counts;
      work = with_setting_call.auto.work ∙ sizes.work;
    })
