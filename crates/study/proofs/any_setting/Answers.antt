-- `study::any_setting` meets its contract. Assumes nothing.
use Rattle.study.proofs.SettingLaws.{told_here, told_next, told_past}
use Rattle.study.proofs.any_setting.Goals as goal

pub returns-then-test : goal.returns-then-test
returns-then-test g c = c.loop-at.invariant _ (told_here c.args.settings.now c.loop-at.at _ c.loop-at-test.true c.setting_at.result c.setting_at.ensures
    c.if-test.ensures)

pub loop-at-preserved : goal.loop-at-preserved
loop-at-preserved g c = λ r later. c.loop-at.invariant r (told_next c.args.settings.now c.loop-at.at _ c.loop-at-test.true c.setting_at.result
    c.setting_at.ensures c.if-test.ensures r later)

pub returns : goal.returns
returns g c = c.loop-at.invariant _ (told_past c.args.settings.now c.loop-at.at _ c.loop-at-test.false)
