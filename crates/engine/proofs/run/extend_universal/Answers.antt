-- `run::extend_universal` meets its contract. Assumes nothing.
use mathlib.Core.Path.{subst}
use Rattle.engine.specs.declared.run.Step.{Step}
use Rattle.engine.specs.Private.Growing.{ExtendsUniversal}
use Rattle.engine.proofs.run.ClearingLaws.{universal_stopped, universal_grown}
use Rattle.engine.proofs.run.extend_universal.Goals as goal

pub returns-in-Grown-clause-over : goal.returns-in-Grown-clause-over
returns-in-Grown-clause-over c =
    let q = c.args in
    λ literals of led. subst (λ (s : Step). ExtendsUniversal q.kinds.now literals q.preferences.now q.others.now q.other_count q.rows.now q.marks.now
    q.count q.clear_every q.round q.mark q.work.now s c.give_up.new.rows c.give_up.new.marks c.extend-step.new.work) c.in-Grown.is
    (universal_grown q.kinds.now literals q.preferences.now q.others.now q.other_count q.rows.now q.marks.now
    q.count q.clear_every q.round q.mark q.work.now
    c.kept_rows-kept.result c.kept_rows-kept.ensures c.extend-step.result _ _ _ (c.extend-step.ensures.over literals of led)
    _ c.in-Grown.is _ _ c.give_up.ensures.rows_after c.give_up.ensures.marks_after)

pub returns-in_default : goal.returns-in_default
returns-in_default c =
    let q = c.args in record {
      over = λ literals of led. universal_stopped q.kinds.now literals q.preferences.now q.others.now q.other_count q.rows.now q.marks.now
          q.count q.clear_every q.round q.mark q.work.now
          c.kept_rows-kept.result c.kept_rows-kept.ensures c.extend-step.result _ _ _ (c.extend-step.ensures.over literals of led) c.in_default.not-Grown;
      over_2 = c.extend-step.ensures.over_2;
    }
