-- `run::existential_half` meets its contract. Assumes nothing.
use Rattle.engine.proofs.run.CountingLaws.{existential_uncounted, existential_full, existential_grown}
use Rattle.engine.proofs.run.existential_half.Goals as goal

pub returns-in-NoModel-clause-over_2 : goal.returns-in-NoModel-clause-over_2
returns-in-NoModel-clause-over_2 c =
    let step = c.extend-step in
    let q = c.args in
    λ literals of led. existential_uncounted q.kinds.now literals q.preferences.now q.others.now q.other_count q.rows.now q.marks.now
    q.count q.mark q.work.now q.counts.now
    step.result _ _ _ (step.ensures.over literals of led) c.in-NoModel.is

pub returns-in-NoRoom-clause-over_2 : goal.returns-in-NoRoom-clause-over_2
returns-in-NoRoom-clause-over_2 c =
    let step = c.extend-step in
    let q = c.args in
    λ literals of led. existential_full q.kinds.now literals q.preferences.now q.others.now q.other_count q.rows.now q.marks.now
    q.count q.mark q.work.now q.counts.now
    step.result _ _ _ (step.ensures.over literals of led) (step.ensures.over_2 literals of led) c.in-NoRoom.is _ c.update.ensures

pub returns-in-Grown-clause-over_2 : goal.returns-in-Grown-clause-over_2
returns-in-Grown-clause-over_2 c =
    let step = c.extend-step in
    let q = c.args in
    λ literals of led. existential_grown q.kinds.now literals q.preferences.now q.others.now q.other_count q.rows.now q.marks.now
    q.count q.mark q.work.now q.counts.now
    step.result _ _ _ (step.ensures.over literals of led) (step.ensures.over_2 literals of led) _ c.in-Grown.is _ c.update-in-Grown.ensures
