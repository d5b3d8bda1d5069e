-- `case_study::ask` meets its contract. Assumes nothing.
use mathlib.Core.Path.{◌∙◌}
use Rattle.case_study.proofs.AskLaws.{unclaimed, shared_so, unshared_so}
use Rattle.case_study.proofs.ask.Goals as goal
use Rattle.case_study.proofs.ask.Goals.{in-Some+else-serves, in_default}

pub returns-then-serves : goal.returns-then-serves
returns-then-serves c =
    let q = c.args in
    shared_so q.setting q.bound q.depth q.claim q.kinds.now q.literals.now q.universal_rows.now q.universal_marks.now q.universal_counts.now
    q.existential_rows.now q.existential_marks.now q.existential_counts.now q.work.now q.made c.in-Some.verdict c.in-Some.is c.serves.result _
    c.serves.ensures.value c.serves.ensures.work_after c.if-serves.true

pub returns : goal.returns
returns c =
    let q = c.args in
    c.allowed.ensures
    ∙ elim c.match-claim.branch [
      | in-Some+else-serves w ↦ unshared_so q.setting q.bound q.depth q.claim q.kinds.now q.literals.now q.universal_rows.now q.universal_marks.now
          q.universal_counts.now q.existential_rows.now q.existential_marks.now q.existential_counts.now q.work.now q.made w.in-Some.verdict w.in-Some.is
          w.serves.result _ w.serves.ensures.value w.serves.ensures.work_after c.match-claim.work w.work-is w.if-serves.false
      | in_default w ↦ unclaimed q.setting q.bound q.depth q.claim q.kinds.now q.literals.now q.universal_rows.now q.universal_marks.now
          q.universal_counts.now q.existential_rows.now q.existential_marks.now q.existential_counts.now q.work.now q.made c.match-claim.work
          w.in_default.not-Some w.work-is
    ]
