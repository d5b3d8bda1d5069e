-- `case_study::serves` meets its contract. Assumes nothing.
use mathlib.Core.Path.{ap, ◌∙◌}
use mathlib.Core.Bool.{true, false}
use Rattle.case_study.specs.Cases.{is_accepted}
use Rattle.case_study.specs.Private.Path.{shares, shared_work}
use Rattle.case_study.proofs.AskLaws.{shares_at}
use Rattle.case_study.proofs.serves.Goals as goal

pub returns-then-claim : goal.returns-then-claim
unfolding shares shared_work
returns-then-claim c =
    let q = c.args in
    let both = shares_at q.kinds.now q.literals.now q.universal_rows.now q.existential_rows.now q.made q.work.now q.claim true _ _ c.if-claim.true
    (c.is_accepted.ensures ∙ ap is_accepted c.judge.ensures.returned) c.judge.ensures.area in
    record { value = both.0; work_after = both.1 }

pub returns : goal.returns
unfolding shares shared_work
returns c =
    let q = c.args in
    let both = shares_at q.kinds.now q.literals.now q.universal_rows.now q.existential_rows.now q.made q.work.now q.claim false _ _ c.if-claim.false
    (c.is_accepted-2.ensures ∙ ap is_accepted c.judge-2.ensures.returned) c.judge-2.ensures.area in
    record { value = both.0; work_after = both.1 }
