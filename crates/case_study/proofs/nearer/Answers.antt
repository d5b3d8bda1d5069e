-- `case_study::nearer` meets its contract. Assumes nothing.
use Rattle.case_study.proofs.LaidLaws.{nearer_below, nearer_above}
use Rattle.case_study.proofs.nearer.Goals as goal

pub returns-then-before-most : goal.returns-then-before-most
returns-then-before-most c = nearer_below _ _ c.if-name-eq0.false c.if-before-most.true

pub returns : goal.returns
returns c = nearer_above _ _ c.if-name-eq0.false c.if-before-most.false
