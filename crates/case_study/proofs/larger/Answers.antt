-- `case_study::larger` meets its contract. Assumes nothing.
use Rattle.case_study.proofs.AskLaws.{second_larger, first_larger}
use Rattle.case_study.proofs.larger.Goals as goal

pub returns-then-a-b : goal.returns-then-a-b
returns-then-a-b c = second_larger c.args.a c.args.b c.if-a-b.true

pub returns : goal.returns
returns c = first_larger c.args.a c.args.b c.if-a-b.false
