-- `case_study::counted` meets its contract. Assumes nothing.
use Rattle.case_study.proofs.counted.Goals as goal

pub returns : goal.returns
returns c = λ d. record { universal = c.args.outcome.universal; existential = c.args.outcome.existential; runs = c.one_more.ensures d; rounds = c.together.ensures d; depth = c.larger.ensures d }
