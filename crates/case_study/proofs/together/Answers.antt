-- `case_study::together` meets its contract. Assumes nothing.
use Prim.Native.Nat.{◌+◌}
use Rattle.case_study.proofs.AskLaws.{not_over, over}
use Rattle.case_study.proofs.together.Goals as goal

pub returns-then-sum-le-MOST_ROUNDS : goal.returns-then-sum-le-MOST_ROUNDS
returns-then-sum-le-MOST_ROUNDS c = not_over 999999999 (c.args.rounds + c.args.round) c.if-sum-le-MOST_ROUNDS.true

pub returns : goal.returns
returns c = over 999999999 (c.args.rounds + c.args.round) c.if-sum-le-MOST_ROUNDS.false
