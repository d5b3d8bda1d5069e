-- `case_study::one_more` meets its contract. Assumes nothing.
use Prim.Native.Nat.{◌+◌}
use native.Mathlib.Omega.{arith}
use Rattle.case_study.proofs.AskLaws.{not_over, over}
use Rattle.case_study.proofs.one_more.Goals as goal

pub returns-then-runs-lt-MOST_RUNS : goal.returns-then-runs-lt-MOST_RUNS
returns-then-runs-lt-MOST_RUNS c = not_over 4294967295 (c.args.runs + 1) (omega (arith, c.if-runs-lt-MOST_RUNS.true))

pub returns : goal.returns
returns c = over 4294967295 (c.args.runs + 1) (omega (arith, c.if-runs-lt-MOST_RUNS.false))
