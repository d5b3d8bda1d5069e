-- `fee::rounded` meets its contract. Assumes nothing.
use Prim.Native.Nat.{◌%◌}
use native.Mathlib.Omega.{arith}
use borrow.Author.Tests.{lt-ltb, le-ltb}
use Rattle.fee.specs.Rounding.{nearest_even}
use Rattle.fee.proofs.rounded.Goals as goal

pub returns-then-rest-lt500 : goal.returns-then-rest-lt500
unfolding nearest_even
returns-then-rest-lt500 c = rw (lt-ltb (c.args.thousandths % 1000) 500 (omega arith))

pub returns-then-rest-gt500 : goal.returns-then-rest-gt500
unfolding nearest_even
returns-then-rest-gt500 c = let rest = c.args.thousandths % 1000 in rw (le-ltb rest 500 (omega arith), lt-ltb 500 rest (omega arith))

pub returns : goal.returns
unfolding nearest_even
returns c = let rest = c.args.thousandths % 1000 in rw (le-ltb rest 500 (omega arith), le-ltb 500 rest (omega arith)) (omega arith)
