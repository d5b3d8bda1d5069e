-- `account::value_line` meets its contract, by the value. Assumes nothing.
use native.Mathlib.Omega.{arith}
use Rattle.account.proofs.value_line.Goals as goal

pub returns-then-value : goal.returns-then-value
returns-then-value c = record {
  upper_bound = omega arith;
  text_after = rw c.if-value.true c.name_line.ensures.text_after;
}

pub returns : goal.returns
returns c = record {
  upper_bound = omega arith;
  text_after = rw c.if-value.false c.name_line-2.ensures.text_after;
}
