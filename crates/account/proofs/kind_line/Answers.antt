-- `account::kind_line` meets its contract, by the kind. Assumes nothing.
use native.Mathlib.Omega.{arith}
use Rattle.account.proofs.LineLaws.{prefix_other}
use Rattle.account.proofs.kind_line.Goals as goal

pub returns-then-kind-eq0 : goal.returns-then-kind-eq0
returns-then-kind-eq0 c = record {
  upper_bound = omega arith;
  text_after = rw c.if-kind-eq0.true c.name_line.ensures.text_after;
}

pub returns : goal.returns
returns c = record {
  upper_bound = omega arith;
  text_after = rw (prefix_other c.args.kind c.args.name c.if-kind-eq0.false) at c.name_line-2.ensures.text_after;
}
