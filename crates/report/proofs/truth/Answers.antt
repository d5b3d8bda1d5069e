-- `report::truth` meets its contract: the definition's three cases are the three that the code tests. Assumes nothing.
use native.Mathlib.Omega.{arith}
use borrow.Author.Rules.{rules}
use Rattle.report.proofs.Laws.{truth_other}
use Rattle.report.proofs.truth.Goals as goal

pub returns-then-answer-eq0 : goal.returns-then-answer-eq0
returns-then-answer-eq0 c = record {
  upper_bound = omega arith;
  text_after = rw c.if-answer-eq0.true c.append.ensures.out_after_2;
}

pub returns-then-answer-eq1 : goal.returns-then-answer-eq1
returns-then-answer-eq1 c = record {
  upper_bound = omega arith;
  text_after = rw c.if-answer-eq1.true c.append-then-answer-eq1.ensures.out_after_2;
}

pub returns : goal.returns
returns c =
    let other = truth_other c.args.answer c.if-answer-eq0.false
    c.if-answer-eq1.false in record {
      upper_bound = omega arith;
      text_after = rw other c.append-2.ensures.out_after_2;
    }
