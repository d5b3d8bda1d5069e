-- `report::answers` meets its contract: the parts stand one behind the other. Assumes nothing.
use native.Mathlib.Omega.{arith}
use Rattle.report.specs.Page.{answers_line}
use borrow.Author.Rules.{rules}
use Rattle.report.proofs.answers.Goals as goal

pub returns : goal.returns
unfolding answers_line
returns c = record {
  upper_bound = omega arith;
  text_after = rw (
    c.append.ensures.out_after_2,
    c.field-e.ensures.text_after,
    c.field-d.ensures.text_after,
    c.field-c.ensures.text_after,
    c.field-b.ensures.text_after,
    c.field-a.ensures.text_after,
  );
}
