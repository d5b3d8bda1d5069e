-- `report::line_one` meets its contract: the parts stand one behind the other. Assumes nothing.
use native.Mathlib.Omega.{arith}
use borrow.Author.Rules.{rules}
use Rattle.report.specs.Report.{line_one}
use Rattle.report.proofs.line_one.Goals as goal

pub returns : goal.returns
unfolding line_one
returns c =
    let fixed = c.append-a.ensures.out_after_2 in
    let with_truth = c.truth-b.ensures.text_after in
    let with_variables = c.field-c.ensures.text_after in
    let with_clauses = c.field-d.ensures.text_after in
    let ended = c.append.ensures.out_after_2 in record {
      upper_bound = omega arith;
      text_after = rw (ended, with_clauses, with_variables, with_truth, fixed);
    }
