-- The shape, the numbers and the literal of the p line. Assumes nothing.
use Rattle.std.proofs.lemmas.Result.{err_from_is_err_and}
use mathlib.Core.Path.{sym}
use Rattle.lines.specs.Lines.{words}
use Rattle.text.specs.Reading.{problem_cause}
use Rattle.text.specs.Private.Steps.{range_cause}
use Rattle.text.proofs.ProblemLaws.{range_small, range_told, output_items}
use Rattle.text.proofs.opening.read_problem.Goals as goal

pub returns-in_err-check_range : goal.returns-in_err-check_range
unfolding problem_cause range_cause
returns-in_err-check_range c =
    let p = c.p_line-p.ensures in
    let found = c.p_line-p.result in
    let told = range_told c.args.gates found.good found.variables found.clauses found.output c.in_err-check_range.ensures in
    let q = err_from_is_err_and c.from_residual.result c.from_residual.ensures.1 in
    rw (q.1, q.2) (rw (← p.shape, ← p.v, ← p.c, ← p.o) told)

pub returns : goal.returns
unfolding problem_cause range_cause
returns c =
    let p = c.p_line-p.ensures in
    let found = c.p_line-p.result in
    let gates = c.args.gates in
    let none = range_told gates found.good found.variables found.clauses found.output c.in_ok-check_range.ensures in
    record {
      right = rw (← p.shape, ← p.v, ← p.c, ← p.o) none;
      v = p.v;
      c = p.c;
      small = (range_small gates found.good found.variables found.clauses found.output (sym none)).0;
      items = output_items gates (words c.args.line.now) found.output found.negative p.o p.sign;
      named = (range_small gates found.good found.variables found.clauses found.output (sym none)).1;
    }
