-- What is lent, the c lines, then the p line. Assumes nothing.
use Prim.Native.Nat.{◌<◌}
use mathlib.Core.Path.{◌≡◌, refl, sym, subst, ◌∙◌}
use mathlib.Core.Bool.{false}
use native.Mathlib.Omega.{arith}
use lib.ListN.{length, drop, length-drop}
use Rattle.lines.proofs.Spans.{before_le}
use Rattle.text.specs.Reading.{scan, lent_well}
use Rattle.text.specs.Private.Steps.{fresh, ProblemRead}
use Rattle.text.proofs.ProblemLaws.{scan_lent, lent_sizes, problem_none, problem_refused, problem_taken}
use Rattle.text.proofs.opening.read_opening.Goals as goal
use Rattle.text.proofs.opening.read_opening.Goals.{After-read_problem}

pub returns-then-not-lent_well : goal.returns-then-not-lent_well
unfolding scan
returns-then-not-lent_well c =
    let w : lent_well c.args.text.now c.args.kinds c.args.literals c.args.names ≡ false = sym c.lent_well.ensures ∙ c.if-not-lent_well.true in
    rw w refl

pub returns-then-end-text : goal.returns-then-end-text
returns-then-end-text c =
    (scan_lent c.args.text.now c.args.kinds c.args.literals c.args.names (sym c.lent_well.ensures ∙ c.if-not-lent_well.false) c.args.gates)
    ∙ sym (c.comments-start.ensures.right c.args.gates)
    ∙ problem_none c.args.gates c.args.text.now c.comments-start.result.at c.find-end.result c.comments-start.result.line c.find-end.ensures
    c.comments-start.ensures.within c.if-end-text.true

pub slice_bounds-read_problem-end : goal.slice_bounds-read_problem-end
slice_bounds-read_problem-end c = omega (
  arith,
  c.comments-start.ensures.within,
  before_le 10 (drop c.comments-start.result.at c.args.text.now),
  length-drop
      c.comments-start.result.at c.args.text.now,
)

-- The p line's place is within the text.
inside : (c : After-read_problem) → c.find-end.result < length c.args.text.now
inside c = omega (
  arith,
  c.comments-start.ensures.within,
  before_le 10 (drop c.comments-start.result.at c.args.text.now),
  length-drop c.comments-start.result.at
      c.args.text.now,
)

pub returns-in-Err : goal.returns-in-Err
returns-in-Err c =
    (scan_lent c.args.text.now c.args.kinds c.args.literals c.args.names (sym c.lent_well.ensures ∙ c.if-not-lent_well.false) c.args.gates)
    ∙ sym (c.comments-start.ensures.right c.args.gates)
    ∙ problem_refused c.args.gates c.args.text.now c.comments-start.result.at c.find-end.result c.comments-start.result.line c.find-end.ensures
    (inside (goal.at.returns-in-Err c).After-read_problem) c.in-Err.cause (subst (ProblemRead c.args.gates _) c.in-Err.is c.read_problem.ensures)

pub returns : goal.returns
unfolding fresh
returns c =
    let p = subst (ProblemRead c.args.gates _) c.in-Ok.is c.read_problem.ensures in
    record {
      right =
          (scan_lent c.args.text.now c.args.kinds c.args.literals c.args.names (sym c.lent_well.ensures ∙ c.if-not-lent_well.false) c.args.gates)
          ∙ sym (c.comments-start.ensures.right c.args.gates)
          ∙ problem_taken c.args.gates c.args.text.now c.comments-start.result.at c.find-end.result c.comments-start.result.line c.find-end.ensures
          (inside (goal.at.returns c).After-read_problem) p;
      sizes = lent_sizes c.args.text.now c.args.kinds c.args.literals c.args.names (sym c.lent_well.ensures ∙ c.if-not-lent_well.false);
      within = omega (arith, inside (goal.at.returns c).After-read_problem);
      line = omega (arith, c.comments-start.ensures.small);
      small = p.small;
      named = p.named;
    }
