-- The definition's tests, in their order. Assumes nothing.
use mathlib.Core.Path.{◌≡◌, refl}
use native.Mathlib.Omega.{arith}
use borrow.Author.Tests.{lt-ltb, le-ltb}
use Rattle.text.specs.Reading.{max_variables, max_items, output_range}
use Rattle.text.specs.Private.Steps.{range_cause}
use Rattle.text.proofs.opening.check_range.Goals as goal
use Rattle.text.proofs.opening.check_range.Goals.{Else-items-clauses, else-gates-via-then-gates+else-output-gt-LARGEST, else-gates-via-else-gates}

pub returns-then-not-good : goal.returns-then-not-good
unfolding range_cause
returns-then-not-good c = rw c.if-not-good.true refl

pub returns-then-variables-gt-LARGEST : goal.returns-then-variables-gt-LARGEST
unfolding range_cause
returns-then-variables-gt-LARGEST c = rw (c.if-not-good.false, lt-ltb max_variables c.args.variables c.if-variables-gt-LARGEST.true) refl

pub returns-then-items-clauses : goal.returns-then-items-clauses
unfolding range_cause
returns-then-items-clauses c =
    let asked = c.args in
    let named = le-ltb max_variables asked.variables c.if-variables-gt-LARGEST.false in
    let many = lt-ltb (max_items asked.gates) asked.clauses (omega (arith, c.items.ensures, c.if-items-clauses.true)) in
    rw (c.if-not-good.false, named, many) refl

-- Past the two the numbers are in range, but for O.
passed : (c : Else-items-clauses) → range_cause c.args.gates c.args.good c.args.variables c.args.clauses c.args.output ≡ output_range c.args.gates c.args.output
unfolding range_cause
passed c =
    let asked = c.args in
    let named = le-ltb max_variables asked.variables c.if-variables-gt-LARGEST.false in
    let few = le-ltb (max_items asked.gates) asked.clauses (omega (arith, c.items.ensures, c.if-items-clauses.false)) in
    rw (c.if-not-good.false, named, few) refl

pub returns-then-output-gt-LARGEST : goal.returns-then-output-gt-LARGEST
returns-then-output-gt-LARGEST c =
    let large = lt-ltb max_variables c.args.output (omega (arith, c.if-output-gt-LARGEST.true)) in
    rw (passed (goal.at.returns-then-output-gt-LARGEST c).Else-items-clauses, c.if-gates.true, large) refl

pub returns : goal.returns
returns c =
    rw (passed (goal.at.returns c).Else-items-clauses)
    (elim c.else-gates.branch [
      | else-gates-via-then-gates+else-output-gt-LARGEST w ↦
          (rw (w.if-gates.true, le-ltb max_variables c.args.output w.if-output-gt-LARGEST.false) refl)
      | else-gates-via-else-gates w ↦ (rw w.if-gates.false refl)
    ])
