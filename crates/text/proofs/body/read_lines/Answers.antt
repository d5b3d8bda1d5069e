-- The lines from `at` on, read after what is held, give what those behind the p line give. Assumes nothing.
use Prim.Native.Nat.{◌<◌}
use mathlib.Core.Path.{refl, sym, ◌∙◌}
use native.Mathlib.Omega.{arith}
use native.Mathlib.Numerals.{add-one}
use borrow.Author.Tests.{eq-eqb, ne_eqb}
use lib.ListN.{length, drop, length-drop}
use Rattle.named.specs.Named.{max_places}
use Rattle.text.specs.Private.Steps.{fresh, held, outcome}
use Rattle.lines.proofs.Spans.{before_le}
use Rattle.lines.proofs.LineLaws.{lines_line, lines_rest, lines_none}
use Rattle.text.proofs.Places.{marked_none}
use Rattle.text.proofs.BodyLaws.{resized, marked_bound, settled_refused, items_gates}
use Rattle.text.proofs.body.read_lines.Goals as goal

pub loop-at-init : goal.loop-at-init
loop-at-init c =
    (c.requires.at_in_bounds.0, omega (arith, c.requires.at_in_bounds.1), refl, record { kinds = c.requires.kinds_len.0; names = c.requires.kinds_len.1; literals = c.requires.kinds_len.2; unknowns = omega arith; entries = omega arith; variables = c.requires.at_in_bounds.2; unread = λ _. refl; made = omega arith }, refl, marked_none max_places refl, λ _. refl)

pub returns-then-end-text : goal.returns-then-end-text
unfolding outcome held fresh
returns-then-end-text c = record { sized = resized refl refl refl refl refl refl c.loop-at.invariant.3; right = sym (c.loop-at.invariant.4 ∙ rw (lines_rest c.args.text.now c.loop-at.at c.find-end.result c.find-end.ensures c.loop-at-test.true c.if-end-text.true) refl) }

pub slice_bounds-body_line-end : goal.slice_bounds-body_line-end
slice_bounds-body_line-end c = omega (arith, before_le 10 (drop c.loop-at.at c.args.text.now), length-drop c.loop-at.at c.args.text.now)

pub returns-then-s-ne0 : goal.returns-then-s-ne0
unfolding outcome held fresh
returns-then-s-ne0 c =
    let inside : c.find-end.result < length c.args.text.now = omega (arith, before_le 10 (drop c.loop-at.at c.args.text.now), length-drop c.loop-at.at c.args.text.now) in
    record {
      sized = c.body_line-s.ensures.sized;
      right = sym (c.loop-at.invariant.4 ∙ rw (lines_line c.args.text.now c.loop-at.at c.find-end.result c.find-end.ensures inside, items_gates c.args.gates c.args.o.negative c.args.o.output c.args.o.line, ← c.body_line-s.ensures.right, c.body_line-s.ensures.line) (settled_refused c.body_line-s.result.cause c.if-s-ne0.true _ _ _ _));
    }

pub loop-at-preserved : goal.loop-at-preserved
unfolding held
loop-at-preserved c =
    let inside : c.find-end.result < length c.args.text.now = omega (arith, before_le 10 (drop c.loop-at.at c.args.text.now), length-drop c.loop-at.at c.args.text.now) in
    (omega arith, omega (arith, c.body_line-s.ensures.line), c.if-s-ne0.false, resized refl refl refl refl refl refl c.body_line-s.ensures.sized, c.loop-at.invariant.4 ∙ rw (lines_line c.args.text.now c.loop-at.at c.find-end.result c.find-end.ensures inside, items_gates c.args.gates c.args.o.negative c.args.o.output c.args.o.line, ← c.body_line-s.ensures.right, c.if-s-ne0.false, c.body_line-s.ensures.line, add-one c.loop-at.s.line) refl, c.body_line-s.ensures.marked, λ so. c.body_line-s.ensures.free so ∙ c.loop-at.invariant.6 so)

pub returns-then-s : goal.returns-then-s
unfolding outcome held fresh
returns-then-s c = record { sized = resized refl refl refl refl refl refl c.loop-at.invariant.3; right = sym (c.loop-at.invariant.4 ∙ rw (lines_none c.args.text.now c.loop-at.at c.loop-at-test.false, ne_eqb c.loop-at.s.clauses_read c.loop-at.s.clauses c.if-s.true) refl) }

pub returns-then-gates : goal.returns-then-gates
unfolding held fresh
returns-then-gates c =
    let z = c.loop-at.invariant.3 in
    let none = c.loop-at.invariant.6 c.if-gates.true in
    record {
      sized = c.add_output.ensures.sized c.loop-at.kinds c.loop-at.names z;
      right =
          c.add_output.ensures.right c.loop-at.invariant.2 none c.loop-at.kinds c.loop-at.names z (marked_bound c.loop-at.s.bound c.loop-at.s.free c.loop-at.names none c.loop-at.invariant.5) c.loop-at.s.line
          ∙ sym (c.loop-at.invariant.4 ∙ rw (lines_none c.args.text.now c.loop-at.at c.loop-at-test.false, eq-eqb c.loop-at.s.clauses_read c.loop-at.s.clauses c.if-s.false, c.if-gates.true) refl);
    }

pub returns : goal.returns
unfolding outcome held fresh
returns c = record { sized = c.loop-at.invariant.3; right = sym (c.loop-at.invariant.4 ∙ rw (lines_none c.args.text.now c.loop-at.at c.loop-at-test.false, eq-eqb c.loop-at.s.clauses_read c.loop-at.s.clauses c.if-s.false, c.if-gates.false, c.loop-at.invariant.2) refl) }
