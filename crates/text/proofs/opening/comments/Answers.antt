-- The lines passed begin with c. Assumes nothing.
use Prim.Native.Nat.{ℕ, ◌+◌, ◌<◌}
use mathlib.Core.Path.{refl, ap, sym, ◌∙◌}
use native.Mathlib.Omega.{arith}
use native.Mathlib.Numerals.{add-one}
use borrow.Author.Tests.{eq-eqb, ne_eqb}
use lib.ListN.{length, drop, get_or, length-drop}
use Rattle.lines.specs.Lines.{lines}
use Rattle.text.specs.Reading.{after_comments}
use Rattle.lines.proofs.Spans.{before_le}
use Rattle.lines.proofs.LineLaws.{lines_line, lines_rest, lines_none, comment_first}
use Rattle.text.proofs.FormLaws.{words_line, words_rest, words_comment, words_none}
use Rattle.text.proofs.opening.comments.Goals as goal

pub returns-then-end-text : goal.returns-then-end-text
returns-then-end-text c =
    let text = c.args.text.now in
    let found = c.find-end in
    let turn = c.loop-at in
    let some = c.loop-at-test.true in
    record {
      within = omega arith;
      small = omega arith;
      right = λ gates. rw (← turn.invariant.2 gates, lines_rest text turn.at found.result found.ensures some c.if-end-text.true) refl;
      opens = sym turn.invariant.3 ∙ words_rest text turn.at found.result found.ensures some c.if-end-text.true;
    }

pub returns-then-text-at-ne99 : goal.returns-then-text-at-ne99
returns-then-text-at-ne99 c =
    let found = c.find-end in
    let turn = c.loop-at in
    let text = c.args.text.now in
    let inside : found.result < length text = omega (arith, before_le 10 (drop turn.at text), length-drop turn.at text) in
    let other = comment_first text turn.at found.result found.ensures ∙ ne_eqb (get_or text turn.at 0) 99 c.if-text-at-ne99.true in
    record {
      within = omega arith;
      small = omega arith;
      right = λ gates. rw (← turn.invariant.2 gates, lines_line text turn.at found.result found.ensures inside, other) refl;
      opens = sym turn.invariant.3 ∙ words_line text turn.at found.result found.ensures inside other;
    }

pub overflow_add-at : goal.overflow_add-at
overflow_add-at c =
    let text = c.args.text.now in
    omega (arith, before_le 10 (drop c.loop-at.at text), length-drop c.loop-at.at text)

pub loop-at-preserved : goal.loop-at-preserved
loop-at-preserved c =
    let found = c.find-end in
    let turn = c.loop-at in
    let text = c.args.text.now in
    let inside : found.result < length text = omega (arith, before_le 10 (drop turn.at text), length-drop turn.at text) in
    let comment = comment_first text turn.at found.result found.ensures ∙ eq-eqb (get_or text turn.at 0) 99 c.if-text-at-ne99.false in
    let more = lines (drop (found.result + 1) text) in
    let passed = lines_line text turn.at found.result found.ensures inside in
    let kept = sym (words_comment text turn.at found.result found.ensures inside comment) ∙ turn.invariant.3 in
    let next = add-one turn.line in
    (omega arith, omega arith, (λ gates. rw (← turn.invariant.2 gates, passed, comment) (ap (λ (n : ℕ). after_comments gates n more) next)), kept)

pub returns : goal.returns
returns c =
    let text = c.args.text.now in
    let turn = c.loop-at in
    record {
      within = omega arith;
      small = omega arith;
      right = λ gates. rw (← turn.invariant.2 gates, lines_none text turn.at c.loop-at-test.false) refl;
      opens = sym turn.invariant.3 ∙ words_none text turn.at c.loop-at-test.false;
    }
