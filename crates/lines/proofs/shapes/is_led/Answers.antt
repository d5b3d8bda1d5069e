-- The first two words are tested, then the others. Assumes nothing.
use mathlib.Core.Path.{◌≡◌, refl, ap, sym, ◌∙◌}
use mathlib.Core.Bool.{true, false}
use Rattle.lines.specs.Lines.{words, first, second}
use Rattle.lines.specs.Numbers.{is_name}
use Rattle.lines.specs.Shapes.{is_trimmed, leads, is_led, closed_by_zero, good_word}
use Rattle.lines.proofs.ShapeLaws.{taken_word}
use Rattle.lines.proofs.shapes.is_led.Goals as goal

pub returns-else-is_trimmed : goal.returns-else-is_trimmed
unfolding is_led
returns-else-is_trimmed c =
    let t : is_trimmed c.args.line.now ≡ false = sym c.is_trimmed.ensures ∙ c.if-is_trimmed.false in rw t refl

pub returns-else-is_lead : goal.returns-else-is_lead
unfolding is_led
returns-else-is_lead c =
    let given = c.args in
    let line = given.line.now in
    let q0 = taken_word {ws = words (line)} c.next-word.ensures refl in
    let q1 = taken_word c.next-name.ensures q0.1 in
    let t : is_trimmed line ≡ true = sym c.is_trimmed.ensures ∙ c.if-is_trimmed.true in
    let k : leads given.gates (first (words line)) ≡ false = sym (c.is_lead.ensures ∙ ap (leads given.gates) q0.0) ∙ c.if-is_lead.false in
    rw (t, k) refl

pub returns-else-is_name : goal.returns-else-is_name
unfolding is_led
returns-else-is_name c =
    let given = c.args in
    let line = given.line.now in
    let q0 = taken_word {ws = words (line)} c.next-word.ensures refl in
    let q1 = taken_word c.next-name.ensures q0.1 in
    let t : is_trimmed line ≡ true = sym c.is_trimmed.ensures ∙ c.if-is_trimmed.true
    in
    let k : leads given.gates (first (words line)) ≡ true = sym (c.is_lead.ensures ∙ ap (leads given.gates) q0.0) ∙ c.if-is_lead.true in
    let n : is_name (second (words line)) ≡ false = sym (c.is_name.ensures ∙ ap is_name q1.0) ∙ c.if-is_name.false in
    rw (t, k, n) refl

pub returns : goal.returns
unfolding is_led
returns c =
    let given = c.args in
    let gates = given.gates in
    let line = given.line.now in
    let q0 = taken_word {ws = words (line)} c.next-word.ensures refl in
    let q1 = taken_word c.next-name.ensures q0.1 in
    let t : is_trimmed line ≡ true = sym c.is_trimmed.ensures ∙ c.if-is_trimmed.true in
    let k : leads gates (first (words line)) ≡ true = sym (c.is_lead.ensures ∙ ap (leads gates) q0.0) ∙
    c.if-is_lead.true in
    let n : is_name (second (words line)) ≡ true = sym (c.is_name.ensures ∙ ap is_name q1.0) ∙ c.if-is_name.true in
    rw (t, k, n) (c.closed.ensures ∙ ap (closed_by_zero (good_word gates)) q1.1)
