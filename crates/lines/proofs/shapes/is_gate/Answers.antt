-- Assumes nothing.
use mathlib.Core.Path.{◌≡◌, refl, ap, sym, ◌∙◌}
use mathlib.Core.Bool.{true, false}
use Rattle.lines.specs.Lines.{words, first, same}
use Rattle.lines.specs.Shapes.{xor_word, has_three, is_gate}
use Rattle.lines.proofs.ShapeLaws.{taken_word}
use Rattle.lines.proofs.shapes.is_gate.Goals as goal

pub returns-else-is_led : goal.returns-else-is_led
unfolding is_gate
returns-else-is_led c = rw (sym c.is_led.ensures ∙ c.if-is_led.false) refl

pub returns-then-same : goal.returns-then-same
unfolding is_gate
returns-then-same c =
    let given = c.args in
    let q0 = taken_word {ws = words given.line.now} c.next-function.ensures refl in
    let x : same (first (words given.line.now)) xor_word ≡ true = sym (c.same.ensures ∙ ap (λ w. same w xor_word) q0.0) ∙
    c.if-same.true in
    rw (sym c.is_led.ensures ∙ c.if-is_led.true, x)
    (c.has_three.ensures ∙ ap has_three (taken_word c.next-name.ensures q0.1).1)

pub returns-else-same : goal.returns-else-same
unfolding is_gate
returns-else-same c =
    let given = c.args in
    let q0 = taken_word {ws = words given.line.now} c.next-function.ensures refl in
    let x : same (first (words given.line.now)) xor_word ≡ false = sym (c.same.ensures ∙ ap (λ w. same w xor_word) q0.0) ∙ c.if-same.false in
    rw (sym c.is_led.ensures ∙ c.if-is_led.true, x) refl
