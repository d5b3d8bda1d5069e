-- The line behind the comments. Assumes nothing.
use Prim.Native.Nat.{ℕ}
use mathlib.Core.Path.{ap, sym, ◌∙◌}
use native.Mathlib.Omega.{arith}
use lib.ListN.{take, drop, length-drop}
use Rattle.lines.specs.Lines.{words}
use Rattle.lines.proofs.Spans.{before_le}
use Rattle.text.specs.Form.{gates_told, begins_gates}
use Rattle.text.proofs.FormLaws.{width}
use Rattle.text.proofs.opening.begins_gates.Goals as goal

pub slice_bounds-tells_gates-end : goal.slice_bounds-tells_gates-end
slice_bounds-tells_gates-end c =
    let text = c.args.text.now in
    let at = c.comments-start.result.at in
    omega (arith, c.comments-start.ensures.within, before_le 10 (drop at text), length-drop at text)

pub returns : goal.returns
unfolding begins_gates
returns c =
    let text = c.args.text.now in
    let at = c.comments-start.result.at in
    let cut = ap (λ (n : ℕ). gates_told (words (take n (drop at text)))) (width text at c.find-end.result c.find-end.ensures) in
    c.tells_gates.ensures ∙ cut ∙ sym (ap gates_told c.comments-start.ensures.opens)
