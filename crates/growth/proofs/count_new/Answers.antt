-- `growth::count_new` meets its contract. The loop's invariant: the count is that of the rows passed. Assumes nothing.
use mathlib.Core.Bool.{Bool, true, false}
use Rattle.growth.proofs.CountLaws.{count_below_next}
use native.Mathlib.Nat.{add-zero}
use Prim.Native.Nat.{ℕ, ◌+◌}
use mathlib.Core.Path.{◌≡◌, refl, sym, ap, ◌∙◌}
use native.Mathlib.Omega.{arith}
use Rattle.growth.specs.Growth.{is_new, count_below}
use Rattle.growth.proofs.count_new.Goals as goal
use Rattle.growth.proofs.count_new.Goals.{else-is_new, then-is_new}

pub loop-j-init : goal.loop-j-init
loop-j-init c = (refl, omega arith, omega arith)

pub overflow_add-new : goal.overflow_add-new
overflow_add-new c = omega arith

pub overflow_step-j : goal.overflow_step-j
overflow_step-j c = omega arith

pub loop-j-smaller : goal.loop-j-smaller
loop-j-smaller c = omega arith

pub loop-j-preserved : goal.loop-j-preserved
loop-j-preserved c =
    let loop = c.loop-j in
    let j = loop.j in
    let given = c.args in
    let f : ℕ → Bool = λ q. is_new given.rows.now given.count given.yielded.now q in
    let counted = loop.invariant.0 in
    elim c.if-is_new.branch [
      | then-is_new w ↦ (
        w.new-is ∙ ap (λ (n : ℕ). n + 1) counted ∙ sym (count_below_next j f true (sym c.is_new.ensures ∙ w.if-is_new.true)),
        omega (arith, w.new-is),
        omega
            arith,
      )
      | else-is_new w ↦ (
        w.new-is ∙ counted ∙ sym (add-zero (count_below j f)) ∙ sym (count_below_next j f false (sym c.is_new.ensures ∙ w.if-is_new.false)),
        omega
            (arith, w.new-is),
        omega arith,
      )
    ]

pub returns : goal.returns
returns c =
    let given = c.args in
    let end : c.loop-j.j ≡ given.number = omega arith in
    c.loop-j.invariant.0 ∙ ap (λ (n : ℕ). count_below n (λ (q : ℕ). is_new given.rows.now given.count given.yielded.now q)) end
