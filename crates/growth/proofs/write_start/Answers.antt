-- `growth::write_start` meets its contract. The loop's invariant: the bits passed are set that are preferred. Assumes nothing.
use mathlib.Core.Bool.{Bool, true, false}
use mathlib.Core.List.{List}
use Rattle.rows.specs.Access.{bit_set, rows_written, marks_written}
use Rattle.growth.proofs.CountLaws.{with_preferred_next, length_bit_set}
use Prim.Native.Nat.{ℕ}
use mathlib.Core.Path.{◌≡◌, refl, sym, ap, ◌∙◌}
use native.Mathlib.Omega.{arith}
use lib.ListN.{length, replicate}
use Rattle.preference.specs.Preference.{prefer}
use Rattle.growth.specs.Growth.{with_preferred}
use Rattle.growth.proofs.write_start.Goals as goal
use Rattle.growth.proofs.write_start.Goals.{else-preference, then-preference}

pub loop-k-init : goal.loop-k-init
loop-k-init c = (refl, omega arith, refl)

pub overflow_step-k : goal.overflow_step-k
overflow_step-k c = omega arith

pub loop-k-smaller : goal.loop-k-smaller
loop-k-smaller c = omega arith

pub loop-k-preserved : goal.loop-k-preserved
loop-k-preserved c =
    let f : ℕ → Bool = prefer c.args.preferences.now in
    let k = c.loop-k.k in
    let row = c.loop-k.row in
    let so_far = c.loop-k.invariant.0 in
    let long = c.loop-k.invariant.2 in
    elim c.if-preference.branch [
      | then-preference w ↦ (
        w.row-is ∙ w.set_bit.ensures ∙ ap (λ (r : List ℕ). bit_set r 0 k) so_far
            ∙ sym (with_preferred_next f k (replicate 16 0) true (sym c.preference.ensures ∙ w.if-preference.true)),
        omega arith,
        ap length (w.row-is ∙ w.set_bit.ensures) ∙ length_bit_set row 0 k ∙ long,
      )
      | else-preference w ↦ (
        w.row-is ∙ so_far ∙ sym (with_preferred_next f k (replicate 16 0) false (sym c.preference.ensures ∙ w.if-preference.false)),
        omega arith,
        ap length w.row-is ∙ long,
      )
    ]

pub returns : goal.returns
returns c =
    let given = c.args in
    let row = c.loop-k.row in
    let end : c.loop-k.k ≡ given.universals = omega arith in
    let whole : row ≡ with_preferred (prefer given.preferences.now) given.universals (replicate 16 0) =
    c.loop-k.invariant.0 ∙ ap (λ (n : ℕ). with_preferred (prefer given.preferences.now) n
    (replicate 16 0)) end in record {
      rows_after = c.write.ensures.rows_after ∙ ap (λ (r : List ℕ). rows_written given.rows.now given.marks.now 0 r 0) whole;
      marks_after = c.write.ensures.marks_after ∙ ap (λ (r : List ℕ). marks_written given.rows.now given.marks.now 0 r 0 0) whole;
    }
