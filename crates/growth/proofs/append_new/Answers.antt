-- `growth::append_new` meets its contract. The loop's invariant: the tables are those with the new ones of the rows passed. Assumes nothing.
use Prim.Native.Nat.{ℕ}
use mathlib.Core.Path.{◌≡◌, refl, sym, ap, ◌∙◌}
use native.Mathlib.Omega.{arith}
use lib.ListN.{length}
use Rattle.growth.specs.Growth.{Bytes, bytes, with_new_row, with_new_rows}
use Rattle.growth.proofs.CountLaws.{with_new_rows_next, length_with_new_row}
use Rattle.growth.proofs.append_new.Goals as goal

pub loop-j-init : goal.loop-j-init
loop-j-init c = (refl, omega arith, refl, refl)

pub overflow_step-j : goal.overflow_step-j
overflow_step-j c = omega arith

pub loop-j-smaller : goal.loop-j-smaller
loop-j-smaller c = omega arith

pub loop-j-preserved : goal.loop-j-preserved
loop-j-preserved c =
    let loop = c.loop-j in
    let given = c.args in
    let so_far = loop.invariant in
    let b = bytes loop.rows loop.marks loop.end in
    let next = c.append_if_new-end.ensures in
    let long = length_with_new_row given.yielded.now given.mark loop.j b in (
      next
          ∙ ap (with_new_row given.yielded.now given.mark loop.j) so_far.0
          ∙ sym (with_new_rows_next given.yielded.now given.mark loop.j (bytes given.rows.now given.marks.now given.count)),
      omega arith,
      ap (λ (x : Bytes). length x.row_part) next ∙ long.0 ∙ so_far.2,
      ap (λ (x : Bytes). length x.mark_part) next ∙ long.1 ∙ so_far.3,
    )

pub shape_of-rows : goal.shape_of-rows
shape_of-rows c = c.loop-j.invariant.2

pub shape_of-marks : goal.shape_of-marks
shape_of-marks c = c.loop-j.invariant.3

pub returns : goal.returns
returns c =
    let given = c.args in
    let end : c.loop-j.j ≡ given.number = omega arith in
    c.loop-j.invariant.0
    ∙ ap (λ (n : ℕ). with_new_rows given.yielded.now given.mark n (bytes given.rows.now given.marks.now given.count)) end
