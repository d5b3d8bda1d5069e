-- `growth::append_if_new` meets its contract. Assumes nothing.
use Prim.Native.Nat.{◌+◌, ◌<◌}
use mathlib.Core.Path.{◌≡◌, sym, ap, ◌∙◌}
use mathlib.Core.Bool.{Bool, cond, and-eq-true_iff}
use lib.Dec.{ltb}
use Rattle.rows.specs.Table.{room}
use borrow.Author.Tests.{ltb-true}
use native.Mathlib.Omega.{arith}
use Rattle.growth.specs.Growth.{is_new, bytes, with_row, with_new_row}
use Rattle.growth.proofs.append_if_new.Goals as goal

pub returns-else-is_added : goal.returns-else-is_added
unfolding with_new_row
returns-else-is_added c =
    let given = c.args in
    let b = bytes given.rows.now given.marks.now given.end in
    ap (λ (v : Bool). cond v (with_row given.yielded.now given.mark given.j b) b) (sym c.if-is_added.false ∙ c.is_added.ensures)

pub overflow_add-result : goal.overflow_add-result
overflow_add-result c =
    let given = c.args in
    let place : given.end < room given.rows.now =
    ltb-true given.end (room given.rows.now)
    ((and-eq-true_iff (is_new given.rows.now given.end given.yielded.now given.j) (ltb given.end (room given.rows.now))).0
    (sym c.is_added.ensures ∙ c.if-is_added.true)).1 in
    omega arith

pub returns : goal.returns
unfolding with_new_row
returns c =
    let write_call = c.write in
    let given = c.args in
    let b = bytes given.rows.now given.marks.now given.end in
    let rows_now = write_call.ensures.rows_after in
    let marks_now = write_call.ensures.marks_after in
    let written : bytes write_call.new.rows write_call.new.marks (given.end + 1) ≡ with_row given.yielded.now given.mark given.j b =
    λ d. bytes (rows_now d) (marks_now d) (given.end + 1) in
    written ∙ ap (λ (v : Bool). cond v (with_row given.yielded.now given.mark given.j b) b)
    (sym c.if-is_added.true ∙ c.is_added.ensures)
