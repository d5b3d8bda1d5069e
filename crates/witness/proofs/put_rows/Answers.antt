-- `witness::put_rows` meets its contract: the count, then the rows behind it. Assumes nothing.
use Prim.Native.Nat.{ℕ, ◌+◌, ◌*◌, ◌-◌, ◌≤◌}
use mathlib.Core.Path.{◌≡◌, ap, ◌∙◌, subst}
use mathlib.Core.Bool.{Bool}
use mathlib.Core.List.{List}
use native.Mathlib.Omega.{arith}
use lib.ListN.{length, take}
use lib.Seq.{length-take-le}
use Rattle.buffer.specs.Buffer.{appended, place_behind}
use Rattle.witness.specs.File.{if_stands, two_bytes, rows_field}
use Rattle.witness.proofs.PutLaws.{put_there, put_absent, put_both, put_appended}
use Rattle.witness.proofs.put_rows.Goals as goal

pub put_number-start-requires : goal.put_number-start-requires
put_number-start-requires c =
    let at_entry_lem = c.args in
    let room = subst (λ (t : Bool). at_entry_lem.at + if_stands t (2 + 16 * at_entry_lem.count) ≤ length at_entry_lem.out.now) c.if-there.true
    c.requires.0 in
    omega (arith, room)

pub slice_bounds-append-end : goal.slice_bounds-append-end
slice_bounds-append-end c = c.requires.1 c.if-there.true

pub returns-then-there : goal.returns-then-there
returns-then-there c =
    let at_entry_lem = c.args in
    let if1_test = c.if-there in
    let required = c.requires in
    let put_number_call = c.put_number-start in
    let append_call = c.append in
    let room = subst (λ (t : Bool). at_entry_lem.at + if_stands t (2 + 16 * at_entry_lem.count) ≤ length at_entry_lem.out.now) if1_test.true required.0 in
    let bytes = take (16 * at_entry_lem.count) at_entry_lem.rows.now in
    let width = length-take-le (16 * at_entry_lem.count) at_entry_lem.rows.now (required.1 if1_test.true) in
    let from_start : 16 * at_entry_lem.count - 0 ≡ 16 * at_entry_lem.count = omega arith in
    let whole : take (16 * at_entry_lem.count - 0) at_entry_lem.rows.now ≡ bytes = ap (λ (n : ℕ). take n at_entry_lem.rows.now) from_start in
    let rows = put_appended put_number_call.new.out append_call.new.out put_number_call.result append_call.result bytes
    (omega (arith, room, width, put_number_call.ensures.place, put_number_call.auto.out))
    (append_call.ensures.value ∙ ap (λ (l : List ℕ). place_behind put_number_call.new.out put_number_call.result l) whole)
    (append_call.ensures.out_after ∙ ap (λ (l : List ℕ). appended put_number_call.new.out put_number_call.result l) whole) in
    put_there at_entry_lem.there if1_test.true
    (put_both at_entry_lem.out.now put_number_call.new.out append_call.new.out at_entry_lem.at put_number_call.result append_call.result
    (two_bytes at_entry_lem.count) bytes put_number_call.ensures rows (omega (arith, room, width, put_number_call.ensures.place, rows.place)))

pub returns : goal.returns
returns c =
    let at_entry_lem = c.args in
    put_absent at_entry_lem.out.now at_entry_lem.at (rows_field at_entry_lem.count at_entry_lem.rows.now) at_entry_lem.there c.if-there.false
