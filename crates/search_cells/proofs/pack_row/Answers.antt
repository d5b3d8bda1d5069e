-- `search_cells::pack_row` meets its contract. The loop's invariant: the own values at the positions passed stand in the row. Assumes nothing.
use Prim.Native.Nat.{◌+◌, ◌*◌}
use mathlib.Core.Path.{◌≡◌}
use native.Mathlib.Omega.{arith}
use lib.ListN.{length}
use Rattle.search_cells.proofs.PackLaws.{part_cleared, row_packed_none, row_packed_whole, row_packed_bit, row_packed_own}
use Rattle.search_cells.proofs.PackLaws.{row_packed_other}
use Rattle.search_cells.proofs.pack_row.Goals as goal
use Rattle.search_cells.proofs.pack_row.Goals.{else-kind-side, then-kind-side}

pub loop-k-init : goal.loop-k-init
loop-k-init c =
    let given = c.args in
    row_packed_none given.kinds.now given.row given.i given.side (omega arith) given.work.now _ (omega arith)
    (part_cleared (16 * given.row) (16 * given.row + 16) given.work.now _ (omega arith) (omega arith) c.clear.ensures)

pub overflow_add-bit : goal.overflow_add-bit
overflow_add-bit c =
    let given = c.args in
    let loop = c.loop-k in
    omega (arith, row_packed_bit given.kinds.now given.row given.i given.side (omega arith) loop.k loop.bit _ loop.work loop.invariant)

pub loop-k-preserved : goal.loop-k-preserved
loop-k-preserved c =
    let given = c.args in
    let loop = c.loop-k in
    elim c.if-kind-side.branch [
      | then-kind-side t ↦ rw (t.work-is, t.bit-is) (row_packed_own given.kinds.now given.row given.i given.side (omega arith) loop.k loop.bit _ loop.work
          loop.invariant (omega arith) (omega arith) t.if-kind-side.true t.value-value.result t.value-value.ensures t.set_if.new.work t.set_if.ensures)
      | else-kind-side t ↦ rw (t.work-is, t.bit-is) (row_packed_other given.kinds.now given.row given.i given.side (omega arith) loop.k loop.bit _ loop.work
          loop.invariant (omega arith) t.if-kind-side.false)
    ]

pub returns : goal.returns
returns c =
    let given = c.args in
    let loop = c.loop-k in
    let full : loop.k ≡ length given.kinds.now = omega arith in
    row_packed_whole given.kinds.now given.row given.i given.side (omega arith) given.work.now _ (omega arith)
    (part_cleared (16 * given.row) (16 * given.row + 16) given.work.now _ (omega arith) (omega arith) c.clear.ensures)
    loop.bit loop.work (rw full at loop.invariant)
