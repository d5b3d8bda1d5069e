-- `search_cells::pack` meets its contract. The loop's invariant: the rows passed are packed, and all behind them is as it was. Assumes nothing.
use Prim.Native.Nat.{◌*◌}
use mathlib.Core.Path.{◌≡◌, refl, sym, ◌∙◌}
use native.Mathlib.Omega.{arith}
use lib.ListN.{length}
use Rattle.search_cells.specs.Steps.{packed}
use Rattle.search_cells.proofs.StepLaws.{fitting_sizes}
use Rattle.search_cells.proofs.PackLaws.{part_cleared, rows_packed_more, rows_packed_whole, packed_inside}
use Rattle.search_cells.proofs.pack.Goals as goal

pub returns-else-is_table : goal.returns-else-is_table
unfolding packed
returns-else-is_table c = rw (sym c.is_table.ensures ∙ c.if-is_table.false)

pub loop-row-init : goal.loop-row-init
loop-row-init c =
    let given = c.args in
    let sizes = fitting_sizes (length given.work.now) (length given.kinds.now) (length given.place.now)
    (sym c.is_table.ensures ∙ c.if-is_table.true) in
    (sizes.0, sizes.1, sizes.2, omega arith, sizes.0, refl)

pub loop-row-preserved : goal.loop-row-preserved
loop-row-preserved c =
    let given = c.args in
    let loop = c.loop-row in (
      loop.invariant.0,
      loop.invariant.1,
      loop.invariant.2,
      omega arith,
      omega arith,
      rows_packed_more given.kinds.now given.place.now given.side given.work.now loop.invariant.0 loop.row loop.work _ (omega arith)
          loop.invariant.5
          (rw c.from.ensures at c.pack_row.ensures),
    )

pub returns : goal.returns
returns c =
    let given = c.args in
    let loop = c.loop-row in
    let full : loop.row ≡ length given.place.now = omega arith in
    rows_packed_whole given.kinds.now given.place.now given.side given.work.now loop.invariant.0 (length given.place.now) loop.work _
    loop.invariant.2 (rw full at loop.invariant.5)
    (part_cleared (16 * length given.place.now) (length loop.work) loop.work _ (omega arith) (omega arith) c.clear.ensures)
    ∙ sym (packed_inside given.kinds.now given.place.now given.side given.work.now loop.invariant.0 loop.invariant.1 loop.invariant.2)
