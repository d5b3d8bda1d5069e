-- `search_cells::set` meets its contract. Assumes nothing.
use native.Mathlib.Omega.{arith}
use Rattle.search_cells.proofs.SetLaws.{with_cell_stored}
use Rattle.search_cells.proofs.set.Goals as goal

pub returns : goal.returns
returns c =
    let given = c.args in
    rw c.from.ensures (with_cell_stored given.i given.k given.level given.value given.work.now (omega arith) (omega arith))
