-- `search_cells::pack_row` meets its contract. The loop's invariant: the own values at the positions passed stand in the row. Assumes nothing.
use Rattle.search_cells.proofs.PackLaws.{RowPacked}
use Rattle.search_cells.proofs.pack_row.Given as goal

abbrev pub invariant-loop-k : goal.invariant-loop-k
invariant-loop-k l = RowPacked l.kinds l.row l.i l.side l.k l.bit l.initial.work l.work
