-- `search_numbering::fill_positions` meets its contract. The loop's invariant: what the positions left make of the table, numbered on, is what all make
-- of the lent one. Assumes nothing.
use Prim.Native.Nat.{◌*◌, ◌≤◌}
use mathlib.Core.Path.{◌≡◌}
use lib.ListN.{length, drop}
use Rattle.formula.specs.Formula.{work_size, max_rows}
use Rattle.search_numbering.specs.Numbering.{filled_from}
use Rattle.search_numbering.proofs.fill_positions.Given as goal

abbrev pub invariant-loop-k : goal.invariant-loop-k
invariant-loop-k l = (l.k ≤ length l.kinds) × (length l.work ≡ work_size) × (l.number ≤ max_rows * l.k) ×
    (filled_from l.preferences l.place l.differences l.side (drop l.k l.kinds) l.k l.number l.work ≡ filled_from l.preferences l.place l.differences l.side
    l.kinds 0 0 l.initial.work)
