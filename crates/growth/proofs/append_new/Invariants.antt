-- `growth::append_new` meets its contract. The loop's invariant: the tables are those with the new ones of the rows passed. Assumes nothing.
use Prim.Native.Nat.{◌≤◌, ◌-◌}
use mathlib.Core.Path.{◌≡◌}
use lib.ListN.{length}
use Rattle.growth.specs.Growth.{bytes, with_new_rows}
use Rattle.growth.proofs.append_new.Given as goal

abbrev pub invariant-loop-j : goal.invariant-loop-j
invariant-loop-j l =
    (bytes l.rows l.marks l.end ≡ with_new_rows l.yielded' l.mark l.j (bytes l.initial.rows l.initial.marks l.count))
    × (l.j ≤ l.number)
    × (length l.rows ≡ length l.initial.rows)
    × (length l.marks ≡ length l.initial.marks)

abbrev pub decreases-loop-j : goal.decreases-loop-j
decreases-loop-j l = l.number - l.j
