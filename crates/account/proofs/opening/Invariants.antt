-- `account::opening` meets its contract. The loop's invariant: the lines of the first k unknowns stand behind what was there. Assumes nothing.
use Prim.Native.Nat.{◌+◌, ◌*◌, ◌≤◌}
use mathlib.Core.Path.{◌≡◌}
use mathlib.Core.List.{◌++◌}
use lib.ListN.{take}
use Rattle.rows.specs.Row.{row_of}
use Rattle.rows.specs.Table.{row_at}
use Rattle.account.specs.Account.{each, value_line}
use Rattle.account.proofs.opening.Given as goal

abbrev pub invariant-loop-k : goal.invariant-loop-k
invariant-loop-k l = (l.end ≤ l.at + 26 * l.k) × (take l.end l.text ≡ take l.at l.initial.text ++ each value_line (take l.k (row_of l.block (row_at l.row 0)))
    (take l.k l.names))
