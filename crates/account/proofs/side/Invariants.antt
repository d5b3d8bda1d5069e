-- `account::side` meets its contract. The loop's invariant: the lines of the first i rows stand behind what was there. Assumes nothing.
use Prim.Native.Nat.{◌+◌, ◌*◌, ◌≤◌}
use mathlib.Core.Path.{◌≡◌}
use mathlib.Core.List.{◌++◌}
use lib.ListN.{length, take}
use Rattle.rows.specs.Table.{rows_of}
use Rattle.account.specs.Account.{row_lines}
use Rattle.account.specs.Private.Steps.{joined}
use Rattle.account.proofs.side.Given as goal

abbrev pub invariant-loop-i : goal.invariant-loop-i
invariant-loop-i l = (l.end ≤ l.at + 192 * l.i) × (take l.end l.text ≡ take l.at l.initial.text ++ row_lines l.label
    (take l.i (joined (rows_of l.m (length l.marks) l.rows) l.marks)) (take l.i l.counts))
