-- `account::values` meets its contract. The loop's invariant: the first k digits stand behind what was there. Assumes nothing.
use Prim.Native.Nat.{◌+◌}
use mathlib.Core.Path.{◌≡◌}
use mathlib.Core.List.{◌++◌, map}
use lib.ListN.{take}
use Rattle.rows.specs.Row.{row_of}
use Rattle.rows.specs.Table.{row_at}
use Rattle.account.specs.Account.{digit}
use Rattle.account.proofs.values.Given as goal

abbrev pub invariant-loop-k : goal.invariant-loop-k
invariant-loop-k l = (take (l.at + l.k) l.text ≡ take l.at l.initial.text ++ take l.k (map digit (row_of l.m (row_at l.rows l.i))))
