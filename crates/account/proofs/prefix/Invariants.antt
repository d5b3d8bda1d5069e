-- `account::prefix` meets its contract. The loop's invariant: the lines of the first i unknowns stand behind what was there. Assumes nothing.
use Prim.Native.Nat.{◌+◌, ◌*◌, ◌≤◌}
use mathlib.Core.Path.{◌≡◌}
use mathlib.Core.List.{◌++◌}
use lib.ListN.{length, take}
use Rattle.account.specs.Account.{each, prefix_line}
use Rattle.account.proofs.prefix.Given as goal

abbrev pub invariant-loop-kind : goal.invariant-loop-kind
invariant-loop-kind l = (l.end ≤ l.at + 26 * (length l.yielded)) × (take l.end l.text ≡ take l.at l.initial.text ++ each prefix_line
    (take (length l.yielded) l.kinds) (take (length l.yielded) l.names))
