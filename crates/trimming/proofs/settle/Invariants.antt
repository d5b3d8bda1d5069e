-- `trimming::settle` meets its contract. The loop's invariant: the rounds that are left make of the table what all of them make; the index is the one of what
-- is left; and clauses that are not named are irreducible.
-- Assumes nothing.
use Prim.Native.Nat.{◌+◌, ◌-◌, ◌≤◌}
use mathlib.Core.Path.{◌≡◌}
use lib.ListN.{length, take}
use Rattle.formula.specs.Formula.{max_unknowns, max_entries, prefix}
use Rattle.trimming.specs.Private.Table.{Pending, Units}
use Rattle.trimming.proofs.RoundLaws.{Settling}
use Rattle.trimming.proofs.settle.Given as goal

abbrev pub invariant-loop-round : goal.invariant-loop-round
invariant-loop-round l =
    Settling (prefix l.kinds) (length l.initial.table + 1) l.initial.table l.table (length l.initial.table + 1 - l._round) × Pending l.kinds
    (take l.count l.names) l.table l.index × (l.count ≤ max_entries) ×
    (length l.names ≡ max_entries) × Units l.kinds l.firsts (take l.count l.names) (take l.count l.names) 0 l.table × (length l.firsts ≡ max_unknowns + 1)
