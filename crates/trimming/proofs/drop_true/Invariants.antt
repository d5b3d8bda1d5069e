-- `trimming::drop_true` meets its contract. The loop's invariant: the clauses passed are changed, and the others are not.
-- Assumes nothing.
use Prim.Native.Nat.{◌-◌}
use mathlib.Core.Path.{◌≡◌}
use lib.ListN.{length}
use Rattle.trimming_rules.specs.Private.Rounds.{untrue}
use Rattle.trimming.specs.Private.Table.{Indexed}
use Rattle.trimming.proofs.PassLaws.{Passing}
use Rattle.trimming.proofs.drop_true.Given as goal

abbrev pub invariant-loop-start : goal.invariant-loop-start
invariant-loop-start l = Passing untrue l.initial.table l.table l.start × Indexed l.table l.index × (length l.index ≡ length l.initial.index)

abbrev pub decreases-loop-start : goal.decreases-loop-start
decreases-loop-start l = length l.table - l.start
