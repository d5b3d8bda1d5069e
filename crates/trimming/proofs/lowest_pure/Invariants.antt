-- `trimming::lowest_pure` meets its contract. The loop's invariant: no unknown passed stands in one sign only.
-- Assumes nothing.
use Prim.Native.Nat.{◌≤◌}
use mathlib.Core.List.{List}
use lib.ListN.{length}
use Rattle.formula.specs.Formula.{max_unknowns, Clause}
use Rattle.trimming.specs.Private.Table.{Found}
use Rattle.trimming.proofs.PureLaws.{FromHere}
use Rattle.trimming.proofs.lowest_pure.Given as goal

abbrev pub invariant-loop-position : goal.invariant-loop-position
invariant-loop-position l = (few : length l.kinds ≤ max_unknowns) (cs : List Clause) (h : Found l.index cs) → FromHere l.index cs h l.kinds few l.position
