-- `search_groups::split_row` meets its contract. The loop's invariant: mid is the earliest of the rows before i. Assumes nothing.
use Prim.Native.Nat.{◌≤◌, ◌<◌}
use Rattle.search_groups.proofs.ScanLaws.{EarliestTo}
use Rattle.search_groups.proofs.split_row.Given as goal

abbrev pub invariant-loop-i : goal.invariant-loop-i
invariant-loop-i l = (l.lo < l.i) × (l.i ≤ l.hi) × EarliestTo l.differences l.lo l.i l.mid l.least
