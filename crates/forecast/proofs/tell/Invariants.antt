-- `forecast::tell` meets its contract. The loop's invariant: the rows passed have their numbers. Assumes nothing.
use Prim.Native.Nat.{◌≤◌}
use Rattle.forecast.specs.Private.Starts.{Told}
use Rattle.forecast.proofs.tell.Given as goal

abbrev pub invariant-loop-i : goal.invariant-loop-i
invariant-loop-i l = (l.i ≤ l.count) × Told l.rows l.numbers l.i
