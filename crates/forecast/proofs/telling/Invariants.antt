-- `forecast::telling` meets its contract. The loop's invariant: the bits tell the row from those passed. Assumes nothing.
use Prim.Native.Nat.{◌≤◌}
use Rattle.forecast.specs.Private.Starts.{Tells}
use Rattle.forecast.proofs.telling.Given as goal

abbrev pub invariant-loop-j : goal.invariant-loop-j
invariant-loop-j l = (l.j ≤ l.i) × Tells l.rows l.i l.j l.bits
