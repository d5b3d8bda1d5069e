-- `fee::sum` meets its contract. The loop's invariant: `total` and what the bands from place i on add up to are what all do.
-- Assumes nothing.
use Prim.Native.Nat.{◌+◌, ◌*◌, ◌≤◌}
use mathlib.Core.Path.{◌≡◌}
use lib.ListN.{drop}
use Rattle.fee.specs.Bands.{max_price}
use Rattle.fee.specs.ByBands.{by_bands}
use Rattle.fee.proofs.sum.Given as goal

abbrev pub invariant-loop-i : goal.invariant-loop-i
invariant-loop-i l = (l.total + by_bands l.rounds (drop l.i l.firsts) (drop l.i l.prices) ≡ by_bands l.rounds l.firsts l.prices) ×
    (l.total ≤ l.i * (4294967296 * max_price))
