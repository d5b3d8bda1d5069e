-- `fee::has_dearer` meets its contract. The loop's invariant: `found` is true if a price passed is over the highest.
-- Assumes nothing.
use Prim.Native.Nat.{◌≤◌}
use mathlib.Core.Path.{◌≡◌}
use mathlib.Core.Bool.{◌||◌}
use lib.Dec.{ltb}
use lib.ListN.{length, drop}
use Rattle.formula.specs.Causes.{any}
use Rattle.fee.specs.Bands.{max_price}
use Rattle.fee.proofs.has_dearer.Given as goal

abbrev pub invariant-loop-price : goal.invariant-loop-price
invariant-loop-price l = (l.price-index ≤ length l.prices) × (any (ltb max_price) l.prices ≡ (l.found || any (ltb max_price) (drop l.price-index l.prices)))
