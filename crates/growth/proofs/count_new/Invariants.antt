-- `growth::count_new` meets its contract. The loop's invariant: the count is that of the rows passed. Assumes nothing.
use Prim.Native.Nat.{ℕ, ◌≤◌, ◌-◌}
use mathlib.Core.Path.{◌≡◌}
use Rattle.growth.specs.Growth.{is_new, count_below}
use Rattle.growth.proofs.count_new.Given as goal

abbrev pub invariant-loop-j : goal.invariant-loop-j
invariant-loop-j l = (l.new ≡ count_below l.j (λ (q : ℕ). is_new l.rows l.count l.yielded' q)) × (l.new ≤ l.j) × (l.j ≤ l.number)

abbrev pub decreases-loop-j : goal.decreases-loop-j
decreases-loop-j l = l.number - l.j
