-- `counts::fill` meets its contract. The loop's invariant: it is filled up to the place. Assumes nothing.
use Rattle.std.proofs.Common.{◌≡◌, ◌≤◌, max, length}
use Rattle.counts.specs.Counts.{filled}
use Rattle.counts.proofs.fill.Given as goal

abbrev pub invariant-loop-i : goal.invariant-loop-i
invariant-loop-i l =
    (l.counts ≡ filled l.from l.i l.value l.initial.counts) × (l.from ≤ l.i) × (l.i ≤ max l.from l.end) × (length l.counts ≡ length l.initial.counts)
