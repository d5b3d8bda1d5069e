-- `counts::count_up` meets its contract. The loop's invariant: it is counted up to the place. Assumes nothing.
use Rattle.std.proofs.Common.{◌≡◌, ◌≤◌, length}
use Rattle.counts.specs.Counts.{was_yielded, counted_up}
use Rattle.counts.proofs.count_up.Given as goal

abbrev pub invariant-loop-i : goal.invariant-loop-i
invariant-loop-i l =
    (l.counts ≡ counted_up (was_yielded l.rows l.yielded' l.number) l.i l.initial.counts) × (l.i ≤ l.end) × (length l.counts ≡ length l.initial.counts)
