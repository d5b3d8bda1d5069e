-- `skip` stops at the first byte that is no space. Assumes nothing.
use Rattle.std.proofs.Common.{◌≡◌, ◌+◌, min, length, drop}
use Rattle.lines.specs.Places.{spaces}
use Rattle.lines.proofs.skip.Given as goal

abbrev pub invariant-loop-at : goal.invariant-loop-at
invariant-loop-at l = min l.i (length l.bytes) + spaces (drop l.i l.bytes) ≡ min l.at (length l.bytes) + spaces (drop l.at l.bytes)
