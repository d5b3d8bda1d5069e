-- `find` stops at the first b: what is left to pass is the same at every turn. Assumes nothing.
use Rattle.std.proofs.Common.{◌≡◌, ◌+◌, drop}
use Rattle.lines.specs.Places.{before}
use Rattle.lines.proofs.find.Given as goal

abbrev pub invariant-loop-at : goal.invariant-loop-at
invariant-loop-at l = l.i + before l.b (drop l.i l.bytes) ≡ l.at + before l.b (drop l.at l.bytes)
