-- The words from `at` on are closed by zero if those from i on are. Assumes nothing.
use Prim.Native.Nat.{◌-◌, ◌≤◌}
use mathlib.Core.Path.{◌≡◌}
use lib.ListN.{length, drop}
use Rattle.lines.specs.Lines.{words}
use Rattle.lines.specs.Shapes.{closed_by_zero}
use Rattle.lines.specs.Shapes.{good_word}
use Rattle.lines.proofs.shapes.closed.Given as goal

abbrev pub invariant-loop-at : goal.invariant-loop-at
invariant-loop-at l = (l.at ≤ length l.line) × (closed_by_zero (good_word l.signed) (words (drop l.i l.line)) ≡ closed_by_zero (good_word l.signed)
    (words (drop l.at l.line)))

abbrev pub decreases-loop-at : goal.decreases-loop-at
decreases-loop-at l = length l.line - l.at
