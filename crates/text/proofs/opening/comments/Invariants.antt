-- The lines passed begin with c. Assumes nothing.
use Prim.Native.Nat.{◌+◌, ◌-◌, ◌≤◌}
use mathlib.Core.Path.{◌≡◌}
use mathlib.Core.Bool.{Bool}
use lib.ListN.{length, drop}
use Rattle.lines.specs.Lines.{lines}
use Rattle.text.specs.Reading.{after_comments}
use Rattle.text.specs.Form.{p_words}
use Rattle.text.proofs.opening.comments.Given as goal

abbrev pub invariant-loop-at : goal.invariant-loop-at
invariant-loop-at l =
    (l.at ≤ length l.text) × (l.line ≤ l.at + 1) × ((gates : Bool) → after_comments gates l.line (lines (drop l.at l.text)) ≡ after_comments gates 1 (lines l.text))
    × (p_words (lines (drop l.at l.text)) ≡ p_words (lines l.text))

abbrev pub decreases-loop-at : goal.decreases-loop-at
decreases-loop-at l = length l.text - l.at
