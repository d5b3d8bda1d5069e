-- `season::records::check` meets its contract: the lines before a place are records. Assumes nothing.
use Prim.Native.Nat.{◌+◌, ◌-◌, ◌≤◌}
use mathlib.Core.Path.{◌≡◌}
use lib.ListN.{length, drop}
use Rattle.lines.specs.Lines.{lines}
use Rattle.season.specs.Text.{other_line}
use Rattle.season.proofs.records.check.Given as goal

-- The lines from a place on, so many being counted before it.
abbrev pub invariant-loop-at : goal.invariant-loop-at
invariant-loop-at l =
    (l.count ≤ l.at) × (l.at ≤ length l.text) × (other_line 1 (lines l.text) ≡ other_line (l.count + 1) (lines (drop l.at l.text))) ×
    (length (lines l.text) ≡ l.count + length (lines (drop l.at l.text)))

abbrev pub decreases-loop-at : goal.decreases-loop-at
decreases-loop-at l = length l.text - l.at
