-- The lines from `at` on, read after what is held, give what those behind the p line give. Assumes nothing.
use Prim.Native.Nat.{◌+◌, ◌-◌, ◌≤◌}
use mathlib.Core.Path.{◌≡◌}
use mathlib.Core.Bool.{true}
use lib.ListN.{length, drop}
use Rattle.lines.specs.Lines.{lines}
use Rattle.text.specs.Reading.{body}
use Rattle.text.specs.Private.Steps.{Marked, placed_in, Sized, items_at, held}
use Rattle.text.proofs.body.read_lines.Given as goal

abbrev pub invariant-loop-at : goal.invariant-loop-at
invariant-loop-at l = (l.at ≤ length l.text) × (l.s.line ≤ l.at + 1) × (l.s.cause ≡ 0) × Sized l.s l.kinds l.names l.literals × (body (items_at l.gates l.o.negative l.o.output l.o.line) (held l.initial.s l.initial.kinds l.initial.names l.initial.literals) l.initial.s.line (lines (drop l.initial.at l.text)) ≡ body (items_at l.gates l.o.negative l.o.output l.o.line) (held l.s l.kinds l.names l.literals) l.s.line (lines (drop l.at l.text))) × Marked (placed_in l.s.bound l.s.free l.names) l.places × (l.gates ≡ true → l.s.free ≡ 0)

abbrev pub decreases-loop-at : goal.decreases-loop-at
decreases-loop-at l = length l.text - l.at
