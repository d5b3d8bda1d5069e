-- The words from `at` on, added after what the tables hold, give what the line does after what they held. Assumes nothing.
use Prim.Native.Nat.{◌+◌, ◌-◌, ◌≤◌}
use mathlib.Core.Path.{◌≡◌}
use lib.ListN.{length, take, drop}
use Rattle.formula.specs.Formula.{max_unknowns, max_entries}
use Rattle.lines.specs.Lines.{words}
use Rattle.text.specs.Reading.{State, with_entries, add_entries}
use Rattle.text.specs.Private.Steps.{Marked, free_in, placed_in}
use Rattle.text.proofs.names.add_entries.Given as goal

abbrev pub invariant-loop-at : goal.invariant-loop-at
invariant-loop-at l = (l.at ≤ length l.line) × (l.bound + l.more ≤ max_unknowns) × (l.count ≤ max_entries) × (length l.names ≡ max_unknowns) × (length l.literals ≡ max_entries) × ((s : State) → s.variables ≡ l.variables → s.names ≡ take l.bound l.initial.names → add_entries (with_entries s (free_in l.bound l.free l.initial.names) (take l.m l.initial.literals)) (words l.line) ≡ add_entries (with_entries s (free_in l.bound l.more l.names) (take l.count l.literals)) (words (drop l.at l.line))) × (take l.bound l.names ≡ take l.bound l.initial.names) × Marked (placed_in l.bound l.more l.names) l.places

abbrev pub decreases-loop-at : goal.decreases-loop-at
decreases-loop-at l = length l.line - l.at
