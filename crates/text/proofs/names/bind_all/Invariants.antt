-- The names from `at` on, bound after the `count` that the tables hold, give what those from i on do after n, and the names bound are marked. Assumes nothing.
use Prim.Native.Nat.{◌-◌, ◌≤◌}
use mathlib.Core.Path.{◌≡◌}
use lib.ListN.{length, take, drop}
use Rattle.formula.specs.Formula.{max_unknowns}
use Rattle.lines.specs.Lines.{words}
use Rattle.text.specs.Reading.{State, with_prefix, bind_all}
use Rattle.text.specs.Private.Steps.{Marked}
use Rattle.text.proofs.names.bind_all.Given as goal

abbrev pub invariant-loop-at : goal.invariant-loop-at
invariant-loop-at l = (l.at ≤ length l.line) × (l.count ≤ max_unknowns) × (length l.kinds ≡ length l.initial.kinds) × (length l.names ≡ length l.initial.names) × ((s : State) → s.variables ≡ l.variables → bind_all l.kind (with_prefix s (take l.n l.initial.kinds) (take l.n l.initial.names)) (words (drop l.i l.line)) ≡ bind_all l.kind (with_prefix s (take l.count l.kinds) (take l.count l.names)) (words (drop l.at l.line))) × Marked (take l.count l.names) l.places

abbrev pub decreases-loop-at : goal.decreases-loop-at
decreases-loop-at l = length l.line - l.at
