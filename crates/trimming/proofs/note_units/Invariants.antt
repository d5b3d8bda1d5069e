-- `trimming::note_units` meets its contract. The loop's invariant: all clauses of one entry but those still named are noted.
-- Assumes nothing.
use Prim.Native.Nat.{◌+◌}
use mathlib.Core.Path.{◌≡◌}
use mathlib.Core.List.{[]}
use lib.ListN.{length, drop}
use Rattle.formula.specs.Formula.{max_unknowns}
use Rattle.trimming.specs.Private.Table.{Units}
use Rattle.trimming.proofs.note_units.Given as goal

abbrev pub invariant-loop-name : goal.invariant-loop-name
invariant-loop-name l = Units l.kinds l.firsts (drop l.name-index l.names) [] 0 l.table × (length l.firsts ≡ max_unknowns + 1)
