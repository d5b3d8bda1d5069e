-- `trimming::reduce` meets its contract. The loop's invariant: the clauses that are still named can alone be reduced.
-- Assumes nothing.
use Prim.Native.Nat.{ℕ}
use mathlib.Core.Path.{◌≡◌}
use mathlib.Core.List.{List}
use lib.ListN.{drop}
use Rattle.formula.specs.Formula.{prefix}
use Rattle.trimming_rules.specs.Private.Rounds.{reduced}
use Rattle.trimming.specs.Private.Table.{Units, Pending, Toward}
use Rattle.index.specs.Occurrences.{listed}
use Rattle.trimming.proofs.reduce.Given as goal

abbrev pub invariant-loop-start : goal.invariant-loop-start
invariant-loop-start l =
    Toward (reduced (prefix l.kinds)) l.initial.table l.table × Pending l.kinds (drop l.start-index l.names) l.table l.index
    × ((firsts : List ℕ) → Units l.kinds firsts l.names l.names 0 l.initial.table → Units l.kinds firsts l.names l.names 0 l.table)
    × (listed 1 l.table ≡ listed 1 l.initial.table)
