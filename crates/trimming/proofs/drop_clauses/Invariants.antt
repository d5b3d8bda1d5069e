-- `trimming::drop_clauses` meets its contract. The loop's invariant: no other clauses are dropped, and the index is kept.
-- Assumes nothing.
use Prim.Native.Nat.{◌+◌, ◌≤◌, ◌<◌}
use mathlib.Core.Path.{◌≡◌}
use lib.ListN.{length}
use Rattle.codes.specs.Codes.{last_code}
use Rattle.index.specs.Occurrences.{listed}
use Rattle.trimming.proofs.ThinLaws.{Thinning}
use Rattle.trimming.proofs.drop_clauses.Given as goal

abbrev pub invariant-loop-index : goal.invariant-loop-index
invariant-loop-index l = ((two : 2 ≤ l.code) (small : l.code < last_code + 1) → Thinning l.code two small l.initial.table l.table l.index) ×
    (length l.table ≡ length l.initial.table) × (length l.index ≡ length l.initial.index)

abbrev pub decreases-loop-index : goal.decreases-loop-index
decreases-loop-index l = length (listed l.code l.table)
