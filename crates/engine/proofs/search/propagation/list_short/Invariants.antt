-- `propagation::list_short` meets its contract. The invariant: what is counted are starts. Assumes nothing.
use Prim.Native.Nat.{◌+◌, ◌≤◌}
use lib.ListN.{length, get_or}
use Rattle.index.specs.Index.{code_count}
use Rattle.engine.specs.Private.Steps.{Starts}
use Rattle.engine.proofs.search.propagation.list_short.Given as goal

abbrev pub invariant-loop-start : goal.invariant-loop-start
invariant-loop-start l = (l.count ≤ length l.short) × (Starts l.codes l.index (get_or l.index 1 0) (get_or l.index (code_count + 1) 0) → Starts l.codes l.short
    0 l.count)
