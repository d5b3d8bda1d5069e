-- `search_sets::resolve` meets its contract. The loop's invariant: the positions before p are followed. Assumes nothing.
use Prim.Native.Nat.{◌-◌, ◌≤◌, ◌<◌}
use mathlib.Core.Path.{◌≡◌}
use lib.ListN.{length}
use Rattle.formula.specs.Formula.{max_unknowns}
use Rattle.search_sets.specs.Sets.{set_places, sets_size, each_from, followed}
use Rattle.search_sets.proofs.resolve.Given as goal

abbrev pub invariant-loop-p : goal.invariant-loop-p
invariant-loop-p l = (length l.sets ≡ sets_size) × (l.of < set_places) × (l.at ≤ max_unknowns) × (l.k ≤ l.p) × (l.p - l.k ≤ l.at - l.k) ×
    (l.sets ≡ each_from (followed l.of) l.k (l.p - l.k) l.initial.sets)
