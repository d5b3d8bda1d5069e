-- `search_sets::trim` meets its contract. The loop's invariant: the sets before p are trimmed. Assumes nothing.
use Prim.Native.Nat.{◌-◌, ◌≤◌}
use mathlib.Core.Path.{◌≡◌}
use lib.ListN.{length}
use Rattle.formula.specs.Formula.{max_unknowns}
use Rattle.search_sets.specs.Sets.{sets_size, each_from, cut_at}
use Rattle.search_sets.proofs.trim.Given as goal

abbrev pub invariant-loop-p : goal.invariant-loop-p
invariant-loop-p l = (length l.sets ≡ sets_size) × (l.n ≤ max_unknowns) × (l.k ≤ l.p) × (l.p - l.k ≤ l.n - l.k) ×
    (l.sets ≡ each_from (cut_at l.k) l.k (l.p - l.k) l.initial.sets)
