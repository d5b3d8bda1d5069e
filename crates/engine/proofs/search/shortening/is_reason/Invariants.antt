-- `is_reason` meets its contract. The invariant: no position passed is in the set. Assumes nothing.
use Prim.Native.Nat.{ℕ, ◌≤◌, ◌<◌}
use mathlib.Core.Path.{◌≡◌}
use mathlib.Core.Bool.{false}
use Rattle.formula.specs.Formula.{max_unknowns}
use Rattle.search_sets.specs.Private.Masks.{set_at}
use Rattle.engine.proofs.search.shortening.is_reason.Given as goal

abbrev pub invariant-loop-l : goal.invariant-loop-l
invariant-loop-l l = (j : ℕ) → l.k ≤ j → j < l.l → set_at l.own max_unknowns j ≡ false
