-- `past` meets its contract. The invariant: no entry passed ends a clause. Assumes nothing.
use lib.ListN.{get_or}
use Prim.Native.Nat.{ℕ, ◌≤◌, ◌<◌}
use mathlib.Core.Path.{◌≡◌}
use Rattle.engine.proofs.search.term_table.past.Given as goal

abbrev pub invariant-loop-e : goal.invariant-loop-e
invariant-loop-e l = (x : ℕ) → l.start ≤ x → x < l.e → get_or l.codes x 0 ≡ 0 → ⊥
