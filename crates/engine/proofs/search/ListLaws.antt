-- Clauses in the table of terms, one after the other. Assumes nothing.
use Prim.Native.Nat.{ℕ, ◌<◌}
use mathlib.Core.List.{List}
use Rattle.codes.specs.Private.Clauses.{Begins}
use Rattle.engine.specs.Private.Terms.{Entered}

-- The clauses before `start` are the first j of the table.
pub record Entering (kinds codes terms : List ℕ) (j start : ℕ) : Type 0 where
  pub every : (e : ℕ) → e < start → Begins codes e → Entered kinds codes terms j e
