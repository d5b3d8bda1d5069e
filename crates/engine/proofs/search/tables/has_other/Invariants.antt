-- `tables::has_other` meets its contract. The loop's invariant: `found` is true if an entry passed is no code. Assumes nothing.
use Prim.Native.Nat.{◌≤◌}
use mathlib.Core.Path.{◌≡◌}
use mathlib.Core.Bool.{◌||◌}
use lib.ListN.{length, drop}
use Rattle.formula.specs.Causes.{any}
use Rattle.engine.specs.Private.Prepared.{no_code}
use Rattle.engine.proofs.search.tables.has_other.Given as goal

abbrev pub invariant-loop-code : goal.invariant-loop-code
invariant-loop-code l = (l.code-index ≤ length l.codes) × (any no_code l.codes ≡ (l.found || any no_code (drop l.code-index l.codes)))
