-- `restriction::stands` meets its contract. The loop's invariant: no literal passed says whether the clause is kept.
-- Assumes nothing.
use mathlib.Core.Path.{◌≡◌}
use lib.ListN.{drop}
use Rattle.restriction.specs.Outcome.{values_of}
use Rattle.restriction.specs.Private.Walk.{stands as stands_so}
use Rattle.restriction.proofs.stands.Given as goal

abbrev pub invariant-loop-i : goal.invariant-loop-i
invariant-loop-i l = stands_so (values_of l.values) (drop l.start l.literals) ≡ stands_so (values_of l.values) (drop l.i l.literals)
