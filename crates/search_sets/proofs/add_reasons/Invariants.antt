-- `search_sets::add_reasons` meets its contract. The loop's invariant: the codes to come make of the sets what all of them make of the first ones.
-- Assumes nothing.
use mathlib.Core.Path.{◌≡◌}
use lib.ListN.{length, drop}
use Rattle.codes.specs.Private.Clauses.{clause_of}
use Rattle.search_sets.specs.Sets.{sets_size, codes_joined}
use Rattle.search_sets.proofs.add_reasons.Given as goal

abbrev pub invariant-loop-e : goal.invariant-loop-e
invariant-loop-e l = (length l.sets ≡ sets_size) × (codes_joined l.to (clause_of (drop l.e l.codes)) l.sets ≡ codes_joined l.to
    (clause_of (drop l.start l.codes)) l.initial.sets)
