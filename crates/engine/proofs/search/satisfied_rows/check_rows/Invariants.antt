-- `check_rows` meets its contract. The loop's invariant: the sets of the positions stay. Assumes nothing.
use mathlib.Core.Path.{◌≡◌}
use lib.ListN.{length}
use Rattle.search_sets.specs.Sets.{sets_size}
use Rattle.search_sets.specs.Private.Masks.{SetsKept}
use Rattle.engine.proofs.search.satisfied_rows.check_rows.Given as goal

abbrev pub invariant-loop-i : goal.invariant-loop-i
invariant-loop-i l = (length l.sets ≡ sets_size) × SetsKept l.initial.sets l.sets
