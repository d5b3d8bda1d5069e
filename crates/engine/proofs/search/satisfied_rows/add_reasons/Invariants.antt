-- `add_reasons` meets its contract. The loop's invariant: if the codes that are left are handled, all are. Assumes nothing.
use mathlib.Core.Path.{◌≡◌}
use lib.ListN.{length}
use Rattle.search_sets.specs.Sets.{sets_size}
use Rattle.engine.proofs.search.SatisfiedRows.{Blaming}
use Rattle.engine.proofs.search.satisfied_rows.add_reasons.Given as goal

abbrev pub invariant-loop-code : goal.invariant-loop-code
invariant-loop-code l = (length l.sets ≡ sets_size) × Blaming l.kinds l.codes l.work l.i l.initial.sets l.code-index l.best l.sets
