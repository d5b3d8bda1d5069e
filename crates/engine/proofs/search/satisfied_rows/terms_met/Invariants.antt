-- `terms_met` meets its contract. The invariant: the terms so far are met, if they are open. Assumes nothing.
use mathlib.Core.Path.{◌≡◌}
use lib.ListN.{length}
use Rattle.search_sets.specs.Sets.{sets_size}
use Rattle.engine.proofs.search.TermLaws.{Meeting}
use Rattle.engine.proofs.search.satisfied_rows.terms_met.Given as goal

abbrev pub invariant-loop-t : goal.invariant-loop-t
invariant-loop-t l = (length l.sets ≡ sets_size) × Meeting l.kinds l.codes l.opened l.work l.i l.initial.sets l.t l.sets
