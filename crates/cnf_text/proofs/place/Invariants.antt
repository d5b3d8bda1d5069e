-- `cnf_text::place` meets its contract. Assumes nothing.
use mathlib.Core.Path.{◌≡◌}
use lib.ListN.{length}
use Rattle.expansion.specs.Cells.{others_before}
use Rattle.search_cells.specs.Cells.{owned}
use Rattle.cnf_text.specs.Private.Walk.{PlacesBelow, Low}
use Rattle.cnf_text.proofs.place.Given as goal

abbrev pub invariant-loop-k : goal.invariant-loop-k
invariant-loop-k l = (l.others ≡ others_before (owned l.kinds l.claim) l.k) × PlacesBelow l.kinds l.claim l.rows l.i l.k l.places × (length l.places ≡ 128) ×
    Low l.places
