-- `cnf_text::is_kept` meets its contract. Assumes nothing.
use mathlib.Core.Path.{◌≡◌}
use lib.ListN.{drop}
use Rattle.cnf_text.specs.Private.Walk.{kept_from}
use Rattle.cnf_text.proofs.is_kept.Given as goal

abbrev pub invariant-loop-i : goal.invariant-loop-i
invariant-loop-i l = kept_from l.places (drop l.start l.literals) ≡ kept_from l.places (drop l.i l.literals)
