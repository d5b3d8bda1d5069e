-- `cnf_text::is_same_front` meets its contract. Assumes nothing.
use mathlib.Core.Path.{◌≡◌}
use mathlib.Core.Bool.{true}
use Rattle.cnf_text.specs.Private.Walk.{same_front}
use Rattle.cnf_text.proofs.is_same_front.Given as goal

abbrev pub invariant-loop-k : goal.invariant-loop-k
invariant-loop-k l = (same_front l.rows l.j l.i l.k ≡ true)
