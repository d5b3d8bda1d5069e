-- `run::rounds` meets its contract. The loop's invariant: for the tables as they were lent, the rounds made so far are finished, and the
-- tables and their counts hold what they made. Assumes nothing.
use Prim.Native.Nat.{ℕ}
use mathlib.Core.Path.{◌≡◌}
use mathlib.Core.List.{List}
use lib.ListN.{replicate}
use Rattle.preference.specs.Preference.{prefer}
use Rattle.rows.specs.Access.{rows_written, marks_written}
use Rattle.growth.specs.Growth.{with_preferred}
use Rattle.counts.specs.Counts.{filled}
use Rattle.engine.specs.Outcome.{areas, given}
use Rattle.engine.specs.Private.Growing.{Ready}
use Rattle.engine.specs.Private.Counting.{CountsShow}
use Rattle.engine.proofs.run.LoopLaws.{Going}
use Rattle.engine.proofs.run.rounds.Given as goal

abbrev pub invariant-loop-made : goal.invariant-loop-made
invariant-loop-made l =
    (a_found a_marks_found a_counts_found : List ℕ)
    → l.initial.universal_rows ≡ rows_written a_found a_marks_found 0 (with_preferred (prefer l.preferences) l.universals (replicate 16 0)) 0
    → l.initial.universal_marks ≡ marks_written a_found a_marks_found 0 (with_preferred (prefer l.preferences) l.universals (replicate 16 0)) 0 0
    → l.initial.universal_counts ≡ filled 0 1 0 a_counts_found
    → Ready l.kinds l.literals a_found a_marks_found a_counts_found l.initial.existential_rows l.initial.existential_marks l.initial.existential_counts
    l.initial.work l.universals
    → Going (given l.kinds l.literals l.preferences (areas a_found a_marks_found a_counts_found l.initial.existential_rows l.initial.existential_marks
    l.initial.existential_counts l.initial.work) l.limit
    l.clear_every) l.made l.universal l.existential l.universal_rows l.universal_marks l.existential_rows l.existential_marks l.work
    × CountsShow (given l.kinds l.literals l.preferences (areas a_found a_marks_found a_counts_found l.initial.existential_rows l.initial.existential_marks
    l.initial.existential_counts l.initial.work)
    l.limit l.clear_every) l.made l.universal_counts l.existential_counts
