-- `study::in_turn` meets its contract. The loop's invariant: the runs made so far gave no verdict, and the study goes on from this place, over the
-- areas as they are. Assumes nothing.
use Rattle.engine.specs.Outcome.{areas}
use Rattle.study.proofs.TurnLaws.{Going}
use Rattle.study.proofs.in_turn.Given as goal

abbrev pub invariant-loop-at : goal.invariant-loop-at
invariant-loop-at l =
    Going l.kinds l.literals l.settings (areas l.initial.universal_rows l.initial.universal_marks l.initial.universal_counts l.initial.existential_rows
    l.initial.existential_marks l.initial.existential_counts l.initial.work) (areas l.universal_rows l.universal_marks l.universal_counts l.existential_rows
    l.existential_marks l.existential_counts l.work) l.at
