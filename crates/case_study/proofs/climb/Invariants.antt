-- `case_study::climb` meets its contract. The loop's invariant: what the whole comes to is what it comes to at the level reached. Assumes nothing.
use Rattle.restriction.specs.Outcome.{value_of}
use Rattle.case_study.proofs.ByteLaws.{Climbing}
use Rattle.case_study.proofs.climb.Given as goal

abbrev pub invariant-loop-level : goal.invariant-loop-level
invariant-loop-level l = Climbing l.kinds l.initial.values l.depth (value_of l.verdict) l.values l.level
