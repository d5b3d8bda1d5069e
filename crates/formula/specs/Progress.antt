-- The state of a run before its first round.
-- Assumes nothing.
use Rattle.formula.specs.declared.Progress.{Progress}

-- 'At the start A holds one row, mark 0 ..; S is empty.'
abbrev pub fresh : Progress
fresh = record { round = 0; universal = 1; existential = 0 }
