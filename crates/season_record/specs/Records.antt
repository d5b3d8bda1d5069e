-- The records of a season as one text. Assumes nothing.
use Rattle.std.specs.Prelude.{ℕ, ◌<◌, List, [], ◌∷◌, ◌++◌}
use Rattle.lines.specs.Lines.{Bytes}
use Rattle.report.specs.Record.{record_line}
use Rattle.season.specs.declared.Study.{Study}

-- The line of a study.
abbrev pub line_of : Study → Bytes
line_of s = record_line s.answer s.rounds s.fee

-- A line each.
abbrev pub text_of : List Study → Bytes
text_of [] = []
text_of (s ∷ ss) = line_of s ++ text_of ss

-- 'Numbers of at most 9 digits.'
pub record Recordable (s : Study) : Type 0 where
  pub answer_fits : s.answer < 1000000000
  pub rounds_fit : s.rounds < 1000000000
  pub fee_fits : s.fee < 1000000000

abbrev pub AllRecordable : List Study → Type 0
AllRecordable [] = Unit {0}
AllRecordable (s ∷ ss) = Recordable s × AllRecordable ss
