-- What the season's reader takes from such a text are the studies themselves, so the sheet that is printed for it is the sheet over the studies. Assumes
-- nothing.
use Rattle.std.specs.Prelude.{ℕ, ◌≤◌, ◌≡◌, List, length}
use Rattle.lines.specs.Lines.{lines}
use Rattle.season.specs.declared.Study.{Study}
use Rattle.season.specs.Season.{max_studies, summary}
use Rattle.season.specs.Text.{records, other_line, max_bytes, printed, summary_lines}
use Rattle.season_record.specs.Records.{text_of, AllRecordable}

pub record RecordsRight (ss : List Study) : Type 0 where
  -- Every line is a record, and they are these studies in their order.
  pub all_taken : AllRecordable ss → other_line 1 (lines (text_of ss)) ≡ 0
  pub read_again : AllRecordable ss → records (lines (text_of ss)) ≡ ss
  -- A season that the sheet takes has room in its text.
  pub short : AllRecordable ss → length ss ≤ max_studies → length (text_of ss) ≤ max_bytes
  -- 'The sheet' over the lines is the summary of the studies, also where it refuses them.
  pub summed : AllRecordable ss → length ss ≤ max_studies → printed (text_of ss) ≡ summary_lines (summary ss)
