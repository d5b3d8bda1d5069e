-- The sheet over the records of studies is the sheet over the studies. Assumes nothing.
use Prim.Native.Nat.{ℕ, ◌≤◌}
use native.Mathlib.Omega.{arith}
use mathlib.Core.Path.{◌≡◌, refl}
use mathlib.Core.List.{List}
use borrow.Author.Tests.{le-ltb}
use lib.ListN.{length}
use Rattle.season.specs.declared.Study.{Study}
use Rattle.season.specs.Season.{max_studies, summary}
use Rattle.season.specs.Text.{max_bytes, printed, summary_lines}
use Rattle.season_record.specs.Records.{text_of, AllRecordable}
use Rattle.season_record.specs.RecordsRight.{RecordsRight}
use Rattle.season_record.proofs.RecordLaws.{all_taken, read_again, text_short}

within : (ss : List Study) → AllRecordable ss → length ss ≤ max_studies → length (text_of ss) ≤ max_bytes
within ss r few = omega (arith, text_short ss r, few)

summed : (ss : List Study) → AllRecordable ss → length ss ≤ max_studies → printed (text_of ss) ≡ summary_lines (summary ss)
unfolding printed
summed ss r few = rw (le-ltb max_bytes (length (text_of ss)) (within ss r few), all_taken 1 ss r, read_again ss r) refl

pub records_right : (ss : List Study) → RecordsRight ss
records_right ss = record { all_taken = all_taken 1 ss; read_again = read_again ss; short = within ss; summed = summed ss }
