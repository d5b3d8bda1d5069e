-- The files worked by hand, computed.
-- Assumes nothing.
use mathlib.Core.Path.{refl}
use Rattle.witness.specs.File.{file, record_of, file_cause}
use Rattle.witness.specs.Worked.{WorkedFiles}

pub worked_files : WorkedFiles
unfolding file file_cause record_of
worked_files =
    record {
      rows_of_both = refl;
      sizes_alone = refl;
      claim_and_rounds = refl;
      map_alone = refl;
      empty = refl;
      bit_five = refl;
      accepted = refl;
      claim_two = refl;
      goes_on = refl;
      no_rows = refl;
      rows_missing = refl;
      many_rows = refl;
      fewer_rows = refl;
    }
