-- The examples come out as said, by computation. Assumes nothing.
use mathlib.Core.Path.{refl}
use Rattle.formula.specs.Causes.{checked, cause_1, cause_2, cause_3}
use Rattle.rows.specs.Row.{row_of, bit_of}
use Rattle.rows.specs.Stray.{stray, stray_rows}
use Rattle.rows.specs.Table.{row_at, table_fits}
use Rattle.expansion.specs.Copies.{copies}
use Rattle.forecast.specs.Examples.{Examples}
use Rattle.forecast.specs.Outcome.{copies_over, fits, table_cause, cause, outcome}

pub examples : Examples
unfolding outcome cause table_cause copies_over fits copies checked cause_1 cause_2 cause_3 table_fits stray_rows stray row_at row_of bit_of
examples =
    record {
      k1 = refl;
      k2 = refl;
      k12 = refl;
      k12_repeats = refl;
      none_counted = refl;
      one_fits = refl;
      two_do_not = refl;
      no_unknowns = refl;
      lengths_first = refl;
      counts_next = refl;
      then_bits = refl;
      own_bits = refl;
      others_bits = refl;
      past_the_count = refl;
    }
