-- Two records as text, by computation. Assumes nothing.
use mathlib.Core.Path.{refl}
use Rattle.report.specs.Report.{decimal, pair_line}
use Rattle.report.specs.Record.{record_line}
use Rattle.season_record.specs.Worked.{Worked}

pub worked : Worked
unfolding decimal pair_line record_line
worked = record { two = refl }
