-- Two records as text. Assumes nothing.
use Rattle.std.specs.Prelude.{◌≡◌, [], ◌∷◌}
use Rattle.report.specs.Report.{ascii}
use Rattle.season_record.specs.Records.{text_of}

pub record Worked : Type 0 where
  pub two : text_of (record { answer = 1; rounds = 12; fee = 4200 } ∷ record { answer = 3; rounds = 0; fee = 0 } ∷ []) ≡ ascii "1 12 4200\n3 0 0\n"
