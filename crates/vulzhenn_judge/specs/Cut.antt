-- The program takes in one byte more than a map and two counts of 16 bits can ask for (`judgement::FILE`). What is
-- found of that is what is found of the whole file, however long it is, of whatever is read of the text. Assumes nothing.
use Rattle.std.specs.Prelude.{ℕ, ◌<◌, ◌≡◌, List, get_or, take}
use Rattle.text.specs.Reading.{Result}
use Rattle.judgement.specs.Finding.{finding_of}

abbrev pub taken_in : ℕ
taken_in = 2097133

abbrev pub CutRight : Type 0
CutRight = (reading : Result) (f work : List ℕ) → ((i : ℕ) → get_or f i 0 < 256) → finding_of reading (take taken_in f) work ≡ finding_of reading f work
