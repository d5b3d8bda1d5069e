-- What is printed always fits a buffer of `longest` bytes, so a program with one prints it for every text. Assumes nothing.
use Rattle.std.specs.Prelude.{◌≤◌, length}
use Rattle.lines.specs.Lines.{Bytes}
use Rattle.season.specs.Text.{longest, printed}

pub record SeasonRight (text : Bytes) : Type 0 where
  pub short : length (printed text) ≤ longest
