-- A text that stands in an area, which becomes the run's work area once the text is read. Assumes nothing.
use Rattle.std.specs.Prelude.{ℕ, ◌≡◌, cond, List, [], ◌++◌, ltb, length, drop, replicate}
use Rattle.formula.specs.Formula.{work_size}
use Rattle.text.specs.Reading.{Result, taken, refused}
use Rattle.report.specs.Report.{put, put_count}

-- In an area that is shorter than a work area nothing is printed.
unfoldable pub printed_in : List ℕ → List ℕ → List ℕ
printed_in area lines = cond (ltb (length area) work_size) [] lines

-- A refusal leaves the area as found; a text that is taken leaves its work area zero, and the rest as found.
abbrev pub used : Result → List ℕ → List ℕ
used (refused number line) area = area
used (taken r) area = replicate work_size 0 ++ drop work_size area

unfoldable pub area_after : Result → List ℕ → List ℕ
area_after reading area = cond (ltb (length area) work_size) area (used reading area)

-- These lines are put into a buffer, and an area is left so: the count, the buffer at exit and the area at exit.
pub record Puts (lines left out : List ℕ) (count : ℕ) (out' area' : List ℕ) : Type 0 where
  pub counted : count ≡ put_count lines out
  pub written : out' ≡ put lines out
  pub left_so : area' ≡ left
