-- The lines of a study: 01's line one, the setting that gave the answer, 01's line two. Assumes nothing.
use Rattle.std.specs.Prelude.{ℕ, List, ◌++◌}
use Rattle.report.specs.Report.{ascii, decimal, line_one, line_two}

-- `c setting K`.
unfoldable pub setting_line : ℕ → List ℕ
setting_line setting = ascii "c setting " ++ decimal setting ++ ascii "\n"

unfoldable pub study_lines : ℕ → ℕ → ℕ → ℕ → ℕ → ℕ → ℕ → List ℕ
study_lines answer variables clauses setting rounds universal existential =
    line_one answer variables clauses ++ setting_line setting ++ line_two rounds universal existential
