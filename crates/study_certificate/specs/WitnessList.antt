-- The study of which a witness file is written: a list of settings none of which trims the formula. The rows of a trimmed run belong to the trimmed formula
-- (02, C-13), the file says nothing of trimming (C-18), and the judge is given the lent text.
-- Assumes nothing.
use Rattle.std.specs.Prelude.{ℕ, List, [], ◌∷◌, ℤ}
use Rattle.study.specs.Study.{Ending, studied}
use Rattle.study_answer.specs.House.{own_areas}

-- Four numbers a setting: trimmed or not, the preference byte (256 for house preferences), how often the universal table is cleared, the limit of rounds.
-- The last is the program's own run. Of the untrimmed settings measured these four leave the fewest dispatch formulas undecided (docs/BENCHMARK.md).
abbrev pub witness_list : List ℕ
witness_list =
    0 ∷ 256 ∷ 1 ∷ 1000
    ∷ 0 ∷ 0 ∷ 0 ∷ 1000
    ∷ 0 ∷ 1 ∷ 1 ∷ 1000
    ∷ 0 ∷ 256 ∷ 0 ∷ 1000
    ∷ []

-- The study of a formula, over 256 rows a side.
abbrev pub witness_study : List ℕ → List ℤ → List ℕ → Ending
witness_study kinds literals work = studied kinds literals witness_list (own_areas work)
