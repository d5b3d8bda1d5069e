-- The settings under which programs, commands and C functions decide, four numbers a setting: trimmed or not, the preference byte (256 for house
-- preferences), how often the universal table is cleared, the limit of rounds; and the areas that they lend. Assumes nothing.
use Rattle.std.specs.Prelude.{ℕ, List, [], ◌∷◌}
use Rattle.engine.specs.Outcome.{Areas, areas}
use Rattle.decision.specs.Decision.{own_rows, own_marks, own_counts}

-- 'Limit 1,000.'
abbrev pub round_limit : ℕ
round_limit = 1000

-- 01's run, with a limit: 'lends no preferences', and the universal table is never cleared.
abbrev pub one_run : ℕ → List ℕ
one_run limit = 0 ∷ 256 ∷ 0 ∷ limit ∷ []

-- The default settings of a study. The last is 01's run.
abbrev pub default_settings : List ℕ
default_settings =
    1 ∷ 256 ∷ 1 ∷ round_limit
    ∷ 1 ∷ 0 ∷ 0 ∷ round_limit
    ∷ 0 ∷ 1 ∷ 1 ∷ round_limit
    ∷ one_run round_limit

-- The settings of a study of which a witness file is written: none trims, since the rows of a trimmed run belong to the trimmed formula (02, C-13), the
-- file says nothing of trimming (C-18), and the judge is given the lent text. Of the untrimmed settings measured these four leave the fewest dispatch
-- formulas undecided (docs/BENCHMARK.md).
abbrev pub witness_settings : List ℕ
witness_settings =
    0 ∷ 256 ∷ 1 ∷ round_limit
    ∷ 0 ∷ 0 ∷ 0 ∷ round_limit
    ∷ 0 ∷ 1 ∷ 1 ∷ round_limit
    ∷ one_run round_limit

-- '256 rows a side', all zero when the study begins, and the work area lent.
abbrev pub own_areas : List ℕ → Areas
own_areas work = areas own_rows own_marks own_counts own_rows own_marks own_counts work
