-- The page over a season, byte by byte (02, C-24): 'It prints four lines, parted by single spaces'. Assumes nothing.
use Rattle.std.specs.Prelude.{ℕ, cond, List, ◌++◌, eqb}
use Rattle.report.specs.Report.{ascii, decimal, pair_line}

-- '`answers` and the five counts from answer 0 on.'
unfoldable pub answers_line : ℕ → ℕ → ℕ → ℕ → ℕ → List ℕ
answers_line answer_0 answer_1 answer_2 answer_3 answer_4 =
    ascii "answers " ++ decimal answer_0 ++ ascii " " ++ decimal answer_1 ++ ascii " " ++ decimal answer_2 ++ ascii " " ++ decimal answer_3
    ++ ascii " " ++ decimal answer_4 ++ ascii "\n"

-- '`most`, rounds, study from 1 (`most none` if no study).'
unfoldable pub most_line : ℕ → ℕ → ℕ → List ℕ
most_line studies most first = cond (eqb studies 0) (ascii "most none\n") (pair_line (ascii "most ") most first)

-- '`fees` and the total.'
unfoldable pub fees_line : ℕ → List ℕ
fees_line fees = ascii "fees " ++ decimal fees ++ ascii "\n"

-- The four lines; the second is '`rounds`, sum, studies'.
unfoldable pub page_lines : ℕ → ℕ → ℕ → ℕ → ℕ → ℕ → ℕ → ℕ → ℕ → ℕ → List ℕ
page_lines answer_0 answer_1 answer_2 answer_3 answer_4 rounds studies most first fees =
    answers_line answer_0 answer_1 answer_2 answer_3 answer_4 ++ pair_line (ascii "rounds ") rounds studies ++ most_line studies most first ++ fees_line fees
