-- 01's program: 'The program reads standard input, lends no preferences, 256 rows a side and limit 1,000.' A gate list has the same lines.
-- Assumes nothing.
use Rattle.std.specs.Prelude.{ℕ, Bool, List, ℤ, length}
use Rattle.rounds.specs.Run.{Outcome, run, number}
use Rattle.text.specs.Reading.{Result, taken, refused, text_read, gates_read, read_as}
use Rattle.report.specs.Report.{result_lines, refusal_line}
use Rattle.decision.specs.Decision.{own_lent}

abbrev pub round_limit : ℕ
round_limit = 1000

-- The run of a formula with these tables and this limit.
abbrev pub settled : List ℕ → List ℤ → Outcome
settled kinds literals = run (own_lent kinds literals) round_limit

-- 'Line one is `s cnf T V C`, T being 1, 0, or -1 for answers 2 to 4, V and C from the text; line two is `c rounds`, the rounds, `universal`,
-- the count of A, `existential`, the count of S.'
unfoldable pub result_of : List ℕ → List ℤ → ℕ → ℕ → List ℕ
result_of kinds literals variables clauses =
    let o = settled kinds literals in
    result_lines (number o.answer) variables clauses o.round (length o.A) (length o.S)

-- 'A refusal prints only `c refused N L`, number and line.'
abbrev pub shown : Result → List ℕ
shown (refused number line) = refusal_line number line
shown (taken r) = result_of r.kinds r.literals r.variables r.clauses

unfoldable pub printed : List ℕ → List ℕ
printed text = shown (text_read text)

unfoldable pub gates_printed : List ℕ → List ℕ
gates_printed text = shown (gates_read text)

-- Both, told by a flag whether the text is a gate list.
unfoldable pub printed_as : Bool → List ℕ → List ℕ
printed_as gates text = shown (read_as gates text)
