-- Where things stand in the tables: a formula's terms, and the rows in which they are open. Assumes nothing.
use Rattle.std.specs.Prelude.{ℕ, ◌+◌, ◌*◌, ◌/◌, ◌%◌, ◌^◌, Bool, List, get_or}
use Rattle.formula.specs.Formula.{max_clauses, max_rows}
use Rattle.preference.specs.Preference.{odd}

-- The place of the clauses that have no term of their own; the terms have the places before it.
abbrev pub others : ℕ
others = 63

-- ---- the terms of a formula: each clause's start, each clause's term, for each place the start of a clause, how many clauses are listed

abbrev pub table_size : ℕ
table_size = 2 * max_clauses + (others + 1) + 1

abbrev pub start_of : List ℕ → ℕ → ℕ
start_of terms j = get_or terms j 0

abbrev pub term_of : List ℕ → ℕ → ℕ
term_of terms j = get_or terms (max_clauses + j) 0

abbrev pub first_of : List ℕ → ℕ → ℕ
first_of terms t = get_or terms (2 * max_clauses + t) 0

abbrev pub listed_in : List ℕ → ℕ
listed_in terms = get_or terms (2 * max_clauses + (others + 1)) 0

-- ---- the open rows: for each place its words of 64 rows, then for each place the start of a clause

abbrev pub row_words : ℕ
row_words = max_rows / 64

-- Where the starts begin.
abbrev pub names_from : ℕ
names_from = row_words * (others + 1)

abbrev pub open_size : ℕ
open_size = names_from + (others + 1)

-- Bit l of a word.
unfoldable pub bit : ℕ → ℕ → Bool
bit x l = odd (x / 2 ^ l)

-- The place t is open in row i.
abbrev pub is_open : List ℕ → ℕ → ℕ → Bool
is_open opened t i = bit (get_or opened (row_words * t + i / 64) 0) (i % 64)

-- The start of the clause that stands for the term t.
abbrev pub name_of : List ℕ → ℕ → ℕ
name_of opened t = get_or opened (names_from + t) 0
