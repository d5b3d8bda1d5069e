-- What the tables promise: clauses share a term if the own literals of one clause are in all of them, and a clause without a given literal that
-- is true in a row leaves its term open there. Only this direction is promised: what is open too often does no harm. Assumes nothing.
use Rattle.std.specs.Prelude.{ℕ, ◌<◌, ◌≤◌, ◌≡◌, ◌⊎◌, Bool, true, false, List, eqb, length, get_or, drop}
use Rattle.formula.specs.Formula.{max_unknowns, max_clauses, max_entries, max_rows, work_size}
use Rattle.formula.specs.Lists.{Every, Some}
use Rattle.codes.specs.Codes.{row_position}
use Rattle.codes.specs.Private.Clauses.{code_true, clause_of, Begins, Coded}
use Rattle.search_cells.specs.Cells.{cells}
use Rattle.engine.specs.Private.TermTables.{others, table_size, start_of, term_of, first_of, listed_in, open_size, is_open, name_of}

-- The literal of code c is an own one: its unknown's kind is 1.
unfoldable pub own : List ℕ → ℕ → Bool
own kinds c = eqb (get_or kinds (row_position c) 0) 1

-- Every own literal of the clause at a is one of the clause at b.
abbrev pub OwnWithin : List ℕ → List ℕ → ℕ → ℕ → Type 0
OwnWithin kinds codes a b = Every (λ c. own kinds c ≡ true → Some (λ d. d ≡ c) (clause_of (drop b codes))) (clause_of (drop a codes))

-- The clause at `first` stands for the one at `start`.
pub record StandsFor (kinds codes : List ℕ) (first start : ℕ) : Type 0 where
  pub inside : first < length codes
  pub begins : Begins codes first
  pub within : OwnWithin kinds codes first start

-- t is a term of the clause at `start`, or the place of the others.
abbrev pub HasTerm : List ℕ → List ℕ → List ℕ → ℕ → ℕ → Type 0
HasTerm kinds codes terms t start = (t ≡ others) ⊎ ((t < others) × StandsFor kinds codes (first_of terms t) start)

-- The clause at `start` is one of the first n in the table.
pub record Entered (kinds codes terms : List ℕ) (n start : ℕ) : Type 0 where
  pub entry : ℕ
  pub below : entry < n
  pub there : start_of terms entry ≡ start
  pub term : HasTerm kinds codes terms (term_of terms entry) start

-- Every clause is in the table, or the empty clause behind the codes stands for those that are not.
pub record Listed (kinds codes terms : List ℕ) : Type 0 where
  pub fits : listed_in terms ≤ max_clauses
  pub every : (start : ℕ) → start < length codes → Begins codes start
      → Entered kinds codes terms (listed_in terms) start ⊎ Entered kinds codes terms (listed_in terms) (length codes)

-- The literal of code c is given, and true in row i.
pub record GivenTrue (kinds work : List ℕ) (i c : ℕ) : Type 0 where
  pub given : own kinds c ≡ false
  pub is : code_true ((cells work).value i) c ≡ true

-- A term is open in row i, and its clause stands for the one at `start`.
pub record TermOpen (kinds codes opened : List ℕ) (i start : ℕ) : Type 0 where
  pub term : ℕ
  pub below : term < others
  pub there : is_open opened term i ≡ true
  pub stands : StandsFor kinds codes (name_of opened term) start

-- Every clause has in row i a given literal that is true, or it is in an open term, or the place of the others is open.
abbrev pub RowOpened : List ℕ → List ℕ → List ℕ → List ℕ → ℕ → Type 0
RowOpened kinds codes work opened i =
    (start : ℕ) → start < length codes → Begins codes start
    → Some (GivenTrue kinds work i) (clause_of (drop start codes)) ⊎ TermOpen kinds codes opened i start ⊎ (is_open opened others i ≡ true)

-- So it is in every row.
pub record Opened (kinds codes work : List ℕ) (count : ℕ) (opened : List ℕ) : Type 0 where
  pub every : (i : ℕ) → i < count → RowOpened kinds codes work opened i

-- What `list` promises of a table of its size, for codes that fit theirs.
abbrev pub ListedIn : List ℕ → List ℕ → List ℕ → Type 0
ListedIn kinds codes terms = length codes ≤ max_entries → length terms ≡ table_size → Listed kinds codes terms

-- The sizes of what is lent to `open`.
abbrev pub SizesFit : ℕ → ℕ → ℕ → ℕ → ℕ → Type 0
SizesFit kinds terms area count opened = (kinds ≤ max_unknowns) × (terms ≡ table_size) × (area ≡ work_size) × (count ≤ max_rows) × (opened ≡ open_size)

-- What it promises of them, for codes of these unknowns and the table that lists them.
abbrev pub OpenedIn : List ℕ → List ℕ → List ℕ → List ℕ → ℕ → List ℕ → Type 0
OpenedIn kinds codes terms work count opened =
    SizesFit (length kinds) (length terms) (length work) count (length opened) → Coded (length kinds) codes → Listed kinds codes terms
    → Opened kinds codes work count opened
