-- The expansion of a formula over a witness's rows, as clauses over plain variables. A clause and a literal are as in a formula: v or -v, for the
-- variable named v, from 1. Throughout, ts flags the unknowns of the side that searches for a model, its own ones; `name` gives the number of the copy
-- at a position, from 0, over one row; and t is a number from 0, so that its variable is t + 1. Assumes nothing.
use Rattle.std.specs.Prelude.{ℕ, zero, suc, ◌+◌, ◌*◌, Bool, true, false, not, ◌&&◌, cond, List, [], ◌∷◌, ◌++◌, ℤ, pos, negsuc, length, get_or}
use Rattle.formula.specs.Formula.{Kind, Clause, max_unknowns}
use Rattle.formula.specs.Meaning.{literal}
use Rattle.formula.specs.Causes.{any}
use Rattle.expansion.specs.Side.{flags}
use Rattle.expansion.specs.OtherSide.{side_of}
use Rattle.expansion.specs.Play.{Row, play, restriction}
use Rattle.expansion.specs.Copies.{same}

-- The first row, by its place, that has this restriction before position k.
abbrev pub first_like : List Bool → ℕ → Row → List Row → ℕ
first_like ts k r [] = zero
first_like ts k r (row ∷ rows) =
    let later = suc (first_like ts k r rows) in
    cond (same (restriction ts k row) r) zero later

-- The number of a copy: 128 times the first row that has its restriction, and its position.
abbrev pub copy_number : List Bool → List Row → Row → ℕ → ℕ
copy_number ts rows row k = max_unknowns * first_like ts k (restriction ts k row) rows + k

-- Whether a literal is one of an own unknown.
abbrev pub own_literal : List Bool → ℤ → Bool
own_literal ts (pos zero) = false
own_literal ts (pos (suc k)) = get_or ts k false
own_literal ts (negsuc k) = get_or ts k false

-- Whether a row makes a literal true: it is none of an own unknown, and true whatever the copies' values are.
abbrev pub row_literal : List Bool → Row → ℤ → Bool
row_literal ts row z = not (own_literal ts z) && literal (play ts (λ k r. false) row) z

-- A literal of the copy instead of the unknown.
abbrev pub renamed : (ℕ → ℕ) → ℤ → ℤ
renamed name (pos zero) = pos zero
renamed name (pos (suc k)) = pos (suc (name k))
renamed name (negsuc k) = negsuc (name k)

-- The own literals of a clause, as literals of copies.
abbrev pub own_part : List Bool → (ℕ → ℕ) → Clause → Clause
own_part ts name [] = []
own_part ts name (z ∷ c) =
    let skipped = own_part ts name c in
    let kept = renamed name z ∷ own_part ts name c in
    cond (own_literal ts z) kept skipped

-- What a row leaves of the clauses: of each that it does not make true, the own part.
abbrev pub left_over : List Bool → (ℕ → ℕ) → Row → List Clause → List Clause
left_over ts name row [] = []
left_over ts name row (c ∷ cs) =
    let skipped = left_over ts name row cs in
    let kept = own_part ts name c ∷ left_over ts name row cs in
    cond (any (row_literal ts row) c) skipped kept

abbrev pub opposite : ℤ → ℤ
opposite (pos zero) = pos zero
opposite (pos (suc v)) = negsuc v
opposite (negsuc v) = pos (suc v)

-- If the variable of t is true, no literal of the clause is.
abbrev pub breaks_one : ℕ → Clause → List Clause
breaks_one t [] = []
breaks_one t (z ∷ c) = (negsuc t ∷ opposite z ∷ []) ∷ breaks_one t c

-- A further variable for each clause, from t on: if it is true, what the row leaves of its clause is false.
abbrev pub breaks : List Bool → (ℕ → ℕ) → Row → ℕ → List Clause → List Clause
breaks ts name row t [] = []
breaks ts name row t (c ∷ cs) =
    let skipped = breaks ts name row (suc t) cs in
    let kept = breaks_one t (own_part ts name c) ++ breaks ts name row (suc t) cs in
    cond (any (row_literal ts row) c) skipped kept

-- For some clause that the row leaves this variable is true.
abbrev pub some_of : List Bool → Row → ℕ → List Clause → Clause
some_of ts row t [] = []
some_of ts row t (c ∷ cs) =
    let skipped = some_of ts row (suc t) cs in
    let kept = pos (suc t) ∷ some_of ts row (suc t) cs in
    cond (any (row_literal ts row) c) skipped kept

-- The clauses of one row. Claim 0: every clause that it leaves is to be true. Claim 1: one of those that it leaves is to be false.
abbrev pub row_clauses : Bool → List Bool → (ℕ → ℕ) → Row → ℕ → List Clause → List Clause
row_clauses false ts name row t cs = left_over ts name row cs
row_clauses true ts name row t cs = breaks ts name row t cs ++ (some_of ts row t cs ∷ [])

-- Row after row, each with as many further variables as there are clauses.
abbrev pub over_rows : Bool → List Bool → (Row → ℕ → ℕ) → List Clause → ℕ → List Row → List Clause
over_rows claim ts name cs t [] = []
over_rows claim ts name cs t (row ∷ rows) = row_clauses claim ts (name row) row t cs ++ over_rows claim ts name cs (t + length cs) rows

-- The expansion of a claim. Copies have the numbers below 128 for each row, and the further variables follow.
unfoldable pub expansion : Bool → List Kind → List Clause → List Row → List Clause
expansion claim ks cs rows =
    let ts = flags (side_of claim) ks in
    over_rows claim ts (copy_number ts rows) cs (max_unknowns * length rows) rows

-- How many variables that is over: claim 1 has the further ones.
unfoldable pub variables : Bool → List Kind → List Clause → List Row → ℕ
variables false ks cs rows = max_unknowns * length rows
variables true ks cs rows = max_unknowns * length rows + length cs * length rows

-- How many clauses it is.
unfoldable pub clause_count : Bool → List Kind → List Clause → List Row → ℕ
clause_count claim ks cs rows = length (expansion claim ks cs rows)
