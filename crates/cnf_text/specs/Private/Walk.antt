-- A row's lines, entry by entry as the code goes over the literals. `places` has for each unknown what it is in the row: its value, 0 or 1, or, for one
-- of the side that searches, 2 and the number of its copy. A style is 0 for the clauses of claim 0, 1 and 2 for those of claim 1: that a further
-- variable makes its clause false, and the literals of the clause that says that one of them is true. Assumes nothing.
use Rattle.std.specs.Prelude.{ℕ, zero, suc, ◌+◌, ◌-◌, ◌*◌, ◌<◌, ◌≤◌, ◌≡◌, Bool, true, false, not, cond, ◌&&◌, List, [], ◌∷◌, ◌++◌, eqb, ltb, ℤ, pos, nat_abs}
use Rattle.std.specs.Prelude.{get_or}
use Rattle.std.specs.Bool.{beq}
use Rattle.formula.specs.Formula.{max_unknowns, prefix, clauses}
use Rattle.formula.specs.Meaning.{bit}
use Rattle.formula.specs.Literal.{negative}
use Rattle.expansion.specs.Cells.{others_before}
use Rattle.lines.specs.Lines.{Bytes}
use Rattle.report.specs.Report.{ascii, decimal}
use Rattle.rows.specs.Row.{bit_of}
use Rattle.rows.specs.Stray.{stray_rows}
use Rattle.rows.specs.Table.{row_at, room, table_fits}
use Rattle.judge.specs.Judge.{claims_true, other_claim, lent_rows}
use Rattle.search_cells.specs.Cells.{owned}
use Rattle.cnf_rules.specs.Text.{part}

-- ---- the places of a row

-- Rows j and i of a table have the same first m bits.
abbrev pub same_front : List ℕ → ℕ → ℕ → ℕ → Bool
same_front table j i zero = true
same_front table j i (suc m) = same_front table j i m && beq (bit_of (row_at table j) m) (bit_of (row_at table i) m)

-- The first row that has the first m bits of row i.
pub record FirstLike (table : List ℕ) (i m first : ℕ) : Type 0 where
  pub inside : first ≤ i
  pub like : same_front table first i m ≡ true
  pub none_before : (j : ℕ) → j < first → same_front table j i m ≡ false

-- What the unknown at position k is in row i, with so many of the rows' unknowns before it.
pub record PlaceBy (table : List ℕ) (i others k : ℕ) (own : Bool) (place : ℕ) : Type 0 where
  pub copy : own ≡ true → (first : ℕ) × FirstLike table i others first × (place ≡ 2 + (max_unknowns * first + k))
  pub value : own ≡ false → place ≡ bit (bit_of (row_at table i) others)
  pub low : place < 32770

-- The first n places are those of row i.
abbrev pub PlacesBelow : List ℕ → ℕ → List ℕ → ℕ → ℕ → List ℕ → Type 0
PlacesBelow kinds claim table i n places =
    (k : ℕ) → k < n → PlaceBy table i (others_before (owned kinds claim) k) k (eqb (get_or kinds k 0) claim) (get_or places k 0)

-- No place is beyond the last copy's.
abbrev pub Low : List ℕ → Type 0
Low places = (k : ℕ) → get_or places k 0 < 32770

-- ---- the entries

-- What the unknown of a name is.
abbrev pub place_of : List ℕ → ℕ → ℕ
place_of places name = get_or places (name - 1) 0

-- Whether a literal of an unknown with this place is true in the row.
abbrev pub true_so : Bool → ℕ → Bool
true_so false place = eqb place 1
true_so true place = eqb place 0

-- No literal of the clause that the entries begin with is true in the row.
abbrev pub kept_from : List ℕ → List ℤ → Bool
kept_from places [] = true
kept_from places (z ∷ zs) =
    cond (eqb (nat_abs z) 0) true (cond (true_so (negative z) (place_of places (nat_abs z))) false (kept_from places zs))

-- A literal of variable v.
abbrev pub literal_bytes : Bool → ℕ → Bytes
literal_bytes true v = ascii "-" ++ (decimal v ++ ascii " ")
literal_bytes false v = decimal v ++ ascii " "

-- What a clause's end leaves, and a copy, by style, t being the number of the clause's further variable.
abbrev pub end_bytes : ℕ → ℕ → Bytes
end_bytes zero t = ascii "0\n"
end_bytes (suc zero) t = []
end_bytes (suc (suc style)) t = decimal (t + 1) ++ ascii " "

abbrev pub copy_bytes : ℕ → ℕ → Bool → ℕ → Bytes
copy_bytes zero t minus v = literal_bytes minus v
copy_bytes (suc zero) t minus v = literal_bytes true (t + 1) ++ literal_bytes (not minus) v ++ ascii "0\n"
copy_bytes (suc (suc style)) t minus v = []

abbrev pub entry_bytes : List ℕ → ℕ → Bool → ℕ → Bool → ℕ → Bytes
entry_bytes places style kept t minus name =
    let copy = copy_bytes style t minus (place_of places name - 1) in
    cond kept (cond (eqb name 0) (end_bytes style t) (cond (ltb (place_of places name) 2) [] copy)) []

-- Behind an entry: whether its clause, or the next one, is kept, and the next further variable.
abbrev pub kept_behind : List ℕ → Bool → ℤ → List ℤ → Bool
kept_behind places kept z zs = cond (eqb (nat_abs z) 0) (kept_from places zs) kept

abbrev pub number_behind : ℕ → ℤ → ℕ
number_behind t z = cond (eqb (nat_abs z) 0) (t + 1) t

abbrev pub walk : List ℕ → ℕ → Bool → ℕ → List ℤ → Bytes
walk places style kept t [] = []
walk places style kept t (z ∷ zs) =
    entry_bytes places style kept t (negative z) (nat_abs z) ++ walk places style (kept_behind places kept z zs) (number_behind t z) zs

-- All entries.
abbrev pub walked : List ℕ → ℕ → ℕ → List ℤ → Bytes
walked places style t literals = walk places style (kept_from places literals) t literals

-- The lines of a row with these places.
abbrev pub row_bytes : List ℕ → ℕ → ℕ → List ℤ → Bytes
row_bytes places zero t literals = walked places 0 t literals
row_bytes places (suc claim) t literals = walked places 1 t literals ++ walked places 2 t literals ++ ascii "0\n"

-- No literal is beyond n.
abbrev pub Known : ℕ → List ℤ → Type 0
Known n literals = (i : ℕ) → nat_abs (get_or literals i (pos 0)) ≤ n

-- ---- sizes, causes and the part

-- How many unknowns a row gives values to, by the formula's sizes.
abbrev pub width_of : ℕ → ℕ → ℕ → ℕ
width_of unknowns universals claim = cond (eqb claim 0) universals (unknowns - universals)

-- The judge's causes behind those of the formula, with a work area of its size.
abbrev pub later_cause : ℕ → ℕ → List ℕ → ℕ
later_cause width claim rows =
    cond (not (table_fits rows)) 4 (cond (other_claim claim) 7 (cond (stray_rows width (room rows) rows) 8 0))

-- The lines of a row.
abbrev pub part_bytes : List ℕ → List ℤ → ℕ → List ℕ → ℕ → Bytes
part_bytes kinds literals claim rows i =
    part (claims_true claim) (prefix kinds) (clauses literals) (lent_rows kinds claim rows (room rows)) i
