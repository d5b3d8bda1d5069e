-- What `forecast` returns, for everything that is lent (02, C-17): 01's causes 1 to 4, 7 and 8 in order, then the copies and whether they fit.
-- Assumes nothing.
use Rattle.std.specs.Prelude.{ℕ, ◌-◌, Bool, not, ◌&&◌, ◌||◌, cond, List, eqb, leb, ltb, ℤ, length, Result, Ok, Err}
use Rattle.cause.specs.declared.Cause.{Cause}
use Rattle.cause.specs.Cause.{told, unless_cause}
use Rattle.formula.specs.Formula.{Kind, existential, universal, prefix}
use Rattle.formula.specs.Causes as Causes
use Rattle.rows.specs.Table.{rows_of, room, table_fits}
use Rattle.rows.specs.Stray.{stray_rows}
use Rattle.expansion.specs.Side.{flags}
use Rattle.expansion.specs.OtherSide.{other}
use Rattle.expansion.specs.Play.{Row}
use Rattle.expansion.specs.Copies.{copies}
use Rattle.forecast.specs.declared.Outlook.{Outlook}

-- How many unknowns of a kind there are: so many values a row of that kind has.
abbrev pub width : Kind → List ℕ → ℕ
width kind kinds = Causes.count kind (prefix kinds)

-- The rows of a kind below the count, 'as they stand'.
abbrev pub lent_rows : Kind → List ℕ → List ℕ → ℕ → List Row
lent_rows kind kinds table count = rows_of (width kind kinds) count table

-- 'The number of copies over A and over S': the copies of 01's own definition, of the other kind's unknowns, over the rows of a kind.
unfoldable pub copies_over : Kind → List ℕ → List ℕ → ℕ → ℕ
copies_over kind kinds table count = length (copies (flags (other kind) (prefix kinds)) (lent_rows kind kinds table count))

-- 'Whether the free existential rows number at least the count of A': free are those lent beyond the count of S.
unfoldable pub fits : ℕ → List ℕ → ℕ → Bool
fits universals existential_rows existentials = leb universals (room existential_rows - existentials)

-- What is lent: the formula, the universal rows and their count, the existential rows and theirs.
pub record Given : Type 0 where
  pub kinds : List ℕ
  pub literals : List ℤ
  pub universal_rows : List ℕ
  pub universals : ℕ
  pub existential_rows : List ℕ
  pub existentials : ℕ

abbrev pub given : List ℕ → List ℤ → List ℕ → ℕ → List ℕ → ℕ → Given
given kinds literals A a S s =
    record { kinds = kinds; literals = literals; universal_rows = A; universals = a; existential_rows = S; existentials = s }

-- '4 (no marks here), then the judge's 7, for the count, and 8, each over both tables before the next': the first that applies, or 0. A row of A has
-- m values, a row of S has n.
unfoldable pub table_cause : List ℕ → ℕ → ℕ → List ℕ → ℕ → ℕ → ℕ
table_cause A a m S s n =
    cond (not (table_fits A && table_fits S)) 4
    (cond (ltb (room A) a || ltb (room S) s) 7
    (cond (stray_rows m a A || stray_rows n s S) 8 0))

-- 1 to 3 of the formula come before them.
unfoldable pub cause : Given → ℕ
cause g =
    let formula : ℕ = Causes.number (Causes.checked g.kinds g.literals) in
    let later : ℕ =
    table_cause g.universal_rows g.universals (width universal g.kinds) g.existential_rows g.existentials (width existential g.kinds) in
    cond (eqb formula 0) later formula

-- The copies over A and over S and whether step 2 is sure to fit, or the cause.
unfoldable pub outcome : Given → Result Outlook Cause
outcome g =
    unless_cause (cause g)
    record {
      over_universal = copies_over universal g.kinds g.universal_rows g.universals;
      over_existential = copies_over existential g.kinds g.existential_rows g.existentials;
      fits = fits g.universals g.existential_rows g.existentials;
    }

-- The number of each case: 0 for an answer, a refusal has its cause's; and the copies of each case, none after a refusal.
abbrev pub number : Result Outlook Cause → ℕ
number answer = told answer

abbrev pub universal_copies : Result Outlook Cause → ℕ
universal_copies (Ok o) = o.over_universal
universal_copies (Err cause) = 0

abbrev pub existential_copies : Result Outlook Cause → ℕ
existential_copies (Ok o) = o.over_existential
existential_copies (Err cause) = 0
