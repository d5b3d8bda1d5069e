-- What a search returns and leaves, for everything that is lent: 01's causes 1 to 5, 7 and 8 in order, then the first model.
-- Assumes nothing.
use Rattle.std.specs.Prelude.{ℕ, ◌-◌, ◌≡◌, Bool, not, cond, List, ◌++◌, eqb, ltb, ℤ, length, replicate, Result, Ok, Err}
use Rattle.std.proofs.Math.Option.{Option, none, some}
use Rattle.cause.specs.declared.Cause.{Cause}
use Rattle.cause.specs.Cause.{number as number_of, unless_cause}
use Rattle.formula.specs.Formula.{work_size, prefix, clauses}
use Rattle.formula.specs.Meaning.{matrix}
use Rattle.formula.specs.Causes.{checked, count, number as cause_number}
use Rattle.preference.specs.Preference.{prefer}
use Rattle.rows.specs.Table.{rows_of, table_of, room, table_fits}
use Rattle.rows.specs.Stray.{stray_rows}
use Rattle.expansion.specs.OtherSide.{side_of, other}
use Rattle.expansion.specs.Play.{Row}
use Rattle.expansion.specs.Model.{search}
use Rattle.expansion.specs.Right.{SearchRight}
use Rattle.engine.specs.declared.search.Search.{Search}
use Rattle.engine.specs.declared.search.Search.TheVariants.{Found, NoModel}

-- The lent rows below the count, as values of the other side's unknowns. The universal side looks for the model if the flag is true.
unfoldable pub lent_rows : List ℕ → List ℕ → ℕ → Bool → List Row
lent_rows kinds rows lent universal? = rows_of (count (other (side_of universal?)) (prefix kinds)) lent rows

-- The first cause that applies, or 0: 1 to 3 of the formula, 4 of the row table, 5 of the work area, 7 for a count over the rows lent,
-- 8 for 'a bit set beyond its unknowns' in a row below the count.
unfoldable pub cause : List ℕ → List ℤ → List ℕ → ℕ → Bool → List ℕ → ℕ
cause kinds literals rows lent universal? work =
    let later : ℕ = cond (not (table_fits rows)) 4
    (cond (not (eqb (length work) work_size)) 5
    (cond (ltb (room rows) lent) 7
    (cond (stray_rows (count (other (side_of universal?)) (prefix kinds)) lent rows) 8 0))) in
    cond (eqb (cause_number (checked kinds literals)) 0) later (cause_number (checked kinds literals))

-- The rows that the first model yields, or none.
unfoldable pub found : List ℕ → List ℤ → List ℕ → List ℕ → ℕ → Bool → Option (List Row)
found kinds literals preferences rows lent universal? =
    search (prefer preferences) (side_of universal?) (prefix kinds) (matrix (clauses literals)) (lent_rows kinds rows lent universal?)

abbrev pub answer : Option (List Row) → Search
answer none = NoModel
answer (some yielded) = Found

-- The work area after an answer: the yielded rows packed from its start, zeros behind them; zeros if there is no model.
abbrev pub left : Option (List Row) → List ℕ
left none = replicate work_size 0
left (some yielded) = table_of yielded ++ replicate (work_size - length (table_of yielded)) 0

-- The answer, or the cause.
unfoldable pub outcome : List ℕ → List ℤ → List ℕ → List ℕ → ℕ → Bool → List ℕ → Result Search Cause
outcome kinds literals preferences rows lent universal? work =
    unless_cause (cause kinds literals rows lent universal? work) (answer (found kinds literals preferences rows lent universal?))

-- The work area at exit: as found after a refusal.
unfoldable pub work_after : List ℕ → List ℤ → List ℕ → List ℕ → ℕ → Bool → List ℕ → List ℕ
work_after kinds literals preferences rows lent universal? work =
    let answered = left (found kinds literals preferences rows lent universal?) in
    cond (eqb (cause kinds literals rows lent universal? work) 0) answered work

-- The number of each case: 0 for no model, 1 for found; a refusal has its cause's.
abbrev pub number : Result Search Cause → ℕ
number (Ok NoModel) = 0
number (Ok Found) = 1
number (Err cause) = number_of cause

-- The number of the outcome.
unfoldable pub outcome_number : List ℕ → List ℤ → List ℕ → List ℕ → ℕ → Bool → List ℕ → ℕ
outcome_number kinds literals preferences rows lent universal? work =
    let answered = number (Ok (answer (found kinds literals preferences rows lent universal?))) in
    cond (eqb (cause kinds literals rows lent universal? work) 0) answered (cause kinds literals rows lent universal? work)

-- All that `first_model` promises: what it returns and its number, the work area at exit, and that the search over the lent rows is 01's.
pub record Searched (kinds : List ℕ) (literals : List ℤ) (preferences rows : List ℕ) (lent : ℕ) (universal? : Bool) (work : List ℕ) (result : Result Search Cause) (work_then : List ℕ) : Type 0 where
  pub returned : result ≡ outcome kinds literals preferences rows lent universal? work
  pub numbered : number result ≡ outcome_number kinds literals preferences rows lent universal? work
  pub area : work_then ≡ work_after kinds literals preferences rows lent universal? work
  pub right : SearchRight (prefer preferences) (side_of universal?) (prefix kinds) (matrix (clauses literals)) (lent_rows kinds rows lent universal?)
