-- What the judge (a checker) returns and leaves, for everything that is lent: 01's causes 1 to 5, 7 and 8 in order, then the judgement.
-- Assumes nothing.
use Rattle.std.specs.Prelude.{ℕ, zero, suc, ◌≡◌, Bool, true, false, not, ◌||◌, cond, List, eqb, ltb, ℤ, length, replicate, Result, Ok, Err}
use Rattle.cause.specs.declared.Cause.{Cause}
use Rattle.cause.specs.Cause.{number as number_of, unless_cause}
use Rattle.formula.specs.Formula.{work_size, prefix, clauses}
use Rattle.formula.specs.Meaning.{matrix, verdict, bit}
use Rattle.formula.specs.Causes as Causes
use Rattle.rows.specs.Table.{rows_of, room, table_fits}
use Rattle.rows.specs.Stray.{stray_rows}
use Rattle.expansion.specs.OtherSide.{side_of, other}
use Rattle.expansion.specs.Play.{Row}
use Rattle.expansion.specs.Judge.{accepted}
use Rattle.expansion.specs.Right.{JudgeRight}
use Rattle.judge.specs.declared.Judgement.{Judgement}
use Rattle.judge.specs.declared.Judgement.TheVariants.{NotBorneOut, Accepted}

-- 'A claim (0 or 1)': that the formula is false, or that it is true.
abbrev pub claims_true : ℕ → Bool
claims_true zero = false
claims_true (suc claim) = true

-- 'Claim not 0 or 1.'
abbrev pub other_claim : ℕ → Bool
other_claim zero = false
other_claim (suc zero) = false
other_claim (suc (suc claim)) = true

-- 'Claim 0 takes universal rows, claim 1 existential rows': how many unknowns a row gives values to.
unfoldable pub width : List ℕ → ℕ → ℕ
width kinds claim = Causes.count (other (side_of (claims_true claim))) (prefix kinds)

-- The first cause that applies, or 0: 1 to 3 of the formula, 4 of the row table, 5 of the work area, 7 for 'claim not 0 or 1, or count over
-- the rows lent', 8 for 'in a row below the count, a bit set beyond its unknowns'.
unfoldable pub cause : List ℕ → List ℤ → ℕ → List ℕ → ℕ → List ℕ → ℕ
cause kinds literals claim rows count work =
    let formula : ℕ = Causes.number (Causes.checked kinds literals) in
    let later : ℕ =
    cond (not (table_fits rows)) 4
    (cond (not (eqb (length work) work_size)) 5
    (cond (other_claim claim || ltb (room rows) count) 7
    (cond (stray_rows (width kinds claim) count rows) 8 0))) in
    cond (eqb formula 0) later formula

-- The lent rows below the count, as values of those unknowns.
abbrev pub lent_rows : List ℕ → ℕ → List ℕ → ℕ → List Row
lent_rows kinds claim rows count = rows_of (width kinds claim) count rows

-- 'Accepted exactly if no model over those rows exists' ..
unfoldable pub borne_out : List ℕ → List ℤ → ℕ → List ℕ → ℕ → Bool
borne_out kinds literals claim rows count =
    accepted (claims_true claim) (prefix kinds) (matrix (clauses literals)) (lent_rows kinds claim rows count)

-- .. 'otherwise not borne out'.
abbrev pub answer : Bool → Judgement
answer true = Accepted
answer false = NotBorneOut

-- The answer, or the cause ..
unfoldable pub outcome : List ℕ → List ℤ → ℕ → List ℕ → ℕ → List ℕ → Result Judgement Cause
outcome kinds literals claim rows count work = unless_cause (cause kinds literals claim rows count work) (answer (borne_out kinds literals claim rows count))

-- .. and the work area at exit: 'zero after an answer', as found after a refusal.
unfoldable pub work_after : List ℕ → List ℤ → ℕ → List ℕ → ℕ → List ℕ → List ℕ
work_after kinds literals claim rows count work =
    let cleared : List ℕ = replicate work_size 0 in
    cond (eqb (cause kinds literals claim rows count work) 0) cleared work

-- The number of each case: 0 for not borne out, 1 for accepted; a refusal has its cause's.
abbrev pub number : Result Judgement Cause → ℕ
number (Ok NotBorneOut) = 0
number (Ok Accepted) = 1
number (Err cause) = number_of cause

-- The number of the outcome.
unfoldable pub outcome_number : List ℕ → List ℤ → ℕ → List ℕ → ℕ → List ℕ → ℕ
outcome_number kinds literals claim rows count work =
    let answered = bit (borne_out kinds literals claim rows count) in
    cond (eqb (cause kinds literals claim rows count work) 0) answered (cause kinds literals claim rows count work)

-- All that the judge promises: what it returns and its number, the work area at exit, that an accepted claim is the verdict, and that the
-- definition of 'accepted' is 01's, over the lent rows.
pub record Judged (kinds : List ℕ) (literals : List ℤ) (claim : ℕ) (rows : List ℕ) (count : ℕ) (work : List ℕ) (result : Result Judgement Cause)
    (work_then : List ℕ) : Type
    0 where
  pub returned : result ≡ outcome kinds literals claim rows count work
  pub numbered : number result ≡ outcome_number kinds literals claim rows count work
  pub area : work_then ≡ work_after kinds literals claim rows count work
  pub only_verdict : result ≡ Ok Accepted → bit (verdict kinds literals) ≡ claim
  pub right : JudgeRight (claims_true claim) (prefix kinds) (matrix (clauses literals)) (lent_rows kinds claim rows count)
