-- The causes: those of the search, for the count that it is handed, are the judge's; and what holds if none applies.
-- Assumes nothing.
use Prim.Native.Nat.{ℕ, zero, suc, ◌<◌, ◌≤◌}
use native.Mathlib.Omega.{arith}
use mathlib.Core.Path.{◌≡◌, refl, ap}
use mathlib.Core.Bool.{Bool, true, false, not, ◌&&◌, ◌||◌, cond}
use mathlib.Core.List.{List}
use lib.Dec.{eqb, leb, ltb}
use lib.IntN.{ℤ}
use lib.ListN.{length}
use borrow.Author.Tests.{leb-true, eqb-true, eqb-false, lt-ltb}
use Rattle.cause.proofs.Numbers.{Known, known_cond, known_told}
use Rattle.formula.specs.Formula.{work_size}
use Rattle.formula.specs.Causes as Causes
use Rattle.rows.specs.Table.{room, table_fits}
use Rattle.rows.specs.Stray.{stray_rows}
use Rattle.engine.specs.Search as search
use Rattle.judge.specs.Judge.{other_claim, width, cause}

-- The count that the search is handed: for a claim that is neither 0 nor 1 the number of bytes, which is over the rows lent.
abbrev pub counted : ℕ → List ℕ → ℕ → ℕ
counted claim rows count = cond (other_claim claim) (length rows) count

pub other_over_1 : (claim : ℕ) → 1 < claim → other_claim claim ≡ true
other_over_1 zero over = absurd (omega arith)
other_over_1 (suc zero) over = absurd (omega arith)
other_over_1 (suc (suc claim)) over = refl

pub none_other_to_1 : (claim : ℕ) → claim ≤ 1 → other_claim claim ≡ false
none_other_to_1 zero within = refl
none_other_to_1 (suc zero) within = refl
none_other_to_1 (suc (suc claim)) within = absurd (omega arith)

both_first : (a b c : Bool) → a && b && c ≡ true → a ≡ true
both_first true b c e = refl
both_first false b c e = e

-- A table that fits has more bytes than rows.
room_under_length : (rows : List ℕ) → table_fits rows ≡ true → ltb (room rows) (length rows) ≡ true
unfolding table_fits
room_under_length rows fits =
    let some_row = leb-true 16 (length rows) (both_first (leb 16 (length rows)) _ _ fits) in
    lt-ltb (room rows) (length rows) (omega arith)

-- So what would come after 7 plays no part, unless 4 applies.
seven_after_four : (fits sized over : Bool) (later : ℕ) → (fits ≡ true → over ≡ true)
    → cond (not fits) 4 (cond (not sized) 5 (cond over 7 later)) ≡ cond (not fits) 4 (cond (not sized) 5 7)
seven_after_four false sized over later h = refl
seven_after_four true sized over later h = ap (λ (b : Bool). cond (not sized) 5 (cond b 7 later)) (h refl)

module _ (kinds : List ℕ) (literals : List ℤ) (rows : List ℕ) (count : ℕ) (work : List ℕ) where
  pub same_cause : (claim : ℕ)
      → search.cause kinds literals rows (counted claim rows count) (eqb claim 1) work ≡ cause kinds literals claim rows count work
  unfolding search.cause cause width
  same_cause zero = refl
  same_cause (suc zero) = refl
  same_cause (suc (suc claim)) =
      let formula = Causes.number (Causes.checked kinds literals) in
      ap (λ (later : ℕ). cond (eqb formula 0) later formula)
      (seven_after_four (table_fits rows) (eqb (length work) work_size) _ _ (room_under_length rows))

-- What the tests have found if none of them applies.
tests_passed : (formula : ℕ) (fits sized over stray checked : Bool) → eqb formula 0 ≡ checked
    → cond checked (cond (not fits) 4 (cond (not sized) 5 (cond over 7 (cond stray 8 0)))) formula ≡ 0
    → (sized ≡ true) × (over ≡ false)
tests_passed formula false sized over stray true e h = absurd (omega arith)
tests_passed formula true false over stray true e h = absurd (omega arith)
tests_passed formula true true true stray true e h = absurd (omega arith)
tests_passed formula true true false stray true e h = (refl, refl)
tests_passed formula fits sized over stray false e h = absurd (eqb-false formula 0 e h)

either_first : (a b : Bool) → a || b ≡ false → a ≡ false
either_first false b e = refl
either_first true b e = e

-- If no cause applies, the work area has its size, and the claim is 0 or 1.
pub no_cause : (kinds : List ℕ) (literals : List ℤ) (claim : ℕ) (rows : List ℕ) (count : ℕ) (work : List ℕ)
    → cause kinds literals claim rows count work ≡ 0 → (length work ≡ work_size) × (other_claim claim ≡ false)
unfolding cause
no_cause kinds literals claim rows count work none =
    let passed = tests_passed (Causes.number (Causes.checked kinds literals)) (table_fits rows) (eqb (length work) work_size)
    (other_claim claim || ltb (room rows) count) (stray_rows (width kinds claim) count rows) _ refl none in
    (eqb-true (length work) work_size passed.0, either_first (other_claim claim) _ passed.1)

-- Each cause's number is one's own.
pub known_cause : (kinds : List ℕ) (literals : List ℤ) (claim : ℕ) (rows : List ℕ) (count : ℕ) (work : List ℕ)
    → Known (cause kinds literals claim rows count work)
unfolding cause
known_cause kinds literals claim rows count work =
    known_cond (eqb (Causes.number (Causes.checked kinds literals)) 0)
    (known_cond (not (table_fits rows)) {n = 4} refl
    (known_cond (not (eqb (length work) work_size)) {n = 5} refl
    (known_cond (other_claim claim || ltb (room rows) count) {n = 7} refl
    (known_cond (stray_rows (width kinds claim) count rows) {n = 8} {m = 0} refl refl))))
    (known_told (Causes.checked kinds literals))
