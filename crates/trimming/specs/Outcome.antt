-- What `trim` returns and leaves, for everything that is lent: 01's causes 1 to 3, then 02's 15, then the trimmed literals.
-- Assumes nothing.
use Rattle.std.specs.Prelude.{ℕ, cond, List, ◌++◌, eqb, ltb, ℤ, length, drop, Result, Ok, Err}
use Rattle.cause.specs.declared.Cause.{Cause}
use Rattle.cause.specs.Cause.{told, unless_cause}
use Rattle.formula.specs.Causes as Causes
use Rattle.trimming_rules.specs.Trimming.{trimmed}

-- The number of the first of causes 1 to 3 that applies, or 0 for an accepted formula.
abbrev pub formula_cause : List ℕ → List ℤ → ℕ
formula_cause kinds literals = Causes.number (Causes.checked kinds literals)

-- 'It refuses with 15, tested after 3, an output table shorter than the literals.'
unfoldable pub cause : List ℕ → List ℤ → List ℤ → ℕ
cause kinds literals output =
    let later : ℕ = cond (ltb (length output) (length literals)) 15 0 in
    cond (eqb (formula_cause kinds literals) 0) later (formula_cause kinds literals)

-- 'Returns the entries used', or the cause ..
unfoldable pub outcome : List ℕ → List ℤ → List ℤ → Result ℕ Cause
outcome kinds literals output = unless_cause (cause kinds literals output) (length (trimmed kinds literals))

-- .. 'and keeps what lies past them'; after a refusal 'everything lent left as found'.
unfoldable pub output_after : List ℕ → List ℤ → List ℤ → List ℤ
output_after kinds literals output =
    let answered = trimmed kinds literals ++ drop (length (trimmed kinds literals)) output in
    cond (eqb (cause kinds literals output) 0) answered output

-- The number of each case: 0 for trimmed, a refusal has its cause's; and the entries used, 0 after a refusal.
abbrev pub number : Result ℕ Cause → ℕ
number answer = told answer

abbrev pub used : Result ℕ Cause → ℕ
used (Ok n) = n
used (Err cause) = 0
