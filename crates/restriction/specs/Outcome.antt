-- What `set_first` returns and leaves, for everything that is lent: 01's causes 1 to 3, then 02's 15, then 27, then the literals that are left.
-- Assumes nothing.
use Rattle.std.specs.Prelude.{ℕ, zero, suc, Bool, true, false, cond, ◌||◌, List, ◌++◌, map, eqb, ltb, ℤ, length, drop, Result, Ok, Err}
use Rattle.cause.specs.declared.Cause.{Cause}
use Rattle.cause.specs.Cause.{told, unless_cause}
use Rattle.formula.specs.Causes as Causes
use Rattle.formula.specs.Causes.{any, other_kind}
use Rattle.case_rules.specs.Restricted.{restricted}

-- One byte for each of the first unknowns in prefix order, 0 false, 1 true.
abbrev pub value_of : ℕ → Bool
value_of zero = false
value_of (suc b) = true

abbrev pub values_of : List ℕ → List Bool
values_of values = map value_of values

-- The number of the first of causes 1 to 3 that applies, or 0 for an accepted formula.
abbrev pub formula_cause : List ℕ → List ℤ → ℕ
formula_cause kinds literals = Causes.number (Causes.checked kinds literals)

-- More values than unknowns, or one that is, as no kind may be, other than 0 and 1.
unfoldable pub wrong_values : ℕ → List ℕ → Bool
wrong_values unknowns values = ltb unknowns (length values) || any other_kind values

-- 'It refuses with 15, tested after 3, an output table shorter than the literals', as trimming does; then, with 27, wrong values.
unfoldable pub cause : List ℕ → List ℤ → List ℕ → List ℤ → ℕ
cause kinds literals values output =
    let later : ℕ = cond (ltb (length output) (length literals)) 15 (cond (wrong_values (length kinds) values) 27 0) in
    cond (eqb (formula_cause kinds literals) 0) later (formula_cause kinds literals)

-- The entries used, or the cause ..
unfoldable pub outcome : List ℕ → List ℤ → List ℕ → List ℤ → Result ℕ Cause
outcome kinds literals values output = unless_cause (cause kinds literals values output) (length (restricted (values_of values) literals))

-- .. and the entries, with what lies past them as found; after a refusal 'everything lent left as found'.
unfoldable pub output_after : List ℕ → List ℤ → List ℕ → List ℤ → List ℤ
output_after kinds literals values output =
    let left = restricted (values_of values) literals in
    cond (eqb (cause kinds literals values output) 0) (left ++ drop (length left) output) output

-- The number of each case: 0 for entries, a refusal has its cause's; and the entries used, 0 after a refusal.
abbrev pub number : Result ℕ Cause → ℕ
number answer = told answer

abbrev pub used : Result ℕ Cause → ℕ
used (Ok n) = n
used (Err cause) = 0
