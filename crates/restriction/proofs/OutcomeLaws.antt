-- Wrong values; what `set_first` returns and leaves, by the cause that comes first. Assumes nothing.
use Prim.Native.Nat.{ℕ, ◌≤◌, ◌<◌}
use Rattle.std.specs.Prelude.{Err, Ok, Result}
use Rattle.cause.specs.declared.Cause.{Cause}
use Rattle.cause.specs.declared.Cause.TheVariants.{Output, Values}
use Rattle.cause.specs.Cause.{number as number_of, caused, unless_cause}
use Rattle.cause.proofs.Numbers.{from_1, caused_number}
use native.Mathlib.Omega.{arith}
use mathlib.Core.Path.{◌≡◌, sym, ◌∙◌, ap}
use mathlib.Core.Bool.{Bool, true, false, cond, ◌||◌}
use mathlib.Core.List.{List, ◌++◌}
use borrow.Author.Tests.{ltb-false, ne_eqb, lt-ltb, le-ltb}
use lib.Dec.{eqb, ltb}
use lib.IntN.{ℤ}
use lib.ListN.{length, drop}
use Rattle.formula.specs.declared.Formula.{Formula}
use Rattle.formula.specs.Causes as Causes
use Rattle.formula.specs.Causes.{any, other_kind, is_zero, checked}
use Rattle.formula.proofs.Any.{or_none}
use Rattle.formula.proofs.Accepted.{accepted}
use Rattle.case_rules.specs.Restricted.{restricted}
use Rattle.case_rules.specs.RestrictedRight.{RestrictedRight}
use Rattle.case_rules.proofs.Proved.{restricted_right}
use Rattle.restriction.specs.Outcome.{values_of, wrong_values, cause, outcome, output_after, number}
use Rattle.restriction.specs.Private.Walk.{walked}
use Rattle.restriction.proofs.WalkLaws.{walked_restricted}

-- ---- wrong values

pub too_many : (unknowns : ℕ) (values : List ℕ) → unknowns < length values → wrong_values unknowns values ≡ true
unfolding wrong_values
too_many unknowns values more = ap (λ (b : Bool). b || any other_kind values) (lt-ltb unknowns (length values) more)

pub as_many_or_fewer : (unknowns : ℕ) (values : List ℕ) → length values ≤ unknowns → wrong_values unknowns values ≡ any other_kind values
unfolding wrong_values
as_many_or_fewer unknowns values few = ap (λ (b : Bool). b || any other_kind values) (le-ltb unknowns (length values) few)

-- No more values than unknowns, where they are not wrong.
pub few_values : (unknowns : ℕ) (values : List ℕ) → wrong_values unknowns values ≡ false → length values ≤ unknowns
unfolding wrong_values
few_values unknowns values good = ltb-false unknowns (length values) (or_none (ltb unknowns (length values)) (any other_kind values) good).0

-- ---- by the cause that comes first

module _ (kinds : List ℕ) (literals : List ℤ) (values : List ℕ) (output : List ℤ) where
  -- All that `set_first` ensures.
  abbrev pub End : Result ℕ Cause → List ℤ → Type 0
  End r exit =
      (r ≡ outcome kinds literals values output)
      × ((exit ≡ output_after kinds literals values output)
      × ((number r ≡ cause kinds literals values output) × RestrictedRight (values_of values) kinds literals))

  abbrev left : List ℤ
  left = restricted (values_of values) literals

  right : RestrictedRight (values_of values) kinds literals
  right = restricted_right (values_of values) kinds literals

  -- What comes after causes 1 to 3.
  abbrev later : ℕ
  later = cond (ltb (length output) (length literals)) 15 (cond (wrong_values (length kinds) values) 27 0)

  by_cause : (c : Cause) → cause kinds literals values output ≡ number_of c → End (Err c) output
  unfolding outcome output_after
  by_cause c e =
      let some = from_1 c in
      let applies = ne_eqb (number_of c) 0 (λ z. omega arith) in (
        sym
            (ap (λ (k : ℕ). unless_cause k (length left)) e
            ∙ ap (λ (b : Bool). cond b (Ok (length left)) (Err (caused (number_of c)))) applies
            ∙ ap Err (caused_number c)),
        (
          sym
              (ap (λ (k : ℕ). cond (eqb k 0) (left ++ drop (length left) output) output) e
              ∙ ap (λ (b : Bool). cond b (left ++ drop (length left) output) output) applies),
          (sym e, right),
        ),
      )

  -- Causes 1 to 3 come first ..
  pub formula_refused : (c : Cause) → checked kinds literals ≡ Err c → End (Err c) output
  unfolding cause
  formula_refused c e =
      let some = from_1 c in
      by_cause c
      (ap (λ (k : Result Formula Cause). cond (eqb (Causes.number k) 0) later (Causes.number k)) e
      ∙ ap (λ (b : Bool). cond b later (number_of c)) (ne_eqb (number_of c) 0 (λ z. omega arith)))

  module _ (f : Formula) (e : checked kinds literals ≡ Ok f) where
    cause_later : cause kinds literals values output ≡ later
    unfolding cause
    cause_later = ap (λ (k : Result Formula Cause). cond (eqb (Causes.number k) 0) later (Causes.number k)) e

    -- .. then 15 ..
    pub output_refused : length output < length literals → End (Err Output) output
    output_refused short =
        by_cause Output
        (cause_later ∙ ap (λ (b : Bool). cond b 15 (cond (wrong_values (length kinds) values) 27 0)) (lt-ltb (length output) (length literals) short))

    module _ (room : length literals ≤ length output) where
      cause_last : cause kinds literals values output ≡ cond (wrong_values (length kinds) values) 27 0
      cause_last =
          cause_later ∙ ap (λ (b : Bool). cond b 15 (cond (wrong_values (length kinds) values) 27 0)) (le-ltb (length output) (length literals) room)

      -- .. then 27 ..
      pub values_refused : wrong_values (length kinds) values ≡ true → End (Err Values) output
      values_refused wrong = by_cause Values (cause_last ∙ ap (λ (b : Bool). cond b 27 0) wrong)

      -- .. and without a cause the unknowns are set.
      pub answered : wrong_values (length kinds) values ≡ false → (n : ℕ) (exit : List ℤ) → n ≡ length (walked (values_of values) literals)
          → exit ≡ walked (values_of values) literals ++ drop n output → End (Ok n) exit
      unfolding outcome output_after
      answered good n exit en ex =
          let none = cause_last ∙ ap (λ (b : Bool). cond b 27 0) good in
          let same = walked_restricted (values_of values) literals (ap is_zero (accepted kinds literals e).last_is_zero) in
          let as_many = en ∙ ap length same in (
            ap Ok as_many ∙ sym (ap (λ (k : ℕ). unless_cause k (length left)) none),
            (
              ex
                  ∙ ap (λ (l : List ℤ). l ++ drop n output) same
                  ∙ ap (λ (k : ℕ). left ++ drop k output) as_many
                  ∙ sym (ap (λ (k : ℕ). cond (eqb k 0) (left ++ drop (length left) output) output) none),
              (sym none, right),
            ),
          )
