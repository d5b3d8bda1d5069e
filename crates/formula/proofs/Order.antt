-- The outcome of a check: what makes each cause apply, and the first that does.
-- Assumes nothing.
use Prim.Native.Nat.{ℕ, ◌≤◌, ◌<◌}
use native.Mathlib.Omega.{arith}
use borrow.Author.Tests.{ltb-true, lt-ltb, le-ltb}
use mathlib.Core.Path.{◌≡◌, refl, ap, ◌∙◌}
use mathlib.Core.Bool.{Bool, true, false, or-true, cond}
use mathlib.Core.List.{List, [], ◌∷◌}
use lib.IntN.{ℤ, pos, nat_abs}
use lib.ListN.{length}
use Rattle.std.specs.Prelude.{Result, Ok, Err}
use Rattle.cause.specs.declared.Cause.{Cause}
use Rattle.cause.specs.declared.Cause.TheVariants.{Kinds, Literals, Beyond}
use Rattle.cause.specs.Cause.{refused_if}
use Rattle.formula.specs.declared.Formula.{Formula}
use Rattle.formula.specs.Formula.{max_unknowns, max_clauses, max_entries}
use Rattle.formula.specs.Causes.{any, other_kind, cause_1, zeros, ended, cause_2, beyond, cause_3, sizes, checked, number}
use Rattle.formula.specs.FirstCause.{first_cause}
use Rattle.formula.proofs.Any.{any_implies}

-- Without an unknown, the entry 1 alone has causes 2 and 3: it ends no clause, and is beyond 0.
two_before_three : number (checked [] (pos 1 ∷ [])) ≡ 2
unfolding checked cause_1 cause_2 cause_3
two_before_three = refl

module _ (kinds : List ℕ) where
  pub cause_1_many : max_unknowns < length kinds → cause_1 kinds ≡ true
  unfolding cause_1
  cause_1_many many = rw (lt-ltb max_unknowns (length kinds) many)

  pub cause_1_other : any other_kind kinds ≡ true → cause_1 kinds ≡ true
  unfolding cause_1
  cause_1_other other = simp (other, or-true)

  pub no_cause_1 : length kinds ≤ max_unknowns → any other_kind kinds ≡ false → cause_1 kinds ≡ false
  unfolding cause_1
  no_cause_1 few known = rw (le-ltb max_unknowns (length kinds) few, known)

module _ (literals : List ℤ) where
  pub cause_2_many : max_entries < length literals → cause_2 literals ≡ true
  unfolding cause_2
  cause_2_many many = rw (lt-ltb max_entries (length literals) many)

  pub cause_2_zeros : max_clauses < zeros literals → cause_2 literals ≡ true
  unfolding cause_2
  cause_2_zeros many = simp (lt-ltb max_clauses (zeros literals) many, or-true)

  pub cause_2_last : ended literals ≡ false → cause_2 literals ≡ true
  unfolding cause_2
  cause_2_last other = simp (other, or-true)

  pub no_cause_2 : length literals ≤ max_entries → zeros literals ≤ max_clauses → ended literals ≡ true → cause_2 literals ≡ false
  unfolding cause_2
  no_cause_2 few_entries few_clauses end =
      rw (le-ltb max_entries (length literals) few_entries, le-ltb max_clauses (zeros literals) few_clauses, end)

-- The lowest number is beyond as many unknowns as there may be.
pub cause_3_lowest : (n : ℕ) (literals : List ℤ) → n ≤ max_unknowns → any (beyond 2147483647) literals ≡ true → cause_3 n literals ≡ true
unfolding cause_3
cause_3_lowest n literals few =
    any_implies (beyond 2147483647) (beyond n) (λ z far. lt-ltb n (nat_abs z) (omega (arith, ltb-true 2147483647 (nat_abs z) far))) literals

module _ (kinds : List ℕ) (literals : List ℤ) where
  pub refused_1 : cause_1 kinds ≡ true → Err Kinds ≡ checked kinds literals
  unfolding checked
  refused_1 one = rw one

  pub refused_2 : cause_1 kinds ≡ false → cause_2 literals ≡ true → Err Literals ≡ checked kinds literals
  unfolding checked
  refused_2 no_one two = rw (no_one, two)

  pub refused_3 : cause_1 kinds ≡ false → cause_2 literals ≡ false → cause_3 (length kinds) literals ≡ true → Err Beyond ≡ checked kinds literals
  unfolding checked
  refused_3 no_one no_two three = rw (no_one, no_two, three)

  pub none_refused : cause_1 kinds ≡ false → cause_2 literals ≡ false → cause_3 (length kinds) literals ≡ false →
      Ok (sizes kinds literals) ≡ checked kinds literals
  unfolding checked
  none_refused no_one no_two no_three = rw (no_one, no_two, no_three)

number_refused_if : (a b c : Bool) (f : Formula) →
    number (refused_if a Kinds (refused_if b Literals (refused_if c Beyond (Ok f)))) ≡ cond a 1 (cond b 2 (cond c 3 0))
number_refused_if true b c f = refl
number_refused_if false true c f = refl
number_refused_if false false true f = refl
number_refused_if false false false f = refl

-- What is answered has the number of the first cause.
pub numbered : (kinds : List ℕ) (literals : List ℤ) {r : Result Formula Cause} → r ≡ checked kinds literals → (r ≡ checked kinds literals) ×
    (number r ≡ first_cause kinds literals)
unfolding checked first_cause
numbered kinds literals e =
    (e, ap number e ∙ number_refused_if (cause_1 kinds) (cause_2 literals) (cause_3 (length kinds) literals) (sizes kinds literals))
