-- Deciding by cases with a bound on the studies made: depth first, the case where the unknown is true before the one where it is false, which is left
-- out if the first is enough. Assumes nothing.
use Rattle.std.specs.Prelude.{ℕ, zero, suc, ◌+◌, Bool, true, false, List, [], ◌∷◌, ◌++◌, ℤ}
use Rattle.std.proofs.Math.Option.{Option, none, some}
use Rattle.formula.specs.Formula.{Kind, existential, universal, kind_of}
use Rattle.case_rules.specs.Restricted.{restricted}
use Rattle.case_rules.specs.ByCases.{Study, some_by_kind}

-- The answer, if there is one, and how many studies are left.
pub record Asked : Type 0 where
  pub answer : Option Bool
  pub left : ℕ

abbrev pub asked : Option Bool → ℕ → Asked
asked answer left = record { answer = answer; left = left }

-- The first case is enough: true for an existential unknown, false for a universal one.
abbrev pub enough : Kind → Option Bool → Bool
enough k none = false
enough existential (some v) = v
enough universal (some true) = false
enough universal (some false) = true

abbrev pub with_second : Bool → Kind → Asked → (ℕ → Asked) → Asked
with_second true k first second = first
with_second false k first second =
    let later = second first.left in asked (some_by_kind k first.answer later.answer) later.left

abbrev pub both_cases : Kind → Asked → (ℕ → Asked) → Asked
both_cases k first second = with_second (enough k first.answer) k first second

-- A study that answers is all; else the cases follow, with one study less.
abbrev pub unless_answered : Option Bool → ℕ → (ℕ → Asked) → Asked
unless_answered none left by_cases = by_cases left
unless_answered (some v) left by_cases = asked (some v) left

abbrev pub within_budget : ℕ → Option Bool → (ℕ → Asked) → Asked
within_budget zero studied by_cases = asked none zero
within_budget (suc left) studied by_cases = unless_answered studied left by_cases

abbrev pub asked_behind : Study → List ℤ → List Bool → List ℕ → ℕ → Asked
asked_behind study literals path [] budget = within_budget budget (study path [] (restricted path literals)) (λ left. asked none left)
asked_behind study literals path (k ∷ kinds) budget =
    within_budget budget (study path (k ∷ kinds) (restricted path literals))
    (λ left.
    both_cases (kind_of k) (asked_behind study literals (path ++ (true ∷ [])) kinds left)
    (λ rest. asked_behind study literals (path ++ (false ∷ [])) kinds rest))

unfoldable pub asked_about : Study → ℕ → List ℕ → List ℤ → Asked
asked_about study budget kinds literals = asked_behind study literals [] kinds budget

-- The most studies of a formula with so many unknowns: one of it, and those of both cases.
abbrev pub most_studies : ℕ → ℕ
most_studies zero = 1
most_studies (suc n) = suc (most_studies n + most_studies n)
