-- What `trim` returns and leaves, by the cause that comes first.
-- Assumes nothing.
use Prim.Native.Nat.{ℕ, ◌≤◌, ◌<◌}
use Rattle.std.specs.Prelude.{Err, Ok, Result}
use Rattle.cause.specs.declared.Cause.{Cause}
use Rattle.cause.specs.declared.Cause.TheVariants.{Output}
use Rattle.cause.specs.Cause.{number as number_of, caused, unless_cause}
use Rattle.cause.proofs.Numbers.{from_1, caused_number}
use native.Mathlib.Omega.{arith}
use mathlib.Core.Path.{◌≡◌, sym, ◌∙◌, ap}
use mathlib.Core.Bool.{Bool, cond}
use mathlib.Core.List.{List, ◌++◌}
use borrow.Author.Tests.{ne_eqb, lt-ltb, le-ltb}
use lib.Dec.{eqb, ltb}
use lib.IntN.{ℤ}
use lib.ListN.{length, drop}
use Rattle.formula.specs.declared.Formula.{Formula}
use Rattle.formula.specs.Causes as Causes
use Rattle.formula.specs.Causes.{checked}
use Rattle.formula.proofs.Accepted.{accepted}
use Rattle.trimming_rules.specs.Trimming.{trimmed}
use Rattle.trimming_rules.specs.Proved.{Proved}
use Rattle.trimming_rules.proofs.Carried.{proved}
use Rattle.trimming.specs.Outcome.{formula_cause, cause, outcome, output_after, number}

module _ (kinds : List ℕ) (literals output : List ℤ) where
  -- All that `trim` ensures.
  abbrev pub End : Result ℕ Cause → List ℤ → Type 0
  End r exit =
      (r ≡ outcome kinds literals output)
      × ((exit ≡ output_after kinds literals output)
      × ((number r ≡ cause kinds literals output) × (formula_cause kinds literals ≡ 0 → Proved kinds literals)))

  by_cause : (c : Cause) → cause kinds literals output ≡ number_of c → (formula_cause kinds literals ≡ 0 → Proved kinds literals) → End (Err c) output
  unfolding outcome output_after
  by_cause c e p =
      let some = from_1 c in
      let applies = ne_eqb (number_of c) 0 (λ z. omega arith) in (
        sym
            (ap (λ (k : ℕ). unless_cause k (length (trimmed kinds literals))) e
            ∙ ap (λ (b : Bool). cond b (Ok (length (trimmed kinds literals))) (Err (caused (number_of c)))) applies
            ∙ ap Err (caused_number c)),
        (
          sym
              (ap (λ (k : ℕ). cond (eqb k 0) (trimmed kinds literals ++ drop (length (trimmed kinds literals)) output) output) e
              ∙ ap (λ (b : Bool). cond b (trimmed kinds literals ++ drop (length (trimmed kinds literals)) output) output) applies),
          (sym e, p),
        ),
      )

  -- Causes 1 to 3 come first ..
  pub formula_refused : (c : Cause) → checked kinds literals ≡ Err c → End (Err c) output
  unfolding cause
  formula_refused c e =
      let some = from_1 c in
      by_cause c
      (ap (λ (k : Result Formula Cause). cond (eqb (Causes.number k) 0) (cond (ltb (length output) (length literals)) 15 0) (Causes.number k)) e ∙ ap
      (λ (b : Bool). cond b (cond (ltb (length output) (length literals)) 15 0) (number_of c)) (ne_eqb (number_of c) 0 (λ z. omega arith)))
      (λ z. absurd (let q : number_of c ≡ 0 = sym (ap Causes.number e) ∙ z in omega arith))

  module _ (f : Formula) (e : checked kinds literals ≡ Ok f) where
    pub holds : Proved kinds literals
    holds = proved kinds literals (accepted kinds literals e)

    later : cause kinds literals output ≡ cond (ltb (length output) (length literals)) 15 0
    unfolding cause
    later = ap (λ (k : Result Formula Cause). cond (eqb (Causes.number k) 0) (cond (ltb (length output) (length literals)) 15 0) (Causes.number k)) e

    -- .. then 15 ..
    pub output_refused : length output < length literals → End (Err Output) output
    output_refused short = by_cause Output (later ∙ ap (λ (b : Bool). cond b 15 0) (lt-ltb (length output) (length literals) short)) (λ z. holds)

    -- .. and without a cause the formula is trimmed.
    pub answered : length literals ≤ length output → (n : ℕ) (exit : List ℤ) → n ≡ length (trimmed kinds literals) →
        exit ≡ trimmed kinds literals ++ drop n output → End (Ok n) exit
    unfolding outcome output_after
    answered room n exit en ex =
        let none = later ∙ ap (λ (b : Bool). cond b 15 0) (le-ltb (length output) (length literals) room) in (
          ap Ok en ∙ sym (ap (λ (k : ℕ). unless_cause k (length (trimmed kinds literals))) none),
          (
            ex ∙ ap (λ (k : ℕ). trimmed kinds literals ++ drop k output) en ∙ sym
                (ap (λ (k : ℕ). cond (eqb k 0) (trimmed kinds literals ++ drop (length (trimmed kinds literals)) output) output) none),
            (sym none, λ z. holds),
          ),
        )
