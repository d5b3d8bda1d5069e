-- Cause 1 without literals, and what is answered. Assumes nothing.
use Prim.Native.Nat.{ℕ, ◌≤◌}
use Rattle.std.specs.Prelude.{Err, Ok, Result}
use Rattle.std.specs.Result.{is_err}
use Rattle.cause.specs.declared.Cause.{Cause}
use Rattle.cause.specs.declared.Cause.TheVariants.{Kinds, Bands, Prices}
use Rattle.cause.specs.Cause.{refused_if, caused}
use Rattle.cause.proofs.Numbers.{Known, known_cond, told_unless}
use mathlib.Core.Path.{◌≡◌, refl, sym, ap, ◌∙◌}
use mathlib.Core.Bool.{Bool, true, false, cond}
use mathlib.Core.List.{List, []}
use borrow.Author.Tests.{ltb-false}
use lib.Dec.{eqb, ltb}
use lib.ListN.{length}
use Rattle.formula.specs.declared.Formula.{Formula}
use Rattle.formula.specs.Formula.{max_unknowns}
use Rattle.formula.specs.Causes.{any, other_kind, cause_1, cause_2, cause_3, sizes, checked}
use Rattle.formula.proofs.Any.{or_none}
use Rattle.fee.specs.Fee.{price, total, fee, fee_on, cause, answer, charged, number, cents, Charged}
use Rattle.fee.specs.Bands.{price_with, cause_21, cause_22, cause_with, Loads, fee_with, charged_with, ChargedWith}

refused_by : (b : Bool) (s : Formula) → is_err (refused_if b Kinds (Ok s)) ≡ b
refused_by true s = refl
refused_by false s = refl

module _ (kinds : List ℕ) where
  -- Without literals cause 1 alone can refuse.
  pub kinds_alone : is_err (checked kinds []) ≡ cause_1 kinds
  unfolding checked cause_2 cause_3
  kinds_alone = refused_by (cause_1 kinds) (sizes kinds [])

  pub few_kinds : cause_1 kinds ≡ false → length kinds ≤ max_unknowns
  unfolding cause_1
  few_kinds e = ltb-false max_unknowns (length kinds) (or_none (ltb max_unknowns (length kinds)) (any other_kind kinds) e).0

known_cause : (kinds : List ℕ) → Known (cause kinds)
known_cause kinds = known_cond (cause_1 kinds) {n = 1} {m = 0} refl refl

cents_of_answer : (b : Bool) (amount : ℕ) → cents (answer (cond b 1 0) amount) ≡ cond b 0 amount
cents_of_answer true amount = refl
cents_of_answer false amount = refl

cents_of_number : (n amount : ℕ) → cents (answer n amount) ≡ cond (eqb n 0) amount 0
cents_of_number n amount = by (eqb n 0)
  where
    by : (b : Bool) → cents (cond b (Ok amount) (Err (caused n))) ≡ cond b amount 0
    by true = refl
    by false = refl

module _ (firsts prices kinds : List ℕ) (rounds : ℕ) {r : Result ℕ Cause} where
  -- Where the cause is known by its number, or 0.
  answered_so : (n : ℕ) → cause_with firsts prices kinds ≡ n → Known n → r ≡ answer n (fee_with firsts prices kinds rounds) →
      ChargedWith firsts prices kinds rounds r
  unfolding charged_with
  answered_so n cause_is known e =
      let same : r ≡ answer (cause_with firsts prices kinds) (fee_with firsts prices kinds rounds) = rw cause_is e in
      record {
        value = same;
        numbered = ap number e ∙ told_unless n (fee_with firsts prices kinds rounds) known ∙ sym cause_is;
        amount = ap cents same ∙ cents_of_number (cause_with firsts prices kinds) (fee_with firsts prices kinds rounds);
      }

  pub refused_21 : cause_21 firsts prices ≡ true → r ≡ Err Bands → ChargedWith firsts prices kinds rounds r
  refused_21 one e = answered_so 21 (rw one) refl e

  pub refused_22 : cause_21 firsts prices ≡ false → cause_22 firsts prices ≡ true → r ≡ Err Prices → ChargedWith firsts prices kinds rounds r
  refused_22 no_one two e = answered_so 22 (rw (no_one, two)) refl e

  pub charged_with_so : (sum : ℕ) → Loads firsts prices → sum ≡ total (price_with firsts prices) rounds → r ≡ answer (cause kinds) (fee_on sum kinds)
      → ChargedWith firsts prices kinds rounds r
  charged_with_so sum l sums e =
      answered_so (cause kinds) (rw (l.no_21, l.no_22)) (known_cause kinds) (e ∙ ap (λ (s : ℕ). answer (cause kinds) (fee_on s kinds)) sums)

pub charged_so : (kinds : List ℕ) (rounds sum : ℕ) {r : Result ℕ Cause} → sum ≡ total price rounds → r ≡ answer (cause kinds) (fee_on sum kinds) →
    Charged kinds rounds r
unfolding charged
charged_so kinds rounds sum {r} sums e =
    record {
      value = same;
      numbered = ap number same ∙ told_unless (cause kinds) (fee kinds rounds) (known_cause kinds);
      amount = ap cents same ∙ cents_of_answer (cause_1 kinds) (fee kinds rounds);
    }
  where
    same : r ≡ answer (cause kinds) (fee kinds rounds)
    same = e ∙ ap (λ (s : ℕ). answer (cause kinds) (fee_on s kinds)) sums
