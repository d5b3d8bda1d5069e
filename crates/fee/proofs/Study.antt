-- What a study pays, for everything that a run can be lent. Assumes nothing.
use Prim.Native.Nat.{ℕ, zero, suc}
use Rattle.std.specs.Prelude.{Ok, Result}
use Rattle.formula.specs.declared.Formula.{Formula}
use Rattle.cause.specs.declared.Cause.{Cause}
use Rattle.cause.specs.declared.Cause.TheVariants.{Kinds}
use Rattle.cause.specs.Cause.{refused_if}
use native.Mathlib.Omega.{arith}
use mathlib.Core.Path.{◌≡◌, refl, sym, ap, ◌∙◌}
use mathlib.Core.Bool.{Bool, true, false, cond}
use mathlib.Core.List.{List}
use native.Mathlib.Nat.{suc-ne-zero}
use borrow.Author.Tests.{eqb-true, ne_eqb}
use lib.Dec.{eqb}
use Rattle.formula.specs.Causes.{cause_1, checked, number as formula_number}
use Rattle.rounds.specs.Run.{is_false, is_true, spent, no_room_universal, no_room_existential, run, Answer as RunAnswer}
use Rattle.engine.specs.declared.run.Outcome.{Outcome}
use Rattle.formula.specs.Formula.{prefix}
use Rattle.engine.specs.Outcome.{Given, lent, cause, accepted, named, reported, refusal, returned}
use Rattle.fee.specs.Fee.{fee, answer, charged, cause as fee_cause}
use Rattle.fee.specs.Bands.{cause_22, fee_with, charged_with}
use Rattle.fee.specs.Study.{pays, study_fee, StudyPays}

-- An answer of the run's definition is none of the refusals.
any_answer_pays : (a : RunAnswer) (amount : ℕ) → pays (named a) amount ≡ amount
any_answer_pays is_false amount = refl
any_answer_pays is_true amount = refl
any_answer_pays spent amount = refl
any_answer_pays no_room_universal amount = refl
any_answer_pays no_room_existential amount = refl

-- Where the run finds no cause, the kinds have none.
first_cause : (n later : ℕ) → cond (eqb n 0) later n ≡ 0 → n ≡ 0
first_cause zero later e = refl
first_cause (suc n) later e = ap (λ (b : Bool). cond b later (suc n)) (sym (ne_eqb (suc n) 0 (suc-ne-zero n))) ∙ e

first_is_1 : (b : Bool) (rest : Result Formula Cause) → formula_number (refused_if b Kinds rest) ≡ 0 → b ≡ false
first_is_1 true rest e = absurd (omega arith)
first_is_1 false rest e = refl

module _ (g : Given) where
  abbrev outcome_if : Bool → Outcome
  outcome_if b = cond b (reported (prefix g.kinds) (run (lent g) g.limit)) (refusal (cause g))

  kinds_pass : accepted g ≡ true → cause_1 g.kinds ≡ false
  unfolding cause checked
  kinds_pass e = first_is_1 (cause_1 g.kinds) _ (first_cause (formula_number (checked g.kinds g.literals)) _ (eqb-true (cause g) 0 e))

  -- An accepted study pays the fee for its round, whichever fee that is.
  pays_fee : (fee_for : List ℕ → ℕ → ℕ) → accepted g ≡ true → fee_for g.kinds (returned g).round ≡ study_fee fee_for g
  unfolding returned study_fee
  pays_fee fee_for e = let amount = fee_for g.kinds (returned g).round in
      sym (ap (λ (b : Bool). pays (outcome_if b).answer amount) e ∙ any_answer_pays (run (lent g) g.limit).answer amount)

  pub study_pays : StudyPays g
  unfolding returned study_fee charged charged_with
  study_pays =
      record {
        accepted_pays = λ e. ap (λ (b : Bool). answer (cond b 1 0) (fee g.kinds round)) (kinds_pass e) ∙ ap Ok (pays_fee fee e);
        accepted_pays_with = λ firsts prices loaded e.
            let amount = fee_with firsts prices g.kinds round in
            ap (λ (b : Bool). answer (cond b 21 (cond (cause_22 firsts prices) 22 (fee_cause g.kinds))) amount) loaded.no_21
            ∙ ap (λ (b : Bool). answer (cond b 22 (fee_cause g.kinds)) amount) loaded.no_22
            ∙ ap (λ (b : Bool). answer (cond b 1 0) amount) (kinds_pass e)
            ∙ ap Ok (pays_fee (fee_with firsts prices) e);
        refused_round = λ e. ap (λ (b : Bool). (outcome_if b).round) e;
        refused_pays = λ fee_for e. ap (λ (b : Bool). pays (outcome_if b).answer (fee_for g.kinds round)) e;
      }
    where
      round : ℕ
      round = (returned g).round
