-- The record of a decision is its study's, and the sheet takes it. Assumes nothing.
use Prim.Native.Nat.{ℕ, ◌≤◌}
use Rattle.std.specs.Prelude.{Ok}
use native.Mathlib.Omega.{arith}
use mathlib.Core.Path.{◌≡◌, refl, ap, ◌∙◌}
use mathlib.Core.Bool.{false}
use mathlib.Core.List.{List}
use Rattle.formula.specs.Causes.{cause_1}
use Rattle.rounds.specs.Run.{Answer as RunAnswer, is_false, is_true, spent, no_room_universal, no_room_existential}
use Rattle.engine.specs.declared.run.Answer.{Answer}
use Rattle.engine.specs.Outcome.{named, number_of}
use Rattle.fee.specs.Fee.{charged, fee}
use Rattle.report.specs.Record.{record_line}
use Rattle.decision.specs.declared.Decision.{Decision}
use Rattle.decision_record.specs.Recorded.{charge_line, line_for, recorded}
use Rattle.decision_record.specs.RecordedRight.{Recorded, RecordedRight}
use Rattle.decision_record.proofs.FeeLaws.{fee_small}

number_small : (a : RunAnswer) → number_of (named a) ≤ 4
number_small is_false = omega arith
number_small is_true = omega arith
number_small spent = omega arith
number_small no_room_universal = omega arith
number_small no_room_existential = omega arith

-- An answer has the line of its number.
line_named : (a : RunAnswer) (line rounds : ℕ) (kinds : List ℕ) → line_for (named a) line rounds kinds ≡ charge_line (number_of (named a)) rounds (charged kinds rounds)
line_named is_false line rounds kinds = refl
line_named is_true line rounds kinds = refl
line_named spent line rounds kinds = refl
line_named no_room_universal line rounds kinds = refl
line_named no_room_existential line rounds kinds = refl

is_charged : (kinds : List ℕ) (rounds : ℕ) → cause_1 kinds ≡ false → charged kinds rounds ≡ Ok (fee kinds rounds)
unfolding charged
is_charged kinds rounds known = rw known refl

module _ (d : Decision) (kinds : List ℕ) (a : RunAnswer) (answered : d.answer ≡ named a) (known : cause_1 kinds ≡ false) where
  is_line : recorded d kinds ≡ record_line (number_of d.answer) d.round (fee kinds d.round)
  unfolding recorded
  is_line =
      ap (λ (x : Answer). line_for x d.line d.round kinds) answered ∙ line_named a d.line d.round kinds
      ∙ rw (answered, is_charged kinds d.round known) refl

  few : number_of d.answer ≤ 4
  few = rw answered (number_small a)

  is_recorded : Recorded d kinds
  is_recorded =
      record {
        line_is = is_line;
        answer_known = few;
        fits = λ within. record {
          answer_fits = omega (arith, few);
          rounds_fit = omega (arith, within);
          fee_fits = omega (arith, fee_small kinds d.round known within);
        };
        fee_taken = λ within. omega (arith, fee_small kinds d.round known within);
      }

pub recorded_right : (d : Decision) (kinds : List ℕ) → RecordedRight d kinds
recorded_right d kinds a answered known = is_recorded d kinds a answered known
