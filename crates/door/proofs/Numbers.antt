-- What the door's number says holds for every text, work area and limit. Assumes nothing.
use Prim.Native.Nat.{ℕ, ◌+◌, ◌≤◌}
use native.Mathlib.Omega.{arith}
use mathlib.Core.Path.{◌≡◌, refl, sym, ap, subst, ◌∙◌}
use mathlib.Core.Logic.{◌≢◌}
use mathlib.Core.Bool.{Bool, true, false, not, cond}
use mathlib.Core.List.{List}
use lib.Dec.{eqb}
use lib.ListN.{length, replicate}
use Rattle.formula.specs.Formula.{max_unknowns, max_entries, max_rows, work_size}
use Rattle.formula.specs.Meaning.{verdict}
use Rattle.rounds.specs.Run.{spent, number}
use Rattle.engine.specs.Outcome.{Given, lent, cause, accepted, reached, after, left}
use Rattle.rounds.proofs.Verdict.{verdict_right}
use Rattle.rounds.proofs.Bounds.{spent_below_room}
use Rattle.text.specs.Reading.{Read, Result, taken, refused, text_read}
use Rattle.text.proofs.TextLaws.{Results, Passes, read_passes}
use Rattle.decision.specs.Decision.{handed_on, own_lent}
use Rattle.decision.proofs.DecisionLaws.{cause_so}
use Rattle.door.specs.Door.{run_number, number_back, work_back, answer, work_after}
use Rattle.door.specs.Numbers.{Verdict, NumbersRight}
use Rattle.door.proofs.NumberLaws.{number_small, number_2, number_1, number_0, run_numbered}
use Rattle.door.proofs.DoorLaws.{refused_of_text, refused_back}

-- By what a run's number is: an answer with the work area zero, or a cause with the work area as found.
module _ (g : Given) where
  run_zero : run_number g ≤ 4 → (left g).work ≡ replicate work_size 0
  unfolding left
  run_zero small = go (accepted g) refl
    where
      go : (b : Bool) → accepted g ≡ b → (cond b (after g g.limit) g.found).work ≡ replicate work_size 0
      go true e = refl
      go false e = absurd (omega (arith, run_numbered g false e))

  run_found : 100 ≤ run_number g → (left g).work ≡ g.found.work
  unfolding left
  run_found large = go (accepted g) refl
    where
      go : (b : Bool) → accepted g ≡ b → (cond b (after g g.limit) g.found).work ≡ g.found.work
      go true e = absurd (omega (arith, run_numbered g true e, number_small (reached g).answer))
      go false e = refl

  run_answered : run_number g ≤ 4 → number (reached g).answer ≡ run_number g
  run_answered small = go (accepted g) refl
    where
      go : (b : Bool) → accepted g ≡ b → number (reached g).answer ≡ run_number g
      go true e = sym (run_numbered g true e)
      go false e = absurd (omega (arith, run_numbered g false e))

  run_refused_or_answered : (a b : Bool) → cause g ≡ cond a 5 (cond b 6 0) → run_number g ≡ cond a 105 (cond b 106 (number (reached g).answer))
  run_refused_or_answered true b e = run_numbered g false (ap (λ (n : ℕ). eqb n 0) e) ∙ ap (λ (n : ℕ). 100 + n) e
  run_refused_or_answered false true e = run_numbered g false (ap (λ (n : ℕ). eqb n 0) e) ∙ ap (λ (n : ℕ). 100 + n) e
  run_refused_or_answered false false e = run_numbered g true (ap (λ (n : ℕ). eqb n 0) e)

module _ (text work : List ℕ) (limit : ℕ) where
  abbrev handed : Read → Given
  handed s = handed_on s.kinds s.literals work limit

  module _ (s : Read) (e : text_read text ≡ taken s) where
    answer_taken : answer text work limit ≡ run_number (handed s)
    unfolding answer
    answer_taken = ap (λ (r : Result). number_back r work limit) e

    work_taken : work_after text work limit ≡ (left (handed s)).work
    unfolding work_after
    work_taken = ap (λ (r : Result). work_back r work limit) e

    cause_taken : cause (handed s) ≡ cond (not (eqb (length work) work_size)) 5 (cond (eqb limit 0) 6 0)
    cause_taken = cause_so s.kinds s.literals work limit (subst (Results Passes) e (read_passes text max_unknowns max_entries max_unknowns)).accepted

    taken_number : answer text work limit ≡ cond (not (eqb (length work) work_size)) 105 (cond (eqb limit 0) 106 (number (reached (handed s)).answer))
    taken_number = answer_taken ∙ run_refused_or_answered (handed s) (not (eqb (length work) work_size)) (eqb limit 0) cause_taken

    taken_unspent : max_rows ≤ limit → answer text work limit ≢ number spent
    taken_unspent many is =
        let back : run_number (handed s) ≡ 2 = sym answer_taken ∙ is in
        let is_spent : (reached (handed s)).answer ≡ spent = number_2 (reached (handed s)).answer (run_answered (handed s) (omega arith) ∙ back) in
        let few = spent_below_room (own_lent s.kinds s.literals) limit (omega arith) refl is_spent in
        omega (arith, few)

    taken_true : answer text work limit ≡ 1 → Verdict text true
    unfolding verdict
    taken_true one =
        let back : run_number (handed s) ≡ 1 = sym answer_taken ∙ one in
        record {
          formula = s;
          read_so = e;
          right =
              (verdict_right (lent (handed s)) limit).only_true
              (number_1 (reached (handed s)).answer (run_answered (handed s) (omega arith) ∙ back));
        }

    taken_false : answer text work limit ≡ 0 → Verdict text false
    unfolding verdict
    taken_false none =
        let back : run_number (handed s) ≡ 0 = sym answer_taken ∙ none in
        record {
          formula = s;
          read_so = e;
          right =
              (verdict_right (lent (handed s)) limit).only_false
              (number_0 (reached (handed s)).answer (run_answered (handed s) (omega arith) ∙ back));
        }

  -- A text that is refused has no answer.
  refused_large : (n line : ℕ) → text_read text ≡ refused n line → 100 ≤ answer text work limit
  refused_large n line e = omega (arith, (refused_back text work limit n line e).0)

  by_reading : {P : Type 0} → ((s : Read) → text_read text ≡ taken s → P) → ((n line : ℕ) → text_read text ≡ refused n line → P) → P
  by_reading {P} when_taken when_refused = go (text_read text) refl
    where
      go : (r : Result) → text_read text ≡ r → P
      go (taken s) e = when_taken s e
      go (refused n line) e = when_refused n line e

  pub numbers_right : NumbersRight text work limit
  numbers_right =
      record {
        of_text = λ n line e. (sym (refused_back text work limit n line e).0, (refused_of_text text n line e).from_9, (refused_of_text text n line e).to_14, (refused_of_text text n line e).not_13);
        of_run = taken_number;
        never_spent = λ many is. by_reading (λ s e. taken_unspent s e many is) (λ n line e. absurd (omega (arith, refused_large n line e)));
        zero_after =
            λ small.
            by_reading (λ s e. work_taken s e ∙ run_zero (handed s) (omega (arith, answer_taken s e)))
            (λ n line e. absurd (omega (arith, refused_large n line e)));
        as_found =
            λ large.
            by_reading (λ s e. work_taken s e ∙ run_found (handed s) (omega (arith, answer_taken s e)))
            (λ n line e. sym (refused_back text work limit n line e).1);
        only_true = λ one. by_reading (λ s e. taken_true s e one) (λ n line e. absurd (omega (arith, refused_large n line e)));
        only_false = λ none. by_reading (λ s e. taken_false s e none) (λ n line e. absurd (omega (arith, refused_large n line e)));
      }

  -- What is returned and left, and what the number says of them.
  pub with_numbers : {r : ℕ} {w : List ℕ} → (r ≡ answer text work limit) × (w ≡ work_after text work limit)
      → (r ≡ answer text work limit) × ((w ≡ work_after text work limit) × NumbersRight text work limit)
  with_numbers e = (e.0, (e.1, numbers_right))
