-- What a formula is found to be is its verdict; and where the areas fit and there is no bound it is asked, and the areas fit again. Assumes nothing.
use Prim.Native.Nat.{ℕ, zero, suc, ◌≤◌}
use Rattle.std.specs.Prelude.{Result, Ok, Err}
use Rattle.cause.specs.declared.Cause.{Cause}
use native.Mathlib.Omega.{arith}
use mathlib.Core.Path.{◌≡◌, refl, sym, subst, ◌∙◌}
use mathlib.Core.Bool.{Bool, true, false, cond, true≢false, false≢true}
use mathlib.Core.List.{List, []}
use mathlib.Core.Option.{none}
use lib.Dec.{eqb}
use lib.IntN.{ℤ}
use lib.ListN.{length, replicate, length-replicate}
use borrow.Author.Tests.{eq-eqb, eqb-true}
use Rattle.formula.specs.Formula.{work_size, prefix}
use Rattle.formula.specs.Causes.{checked, cause_1, cause_2, cause_3}
use Rattle.formula.specs.Meaning.{verdict, bit}
use Rattle.preference.specs.Preference.{prefer}
use Rattle.rows.specs.Table.{room}
use Rattle.rounds.specs.Run.{is_false, is_true, spent, no_room_universal, no_room_existential, Answer as RunAnswer}
use Rattle.rounds.proofs.Verdict.{verdict_right}
use Rattle.engine.specs.declared.run.Answer.{Answer}
use Rattle.engine.specs.declared.run.Answer.TheVariants.{False, True, Spent, NoRoomUniversal, NoRoomExistential, Refused}
use Rattle.engine.specs.Outcome.{Areas, Given, lent, cause as run_cause, reached, named, reported, refusal, returned, left}
use Rattle.judge.specs.declared.Judgement.{Judgement}
use Rattle.judge.specs.declared.Judgement.TheVariants.{NotBorneOut, Accepted}
use Rattle.judge.specs.Judge.{cause as judge_cause, outcome as judged, work_after}
use Rattle.judge.proofs.Verdict.{accepted_is_verdict}
use Rattle.case_rules.specs.Restricted.{IsAccepted}
use Rattle.case_rules.specs.RunStudy.{answer_as}
use Rattle.case_rules.proofs.RunEnds.{run_ends}
use Rattle.study.specs.declared.Setting.{Setting}
use Rattle.study.specs.Study.{preferences_of}
use Rattle.study.specs.Private.Turns.{SameSizes}
use Rattle.study.proofs.CauseLaws.{Fits, passes_if_none, none_if_passes}
use Rattle.study.proofs.SizeLaws.{same_cause, left_sizes, fits_a, fits_s}
use Rattle.case_study.specs.Cases.{State, Reply, is, undecided, stopped, Asked, asked, reply_of, is_reached, run_given, run_of, allowed_run}
use Rattle.case_study.specs.Cases.{rows_for, count_for, is_accepted, serves, after_judge, Asking, by_run, sharing, passing, reply_to, at_end}
use Rattle.case_study.proofs.AcceptedLaws.{number_none}

-- ---- what is found is right

-- A verdict is this one.
abbrev pub Tells : Reply → Bool → Type 0
Tells (is w) v = v ≡ w
Tells undecided v = Unit {0}
Tells stopped v = Unit {0}

tells_named : (v : Bool) (a : RunAnswer) → (a ≡ is_true → v ≡ true) → (a ≡ is_false → v ≡ false) → Tells (reply_of (named a)) v
tells_named v is_false t f = f refl
tells_named v is_true t f = t refl
tells_named v spent t f = tt
tells_named v no_room_universal t f = tt
tells_named v no_room_existential t f = tt

pub run_tells : (g : Given) → Tells (reply_of (returned g).answer) (verdict g.kinds g.literals)
unfolding returned verdict
run_tells g = by_test (eqb (run_cause g) 0)
  where
    by_test : (b : Bool) → Tells (reply_of (cond b (reported (prefix g.kinds) (reached g)) (refusal (run_cause g))).answer) (verdict g.kinds g.literals)
    by_test true =
        let right = verdict_right (lent g) g.limit in
        tells_named (verdict g.kinds g.literals) (reached g).answer right.only_true right.only_false
    by_test false = tt

accepted_so : (j : Result Judgement Cause) → is_accepted j ≡ true → j ≡ Ok Accepted
accepted_so (Ok NotBorneOut) e = absurd (false≢true e)
accepted_so (Ok Accepted) e = refl
accepted_so (Err cause) e = absurd (false≢true e)

bit_same : (v w : Bool) → bit v ≡ bit w → v ≡ w
bit_same true true e = refl
bit_same true false e = let z : ◌≡◌ {A = ℕ} 1 0 = e in absurd (omega arith)
bit_same false true e = let z : ◌≡◌ {A = ℕ} 0 1 = e in absurd (omega arith)
bit_same false false e = refl

serves_verdict : (v : Bool) (kinds : List ℕ) (literals : List ℤ) (st : State) → serves v kinds literals st ≡ true → verdict kinds literals ≡ v
unfolding serves
serves_verdict v kinds literals st e =
    bit_same (verdict kinds literals) v
    (accepted_is_verdict kinds literals (bit v) (rows_for v st.areas_so) (count_for v st.made) st.areas_so.work
    (accepted_so (judged kinds literals (bit v) (rows_for v st.areas_so) (count_for v st.made) st.areas_so.work) e))

module _ (s : Setting) (bound depth : ℕ) (kinds : List ℕ) (literals : List ℤ) where
  allowed_tells : (st : State) → Tells (allowed_run s bound depth kinds literals st).reply (verdict kinds literals)
  unfolding run_of
  allowed_tells st = by_test (is_reached bound st.made.runs)
    where
      by_test : (b : Bool) → Tells (cond b (asked stopped st) (run_of s depth kinds literals st)).reply (verdict kinds literals)
      by_test true = tt
      by_test false = run_tells (run_given s kinds literals st.areas_so)

  pub reply_tells : (asking : Asking) (st : State) → Tells (reply_to asking s bound depth kinds literals st).reply (verdict kinds literals)
  reply_tells by_run st = allowed_tells st
  reply_tells (sharing v) st = by_test (serves v kinds literals st) refl
    where
      by_test : (b : Bool) → serves v kinds literals st ≡ b
          → Tells (cond b (asked (is v) (after_judge v kinds literals st)) (allowed_run s bound depth kinds literals (after_judge v kinds literals st))).reply (verdict kinds literals)
      by_test true e = serves_verdict v kinds literals st e
      by_test false e = allowed_tells (after_judge v kinds literals st)
  reply_tells passing st = tt

-- ---- with no bound every formula is asked

abbrev pub Going : Reply → Type 0
Going (is w) = Unit {0}
Going undecided = Unit {0}
Going stopped = ⊥

abbrev pub Settles : Reply → Type 0
Settles (is w) = Unit {0}
Settles undecided = ⊥
Settles stopped = ⊥

going_answer : (a : Answer) → Going (reply_of a)
going_answer True = tt
going_answer False = tt
going_answer Spent = tt
going_answer NoRoomUniversal = tt
going_answer NoRoomExistential = tt
going_answer (Refused n) = tt

settles_named : (a : RunAnswer) → (answer_as a ≡ none → ⊥) → Settles (reply_of (named a))
settles_named is_false h = tt
settles_named is_true h = tt
settles_named spent h = h refl
settles_named no_room_universal h = h refl
settles_named no_room_existential h = h refl

-- The areas fit again.
pub refit : (a b : Areas) → Fits a → SameSizes b a → Fits b
unfolding checked cause_1 cause_2 cause_3
refit a b fits same =
    let none : run_cause (record { kinds = []; literals = []; preferences = []; found = a; limit = 1; clear_every = 0 }) ≡ 0 =
    none_if_passes (record { kinds = []; literals = []; preferences = []; found = a; limit = 1; clear_every = 0 }) (record { formula = refl; fits = fits }) refl in
    (passes_if_none (record { kinds = []; literals = []; preferences = []; found = b; limit = 1; clear_every = 0 }) (same_cause [] [] [] b a 1 0 same ∙ none)).fits

judge_length : (found : Areas) (fits : Fits found) (kinds : List ℕ) (literals : List ℤ) (claim : ℕ) (rows : List ℕ) (count : ℕ)
    → length (work_after kinds literals claim rows count found.work) ≡ length found.work
unfolding work_after
judge_length found fits kinds literals claim rows count = by_test (eqb (judge_cause kinds literals claim rows count found.work) 0)
  where
    by_test : (b : Bool) → length (cond b (replicate work_size 0) found.work) ≡ length found.work
    by_test true = length-replicate {A = ℕ} work_size 0 ∙ sym (eqb-true (length found.work) work_size fits.work)
    by_test false = refl

pub judge_fits : (v : Bool) (kinds : List ℕ) (literals : List ℤ) (st : State) → Fits st.areas_so → Fits (after_judge v kinds literals st).areas_so
unfolding after_judge
judge_fits v kinds literals st fits =
    refit st.areas_so _ fits
    (record {
      universal_rows = refl;
      universal_marks = refl;
      universal_counts = refl;
      existential_rows = refl;
      existential_marks = refl;
      existential_counts = refl;
      work = judge_length st.areas_so fits kinds literals (bit v) (rows_for v st.areas_so) (count_for v st.made);
    })

-- What an accepted formula's run comes to.
module _ (s : Setting) (kinds : List ℕ) (literals : List ℤ) (a : IsAccepted kinds literals) (found : Areas) (fits : Fits found) (some_round : eqb s.limit 0 ≡ false) where
  abbrev g : Given
  g = run_given s kinds literals found

  pub run_accepted : run_cause g ≡ 0
  run_accepted = none_if_passes g (record { formula = number_none kinds literals a; fits = fits }) some_round

  pub run_fits : Fits (left g)
  run_fits = refit found (left g) fits (left_sizes g run_accepted)

pub some_limit : (n : ℕ) → eqb n 0 ≡ false → 1 ≤ n
some_limit zero e = absurd (true≢false e)
some_limit (suc n) e = omega arith

-- Where no unknown is left the run answers.
end_settles : (s : Setting) (literals : List ℤ) (a : IsAccepted [] literals) (found : Areas) → Fits found → eqb s.limit 0 ≡ false
    → Settles (reply_of (returned (run_given s [] literals found)).answer)
unfolding returned
end_settles s literals a found fits some_round =
    let g = run_given s [] literals found in
    let none = run_accepted s [] literals a found fits some_round in
    let rooms : (1 ≤ room found.universal_rows) × ((1 ≤ room found.existential_rows) × (1 ≤ s.limit)) =
    ((fits_a found fits).some_row, ((fits_s found fits).some_row, some_limit s.limit some_round)) in
    subst (λ (b : Bool). Settles (reply_of (cond b (reported (prefix g.kinds) (reached g)) (refusal (run_cause g))).answer)) (sym (eq-eqb (run_cause g) 0 none))
    (settles_named (reached g).answer
    (run_ends (λ _. prefer (preferences_of s.preference)) (λ _. room found.universal_rows) (λ _. room found.existential_rows) (λ _. s.clearing) (λ _. s.limit) (λ _. rooms) [] literals a))

pub record GoesOn (a : Asked) : Type 0 where
  pub going : Going a.reply
  pub fits : Fits a.state_then.areas_so

module _ (s : Setting) (some_round : eqb s.limit 0 ≡ false) (depth : ℕ) (kinds : List ℕ) (literals : List ℤ) (a : IsAccepted kinds literals) where
  allowed_goes : (st : State) → Fits st.areas_so → GoesOn (allowed_run s 0 depth kinds literals st)
  unfolding run_of is_reached
  allowed_goes st fits =
      record {
        going = going_answer (returned (run_given s kinds literals st.areas_so)).answer;
        fits = run_fits s kinds literals a st.areas_so fits some_round;
      }

  pub reply_goes : (asking : Asking) (st : State) → Fits st.areas_so → GoesOn (reply_to asking s 0 depth kinds literals st)
  reply_goes by_run st fits = allowed_goes st fits
  reply_goes (sharing v) st fits = by_test (serves v kinds literals st)
    where
      by_test : (b : Bool) → GoesOn (cond b (asked (is v) (after_judge v kinds literals st)) (allowed_run s 0 depth kinds literals (after_judge v kinds literals st)))
      by_test true = record { going = tt; fits = judge_fits v kinds literals st fits }
      by_test false = allowed_goes (after_judge v kinds literals st) (judge_fits v kinds literals st fits)
  reply_goes passing st fits = record { going = tt; fits = fits }

module _ (s : Setting) (some_round : eqb s.limit 0 ≡ false) (depth : ℕ) (literals : List ℤ) (a : IsAccepted [] literals) where
  allowed_settles : (st : State) → Fits st.areas_so → Settles (allowed_run s 0 depth [] literals st).reply
  unfolding run_of is_reached
  allowed_settles st fits = end_settles s literals a st.areas_so fits some_round

  pub end_reply : (asking : Asking) (st : State) → Fits st.areas_so → Settles (reply_to (at_end asking) s 0 depth [] literals st).reply
  end_reply by_run st fits = allowed_settles st fits
  end_reply (sharing v) st fits = by_test (serves v [] literals st)
    where
      by_test : (b : Bool) → Settles (cond b (asked (is v) (after_judge v [] literals st)) (allowed_run s 0 depth [] literals (after_judge v [] literals st))).reply
      by_test true = tt
      by_test false = allowed_settles (after_judge v [] literals st) (judge_fits v [] literals st fits)
  end_reply passing st fits = allowed_settles st fits
