-- What the cases tell is the verdict, and with no bound they tell one. Assumes nothing.
use Prim.Native.Nat.{ℕ, zero, suc, ◌-◌}
use mathlib.Core.Path.{◌≡◌, refl, sym, ap, subst, ◌∙◌}
use mathlib.Core.Bool.{Bool, true, false, cond, ◌&&◌, ◌||◌, and-true, and-false}
use mathlib.Core.List.{List, [], ◌∷◌}
use mathlib.Core.Option.{Option, none, some}
use lib.Dec.{eqb}
use lib.IntN.{ℤ}
use lib.ListN.{length}
use Rattle.formula.specs.Formula.{kind_of}
use Rattle.formula.specs.Causes.{any}
use Rattle.formula.specs.Meaning.{verdict}
use Rattle.case_rules.specs.Restricted.{IsAccepted, restricted}
use Rattle.case_rules.specs.ByCases.{by_kind, names_first}
use Rattle.case_rules.proofs.Proved.{by_first, passed_over}
use Rattle.study.specs.declared.Setting.{Setting}
use Rattle.study.proofs.CauseLaws.{Fits}
use Rattle.case_study.specs.Cases.{second_value, first_value, half, State, Reply, is, undecided, stopped, Asking, by_run, sharing, passing, reply_to, at_end}
use Rattle.case_study.specs.Cases.{Told, told, unless, agree, second_unless, both_cases, if_named, decide_by}
use Rattle.case_study.proofs.AcceptedLaws.{case_accepted, half_accepted, half_verdict}
use Rattle.case_study.proofs.ReplyLaws.{Tells, reply_tells, Going, Settles, reply_goes, end_reply}

-- A verdict is this one.
abbrev pub Says : Option Bool → Bool → Type 0
Says none v = Unit {0}
Says (some w) v = v ≡ w

-- ---- what is told is right

says_unless : (r : Reply) (st : State) (cases : State → Told) (v : Bool) → Tells r v → ((now : State) → Says (cases now).answer v) → Says (unless r st cases).answer v
says_unless (is w) st cases v h g = h
says_unless undecided st cases v h g = g st
says_unless stopped st cases v h g = tt

-- Values of both cases, and the verdict from them.
abbrev whole : ℕ → (Bool → Bool) → Bool
whole kind worth = by_kind (kind_of kind) (worth true) (worth false)

module _ (worth : Bool → Bool) (second : Bool → State → Told) where
  says_second : (kind : ℕ) (o : Option Bool) (st : State) → Says o (worth (first_value kind))
      → ((v : Bool) (now : State) → Says (second v now).answer (worth (second_value kind))) → Says (second_unless kind o st second).answer (whole kind worth)
  says_second kind none st h g = tt
  says_second zero (some true) st h g = ap (λ (b : Bool). b || worth false) h
  says_second zero (some false) st h g = subst (Says (second false st).answer) (sym (ap (λ (b : Bool). b || worth false) h)) (g false st)
  says_second (suc k) (some true) st h g =
      subst (Says (second true st).answer) (sym (ap (λ (b : Bool). worth true && b) h ∙ and-true (worth true))) (g true st)
  says_second (suc k) (some false) st h g = ap (λ (b : Bool). worth true && b) h ∙ and-false (worth true)

  says_both : (kind : ℕ) (first : Told) → Says first.answer (worth (first_value kind))
      → ((v : Bool) (now : State) → Says (second v now).answer (worth (second_value kind))) → Says (both_cases kind first second).answer (whole kind worth)
  says_both kind first h g = says_second kind first.answer first.state_then h g

module _ (s : Setting) (bound n : ℕ) where
  pub decide_says : (asking : Asking) (kinds : List ℕ) (literals : List ℤ) (st : State) → IsAccepted kinds literals
      → Says (decide_by s bound n asking kinds literals st).answer (verdict kinds literals)
  unfolding decide_by
  decide_says asking [] literals st a =
      let r = reply_to (at_end asking) s bound n [] literals st in
      says_unless r.reply r.state_then (told none) (verdict [] literals) (reply_tells s bound n [] literals (at_end asking) st) (λ _. tt)
  decide_says asking (kind ∷ kinds) literals st a =
      let r = reply_to asking s bound (n - length (kind ∷ kinds)) (kind ∷ kinds) literals st in
      says_unless r.reply r.state_then _ (verdict (kind ∷ kinds) literals) (reply_tells s bound (n - length (kind ∷ kinds)) (kind ∷ kinds) literals asking st)
      (λ now. by_name (λ how phi at h. decide_says how kinds phi at h) now (any names_first literals) refl)
    where
      Below : Type 0
      Below = (how : Asking) (phi : List ℤ) (at : State) → IsAccepted kinds phi → Says (decide_by s bound n how kinds phi at).answer (verdict kinds phi)

      worth : Bool → Bool
      worth v = verdict kinds (restricted (v ∷ []) literals)

      at_half : Below → (v : Bool) (how : Asking) (now : State) → Says (decide_by s bound n how kinds (half s kinds literals v) now).answer (worth v)
      at_half below v how now =
          subst (Says (decide_by s bound n how kinds (half s kinds literals v) now).answer) (half_verdict kind kinds literals a v s)
          (below how (half s kinds literals v) now (half_accepted kind kinds literals a v s))

      by_name : Below → (now : State) (b : Bool) → any names_first literals ≡ b
          → Says (if_named b
          (λ at. both_cases kind (decide_by s bound n by_run kinds (half s kinds literals (first_value kind)) at) (λ v later. decide_by s bound n (sharing v) kinds (half s kinds literals (second_value kind)) later))
          (λ at. decide_by s bound n passing kinds (restricted (second_value kind ∷ []) literals) at) now).answer (verdict (kind ∷ kinds) literals)
      by_name below now true e =
          subst (Says (both_cases kind (decide_by s bound n by_run kinds (half s kinds literals (first_value kind)) now) (λ v later. decide_by s bound n (sharing v) kinds (half s kinds literals (second_value kind)) later)).answer)
          (sym (by_first kind kinds literals))
          (says_both worth (λ v later. decide_by s bound n (sharing v) kinds (half s kinds literals (second_value kind)) later) kind (decide_by s bound n by_run kinds (half s kinds literals (first_value kind)) now)
          (at_half below (first_value kind) by_run now) (λ v later. at_half below (second_value kind) (sharing v) later))
      by_name below now false e =
          subst (Says (decide_by s bound n passing kinds (restricted (second_value kind ∷ []) literals) now).answer) (sym (passed_over kind kinds literals e (second_value kind)))
          (below passing (restricted (second_value kind ∷ []) literals) now (case_accepted kind kinds literals a (second_value kind)))

-- ---- with no bound there is a verdict

pub record Answers (t : Told) : Type 0 where
  pub value : Bool
  pub answer_so : t.answer ≡ some value
  pub fits : Fits t.state_then.areas_so

settles_unless : (r : Reply) (st : State) (cases : State → Told) → Settles r → Fits st.areas_so → Answers (unless r st cases)
settles_unless (is w) st cases h fits = record { value = w; answer_so = refl; fits = fits }
settles_unless undecided st cases h fits = absurd h
settles_unless stopped st cases h fits = absurd h

goes_unless : (r : Reply) (st : State) (cases : State → Told) → Going r → Fits st.areas_so → ((now : State) → Fits now.areas_so → Answers (cases now))
    → Answers (unless r st cases)
goes_unless (is w) st cases h fits g = record { value = w; answer_so = refl; fits = fits }
goes_unless undecided st cases h fits g = g st fits
goes_unless stopped st cases h fits g = absurd h

answers_both : (kind : ℕ) (first : Told) (second : Bool → State → Told) → Answers first → ((v : Bool) (now : State) → Fits now.areas_so → Answers (second v now))
    → Answers (both_cases kind first second)
answers_both kind first second h g =
    subst (λ (o : Option Bool). Answers (second_unless kind o first.state_then second)) (sym h.answer_so) (by_test (agree h.value (first_value kind)))
  where
    by_test : (b : Bool) → Answers (cond b (told (some h.value) first.state_then) (second h.value first.state_then))
    by_test true = record { value = h.value; answer_so = refl; fits = h.fits }
    by_test false = g h.value first.state_then h.fits

module _ (s : Setting) (some_round : eqb s.limit 0 ≡ false) (n : ℕ) where
  pub decide_answers : (asking : Asking) (kinds : List ℕ) (literals : List ℤ) (st : State) → IsAccepted kinds literals → Fits st.areas_so
      → Answers (decide_by s 0 n asking kinds literals st)
  unfolding decide_by
  decide_answers asking [] literals st a fits =
      let r = reply_to (at_end asking) s 0 n [] literals st in
      settles_unless r.reply r.state_then (told none) (end_reply s some_round n literals a asking st fits) (reply_goes s some_round n [] literals a (at_end asking) st fits).fits
  decide_answers asking (kind ∷ kinds) literals st a fits =
      let r = reply_to asking s 0 (n - length (kind ∷ kinds)) (kind ∷ kinds) literals st in
      let goes = reply_goes s some_round (n - length (kind ∷ kinds)) (kind ∷ kinds) literals a asking st fits in
      goes_unless r.reply r.state_then _ goes.going goes.fits (λ now fit. by_name (λ how phi at h f. decide_answers how kinds phi at h f) now fit (any names_first literals))
    where
      Below : Type 0
      Below = (how : Asking) (phi : List ℤ) (at : State) → IsAccepted kinds phi → Fits at.areas_so → Answers (decide_by s 0 n how kinds phi at)

      at_half : Below → (v : Bool) (how : Asking) (now : State) → Fits now.areas_so → Answers (decide_by s 0 n how kinds (half s kinds literals v) now)
      at_half below v how now fit = below how (half s kinds literals v) now (half_accepted kind kinds literals a v s) fit

      by_name : Below → (now : State) → Fits now.areas_so → (b : Bool)
          → Answers (if_named b
          (λ at. both_cases kind (decide_by s 0 n by_run kinds (half s kinds literals (first_value kind)) at) (λ v later. decide_by s 0 n (sharing v) kinds (half s kinds literals (second_value kind)) later))
          (λ at. decide_by s 0 n passing kinds (restricted (second_value kind ∷ []) literals) at) now)
      by_name below now fit true =
          answers_both kind (decide_by s 0 n by_run kinds (half s kinds literals (first_value kind)) now) (λ v later. decide_by s 0 n (sharing v) kinds (half s kinds literals (second_value kind)) later)
          (at_half below (first_value kind) by_run now fit) (λ v later f. at_half below (second_value kind) (sharing v) later f)
      by_name below now fit false = below passing (restricted (second_value kind ∷ []) literals) now (case_accepted kind kinds literals a (second_value kind)) fit
