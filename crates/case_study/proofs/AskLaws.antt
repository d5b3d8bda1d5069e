-- What asking a formula comes to, number for number. Assumes nothing.
use Prim.Native.Nat.{ℕ, ◌≤◌, ◌<◌}
use Rattle.std.specs.Prelude.{Option, Some, None}
use mathlib.Core.Path.{◌≡◌, refl, sym, ap, ◌∙◌}
use mathlib.Core.Bool.{Bool, true, false, not, cond, ◌&&◌}
use mathlib.Core.List.{List}
use lib.Dec.{leb}
use lib.IntN.{ℤ}
use borrow.Author.Tests.{lt-ltb, le-ltb, le-leb, lt-leb, eq-eqb, ne_eqb}
use Rattle.engine.specs.declared.run.Outcome.{Outcome}
use Rattle.engine.specs.Outcome.{Areas, areas, given, returned, left}
use Rattle.engine.specs.Ended.{Ended}
use Rattle.study.specs.declared.Setting.{Setting}
use Rattle.study.specs.Study.{preferences_of}
use Rattle.case_study.specs.declared.Progress.{Progress}
use Rattle.case_study.specs.declared.Reply.{Reply as Found}
use Rattle.case_study.specs.Cases.{State, state, up_to, larger, counted, is, sharing, Asked, asked, reply_of, is_reached, run_of, allowed_run, serves, after_judge, reply_to}
use Rattle.case_study.specs.Private.Path.{replied, asking_by, shares, shared_work}

-- ---- numbers

pub not_over : (most n : ℕ) → n ≤ most → n ≡ up_to most n
unfolding up_to
not_over most n h = sym (ap (λ (b : Bool). cond b n most) (le-leb n most h))

pub over : (most n : ℕ) → most < n → most ≡ up_to most n
unfolding up_to
over most n h = sym (ap (λ (b : Bool). cond b n most) (lt-leb n most h))

pub second_larger : (a b : ℕ) → a < b → b ≡ larger a b
unfolding larger
second_larger a b h = sym (ap (λ (t : Bool). cond t b a) (lt-ltb a b h))

pub first_larger : (a b : ℕ) → b ≤ a → a ≡ larger a b
unfolding larger
first_larger a b h = sym (ap (λ (t : Bool). cond t b a) (le-ltb a b h))

pub unbounded : (bound runs : ℕ) → bound ≡ 0 → false ≡ is_reached bound runs
unfolding is_reached
unbounded bound runs e = sym (ap (λ (b : Bool). not b && leb bound runs) (eq-eqb bound 0 e))

pub bound_reached : (bound runs : ℕ) → (bound ≡ 0 → ⊥) → bound ≤ runs → true ≡ is_reached bound runs
unfolding is_reached
bound_reached bound runs h l = sym (λ d. not (ne_eqb bound 0 h d) && le-leb bound runs l d)

pub bound_ahead : (bound runs : ℕ) → (bound ≡ 0 → ⊥) → runs < bound → false ≡ is_reached bound runs
unfolding is_reached
bound_ahead bound runs h l = sym (λ d. not (ne_eqb bound 0 h d) && lt-leb bound runs l d)

-- ---- rows that serve twice

module _ (kinds : List ℕ) (literals : List ℤ) (A S : List ℕ) (made : Progress) (work : List ℕ) where
  pub shares_at : (claim v : Bool) (r : Bool) (after : List ℕ) → claim ≡ v → r ≡ shares v kinds literals A S made work → after ≡ shared_work v kinds literals A S made work
      → (r ≡ shares claim kinds literals A S made work) × (after ≡ shared_work claim kinds literals A S made work)
  shares_at claim v r after e on_r on_after =
      (on_r ∙ ap (λ (c : Bool). shares c kinds literals A S made work) (sym e), on_after ∙ ap (λ (c : Bool). shared_work c kinds literals A S made work) (sym e))

-- ---- a run

pub ran : (s : Setting) (depth : ℕ) (kinds : List ℕ) (literals : List ℤ) (found : Areas) (made : Progress) (preferences : List ℕ) (o : Outcome) (exit : Areas) (reply : Found) (after : Progress)
    → preferences ≡ preferences_of s.preference → Ended (given kinds literals preferences found s.limit s.clearing) o exit
    → replied reply ≡ reply_of o.answer → after ≡ counted depth o made
    → asked (replied reply) (state exit after) ≡ run_of s depth kinds literals (state found made)
unfolding run_of
ran s depth kinds literals found made preferences o exit reply after on_preferences ended on_reply on_made =
    let g = given kinds literals preferences found s.limit s.clearing in
    (λ d. asked (on_reply d) (state (ended.left_so d) (on_made d)))
    ∙ (λ d. asked (reply_of (ended.returned_so d).answer) (state (left g) (counted depth (ended.returned_so d) made)))
    ∙ ap (λ (p : List ℕ). asked (reply_of (returned (given kinds literals p found s.limit s.clearing)).answer)
    (state (left (given kinds literals p found s.limit s.clearing)) (counted depth (returned (given kinds literals p found s.limit s.clearing)) made))) on_preferences

-- ---- the whole

module _ (s : Setting) (bound depth : ℕ) (claim : Option Bool) (kinds : List ℕ) (literals : List ℤ) (A a_marks a_counts S s_marks s_counts work : List ℕ) (made : Progress) where
  abbrev before : State
  before = state (areas A a_marks a_counts S s_marks s_counts work) made

  abbrev judged_then : List ℕ → State
  judged_then w = state (areas A a_marks a_counts S s_marks s_counts w) made

  by_claim : (v : Bool)
      → reply_to (sharing v) s bound depth kinds literals before
      ≡ cond (shares v kinds literals A S made work) (asked (is v) (judged_then (shared_work v kinds literals A S made work)))
      (allowed_run s bound depth kinds literals (judged_then (shared_work v kinds literals A S made work)))
  unfolding shares shared_work serves after_judge
  by_claim false = refl
  by_claim true = refl

  abbrev asked_by : Option Bool → Asked
  asked_by c = reply_to (asking_by c) s bound depth kinds literals before

  -- Without a claim nothing is judged.
  pub unclaimed : (w : List ℕ) → ((v : Bool) → claim ≡ Some v → ⊥) → w ≡ work → allowed_run s bound depth kinds literals (judged_then w) ≡ asked_by claim
  unclaimed w none on_work = by_case claim none
    where
      by_case : (c : Option Bool) → ((v : Bool) → c ≡ Some v → ⊥) → allowed_run s bound depth kinds literals (judged_then w) ≡ asked_by c
      by_case None h = ap (λ (u : List ℕ). allowed_run s bound depth kinds literals (judged_then u)) on_work
      by_case (Some v) h = absurd (h v refl)

  module _ (v : Bool) (on_claim : claim ≡ Some v) (shared : Bool) (w : List ℕ) (on_shared : shared ≡ shares v kinds literals A S made work)
      (on_work : w ≡ shared_work v kinds literals A S made work) where
    by_share : {b : Bool} → shared ≡ b → asked_by claim ≡ cond b (asked (is v) (judged_then w)) (allowed_run s bound depth kinds literals (judged_then w))
    by_share e =
        ap asked_by on_claim
        ∙ by_claim v
        ∙ (λ d. cond ((sym on_shared ∙ e) d) (asked (is v) (judged_then (sym on_work d))) (allowed_run s bound depth kinds literals (judged_then (sym on_work d))))

    pub shared_so : shared ≡ true → asked (is v) (judged_then w) ≡ asked_by claim
    shared_so e = sym (by_share e)

    pub unshared_so : (u : List ℕ) → u ≡ w → shared ≡ false → allowed_run s bound depth kinds literals (judged_then u) ≡ asked_by claim
    unshared_so u on_u e = ap (λ (l : List ℕ). allowed_run s bound depth kinds literals (judged_then l)) on_u ∙ sym (by_share e)
