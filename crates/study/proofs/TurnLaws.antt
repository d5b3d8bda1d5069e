-- What the functions of a study make, step by step: the setting's run, the runs in turn, the whole. Assumes nothing.
use Prim.Native.Nat.{ℕ, zero, suc, ◌+◌, ◌-◌, ◌*◌, ◌/◌, ◌≤◌, ◌<◌}
use Rattle.std.specs.Prelude.{⊤, Result, Err, Ok, is_ok, is_err, MatchResult, IsErrAnd}
use Rattle.std.specs.Result.{result_unwrap_or}
use Rattle.cause.specs.declared.Cause.{Cause}
use Rattle.cause.specs.Cause.{number as number_of_cause, caused, told, unless_cause}
use Rattle.cause.proofs.Numbers.{Known}
use native.Mathlib.Omega.{arith}
use native.Mathlib.Numerals.{add-one}
use mathlib.Core.Path.{◌≡◌, refl, sym, ap, subst, ◌∙◌}
use mathlib.Core.Bool.{Bool, true, false, not, ◌||◌, cond, true≢false}
use mathlib.Core.List.{List, [], ◌∷◌, ◌++◌}
use mathlib.Core.Logic.{◌⊎◌, inl, inr}
use mathlib.Core.Option.{some}
use lib.Dec.{eqb, ltb}
use lib.IntN.{ℤ}
use lib.ListN.{length, take, drop, get_elem?, length-append, length-drop}
use lib.Seq.{take_at}
use borrow.Author.Tests.{eq-eqb, ne_eqb, eqb-true, eqb-false, ltb-true, ltb-false, le-ltb}
use Rattle.formula.specs.Formula.{max_entries, prefix}
use Rattle.formula.specs.Causes.{any}
use Rattle.trimming_rules.specs.Trimming.{trimmed}
use Rattle.trimming.specs.Outcome.{cause as trim_cause, outcome, output_after, used}
use Rattle.rounds.specs.Run.{is_false, is_true, spent, no_room_universal, no_room_existential, number, Answer as RunAnswer}
use Rattle.engine.specs.declared.run.Answer.{Answer}
use Rattle.engine.specs.declared.run.Outcome.{Outcome}
use Rattle.engine.specs.Outcome.{Areas, Given, given, cause as run_cause, number_of, accepted, reached, named, reported, refusal, returned, after, left}
use Rattle.engine.specs.Ended.{Ended}
use Rattle.study.specs.declared.Setting.{Setting}
use Rattle.study.specs.declared.Studied.{Studied}
use Rattle.study.specs.Study.{settings_of, formula_of, preferences_of, given_of, trims, list_cause, cause, ending, is_verdict, in_turn, studied}
use Rattle.study.specs.StudyRight.{Studies}
use Rattle.study.specs.Private.Turns.{at_once, setting_at, formula_from, is_end, numbered, Holds, Ready, SameSizes}
use Rattle.study.proofs.SettingLaws.{length_settings, next_setting, setting_there}
use Rattle.study.proofs.CauseLaws.{tested, never_accepted, cause_tested, any_there, some_setting, some_round, cause_of_run, list_passes, each_accepted, formula_accepted, trimming_proved, passes}
use Rattle.study.proofs.SizeLaws.{same_cause}
use Rattle.study.proofs.StudyRight.{answered, study_right}

-- ---- a setting's run

pub lent_chosen : (n : ℕ) (literals trimmed_ones : List ℤ) → n ≡ 0 → literals ≡ formula_from n literals trimmed_ones
lent_chosen n literals trimmed_ones e = ap (λ (k : ℕ). formula_from k literals trimmed_ones) (sym e)

pub trimmed_chosen : (n : ℕ) (literals table : List ℤ) (entries : ℕ) → (n ≡ 0 → ⊥) → take (entries - 0) table ≡ formula_from n literals (take entries table)
trimmed_chosen zero literals table entries h = absurd (h refl)
trimmed_chosen (suc n) literals table entries h = let whole : entries - 0 ≡ entries = omega arith in ap (λ (k : ℕ). take k table) whole

chosen_formula : (n : ℕ) (kinds : List ℕ) (literals entries : List ℤ) → (not (eqb n 0) ≡ true → entries ≡ trimmed kinds literals)
    → formula_from n literals entries ≡ formula_of n kinds literals
chosen_formula zero kinds literals entries held = refl
chosen_formula (suc n) kinds literals entries held = held (ap not (ne_eqb (suc n) 0 (λ z. omega arith)))

-- What the table holds for the list, it holds for each of its settings.
pub holds_for : {kinds : List ℕ} {literals table : List ℤ} {entries : ℕ} (ss : List Setting) (i : ℕ) (s : Setting) → get_elem? ss i ≡ some s
    → Holds (any trims ss) kinds literals table entries → Holds (trims s) kinds literals table entries
holds_for ss i s there holds = record { inside = holds.inside; held = λ trimming. holds.held (any_there trims ss i s there trimming) }

pub setting_run : (kinds : List ℕ) (literals : List ℤ) (s : Setting) (found : Areas) (o : Outcome) (exit : Areas) (preferences : List ℕ) (formula table : List ℤ) (entries : ℕ)
    → preferences ≡ preferences_of s.preference → Holds (trims s) kinds literals table entries → formula ≡ formula_from s.trim literals (take entries table)
    → Ended (given kinds formula preferences found s.limit s.clearing) o exit → Ended (given_of kinds literals s found) o exit
setting_run kinds literals s found o exit preferences formula table entries on_preferences holds on_formula =
    let same : formula ≡ formula_of s.trim kinds literals =
    on_formula ∙ chosen_formula s.trim kinds literals (take entries table) holds.held in
    subst (λ (g : Given). Ended g o exit) (λ d. given kinds (same d) (on_preferences d) found s.limit s.clearing)

-- One byte or none.
pub lent_bytes : (p byte : ℕ) (n : ℕ) → (p < 256 → byte ≡ p) → n ≡ length (preferences_of p) → take (n - 0) (byte ∷ []) ≡ preferences_of p
unfolding preferences_of
lent_bytes p byte n on_byte on_length = by_test (ltb p 256) refl (omega (arith, on_length))
  where
    by_test : (b : Bool) → ltb p 256 ≡ b → n - 0 ≡ length (cond b (p ∷ []) []) → take (n - 0) (byte ∷ []) ≡ cond b (p ∷ []) []
    by_test true t e = ap (λ (k : ℕ). take k (byte ∷ [])) e ∙ ap (λ (x : ℕ). x ∷ []) (on_byte (ltb-true p 256 t))
    by_test false t e = ap (λ (k : ℕ). take k (byte ∷ [])) e

pub few_bytes : (p : ℕ) → length (preferences_of p) ≤ 1
unfolding preferences_of
few_bytes p = by_test (ltb p 256)
  where
    by_test : (b : Bool) → length (cond b (p ∷ []) []) ≤ 1
    by_test true = omega arith
    by_test false = omega arith

-- ---- the whole

-- The entries used, or none.
pub entries_used : (r : Result ℕ Cause) → result_unwrap_or r 0 ≡ used r
entries_used (Ok n) = refl
entries_used (Err cause) = refl

tested_so : (n of_list : ℕ) → eqb n 0 ≡ false → cond (eqb n 6) (numbered of_list) (Err n) ≡ numbered (cond (eqb n 6) of_list n)
tested_so n of_list other = by_test (eqb n 6)
  where
    by_test : (b : Bool) → cond b (numbered of_list) (Err n) ≡ numbered (cond b of_list n)
    by_test true = refl
    by_test false = sym (ap (λ (b : Bool). cond b (Ok tt) (Err n)) other)

-- The numbers of causes that are told.
pub numbered_so : (n : ℕ) → Known n → (r : Result ⊤ Cause) (q : Result ⊤ ℕ) (P : Cause → ℕ → Type 0) → ((cause : Cause) (m : ℕ) → P cause m → m ≡ number_of_cause cause)
    → r ≡ unless_cause n tt → MatchResult r (λ x. q ≡ Ok x) (λ cause. IsErrAnd q (P cause)) → q ≡ numbered n
numbered_so n known r q P so on_r mapped = by_test (eqb n 0) known (subst (λ (a : Result ⊤ Cause). MatchResult a (λ x. q ≡ Ok x) (λ cause. IsErrAnd q (P cause))) on_r mapped)
  where
    of_error : (q : Result ⊤ ℕ) → IsErrAnd q (P (caused n)) → number_of_cause (caused n) ≡ n → q ≡ Err n
    of_error (Ok x) e same = absurd e
    of_error (Err m) e same = ap Err (so (caused n) m e ∙ same)

    by_test : (b : Bool) → told {A = ℕ} (cond b (Ok 0) (Err (caused n))) ≡ n
        → MatchResult (cond b (Ok tt) (Err (caused n))) (λ x. q ≡ Ok x) (λ cause. IsErrAnd q (P cause)) → q ≡ cond b (Ok tt) (Err n)
    by_test true same e = e
    by_test false same e = of_error q e same

abbrev refused_number : Result ⊤ ℕ → ℕ
refused_number (Ok x) = 0
refused_number (Err n) = n

-- A number refused with is the cause's, and no cause's is 0.
pub refused_with : (n c : ℕ) (r : Result ⊤ ℕ) → r ≡ numbered n → r ≡ Err c → (c ≡ n) × (c ≡ 0 → ⊥)
refused_with n c r on_r is = by_test (eqb n 0) refl (sym on_r ∙ is)
  where
    by_test : (b : Bool) → eqb n 0 ≡ b → ◌≡◌ {A = Result ⊤ ℕ} (cond b (Ok tt) (Err n)) (Err c) → (c ≡ n) × (c ≡ 0 → ⊥)
    by_test true t e = absurd (true≢false (ap is_ok e))
    by_test false t e = let same : n ≡ c = ap refused_number e in (sym same, λ z. eqb-false n 0 t (same ∙ z))

pub not_refused : (n : ℕ) (r : Result ⊤ ℕ) → r ≡ numbered n → ((c : ℕ) → r ≡ Err c → ⊥) → n ≡ 0
not_refused n r on_r other = by_test (eqb n 0) refl
  where
    by_test : (b : Bool) → eqb n 0 ≡ b → n ≡ 0
    by_test true t = eqb-true n 0 t
    by_test false t = absurd (other n (on_r ∙ ap (λ (b : Bool). cond b (Ok tt) (Err n)) t))

module _ (kinds : List ℕ) (literals : List ℤ) (settings : List ℕ) (found : Areas) where
  module _ (o : Outcome) (exit : Areas) (test : Ended (tested kinds literals settings found) o exit) where
    pub untouched : exit ≡ found
    unfolding left
    untouched = test.left_so ∙ ap (λ (b : Bool). cond b (after (tested kinds literals settings found) 0) found) (never_accepted kinds literals settings found)

    pub first_cause : (n : ℕ) (r : Result ⊤ ℕ) → n ≡ number_of o.answer → r ≡ cond (eqb n 6) (numbered (list_cause settings)) (Err n)
        → r ≡ numbered (cause kinds literals settings found)
    first_cause n r on_number on_cause =
        let told : n ≡ run_cause (tested kinds literals settings found) =
        on_number ∙ test.numbered ∙ ap (λ (b : Bool). cond b (number (reached (tested kinds literals settings found)).answer) (run_cause (tested kinds literals settings found))) (never_accepted kinds literals settings found) in
        on_cause
        ∙ ap (λ (m : ℕ). cond (eqb m 6) (numbered (list_cause settings)) (Err m)) told
        ∙ tested_so (run_cause (tested kinds literals settings found)) (list_cause settings) (never_accepted kinds literals settings found)
        ∙ ap numbered (sym (cause_tested kinds literals settings found))

  pub refused_so : (c : ℕ) (r : Studied) (exit : Areas) → c ≡ cause kinds literals settings found → (c ≡ 0 → ⊥) → (r.outcome ≡ refusal c) × (r.setting ≡ 0) → exit ≡ found
      → Studies kinds literals settings found r exit
  unfolding studied
  refused_so c r exit on_cause applies is unmoved =
      let other : eqb (cause kinds literals settings found) 0 ≡ false = ne_eqb (cause kinds literals settings found) 0 (λ z. applies (on_cause ∙ z)) in
      record {
        studied_so =
            (λ d. ending ((is.0 ∙ ap refusal on_cause) d) (is.1 d) (unmoved d))
            ∙ sym (ap (λ (b : Bool). cond b (in_turn kinds literals (settings_of settings) 0 found) (ending (refusal (cause kinds literals settings found)) 0 found)) other);
        right = study_right kinds literals settings found;
        last = λ none. absurd (applies (on_cause ∙ none));
      }

  module _ (none : cause kinds literals settings found ≡ 0) where
    pub held : (trim : Bool) (lent table : List ℤ) (entries : ℕ) → length lent ≡ max_entries → entries ≡ used (outcome kinds literals lent)
        → table ≡ output_after kinds literals lent → Holds trim kinds literals table entries
    unfolding outcome output_after trim_cause
    held trim lent table entries long on_entries on_table =
        let fits = (trimming_proved kinds literals settings found none).no_more_entries in
        let few = (formula_accepted kinds literals settings found none).few_entries in
        let roomy : ltb (length lent) (length literals) ≡ false = le-ltb (length lent) (length literals) (omega arith) in
        let formula = (passes kinds literals settings found none).formula in
        let no_cause : trim_cause kinds literals lent ≡ 0 = λ d. cond (eqb (formula d) 0) (cond (roomy d) 15 0) (formula d) in
        let passed : eqb (trim_cause kinds literals lent) 0 ≡ true = eq-eqb (trim_cause kinds literals lent) 0 no_cause in
        let is_entries : entries ≡ length (trimmed kinds literals) =
        on_entries ∙ ap (λ (b : Bool). used (cond b (Ok (length (trimmed kinds literals))) (Err (caused (trim_cause kinds literals lent))))) passed in
        let is_table : table ≡ trimmed kinds literals ++ drop (length (trimmed kinds literals)) lent =
        on_table ∙ ap (λ (b : Bool). cond b (trimmed kinds literals ++ drop (length (trimmed kinds literals)) lent) lent) passed in
        record {
          inside = omega (arith, ap length is_table, length-append (trimmed kinds literals) (drop (length (trimmed kinds literals)) lent), length-drop (length (trimmed kinds literals)) lent);
          held = λ _. (λ d. take (is_entries d) (is_table d)) ∙ take_at (trimmed kinds literals) (drop (length (trimmed kinds literals)) lent) (length (trimmed kinds literals)) refl;
        }

    -- The runs in turn begin over the areas as the test left them, which is as they were found.
    pub ready : (present : Areas) (table : List ℤ) (entries : ℕ) → present ≡ found → Holds (any trims (settings_of settings)) kinds literals table entries
        → Ready kinds literals settings present table entries
    ready present table entries unmoved holds =
        record {
          listed = list_passes kinds literals settings found none;
          known = λ _. subst (λ (a : Areas). cause kinds literals settings a ≡ 0) (sym unmoved) none;
          holds = holds;
        }

pub studies_found : {kinds : List ℕ} {literals : List ℤ} {settings : List ℕ} {present found : Areas} {r : Studied} {exit : Areas} → present ≡ found
    → Studies kinds literals settings present r exit → Studies kinds literals settings found r exit
studies_found {kinds} {literals} {settings} {r = r} {exit} unmoved = subst (λ (a : Areas). Studies kinds literals settings a r exit) unmoved

-- Whether the list is refused.
pub list_refused : (n : ℕ) (r : Result ⊤ Cause) (b : Bool) → r ≡ unless_cause n tt → is_err r ≡ b → eqb n 0 ≡ not b
list_refused n r b on_r is = by_test (eqb n 0) (sym (ap is_err on_r) ∙ is)
  where
    by_test : (c : Bool) → is_err {T = ⊤} {E = Cause} (cond c (Ok tt) (Err (caused n))) ≡ b → c ≡ not b
    by_test true e = ap not e
    by_test false e = ap not e

pub at_once_by : (settings : List ℕ) {none trim : Bool} → eqb (list_cause settings) 0 ≡ none → any trims (settings_of settings) ≡ trim
    → at_once settings ≡ cond none (not trim) false
unfolding at_once
at_once_by settings on_cause on_trim = λ d. cond (on_cause d) (not (on_trim d)) false

pub ready_at_once : (kinds : List ℕ) (literals : List ℤ) (settings : List ℕ) (found : Areas) → at_once settings ≡ true → Ready kinds literals settings found [] 0
unfolding at_once
ready_at_once kinds literals settings found e =
    let told = both (eqb (list_cause settings) 0) (any trims (settings_of settings)) e in
    record {
      listed = eqb-true (list_cause settings) 0 told.0;
      known = λ trimming. absurd (true≢false (sym trimming ∙ told.1));
      holds = record { inside = omega arith; held = λ trimming. absurd (true≢false (sym trimming ∙ told.1)) };
    }
  where
    both : (a b : Bool) → cond a (not b) false ≡ true → (a ≡ true) × (b ≡ false)
    both true true e = absurd (true≢false (sym e))
    both true false e = (refl, refl)
    both false b e = absurd (true≢false (sym e))

-- ---- the runs in turn

-- Without an end a study is over where no setting is left.
pub over_if_last : (a : Answer) (b : Bool) → is_end a ≡ false → b ≡ (is_end a || b)
over_if_last a b none = ap (λ (v : Bool). v || b) (sym none)

-- A run's own answer ends the study where it is a verdict.
end_is_verdict : (a : RunAnswer) → is_end (named a) ≡ is_verdict (named a)
end_is_verdict is_false = refl
end_is_verdict is_true = refl
end_is_verdict spent = refl
end_is_verdict no_room_universal = refl
end_is_verdict no_room_existential = refl

-- The runs made so far have ended in no verdict: what is left of the study is that from this place on, over the areas as they are. A run was made only
-- if no cause applies.
pub record Going (kinds : List ℕ) (literals : List ℤ) (settings : List ℕ) (found present : Areas) (at : ℕ) : Type 0 where
  pub below : at < length settings / 4
  pub same : in_turn kinds literals (settings_of settings) 0 found ≡ in_turn kinds literals (settings_of (drop (4 * at) settings)) at present
  pub sizes : SameSizes present found
  pub begun : (cause kinds literals settings found ≡ 0) ⊎ ((at ≡ 0) × (present ≡ found))

-- The outcome of a run is the study's refusal, and nothing has changed.
record Refusing (kinds : List ℕ) (literals : List ℤ) (settings : List ℕ) (found : Areas) (at : ℕ) (o : Outcome) (exit : Areas) : Type 0 where
  applies : cause kinds literals settings found ≡ 0 → ⊥
  first : at ≡ 0
  refused : o ≡ refusal (cause kinds literals settings found)
  unmoved : exit ≡ found

module _ (kinds : List ℕ) (literals : List ℤ) (settings : List ℕ) (found : Areas) (table : List ℤ) (entries : ℕ) (set : Ready kinds literals settings found table entries) where
  pub going_from_start : Going kinds literals settings found found 0
  going_from_start =
      record {
        below = omega (arith, some_setting settings set.listed);
        same = refl;
        sizes =
            record {
              universal_rows = refl;
              universal_marks = refl;
              universal_counts = refl;
              existential_rows = refl;
              existential_marks = refl;
              existential_counts = refl;
              work = refl;
            };
        begun = inr (refl, refl);
      }

  module _ (present : Areas) (at : ℕ) (going : Going kinds literals settings found present at) (s : Setting) (read : s ≡ setting_at settings at) where
    there : get_elem? (settings_of settings) at ≡ some s
    there = setting_there settings at going.below ∙ sym (ap some read)

    pub holds_here : Holds (trims s) kinds literals table entries
    holds_here = holds_for (settings_of settings) at s there set.holds

  module _ (present : Areas) (at : ℕ) (going : Going kinds literals settings found present at) (s : Setting) (read : s ≡ setting_at settings at) (o : Outcome)
      (exit : Areas) (ended : Ended (given_of kinds literals s present) o exit) where
    abbrev rest : List Setting
    rest = settings_of (drop (4 * (at + 1)) settings)

    abbrev g : Given
    g = given_of kinds literals s present

    -- If a cause applies, the list does not trim, and the first run is refused for it.
    refusing : (cause kinds literals settings found ≡ 0 → ⊥) → (at ≡ 0) × (present ≡ found) → Refusing kinds literals settings found at o exit
    unfolding returned left
    refusing applies start =
        let lent_one : s.trim ≡ 0 = as_lent s.trim (λ trimming. applies (set.known (any_there trims (settings_of settings) at s (there present at going s read) trimming))) in
        let is_cause : run_cause g ≡ cause kinds literals settings found =
        (λ d. run_cause (given kinds (formula_of (lent_one d) kinds literals) (preferences_of s.preference) (start.1 d) s.limit s.clearing))
        ∙ cause_of_run settings set.listed kinds literals found (preferences_of s.preference) s.limit s.clearing
        (some_round settings set.listed at s (there present at going s read)) in
        let other : accepted g ≡ false = ne_eqb (run_cause g) 0 (λ z. applies (sym is_cause ∙ z)) in
        record {
          applies = applies;
          first = start.0;
          refused =
              ended.returned_so ∙ ap (λ (b : Bool). cond b (reported (prefix kinds) (reached g)) (refusal (run_cause g))) other ∙ ap refusal is_cause;
          unmoved = ended.left_so ∙ ap (λ (b : Bool). cond b (after g s.limit) present) other ∙ start.1;
        }
      where
        as_lent : (n : ℕ) → (not (eqb n 0) ≡ true → ⊥) → n ≡ 0
        as_lent zero h = refl
        as_lent (suc n) h = absurd (h (ap not (ne_eqb (suc n) 0 (λ z. omega arith))))

    by_cause : (cause kinds literals settings found ≡ 0) ⊎ Refusing kinds literals settings found at o exit
    by_cause = by_test (eqb (cause kinds literals settings found) 0) refl going.begun
      where
        by_test : (b : Bool) → eqb (cause kinds literals settings found) 0 ≡ b → (cause kinds literals settings found ≡ 0) ⊎ ((at ≡ 0) × (present ≡ found))
            → (cause kinds literals settings found ≡ 0) ⊎ Refusing kinds literals settings found at o exit
        by_test true e start = inl (eqb-true (cause kinds literals settings found) 0 e)
        by_test false e (inl none) = inl none
        by_test false e (inr start) = inr (refusing (eqb-false (cause kinds literals settings found) 0 e) start)

    accepted_here : cause kinds literals settings found ≡ 0 → run_cause g ≡ 0
    accepted_here none =
        same_cause kinds (formula_of s.trim kinds literals) (preferences_of s.preference) present found s.limit s.clearing going.sizes
        ∙ each_accepted kinds literals settings found none at s (there present at going s read)

    -- No setting is left where the next number is theirs.
    none_left : eqb (length rest) 0 ≡ eqb (at + 1) (length settings / 4)
    none_left = by_test (eqb (at + 1) (length settings / 4)) refl
      where
        by_test : (b : Bool) → eqb (at + 1) (length settings / 4) ≡ b → eqb (length rest) 0 ≡ b
        by_test true e =
            let all = eqb-true (at + 1) (length settings / 4) e in
            eq-eqb (length rest) 0 (omega (arith, length_settings (drop (4 * (at + 1)) settings), length-drop (4 * (at + 1)) settings))
        by_test false e =
            ne_eqb (length rest) 0 (λ z. eqb-false (at + 1) (length settings / 4) e (omega (arith, going.below, length_settings (drop (4 * (at + 1)) settings), length-drop (4 * (at + 1)) settings)))

    module _ (none : cause kinds literals settings found ≡ 0) where
      over_so : {b : Bool} → (is_end o.answer || eqb (at + 1) (length settings / 4)) ≡ b → (is_verdict (returned g).answer || eqb (length rest) 0) ≡ b
      over_so e =
          let of_run = answered g (accepted_here none) in
          let same : is_verdict (returned g).answer ≡ is_end o.answer =
          ap is_verdict of_run ∙ sym (end_is_verdict (reached g).answer) ∙ sym (ap is_end (ap (λ (x : Outcome). x.answer) ended.returned_so ∙ of_run)) in
          (λ d. same d || none_left d) ∙ e

      -- The study from the start, by what this run comes to.
      from_here : {b : Bool} → (is_end o.answer || eqb (at + 1) (length settings / 4)) ≡ b
          → in_turn kinds literals (settings_of settings) 0 found ≡ cond b (ending (returned g) at (left g)) (in_turn kinds literals rest (suc at) (left g))
      unfolding in_turn
      from_here e =
          going.same
          ∙ ap (λ (ss : List Setting). in_turn kinds literals ss at present) (next_setting settings at going.below)
          ∙ ap (λ (t : Setting). in_turn kinds literals (t ∷ rest) at present) (sym read)
          ∙ ap (λ (c : Bool). cond c (ending (returned g) at (left g)) (in_turn kinds literals rest (suc at) (left g))) (over_so e)

      answered_so : (is_end o.answer || eqb (at + 1) (length settings / 4)) ≡ true
          → Studies kinds literals settings found (record { outcome = o; setting = at }) exit
      unfolding studied
      answered_so over =
          record {
            studied_so =
                (λ d. ending (ended.returned_so d) at (ended.left_so d))
                ∙ sym (from_here over)
                ∙ sym (ap (λ (b : Bool). cond b (in_turn kinds literals (settings_of settings) 0 found) (ending (refusal (cause kinds literals settings found)) 0 found)) (eq-eqb (cause kinds literals settings found) 0 none));
            right = study_right kinds literals settings found;
            last =
                λ _.
                record {
                  setting = s;
                  listed = there present at going s read;
                  found = present;
                  accepted_run = eq-eqb (run_cause g) 0 (accepted_here none);
                  ended = ended;
                };
          }

    pub turned : (is_end o.answer || eqb (at + 1) (length settings / 4)) ≡ true
        → Studies kinds literals settings found (record { outcome = o; setting = at }) exit
    turned over = by_case by_cause
      where
        by_case : (cause kinds literals settings found ≡ 0) ⊎ Refusing kinds literals settings found at o exit
            → Studies kinds literals settings found (record { outcome = o; setting = at }) exit
        by_case (inl none) = answered_so none over
        by_case (inr r) =
            refused_so kinds literals settings found (cause kinds literals settings found) (record { outcome = o; setting = at }) exit refl r.applies
            (r.refused, r.first) r.unmoved

    pub goes_on : (is_end o.answer || eqb (at + 1) (length settings / 4)) ≡ false → SameSizes exit found → Going kinds literals settings found exit (at + 1)
    goes_on more sizes = by_case by_cause
      where
        second : (a b : Bool) → (a || b) ≡ false → b ≡ false
        second true b e = absurd (true≢false e)
        second false b e = e

        below_if_not : (m n : ℕ) → m ≤ n → (m ≡ n → ⊥) → m < n
        below_if_not m n h differ = by_test (ltb m n) refl
          where
            by_test : (b : Bool) → ltb m n ≡ b → m < n
            by_test true t = ltb-true m n t
            by_test false t = absurd (differ (omega (arith, ltb-false m n t)))

        by_case : (cause kinds literals settings found ≡ 0) ⊎ Refusing kinds literals settings found at o exit → Going kinds literals settings found exit (at + 1)
        by_case (inl none) =
            let not_last = eqb-false (at + 1) (length settings / 4) (second (is_end o.answer) (eqb (at + 1) (length settings / 4)) more) in
            record {
              below = below_if_not (at + 1) (length settings / 4) (omega (arith, going.below)) not_last;
              same = from_here none more ∙ (λ d. in_turn kinds literals rest (sym (add-one at) d) (sym ended.left_so d));
              sizes = sizes;
              begun = inl none;
            }
        by_case (inr r) =
            absurd (true≢false (ap (λ (x : Outcome). is_end x.answer || eqb (at + 1) (length settings / 4)) (sym r.refused) ∙ more))
