-- A study none of whose settings trims is ended by a run of the lent formula, so its rows are that formula's. Assumes nothing.
use Prim.Native.Nat.{ℕ, zero, suc, ◌+◌, ◌≤◌, ◌<◌}
use Rattle.std.specs.Prelude.{Ok}
use native.Mathlib.Omega.{arith}
use mathlib.Core.Path.{◌≡◌, refl, ap, subst, ◌∙◌}
use mathlib.Core.Bool.{Bool, true, false, ◌||◌, cond, true≢false}
use mathlib.Core.List.{List, [], ◌∷◌}
use lib.Dec.{eqb}
use lib.IntN.{ℤ}
use lib.ListN.{length}
use borrow.Author.Tests.{eq-eqb}
use Rattle.formula.specs.Formula.{work_size, prefix}
use Rattle.formula.specs.Causes.{checked, sizes}
use Rattle.preference.specs.Preference.{prefer}
use Rattle.rows.specs.Table.{room}
use Rattle.rounds.specs.Run.{highest}
use Rattle.engine.specs.Outcome.{Areas, Given, lent, cause as run_cause, reached, returned, given_up, after, left}
use Rattle.trimming_rules.specs.Proved.{Proved}
use Rattle.certificate.specs.Private.Steps.{Ran}
use Rattle.certificate.proofs.AnyRun.{Borne, borne_so, ran_so}
use Rattle.study.specs.declared.Setting.{Setting}
use Rattle.study.specs.Study.{max_settings, settings_of, formula_of, preferences_of, given_of, unknown, cause_26, list_cause, cause, Ending, is_verdict, in_turn, studied}
use Rattle.study.proofs.CauseLaws.{each_accepted, trimming_proved}
use Rattle.study.proofs.StudyRight.{Accepts, later_accepts}
use Rattle.study_answer.specs.House.{own_areas}
use Rattle.study_answer.proofs.HouseLaws.{cause_left, rows_lent, reported_so, fitting}
use Rattle.study_certificate.specs.WitnessList.{witness_list, witness_study}
use Rattle.study_certificate.specs.Private.Steps.{Ready}

-- No setting of the list trims.
abbrev Untrimmed : List Setting → Type 0
Untrimmed [] = Unit {0}
Untrimmed (s ∷ rest) = (s.trim ≡ 0) × Untrimmed rest

-- The run that ended a study, and that its setting's number is below n.
record Ends (kinds : List ℕ) (literals : List ℤ) (n : ℕ) (e : Ending) : Type 0 where
  setting : Setting
  untrimmed : setting.trim ≡ 0
  before : Areas
  none : run_cause (given_of kinds literals setting before) ≡ 0
  result_so : e.result.outcome ≡ returned (given_of kinds literals setting before)
  left_so : e.areas_left ≡ left (given_of kinds literals setting before)
  in_list : e.result.setting < n

choose : {kinds : List ℕ} {literals : List ℤ} {n : ℕ} (b : Bool) {x y : Ending} → (b ≡ true → Ends kinds literals n x) → (b ≡ false → Ends kinds literals n y)
    → Ends kinds literals n (cond b x y)
choose true on_x on_y = on_x refl
choose false on_x on_y = on_y refl

-- Where a study goes on a setting is left.
some_left : (v : Bool) (rest : List Setting) → (v || eqb (length rest) 0) ≡ false → 1 ≤ length rest
some_left true rest e = absurd (true≢false e)
some_left false [] e = absurd (true≢false e)
some_left false (s ∷ rest) e = omega arith

module _ (kinds : List ℕ) (literals : List ℤ) (trimming : Proved kinds literals) where
  turns_end : (ss : List Setting) (i : ℕ) (found : Areas) → Accepts kinds literals trimming ss found → Untrimmed ss → 1 ≤ length ss
      → Ends kinds literals (i + length ss) (in_turn kinds literals ss i found)
  unfolding in_turn
  turns_end [] i found accepts lent_ones some_setting = absurd (omega (arith, some_setting))
  turns_end (s ∷ rest) i found accepts lent_ones some_setting =
      let g = given_of kinds literals s found in
      choose (is_verdict (returned g).answer || eqb (length rest) 0)
      (λ _.
      record {
        setting = s;
        untrimmed = lent_ones.0;
        before = found;
        none = accepts zero s refl;
        result_so = refl;
        left_so = refl;
        in_list = omega arith;
      })
      (λ more.
      let moved : suc i + length rest ≡ i + suc (length rest) = omega arith in
      subst (λ (n : ℕ). Ends kinds literals n (in_turn kinds literals rest (suc i) (left g))) moved
      (turns_end rest (suc i) (left g) (later_accepts kinds literals trimming s rest found accepts) lent_ones.1 (some_left (is_verdict (returned g).answer) rest more)))

-- ---- the rows of the run that ended it

module _ {kinds : List ℕ} {literals : List ℤ} {n : ℕ} {e : Ending} (ends : Ends kinds literals n e) where
  abbrev g : Given
  g = given_of kinds literals ends.setting ends.before

  fine : eqb (run_cause g) 0 ≡ true
  fine = eq-eqb (run_cause g) 0 ends.none

  lent_literals : formula_of ends.setting.trim kinds literals ≡ literals
  lent_literals = ap (λ (k : ℕ). formula_of k kinds literals) ends.untrimmed

  ended_borne : Borne kinds literals (reached g)
  ended_borne =
      let on_a = rows_lent ends.before.universal_rows (fitting g fine).0 in
      let on_s = rows_lent ends.before.existential_rows (fitting g fine).1 in
      subst (λ (x : List ℤ). Borne kinds x (reached g)) lent_literals
      (borne_so kinds (formula_of ends.setting.trim kinds literals) (prefer (preferences_of ends.setting.preference)) (room ends.before.universal_rows)
      (room ends.before.existential_rows) ends.setting.clearing ends.setting.limit on_a.0 on_a.1 on_s.0 on_s.1)

  after_so : left g ≡ after g g.limit
  unfolding left
  after_so = rw fine refl

  -- What the rows were written over.
  abbrev over : Areas
  over = given_up (highest (lent g) g.limit) g.found

  ended_ran : Ran (reached g) e.result.outcome e.areas_left.universal_rows e.areas_left.existential_rows
  ended_ran =
      ran_so ended_borne (prefix kinds) over.universal_rows over.existential_rows (ends.result_so ∙ reported_so g fine)
      (ap (λ (a : Areas). a.universal_rows) (ends.left_so ∙ after_so)) (ap (λ (a : Areas). a.existential_rows) (ends.left_so ∙ after_so))

-- The outcome of a run of the lent formula, as the study returned and left it.
pub record Lent (kinds : List ℕ) (literals : List ℤ) (e : Ending) : Type 0 where
  pub ready : Ready e.result e.areas_left.universal_rows e.areas_left.existential_rows
  pub borne : Borne kinds literals ready.end

-- ---- the list

list_fine : list_cause witness_list ≡ 0
unfolding list_cause cause_26 settings_of unknown
list_fine = refl

-- Every setting of the list is of the lent formula.
list_untrimmed : Untrimmed (settings_of witness_list)
unfolding settings_of
list_untrimmed = (refl, (refl, (refl, (refl, tt))))

-- There are no more than a study takes.
list_length : length (settings_of witness_list) ≤ max_settings
unfolding settings_of
list_length = omega arith

list_some : 1 ≤ length (settings_of witness_list)
unfolding settings_of
list_some = omega arith

-- ---- the study by the list

module _ (kinds : List ℕ) (literals : List ℤ) (work : List ℕ) (passes : checked kinds literals ≡ Ok (sizes kinds literals)) where
  abbrev stops : ℕ
  stops = cause kinds literals witness_list (own_areas work)

  pub none_stops : eqb (length work) work_size ≡ true → stops ≡ 0
  none_stops whole = cause_left witness_list list_fine kinds literals work passes ∙ ap (λ (b : Bool). cond b 0 5) whole

  pub stopped : eqb (length work) work_size ≡ false → stops ≡ 5
  stopped short = cause_left witness_list list_fine kinds literals work passes ∙ ap (λ (b : Bool). cond b 0 5) short

  study_goes : stops ≡ 0 → in_turn kinds literals (settings_of witness_list) 0 (own_areas work) ≡ witness_study kinds literals work
  unfolding studied
  study_goes none = rw none refl

  pub study_lent : eqb (length work) work_size ≡ true → Lent kinds literals (witness_study kinds literals work)
  study_lent whole =
      let none = none_stops whole in
      let ends =
      subst (Ends kinds literals (0 + length (settings_of witness_list))) (study_goes none)
      (turns_end kinds literals (trimming_proved kinds literals witness_list (own_areas work) none) (settings_of witness_list) 0 (own_areas work)
      (each_accepted kinds literals witness_list (own_areas work) none) list_untrimmed list_some) in
      record {
        ready = record { end = _; ran = ended_ran ends; in_list = omega (arith, ends.in_list, list_length) };
        borne = ended_borne ends;
      }
