-- A study none of whose settings trims is ended by a run of the lent formula, so its rows are that formula's. Assumes nothing.
use Prim.Native.Nat.{ℕ, zero, suc, ◌*◌, ◌%◌, ◌≤◌}
use native.Mathlib.Omega.{arith}
use mathlib.Core.Path.{◌≡◌, refl, ap, subst, ◌∙◌}
use mathlib.Core.Bool.{Bool, true, false, ◌&&◌, ◌||◌, cond, true≢false, and-eq-true_iff}
use mathlib.Core.List.{List, [], ◌∷◌}
use lib.Dec.{eqb, leb}
use lib.IntN.{ℤ}
use lib.ListN.{length}
use borrow.Author.Tests.{eq-eqb, eqb-true, leb-true}
use Rattle.formula.specs.Formula.{max_rows, prefix}
use Rattle.preference.specs.Preference.{prefer}
use Rattle.rows.specs.Table.{room, table_fits}
use Rattle.rounds.specs.Run.{highest, Outcome}
use Rattle.engine.specs.Outcome.{Areas, Given, lent, side_fits, tables_fit, accepted, cause as run_cause, reached, reported, returned, given_up, after, left}
use Rattle.trimming_rules.specs.Proved.{Proved}
use Rattle.study.specs.declared.Setting.{Setting}
use Rattle.study.specs.Study.{settings_of, formula_of, preferences_of, given_of, cause, Ending, is_verdict, in_turn, studied}
use Rattle.study.proofs.SettingLaws.{length_settings}
use Rattle.study.proofs.CauseLaws.{some_setting, list_passes, each_accepted, trimming_proved, passes_if_none}
use Rattle.study.proofs.StudyRight.{Accepts, later_accepts}
use Rattle.witness_writing.specs.WitnessRight.{Untrimmed}
use Rattle.witness_writing.specs.Private.Steps.{Ran}
use Rattle.witness_writing.proofs.AnyRun.{Borne, borne_so, ran_so}

-- The run that ended a study.
record Ends (kinds : List ℕ) (literals : List ℤ) (e : Ending) : Type 0 where
  setting : Setting
  untrimmed : setting.trim ≡ 0
  before : Areas
  none : run_cause (given_of kinds literals setting before) ≡ 0
  result_so : e.result.outcome ≡ returned (given_of kinds literals setting before)
  left_so : e.areas_left ≡ left (given_of kinds literals setting before)

choose : {kinds : List ℕ} {literals : List ℤ} (b : Bool) {x y : Ending} → (b ≡ true → Ends kinds literals x) → (b ≡ false → Ends kinds literals y)
    → Ends kinds literals (cond b x y)
choose true on_x on_y = on_x refl
choose false on_x on_y = on_y refl

-- Where a study goes on a setting is left.
some_left : (v : Bool) (rest : List Setting) → (v || eqb (length rest) 0) ≡ false → 1 ≤ length rest
some_left true rest e = absurd (true≢false e)
some_left false [] e = absurd (true≢false e)
some_left false (s ∷ rest) e = omega arith

module _ (kinds : List ℕ) (literals : List ℤ) (trimming : Proved kinds literals) where
  turns_end : (ss : List Setting) (i : ℕ) (found : Areas) → Accepts kinds literals trimming ss found → Untrimmed ss → 1 ≤ length ss
      → Ends kinds literals (in_turn kinds literals ss i found)
  unfolding in_turn
  turns_end [] i found accepts lent_ones some_setting = absurd (omega (arith, some_setting))
  turns_end (s ∷ rest) i found accepts lent_ones some_setting =
      let g = given_of kinds literals s found in
      choose (is_verdict (returned g).answer || eqb (length rest) 0)
      (λ _. record { setting = s; untrimmed = lent_ones.0; before = found; none = accepts zero s refl; result_so = refl; left_so = refl })
      (λ more.
      turns_end rest (suc i) (left g) (later_accepts kinds literals trimming s rest found accepts) lent_ones.1
      (some_left (is_verdict (returned g).answer) rest more))

-- ---- a run that is accepted

rows_lent : (table : List ℕ) → table_fits table ≡ true → (1 ≤ room table) × (room table ≤ max_rows)
unfolding table_fits
rows_lent table e =
    let both = (and-eq-true_iff (leb 16 (length table) && leb (length table) (max_rows * 16)) (eqb (length table % 16) 0)).0 e in
    let sizes = (and-eq-true_iff (leb 16 (length table)) (leb (length table) (max_rows * 16))).0 both.0 in
    let least = leb-true 16 (length table) sizes.0 in
    let most = leb-true (length table) (max_rows * 16) sizes.1 in
    (omega arith, omega arith)

sides_fit : (A a_marks S s_marks : List ℕ) → tables_fit A a_marks S s_marks ≡ true → (table_fits A ≡ true) × (table_fits S ≡ true)
unfolding tables_fit side_fits
sides_fit A a_marks S s_marks e =
    let both = (and-eq-true_iff (side_fits A a_marks) (side_fits S s_marks)).0 e in
    (((and-eq-true_iff (table_fits A) _).0 both.0).0, ((and-eq-true_iff (table_fits S) _).0 both.1).0)

module _ (g : Given) (fine : accepted g ≡ true) where
  reported_so : returned g ≡ reported (prefix g.kinds) (reached g)
  unfolding returned
  reported_so = rw fine refl

  fitting : (table_fits g.found.universal_rows ≡ true) × (table_fits g.found.existential_rows ≡ true)
  fitting = sides_fit _ _ _ _ (passes_if_none g (eqb-true (run_cause g) 0 fine)).fits.tables

-- ---- the rows of the run that ended it

module _ {kinds : List ℕ} {literals : List ℤ} {e : Ending} (ends : Ends kinds literals e) where
  abbrev g : Given
  g = given_of kinds literals ends.setting ends.before

  fine : eqb (run_cause g) 0 ≡ true
  fine = eq-eqb (run_cause g) 0 ends.none

  lent_literals : formula_of ends.setting.trim kinds literals ≡ literals
  lent_literals = ap (λ (k : ℕ). formula_of k kinds literals) ends.untrimmed

  ended_borne : Borne kinds literals (reached g)
  ended_borne =
      let on_a = rows_lent ends.before.universal_rows (fitting g fine).0 in
      let on_s = rows_lent ends.before.existential_rows (fitting g fine).1 in
      subst (λ (x : List ℤ). Borne kinds x (reached g)) lent_literals
      (borne_so kinds (formula_of ends.setting.trim kinds literals) (prefer (preferences_of ends.setting.preference))
      (room ends.before.universal_rows)
      (room ends.before.existential_rows) ends.setting.clearing ends.setting.limit on_a.0 on_a.1 on_s.0 on_s.1)

  after_so : left g ≡ after g g.limit
  unfolding left
  after_so = rw fine refl

  -- What the rows were written over.
  abbrev over : Areas
  over = given_up (highest (lent g) g.limit) g.found

  ended_ran : Ran (reached g) e.result.outcome e.areas_left.universal_rows e.areas_left.existential_rows
  ended_ran =
      ran_so ended_borne (prefix kinds) over.universal_rows over.existential_rows (ends.result_so ∙ reported_so g fine)
      (ap (λ (a : Areas). a.universal_rows) (ends.left_so ∙ after_so)) (ap (λ (a : Areas). a.existential_rows) (ends.left_so ∙ after_so))

-- The outcome of a run of the lent formula, as the study returned and left it.
pub record Lent (kinds : List ℕ) (literals : List ℤ) (e : Ending) : Type 0 where
  pub end : Outcome
  pub ran : Ran end e.result.outcome e.areas_left.universal_rows e.areas_left.existential_rows
  pub borne : Borne kinds literals end

-- ---- the study

module _ (kinds : List ℕ) (literals : List ℤ) (settings : List ℕ) (found : Areas) (none : cause kinds literals settings found ≡ 0) where
  study_goes : in_turn kinds literals (settings_of settings) 0 found ≡ studied kinds literals settings found
  unfolding studied
  study_goes = rw none refl

  pub study_lent : Untrimmed (settings_of settings) → Lent kinds literals (studied kinds literals settings found)
  study_lent untrimmed =
      let some = some_setting settings (list_passes kinds literals settings found none) in
      let turns =
      turns_end kinds literals (trimming_proved kinds literals settings found none) (settings_of settings) 0 found
      (each_accepted kinds literals settings found none) untrimmed (omega (arith, length_settings settings, some)) in
      let ends = subst (Ends kinds literals) study_goes turns in
      record { end = _; ran = ended_ran ends; borne = ended_borne ends }
