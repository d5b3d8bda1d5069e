-- What the run that gave a study's outcome says of its counts, its setting and its limit. Assumes nothing.
use Prim.Native.Nat.{ℕ, zero, suc, ◌*◌, ◌%◌, ◌≤◌, ◌<◌}
use native.Mathlib.Omega.{arith}
use mathlib.Core.Path.{◌≡◌, refl, sym, ap, subst, ◌∙◌}
use mathlib.Core.Logic.{◌≢◌}
use mathlib.Core.Bool.{Bool, true, false, not, ◌||◌, cond, ◌&&◌, and-eq-true_iff}
use mathlib.Core.List.{List, [], ◌∷◌}
use mathlib.Core.Option.{some, none-ne-some}
use borrow.Author.Tests.{eqb-true, eqb-false, ltb-false, leb-true}
use lib.Dec.{eqb, ltb, leb}
use lib.IntN.{ℤ}
use lib.ListN.{length, get_elem?}
use Rattle.formula.specs.Formula.{max_rows, universal, existential, prefix}
use Rattle.formula.specs.Causes.{any}
use Rattle.rows.specs.Table.{room, table_fits}
use Rattle.rounds.specs.Run.{is_false, is_true, spent, no_room_universal, no_room_existential, Answer as RunAnswer}
use Rattle.rounds.proofs.Bounds.{count_in_room, next_round_in_room}
use Rattle.trimming_rules.specs.Proved.{Proved}
use Rattle.engine.specs.declared.run.Answer.TheVariants.{Spent}
use Rattle.engine.specs.declared.run.Outcome.{Outcome}
use Rattle.engine.specs.Outcome.{Areas, Given, lent, side_fits, tables_fit, cause as run_cause, reached, named, reported, refusal, returned, left}
use Rattle.study.specs.declared.Setting.{Setting}
use Rattle.study.specs.declared.Studied.{Studied}
use Rattle.study.specs.Study.{Ending, ending, settings_of, given_of, unknown, no_round, cause_26, list_cause, cause, is_verdict, in_turn, studied}
use Rattle.study.specs.StudyRight.{Studies}
use Rattle.study.proofs.SettingLaws.{length_settings}
use Rattle.study.proofs.CauseLaws.{passes_if_none, list_passes, each_accepted, trimming_proved}
use Rattle.study.proofs.StudyRight.{answered, Accepts, later_accepts}
use Rattle.decision.specs.Private.Steps.{Small}

pub rows_lent : (table : List ℕ) → table_fits table ≡ true → (1 ≤ room table) × (room table ≤ max_rows)
unfolding table_fits
rows_lent table e =
    let both = (and-eq-true_iff (leb 16 (length table) && leb (length table) (max_rows * 16)) (eqb (length table % 16) 0)).0 e in
    let sizes = (and-eq-true_iff (leb 16 (length table)) (leb (length table) (max_rows * 16))).0 both.0 in
    let least = leb-true 16 (length table) sizes.0 in
    let most = leb-true (length table) (max_rows * 16) sizes.1 in
    (omega arith, omega arith)

sides_fit : (A a_marks S s_marks : List ℕ) → tables_fit A a_marks S s_marks ≡ true → (table_fits A ≡ true) × (table_fits S ≡ true)
unfolding tables_fit side_fits
sides_fit A a_marks S s_marks e =
    let both = (and-eq-true_iff (side_fits A a_marks) (side_fits S s_marks)).0 e in
    (((and-eq-true_iff (table_fits A) _).0 both.0).0, ((and-eq-true_iff (table_fits S) _).0 both.1).0)

named_spent : (a : RunAnswer) → named a ≡ Spent → a ≡ spent
named_spent spent e = refl
named_spent is_false e = let z : ◌≡◌ {A = ℕ} 0 1 = cc e in absurd (omega arith)
named_spent is_true e = let z : ◌≡◌ {A = ℕ} 0 1 = cc e in absurd (omega arith)
named_spent no_room_universal e = let z : ◌≡◌ {A = ℕ} 0 1 = cc e in absurd (omega arith)
named_spent no_room_existential e = let z : ◌≡◌ {A = ℕ} 0 1 = cc e in absurd (omega arith)

module _ (g : Given) (none : run_cause g ≡ 0) where
  pub reported_so : returned g ≡ reported (prefix g.kinds) (reached g)
  unfolding returned
  reported_so = rw none refl

  pub fitting : (table_fits g.found.universal_rows ≡ true) × (table_fits g.found.existential_rows ≡ true)
  fitting = sides_fit _ _ _ _ (passes_if_none g none).fits.tables

  pub few_universal : (returned g).universal ≤ max_rows
  few_universal =
      let rows = rows_lent g.found.universal_rows fitting.0 in
      subst (λ (o : Outcome). o.universal ≤ max_rows) (sym reported_so)
      (omega (arith, count_in_room (lent g) g.limit universal rows.0, rows.1))

  pub few_existential : (returned g).existential ≤ max_rows
  few_existential =
      let rows = rows_lent g.found.existential_rows fitting.1 in
      subst (λ (o : Outcome). o.existential ≤ max_rows) (sym reported_so)
      (omega (arith, count_in_room (lent g) g.limit existential rows.0, rows.1))

  unspent : max_rows < g.limit → (returned g).answer ≢ Spent
  unspent many is =
      let rows = rows_lent g.found.existential_rows fitting.1 in
      let is_spent = named_spent (reached g).answer (sym (answered g none) ∙ is) in
      let most = next_round_in_room (lent g) g.limit rows.0 is_spent in
      omega (arith, most, rows.1, many)

-- ---- the setting's place

below_length : {A : Type 0} (l : List A) (i : ℕ) {x : A} → get_elem? l i ≡ some x → i < length l
below_length [] i e = absurd (none-ne-some _ e)
below_length (y ∷ l) zero e = omega arith
below_length (y ∷ l) (suc i) e = omega (arith, below_length l i e)

not_long : (empty long fours strange unlimited : Bool) → ◌≡◌ {A = ℕ} (cond (empty || (long || (not fours || strange))) 26 (cond unlimited 6 0)) 0 → long ≡ false
not_long true long fours strange unlimited e = let z : ◌≡◌ {A = ℕ} 26 0 = e in absurd (omega arith)
not_long false true fours strange unlimited e = let z : ◌≡◌ {A = ℕ} 26 0 = e in absurd (omega arith)
not_long false false fours strange unlimited e = refl

few_numbers : (settings : List ℕ) → list_cause settings ≡ 0 → length settings ≤ 32
unfolding list_cause cause_26
few_numbers settings none =
    ltb-false 32 (length settings)
    (not_long (eqb (length settings) 0) (ltb 32 (length settings)) (eqb (length settings % 4) 0) (any unknown (settings_of settings))
    (any no_round (settings_of settings)) none)

-- ---- what a study returns is small

module _ {kinds : List ℕ} {literals : List ℤ} {settings : List ℕ} {found : Areas} {r : Studied} {exit : Areas} (s : Studies kinds literals settings found r exit) where
  small_last : cause kinds literals settings found ≡ 0 → Small r
  small_last none =
      let l = s.last none in
      let g = given_of kinds literals l.setting l.found in
      let fine = eqb-true (run_cause g) 0 l.accepted_run in
      let same : r.outcome ≡ returned g = l.ended.returned_so in
      record {
        universal = omega (arith, few_universal g fine, ap (λ (o : Outcome). o.universal) same);
        existential = omega (arith, few_existential g fine, ap (λ (o : Outcome). o.existential) same);
        setting =
            omega
            (arith, below_length (settings_of settings) r.setting l.listed, length_settings settings, few_numbers settings (list_passes kinds literals settings found none));
      }

  small_refused : (cause kinds literals settings found ≡ 0 → ⊥) → Small r
  unfolding studied
  small_refused applies =
      let c = cause kinds literals settings found in
      let is : ending r.outcome r.setting exit ≡ ending (refusal c) 0 found =
      s.studied_so ∙ ap (λ (b : Bool). cond b (in_turn kinds literals (settings_of settings) 0 found) (ending (refusal c) 0 found)) (by_test (eqb c 0) refl) in
      record {
        universal = omega (arith, ap (λ (e : Ending). e.result.outcome.universal) is);
        existential = omega (arith, ap (λ (e : Ending). e.result.outcome.existential) is);
        setting = omega (arith, ap (λ (e : Ending). e.result.setting) is);
      }
    where
      by_test : (b : Bool) → eqb (cause kinds literals settings found) 0 ≡ b → b ≡ false
      by_test true e = absurd (applies (eqb-true (cause kinds literals settings found) 0 e))
      by_test false e = refl

  pub small : Small r
  small = by_test (eqb (cause kinds literals settings found) 0) refl
    where
      by_test : (b : Bool) → eqb (cause kinds literals settings found) 0 ≡ b → Small r
      by_test true e = small_last (eqb-true (cause kinds literals settings found) 0 e)
      by_test false e = small_refused (eqb-false (cause kinds literals settings found) 0 e)

-- ---- limits above 256 are never spent

abbrev pub Many : List Setting → Type 0
Many ss = (i : ℕ) (s : Setting) → get_elem? ss i ≡ some s → max_rows < s.limit

choose : (b : Bool) (x y : Ending) → x.result.outcome.answer ≢ Spent → y.result.outcome.answer ≢ Spent → (cond b x y).result.outcome.answer ≢ Spent
choose true x y on_x on_y = on_x
choose false x y on_x on_y = on_y

module _ (kinds : List ℕ) (literals : List ℤ) (trimming : Proved kinds literals) where
  turns_unspent : (ss : List Setting) (i : ℕ) (found : Areas) → Accepts kinds literals trimming ss found → Many ss
      → (in_turn kinds literals ss i found).result.outcome.answer ≢ Spent
  unfolding in_turn
  turns_unspent [] i found accepts many = λ e. let z : ◌≡◌ {A = ℕ} 0 1 = cc e in omega arith
  turns_unspent (s ∷ rest) i found accepts many =
      let g = given_of kinds literals s found in
      choose (is_verdict (returned g).answer || eqb (length rest) 0) (ending (returned g) i (left g)) (in_turn kinds literals rest (suc i) (left g))
      (unspent g (accepts zero s refl) (many zero s refl))
      (turns_unspent rest (suc i) (left g) (later_accepts kinds literals trimming s rest found accepts) (λ j t there. many (suc j) t there))

pub study_unspent : (kinds : List ℕ) (literals : List ℤ) (settings : List ℕ) (found : Areas) → Many (settings_of settings)
    → (studied kinds literals settings found).result.outcome.answer ≢ Spent
unfolding studied
study_unspent kinds literals settings found many = by_test (eqb (cause kinds literals settings found) 0) refl
  where
    by_test : (b : Bool) → eqb (cause kinds literals settings found) 0 ≡ b
        → (cond b (in_turn kinds literals (settings_of settings) 0 found) (ending (refusal (cause kinds literals settings found)) 0 found)).result.outcome.answer ≢ Spent
    by_test true e =
        let none = eqb-true (cause kinds literals settings found) 0 e in
        turns_unspent kinds literals (trimming_proved kinds literals settings found none) (settings_of settings) 0 found
        (each_accepted kinds literals settings found none) many
    by_test false e = λ is. let z : ◌≡◌ {A = ℕ} 0 1 = cc is in omega arith
