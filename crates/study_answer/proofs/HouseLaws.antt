-- The house list over 256 rows a side: the causes that are left, and what the run that gave the outcome says of its answer and counts. Assumes nothing.
use Prim.Native.Nat.{ℕ, zero, suc, ◌*◌, ◌%◌, ◌≤◌, ◌<◌}
use Rattle.std.specs.Prelude.{Ok}
use native.Mathlib.Omega.{arith}
use mathlib.Core.Path.{◌≡◌, refl, sym, ap, subst, ◌∙◌}
use mathlib.Core.Bool.{Bool, true, false, not, cond, ◌&&◌, and-eq-true_iff}
use mathlib.Core.List.{List, [], ◌∷◌}
use mathlib.Core.Option.{some, none-ne-some}
use borrow.Author.Tests.{eqb-true, leb-true}
use lib.Dec.{eqb, leb}
use lib.IntN.{ℤ}
use lib.ListN.{length, get_elem?, replicate, length-replicate}
use Rattle.formula.specs.Formula.{max_rows, work_size, universal, existential, prefix}
use Rattle.formula.specs.Causes.{checked, sizes}
use Rattle.rows.specs.Table.{room, table_fits}
use Rattle.rounds.proofs.Bounds.{count_in_room}
use Rattle.engine.specs.declared.run.Outcome.{Outcome}
use Rattle.engine.specs.Outcome.{Areas, Given, lent, side_fits, tables_fit, accepted, cause as run_cause, reached, reported, returned}
use Rattle.decision.proofs.DecisionLaws.{cause_so}
use Rattle.study.specs.declared.Studied.{Studied}
use Rattle.study.specs.Study.{Ending, settings_of, given_of, unknown, cause_26, list_cause, cause}
use Rattle.study.specs.StudyRight.{LastRun, Studies}
use Rattle.study.proofs.CauseLaws.{passes_if_none}
use Rattle.study_answer.specs.House.{house_list, own_areas, Answered, Decided}

-- ---- the causes

pub list_fine : list_cause house_list ≡ 0
unfolding list_cause cause_26 settings_of unknown
list_fine = refl

module _ (list : List ℕ) (fine : list_cause list ≡ 0) where
  -- Of a formula that passes, cause 5 is left.
  pub cause_left : (kinds : List ℕ) (literals : List ℤ) (work : List ℕ) → checked kinds literals ≡ Ok (sizes kinds literals)
      → cause kinds literals list (own_areas work) ≡ cond (eqb (length work) work_size) 0 5
  unfolding cause
  cause_left kinds literals work passes =
      ap (λ (n : ℕ). cond (eqb n 0) (list_cause list) n) (cause_so kinds literals work 1 passes) ∙ by_length (eqb (length work) work_size)
    where
      by_length : (long : Bool) → ◌≡◌ {A = ℕ} (cond (eqb (cond (not long) 5 0) 0) (list_cause list) (cond (not long) 5 0)) (cond long 0 5)
      by_length true = fine
      by_length false = refl

pub whole : eqb (length (replicate {A = ℕ} work_size 0)) work_size ≡ true
whole = ap (λ (n : ℕ). eqb n work_size) (length-replicate {A = ℕ} work_size 0)

pub no_cause : (kinds : List ℕ) (literals : List ℤ) → checked kinds literals ≡ Ok (sizes kinds literals)
    → cause kinds literals house_list (own_areas (replicate work_size 0)) ≡ 0
no_cause kinds literals passes =
    cause_left house_list list_fine kinds literals (replicate work_size 0) passes ∙ ap (λ (long : Bool). cond long 0 5) whole

-- ---- the run that gave the outcome

pub rows_lent : (table : List ℕ) → table_fits table ≡ true → (1 ≤ room table) × (room table ≤ max_rows)
unfolding table_fits
rows_lent table e =
    let both = (and-eq-true_iff (leb 16 (length table) && leb (length table) (max_rows * 16)) (eqb (length table % 16) 0)).0 e in
    let sizes = (and-eq-true_iff (leb 16 (length table)) (leb (length table) (max_rows * 16))).0 both.0 in
    let least = leb-true 16 (length table) sizes.0 in
    let most = leb-true (length table) (max_rows * 16) sizes.1 in
    (omega arith, omega arith)

sides_fit : (A a_marks S s_marks : List ℕ) → tables_fit A a_marks S s_marks ≡ true → (table_fits A ≡ true) × (table_fits S ≡ true)
unfolding tables_fit side_fits
sides_fit A a_marks S s_marks e =
    let both = (and-eq-true_iff (side_fits A a_marks) (side_fits S s_marks)).0 e in
    (((and-eq-true_iff (table_fits A) _).0 both.0).0, ((and-eq-true_iff (table_fits S) _).0 both.1).0)

module _ (g : Given) (fine : accepted g ≡ true) where
  pub reported_so : returned g ≡ reported (prefix g.kinds) (reached g)
  unfolding returned
  reported_so = rw fine refl

  pub fitting : (table_fits g.found.universal_rows ≡ true) × (table_fits g.found.existential_rows ≡ true)
  fitting = sides_fit _ _ _ _ (passes_if_none g (eqb-true (run_cause g) 0 fine)).fits.tables

  few_universal : (returned g).universal ≤ max_rows
  few_universal =
      let rows = rows_lent g.found.universal_rows fitting.0 in
      subst (λ (o : Outcome). o.universal ≤ max_rows) (sym reported_so)
      (omega (arith, count_in_room (lent g) g.limit universal rows.0, rows.1))

  few_existential : (returned g).existential ≤ max_rows
  few_existential =
      let rows = rows_lent g.found.existential_rows fitting.1 in
      subst (λ (o : Outcome). o.existential ≤ max_rows) (sym reported_so)
      (omega (arith, count_in_room (lent g) g.limit existential rows.0, rows.1))

pub below_length : {A : Type 0} (l : List A) (i : ℕ) {x : A} → get_elem? l i ≡ some x → i < length l
below_length [] i e = absurd (none-ne-some _ e)
below_length (y ∷ l) zero e = omega arith
below_length (y ∷ l) (suc i) e = omega (arith, below_length l i e)

-- The list has at most eight settings.
pub few_settings : {r : Studied} → Answered r → r.setting < 8
unfolding settings_of
few_settings a = omega (arith, a.in_list)

answered_so : {kinds : List ℕ} {literals : List ℤ} {r : Studied} {exit : Areas} → LastRun kinds literals house_list r exit → Answered r
answered_so {kinds} {literals} {r} last =
    let g = given_of kinds literals last.setting last.found in
    let fine = last.accepted_run in
    let same : r.outcome ≡ returned g = last.ended.returned_so in
    record {
      answer = (reached g).answer;
      answer_so = ap (λ (o : Outcome). o.answer) (same ∙ reported_so g fine);
      few_universal = subst (λ (o : Outcome). o.universal ≤ max_rows) (sym same) (few_universal g fine);
      few_existential = subst (λ (o : Outcome). o.existential ≤ max_rows) (sym same) (few_existential g fine);
      in_list = below_length (settings_of house_list) r.setting last.listed;
    }

-- Of what `study` promises, what `decide` hands on.
pub decided_so : {kinds : List ℕ} {literals : List ℤ} {work : List ℕ} {r : Studied} {exit : Areas}
    → Studies kinds literals house_list (own_areas work) r exit → Decided kinds literals work r exit.work
decided_so s =
    record {
      result_so = ap (λ (e : Ending). e.result) s.studied_so;
      work_so = ap (λ (e : Ending). e.areas_left.work) s.studied_so;
      right = s.right;
      answered = λ none. answered_so (s.last none);
    }
