-- The judge over the rows that fit, on the formula with the moves set, says whether the position is borne out. Assumes nothing.
use Prim.Native.Nat.{ℕ, ◌-◌, ◌*◌, ◌%◌, ◌≤◌}
use Rattle.std.specs.Prelude.{Ok, Result}
use Rattle.std.specs.Result.{result_unwrap_or}
use Rattle.formula.specs.declared.Formula.{Formula}
use Rattle.cause.specs.declared.Cause.{Cause}
use Rattle.cause.specs.Cause.{unless_cause}
use native.Mathlib.Omega.{arith}
use mathlib.Core.Path.{◌≡◌, refl, sym, ap, subst, ◌∙◌}
use mathlib.Core.Bool.{Bool, true, false, cond, not, ◌&&◌, ◌||◌}
use mathlib.Core.List.{List, ◌++◌}
use lib.Dec.{eqb, leb, ltb}
use lib.IntN.{ℤ}
use lib.ListN.{length, take, drop, replicate, length-replicate, length-map, length-append}
use lib.Seq.{take_at}
use borrow.Author.Tests.{eq-eqb, le-ltb}
use Rattle.formula.specs.Formula.{prefix, clauses, max_rows, work_size}
use Rattle.formula.specs.Meaning.{matrix}
use Rattle.formula.specs.Causes as Causes
use Rattle.expansion.specs.Judge.{accepted}
use Rattle.rows.specs.Table.{rows_of, room, table_fits}
use Rattle.rows.specs.Stray.{stray, stray_rows}
use Rattle.rows.specs.Table.{row_at}
use Rattle.rows.proofs.TableLaws.{none_stray_rows}
use Rattle.judge.specs.Judge as Judge
use Rattle.judge.specs.Judge.{claims_true, other_claim, width, lent_rows}
use Rattle.judge.proofs.Causes.{none_other_to_1}
use Rattle.restriction.specs.Outcome as Setting
use Rattle.restriction.specs.Outcome.{value_of, values_of, wrong_values}
use Rattle.restriction.proofs.OutcomeLaws.{few_values}
use Rattle.case_rules.specs.Restricted.{IsAccepted, restricted, kinds_behind}
use Rattle.case_rules.proofs.Proved.{restricted_right}
use Rattle.reply_rules.specs.Position.{fitting, borne_out}
use Rattle.reply.specs.Private.Fitting.{Lent, Fitted, says_accepted}
use Rattle.reply.proofs.FitLaws.{part_is, width_owned}

fits_4096 : (table : List ℕ) → length table ≡ 4096 → table_fits table ≡ true
unfolding table_fits
fits_4096 table size = ap (λ (n : ℕ). leb 16 n && leb n (max_rows * 16) && eqb (n % 16) 0) size

says_answer : (b : Bool) → says_accepted (Ok (Judge.answer b)) ≡ b
says_answer true = refl
says_answer false = refl

pub short_values : (unknowns : ℕ) (moves : List ℕ) → wrong_values unknowns moves ≡ false → length (values_of moves) ≤ unknowns
short_values unknowns moves good = let h = few_values unknowns moves good in omega (arith, length-map moves value_of)

module _ (kinds : List ℕ) (literals : List ℤ) (claim : ℕ) (rows : List ℕ) (count : ℕ) (moves : List ℕ) (lent : Lent kinds literals claim rows count)
    (good : wrong_values (length kinds) moves ≡ false) (table : List ℕ) (size : length table ≡ 4096) (fit : ℕ)
    (done : Fitted (claims_true claim) kinds (values_of moves) rows count table fit) where
  abbrev behind : List ℕ
  behind = kinds_behind (values_of moves) kinds

  abbrev left : List ℤ
  left = restricted (values_of moves) literals

  abbrev area : List ℕ
  area = replicate work_size 0

  formula_fine : Causes.number (Causes.checked behind left) ≡ 0
  formula_fine =
      ap Causes.number
      ((restricted_right (values_of moves) kinds literals).accepted_again (short_values (length kinds) moves good) lent.formula)

  none_stray : stray_rows (width behind claim) fit table ≡ false
  none_stray =
      none_stray_rows (width behind claim) fit table (λ i h.
      ap (λ (m : ℕ). stray m (row_at table i)) (width_owned behind claim) ∙ done.clean i h)

  few : ltb (room table) fit ≡ false
  few = let a = done.few in let b = lent.few in le-ltb (room table) fit (omega arith)

  no_cause : Judge.cause behind left claim table fit area ≡ 0
  unfolding Judge.cause
  no_cause =
      ap (λ (n : ℕ). cond (eqb n 0)
      (cond (not (table_fits table)) 4
      (cond (not (eqb (length area) work_size)) 5
      (cond (other_claim claim || ltb (room table) fit) 7 (cond (stray_rows (width behind claim) fit table) 8 0)))) n) formula_fine
      ∙ ap (λ (b : Bool). cond (not b) 4
      (cond (not (eqb (length area) work_size)) 5
      (cond (other_claim claim || ltb (room table) fit) 7 (cond (stray_rows (width behind claim) fit table) 8 0)))) (fits_4096 table size)
      ∙ ap (λ (b : Bool). cond (not b) 5 (cond (other_claim claim || ltb (room table) fit) 7 (cond (stray_rows (width behind claim) fit table) 8 0)))
      (eq-eqb (length area) work_size (length-replicate {A = ℕ} work_size 0))
      ∙ ap (λ (b : Bool). cond (b || ltb (room table) fit) 7 (cond (stray_rows (width behind claim) fit table) 8 0)) (none_other_to_1 claim lent.known)
      ∙ ap (λ (b : Bool). cond b 7 (cond (stray_rows (width behind claim) fit table) 8 0)) few
      ∙ ap (λ (b : Bool). cond b 8 0) none_stray

  same_rows : lent_rows behind claim table fit ≡ fitting (claims_true claim) (prefix kinds) (values_of moves) (lent_rows kinds claim rows count)
  same_rows =
      ap (λ (m : ℕ). rows_of m fit table) (width_owned behind claim)
      ∙ done.held
      ∙ ap (λ (m : ℕ). fitting (claims_true claim) (prefix kinds) (values_of moves) (rows_of m count rows)) (sym (width_owned kinds claim))

  said : says_accepted (Judge.outcome behind left claim table fit area) ≡ Judge.borne_out behind left claim table fit
  unfolding Judge.outcome
  said =
      ap (λ (n : ℕ). says_accepted (unless_cause n (Judge.answer (Judge.borne_out behind left claim table fit)))) no_cause
      ∙ says_answer (Judge.borne_out behind left claim table fit)

  borne_said : says_accepted (Judge.outcome behind left claim table fit area)
      ≡ borne_out (claims_true claim) kinds literals (lent_rows kinds claim rows count) (values_of moves)
  unfolding Judge.borne_out borne_out
  borne_said = said ∙ ap (accepted (claims_true claim) (prefix behind) (matrix (clauses left))) same_rows

pub borne_said_of : (kinds : List ℕ) (literals : List ℤ) (claim : ℕ) (rows : List ℕ) (count : ℕ) (moves : List ℕ) → Lent kinds literals claim rows count
    → wrong_values (length kinds) moves ≡ false → {table : List ℕ} {fit : ℕ} {left : List ℤ} → length table ≡ 4096
    → Fitted (claims_true claim) kinds (values_of moves) rows count table fit → left ≡ restricted (values_of moves) literals
    → says_accepted (Judge.outcome (take (length kinds - length moves) (drop (length moves) kinds)) left claim table fit (replicate work_size 0))
    ≡ borne_out (claims_true claim) kinds literals (lent_rows kinds claim rows count) (values_of moves)
borne_said_of kinds literals claim rows count moves lent good {table} {fit} {left} size done is =
    ap (λ (ks : List ℕ). says_accepted (Judge.outcome ks left claim table fit (replicate work_size 0))) (part_is kinds (length moves))
    ∙ ap (λ (n : ℕ). says_accepted (Judge.outcome (drop n kinds) left claim table fit (replicate work_size 0))) (sym (length-map moves value_of))
    ∙ ap (λ (l : List ℤ). says_accepted (Judge.outcome (kinds_behind (values_of moves) kinds) l claim table fit (replicate work_size 0))) is
    ∙ borne_said kinds literals claim rows count moves lent good table size fit done

-- ---- the formula with the moves set, as it is written

module _ (kinds : List ℕ) (literals : List ℤ) (moves : List ℕ) (output : List ℤ) (fine : IsAccepted kinds literals)
    (room_there : length literals ≤ length output)
    (good : wrong_values (length kinds) moves ≡ false) where
  set_cause : Setting.cause kinds literals moves output ≡ 0
  unfolding Setting.cause
  set_cause =
      ap (λ (k : Result Formula Cause). cond (eqb (Causes.number k) 0)
      (cond (ltb (length output) (length literals)) 15 (cond (wrong_values (length kinds) moves) 27 0)) (Causes.number k)) fine
      ∙ ap (λ (b : Bool). cond b 15 (cond (wrong_values (length kinds) moves) 27 0)) (le-ltb (length output) (length literals) room_there)
      ∙ ap (λ (b : Bool). cond b 27 0) good

  abbrev rest : List ℤ
  rest = restricted (values_of moves) literals

  set_outcome : Setting.outcome kinds literals moves output ≡ Ok (length rest)
  unfolding Setting.outcome
  set_outcome = ap (λ (n : ℕ). unless_cause n (length rest)) set_cause

  set_output : Setting.output_after kinds literals moves output ≡ rest ++ drop (length rest) output
  unfolding Setting.output_after
  set_output = ap (λ (n : ℕ). cond (eqb n 0) (rest ++ drop (length rest) output) output) set_cause

  pub set_entries : {r : Result ℕ Cause} {used : ℕ} (exit : List ℤ) → r ≡ Setting.outcome kinds literals moves output →
      exit ≡ Setting.output_after kinds literals moves output
      → used ≡ result_unwrap_or r 0 → (used ≤ length exit) × (take used exit ≡ rest)
  set_entries {used = used} exit returned written is =
      let many : used ≡ length rest = is ∙ ap (λ (r : Result ℕ Cause). result_unwrap_or r 0) (returned ∙ set_outcome) in
      let stands = written ∙ set_output in (
        subst (λ (l : List ℤ). used ≤ length l) (sym stands) (omega (arith, many, length-append rest (drop (length rest) output))),
        ap (take used) stands ∙ take_at rest (drop (length rest) output) used (sym many),
      )
