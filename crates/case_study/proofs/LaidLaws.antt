-- What the functions over a table of entries leave in it. Assumes nothing.
use Prim.Native.Nat.{ℕ, zero, suc, ◌-◌, ◌≤◌, ◌<◌}
use Rattle.std.specs.Prelude.{Result, Err, Ok}
use Rattle.std.specs.Result.{result_unwrap_or}
use Rattle.cause.specs.declared.Cause.{Cause}
use Rattle.cause.specs.Cause.{caused}
use native.Mathlib.Omega.{arith}
use mathlib.Core.Path.{◌≡◌, refl, sym, ap, subst, ◌∙◌}
use mathlib.Core.Bool.{Bool, true, false, cond, ◌||◌}
use mathlib.Core.List.{List, [], ◌∷◌, ◌++◌}
use lib.Dec.{eqb, ltb}
use lib.IntN.{ℤ, pos, nat_abs}
use lib.ListN.{length, take, drop, get_or, length-append, length-drop, length-map}
use lib.Seq.{take_at}
use borrow.Author.Tests.{eq-eqb, ne_eqb, ltb-false, le-ltb, lt-ltb}
use Rattle.formula.specs.Causes.{any, other_kind, number as cause_number, checked}
use Rattle.formula.proofs.Accepted.{accepted}
use Rattle.formula.proofs.Any.{or_none}
use Rattle.trimming_rules.specs.Trimming.{trimmed}
use Rattle.trimming_rules.proofs.Carried.{proved}
use Rattle.trimming.specs.Outcome as Trim
use Rattle.case_rules.specs.Restricted.{IsAccepted, restricted}
use Rattle.case_rules.specs.ByCases.{names_first}
use Rattle.case_rules.proofs.Proved.{restricted_right}
use Rattle.restriction.specs.Outcome as Restrict
use Rattle.restriction.specs.Outcome.{value_of, values_of, wrong_values}
use Rattle.study.specs.declared.Setting.{Setting}
use Rattle.study.specs.Study.{formula_of}
use Rattle.case_study.specs.Cases.{half}
use Rattle.case_study.specs.Private.Path.{step, nearer, unnamed, Laid}
use Rattle.case_study.proofs.AcceptedLaws.{number_none}
use Rattle.case_study.proofs.NameLaws.{named_none, passed_one}

-- The entries set, or none.
pub entries_set : (r : Result ℕ Cause) → result_unwrap_or r 0 ≡ Restrict.used r
entries_set (Ok n) = refl
entries_set (Err cause) = refl

laid_so : (formula output : List ℤ) → length formula ≤ length output → (r : ℕ) (table : List ℤ) → r ≡ length formula → table ≡ formula ++ drop (length formula) output
    → Laid formula table r
laid_so formula output fits r table on_length on_table =
    record {
      inside = omega (arith, on_length, ap length on_table, length-append formula (drop (length formula) output), length-drop (length formula) output);
      laid = (λ d. take (on_length d) (on_table d)) ∙ take_at formula (drop (length formula) output) (length formula) refl;
    }

module _ (kinds : List ℕ) (literals : List ℤ) (a : IsAccepted kinds literals) (output : List ℤ) (room : length literals ≤ length output) where
  abbrev formula_none : cause_number (checked kinds literals) ≡ 0
  formula_none = number_none kinds literals a

  roomy : ltb (length output) (length literals) ≡ false
  roomy = le-ltb (length output) (length literals) (omega (arith, room))

  module _ (values : List ℕ) (fine : wrong_values (length kinds) values ≡ false) where
    set_none : Restrict.cause kinds literals values output ≡ 0
    unfolding Restrict.cause
    set_none = λ d. cond (eqb (formula_none d) 0) (cond (roomy d) 15 (cond (fine d) 27 0)) (formula_none d)

    few_values : length (values_of values) ≤ length kinds
    unfolding wrong_values
    few_values =
        omega (arith, length-map values value_of, ltb-false (length kinds) (length values) (or_none (ltb (length kinds) (length values)) (any other_kind values) fine).0)

    pub set_laid : (r : ℕ) (table : List ℤ) → r ≡ Restrict.used (Restrict.outcome kinds literals values output) → table ≡ Restrict.output_after kinds literals values output
        → Laid (restricted (values_of values) literals) table r
    unfolding Restrict.outcome Restrict.output_after
    set_laid r table on_r on_table =
        let left = restricted (values_of values) literals in
        let passed = eq-eqb (Restrict.cause kinds literals values output) 0 set_none in
        laid_so left output (omega (arith, room, (restricted_right (values_of values) kinds literals).no_more_entries few_values a)) r table
        (on_r ∙ ap (λ (b : Bool). Restrict.used (cond b (Ok (length left)) (Err (caused (Restrict.cause kinds literals values output))))) passed)
        (on_table ∙ ap (λ (b : Bool). cond b (left ++ drop (length left) output) output) passed)

  trim_none : Trim.cause kinds literals output ≡ 0
  unfolding Trim.cause
  trim_none = λ d. cond (eqb (formula_none d) 0) (cond (roomy d) 15 0) (formula_none d)

  pub trim_laid : (r : ℕ) (table : List ℤ) → r ≡ Trim.used (Trim.outcome kinds literals output) → table ≡ Trim.output_after kinds literals output
      → Laid (trimmed kinds literals) table r
  unfolding Trim.outcome Trim.output_after
  trim_laid r table on_r on_table =
      let left = trimmed kinds literals in
      let passed = eq-eqb (Trim.cause kinds literals output) 0 trim_none in
      laid_so left output (omega (arith, room, (proved kinds literals (accepted kinds literals a)).no_more_entries)) r table
      (on_r ∙ ap (λ (b : Bool). Trim.used (cond b (Ok (length left)) (Err (caused (Trim.cause kinds literals output))))) passed)
      (on_table ∙ ap (λ (b : Bool). cond b (left ++ drop (length left) output) output) passed)

  -- As it is, or trimmed.
  pub settled_same : (n : ℕ) (table : List ℤ) (r : ℕ) → n ≡ 0 → Laid (restricted (values_of []) literals) table r → Laid (formula_of n kinds literals) table r
  settled_same n table r e l =
      subst (λ (phi : List ℤ). Laid phi table r) ((restricted_right [] kinds literals).nothing_set a ∙ ap (λ (m : ℕ). formula_of m kinds literals) (sym e)) l

  pub settled_trimmed : (n : ℕ) (table : List ℤ) (r : ℕ) → (n ≡ 0 → ⊥) → Laid (trimmed kinds literals) table r → Laid (formula_of n kinds literals) table r
  settled_trimmed zero table r h l = absurd (h refl)
  settled_trimmed (suc n) table r h l = l

-- ---- names

pub nearer_below : (most name : ℕ) → (name ≡ 0 → ⊥) → name - 1 < most → name - 1 ≡ nearer most name
nearer_below most zero h l = absurd (h refl)
nearer_below most (suc v) h l =
    let same : suc v - 1 ≡ v = omega arith in same ∙ sym (ap (λ (b : Bool). cond b v most) (lt-ltb v most (omega (arith, l))))

pub nearer_above : (most name : ℕ) → (name ≡ 0 → ⊥) → most ≤ name - 1 → most ≡ nearer most name
nearer_above most zero h l = absurd (h refl)
nearer_above most (suc v) h l = sym (ap (λ (b : Bool). cond b v most) (le-ltb v most (omega (arith, l))))

-- A pass over the entries.
pub nearest_next : (literals : List ℤ) (i m : ℕ) → i < length literals
    → unnamed m (drop i literals) ≡ unnamed (nearer m (nat_abs (get_or literals i (pos 0)))) (drop (suc i) literals)
unfolding unnamed
nearest_next [] i m h = absurd (omega arith)
nearest_next (z ∷ literals) zero m h = refl
nearest_next (z ∷ literals) (suc i) m h = nearest_next literals i m (omega arith)

pub nearest_all : (literals : List ℤ) (i m : ℕ) → length literals ≤ i → unnamed m (drop i literals) ≡ m
unfolding unnamed
nearest_all [] zero m h = refl
nearest_all [] (suc i) m h = refl
nearest_all (z ∷ literals) zero m h = absurd (omega arith)
nearest_all (z ∷ literals) (suc i) m h = nearest_all literals i m (omega arith)

-- ---- one unknown set

pub wrong_none : (n : ℕ) → wrong_values n [] ≡ false
unfolding wrong_values
wrong_none n = ap (λ (b : Bool). b || false) (le-ltb n 0 (omega arith))

pub step_settled : (s : Setting) (kinds : List ℕ) (literals : List ℤ) (v : Bool) (passed trim : ℕ) → passed ≡ unnamed 1 literals → trim ≡ cond (eqb passed 0) s.trim 0
    → formula_of trim kinds (restricted (v ∷ []) literals) ≡ step s kinds literals v
step_settled s kinds literals v passed trim on_passed on_trim = by_name (any names_first literals) refl
  where
    by_name : (b : Bool) → any names_first literals ≡ b
        → formula_of trim kinds (restricted (v ∷ []) literals) ≡ cond b (half s kinds literals v) (restricted (v ∷ []) literals)
    by_name true e =
        let is : passed ≡ 0 = on_passed ∙ named_none 1 literals e in
        ap (λ (n : ℕ). formula_of n kinds (restricted (v ∷ []) literals)) (on_trim ∙ ap (λ (b : Bool). cond b s.trim 0) (eq-eqb passed 0 is))
    by_name false e =
        let is : passed ≡ 1 = on_passed ∙ passed_one literals e in
        ap (λ (n : ℕ). formula_of n kinds (restricted (v ∷ []) literals)) (on_trim ∙ ap (λ (b : Bool). cond b s.trim 0) (ne_eqb passed 0 (λ z. omega (arith, z, is))))
