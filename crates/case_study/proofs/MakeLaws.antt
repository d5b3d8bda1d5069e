-- The formula of a place, made level by level. Assumes nothing.
use Prim.Native.Nat.{ℕ, zero, suc, ◌+◌, ◌-◌, ◌≤◌, ◌<◌}
use native.Mathlib.Omega.{arith}
use native.Mathlib.Numerals.{add-one}
use mathlib.Core.Path.{◌≡◌, refl, sym, ap, subst, ◌∙◌}
use mathlib.Core.Bool.{Bool, false, cond, ◌||◌}
use mathlib.Core.List.{List, [], ◌∷◌}
use lib.Dec.{eqb}
use lib.IntN.{ℤ}
use lib.ListN.{length, take, drop, get_or, length-drop}
use lib.Seq.{take_all}
use borrow.Author.Tests.{le-ltb}
use Rattle.formula.specs.Formula.{max_entries}
use Rattle.formula.proofs.Accepted.{accepted}
use Rattle.formula.proofs.Quantifiers.{kind_below}
use Rattle.case_rules.specs.Restricted.{IsAccepted, restricted}
use Rattle.restriction.specs.Outcome.{value_of, values_of, wrong_values}
use Rattle.study.specs.declared.Setting.{Setting}
use Rattle.study.specs.Study.{formula_of}
use Rattle.case_study.specs.Private.Path.{step, formula_at, unnamed, Laid, Known, path_of}
use Rattle.case_study.proofs.AcceptedLaws.{case_accepted}
use Rattle.case_study.proofs.PathLaws.{formula_nil, formula_accepted, formula_further}
use Rattle.case_study.proofs.LaidLaws.{step_settled}
use Rattle.case_study.proofs.ByteLaws.{path_snoc, drop_cons, path_length}

-- A part that is the whole rest.
pub rest_all : (A : Type 0) (l : List A) (i : ℕ) → take (length l - i) (drop i l) ≡ drop i l
rest_all A l i = take_all (length l - i) (drop i l) (omega (arith, length-drop i l))

one_value : (values : List ℕ) → 1 ≤ length values → values_of (take 1 values) ≡ value_of (get_or values 0 0) ∷ []
one_value [] h = absurd (omega arith)
one_value (v ∷ values) h = refl

one_fine : (n : ℕ) (values : List ℕ) → 1 ≤ n → 1 ≤ length values → get_or values 0 0 ≤ 1 → wrong_values n (take 1 values) ≡ false
unfolding wrong_values
one_fine n [] h g k = absurd (omega arith)
one_fine n (v ∷ values) h g k = λ d. le-ltb n 1 h d || (kind_below v k d || false)

behind_accepted : (kinds : List ℕ) (literals : List ℤ) (v : Bool) → 1 ≤ length kinds → IsAccepted kinds literals → IsAccepted (drop 1 kinds) (restricted (v ∷ []) literals)
behind_accepted [] literals v h a = absurd (omega arith)
behind_accepted (k ∷ kinds) literals v h a = case_accepted k kinds literals a v

pub few_accepted : (kinds : List ℕ) (literals : List ℤ) → IsAccepted kinds literals → length literals ≤ max_entries
few_accepted kinds literals a = (accepted kinds literals a).few_entries

module _ (s : Setting) (kinds values : List ℕ) (table : List ℤ) (entries : ℕ) (a : IsAccepted kinds (take entries table)) (some_kind : 1 ≤ length kinds)
    (some_value : 1 ≤ length values) (known_first : get_or values 0 0 ≤ 1) where
  abbrev v : Bool
  v = value_of (get_or values 0 0)

  part_same : take (entries - 0) table ≡ take entries table
  part_same = let same : entries - 0 ≡ entries = omega arith in ap (λ (n : ℕ). take n table) same

  pub part_accepted : IsAccepted kinds (take (entries - 0) table)
  part_accepted = subst (IsAccepted kinds) (sym part_same) a

  pub fine_value : wrong_values (length kinds) (take 1 values) ≡ false
  fine_value = one_fine (length kinds) values some_kind some_value known_first

  module _ (left : List ℤ) (used : ℕ) (l : Laid (restricted (values_of (take 1 values)) (take (entries - 0) table)) left used) where
    left_is : take (used - 0) left ≡ restricted (v ∷ []) (take entries table)
    left_is =
        let same : used - 0 ≡ used = omega arith in
        ap (λ (n : ℕ). take n left) same ∙ l.laid ∙ (λ d. restricted (one_value values some_value d) (part_same d))

    pub narrowed_accepted : IsAccepted (take (length kinds - 1) (drop 1 kinds)) (take (used - 0) left)
    narrowed_accepted =
        subst (λ (ks : List ℕ). IsAccepted ks (take (used - 0) left)) (sym (rest_all ℕ kinds 1))
        (subst (IsAccepted (drop 1 kinds)) (sym left_is) (behind_accepted kinds (take entries table) v some_kind a))

    pub narrowed : (passed trim : ℕ) → passed ≡ unnamed 1 (take (entries - 0) table) → trim ≡ cond (eqb passed 0) s.trim 0
        → (after : List ℤ) (r : ℕ) → Laid (formula_of trim (take (length kinds - 1) (drop 1 kinds)) (take (used - 0) left)) after r
        → Laid (step s (drop 1 kinds) (take entries table) v) after r
    narrowed passed trim on_passed on_trim after r laid =
        subst (λ (phi : List ℤ). Laid phi after r)
        ((λ d. formula_of trim (rest_all ℕ kinds 1 d) (left_is d))
        ∙ step_settled s (drop 1 kinds) (take entries table) v passed trim (on_passed ∙ ap (unnamed 1) part_same) on_trim)
        laid

-- ---- level by level

first_behind : (values : List ℕ) (i : ℕ) → get_or (take (length values - i) (drop i values)) 0 0 ≡ get_or values i 0
first_behind values i = ap (λ (l : List ℕ). get_or l 0 0) (rest_all ℕ values i) ∙ at_drop values i
  where
    at_drop : (l : List ℕ) (i : ℕ) → get_or (drop i l) 0 0 ≡ get_or l i 0
    at_drop [] zero = refl
    at_drop [] (suc i) = refl
    at_drop (x ∷ l) zero = refl
    at_drop (x ∷ l) (suc i) = at_drop l i

pub record Making (s : Setting) (kinds : List ℕ) (first : List ℤ) (values : List ℕ) (table left : List ℤ) (entries i : ℕ) : Type 0 where
  pub below : i ≤ length values
  pub made : Laid (formula_at s kinds first (path_of values i)) table entries
  pub table_long : length table ≡ max_entries
  pub left_long : length left ≡ max_entries

pub making_from : (s : Setting) (kinds : List ℕ) (first : List ℤ) (values : List ℕ) (table left : List ℤ) (entries : ℕ) → Laid first table entries
    → length table ≡ max_entries → length left ≡ max_entries → Making s kinds first values table left entries 0
making_from s kinds first values table left entries l t f =
    record { below = omega arith; made = subst (λ (phi : List ℤ). Laid phi table entries) (sym (formula_nil s kinds first)) l; table_long = t; left_long = f }

module _ (s : Setting) (kinds : List ℕ) (first : List ℤ) (values : List ℕ) (table left : List ℤ) (entries i : ℕ)
    (making : Making s kinds first values table left entries i) (a : IsAccepted kinds first) (few : length values ≤ length kinds) (known : Known values) where
  path_long : length (path_of values i) ≡ i
  path_long = path_length values i making.below

  place_accepted : IsAccepted (drop i kinds) (take entries table)
  place_accepted =
      subst (IsAccepted (drop i kinds)) (sym making.made.laid)
      (subst (λ (n : ℕ). IsAccepted (drop n kinds) (formula_at s kinds first (path_of values i))) path_long
      (formula_accepted s kinds first (path_of values i) (omega (arith, path_long, making.below, few)) a))

  pub next_accepted : IsAccepted (take (length kinds - i) (drop i kinds)) (take entries table)
  next_accepted = subst (λ (ks : List ℕ). IsAccepted ks (take entries table)) (sym (rest_all ℕ kinds i)) place_accepted

  module _ (more : i < length values) where
    pub some_kind_left : 1 ≤ length (take (length kinds - i) (drop i kinds))
    some_kind_left = omega (arith, ap length (rest_all ℕ kinds i), length-drop i kinds, more, few)

    pub some_value_left : 1 ≤ length (take (length values - i) (drop i values))
    some_value_left = omega (arith, ap length (rest_all ℕ values i), length-drop i values, more)

    pub next_known : get_or (take (length values - i) (drop i values)) 0 0 ≤ 1
    next_known = omega (arith, first_behind values i, known i)

    pub made_next : (after left_after : List ℤ) (r : ℕ)
        → Laid (step s (drop 1 (take (length kinds - i) (drop i kinds))) (take entries table) (value_of (get_or (take (length values - i) (drop i values)) 0 0))) after r
        → length after ≡ length table → length left_after ≡ length left → Making s kinds first values after left_after r (i + 1)
    unfolding formula_at
    made_next after left_after r l t f =
        let P = path_of values i in
        let w = value_of (get_or values i 0) in
        let phi = formula_at s kinds first P in
        let kept : take (length kinds - i) (drop i kinds) ≡ get_or kinds i 0 ∷ drop (suc i) kinds = rest_all ℕ kinds i ∙ drop_cons kinds i (omega (arith, more, few)) in
        let behind : drop (length P) kinds ≡ get_or kinds i 0 ∷ drop (suc i) kinds = ap (λ (n : ℕ). drop n kinds) path_long ∙ drop_cons kinds i (omega (arith, more, few)) in
        record {
          below = omega (arith, more);
          made =
              subst (λ (psi : List ℤ). Laid psi after r)
              ((λ d. step s (drop 1 (kept d)) (making.made.laid d) (value_of (first_behind values i d)))
              ∙ sym (ap (λ (n : ℕ). formula_at s kinds first (path_of values n)) (add-one i)
              ∙ ap (formula_at s kinds first) (path_snoc values i more)
              ∙ formula_further s kinds first P (w ∷ []) (omega (arith, path_long, more, few))
              ∙ ap (λ (ks : List ℕ). formula_at s ks phi (w ∷ [])) behind
              ∙ one_level (get_or kinds i 0) (drop (suc i) kinds) phi w))
              l;
          table_long = t ∙ making.table_long;
          left_long = f ∙ making.left_long;
        }
      where
        one_level : (kind : ℕ) (ks : List ℕ) (phi : List ℤ) (w : Bool) → formula_at s (kind ∷ ks) phi (w ∷ []) ≡ step s ks phi w
        one_level kind ks phi w = formula_nil s ks (step s ks phi w)
