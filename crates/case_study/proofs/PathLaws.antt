-- Places of a decision by cases: the way down, and up again. Assumes nothing.
use Prim.Native.Nat.{ℕ, zero, suc, ◌≤◌, ◌<◌}
use native.Mathlib.Omega.{arith}
use mathlib.Core.Path.{◌≡◌, refl, sym, ap, ◌∙◌}
use mathlib.Core.Bool.{Bool, true, false, cond}
use mathlib.Core.List.{List, [], ◌∷◌, ◌++◌}
use mathlib.Core.Option.{some}
use lib.IntN.{ℤ}
use lib.ListN.{length, drop}
use Rattle.formula.specs.Causes.{any}
use Rattle.case_rules.specs.Restricted.{IsAccepted, restricted}
use Rattle.case_rules.specs.ByCases.{names_first}
use Rattle.case_rules.specs.Budget.{most_studies}
use Rattle.case_rules.proofs.BudgetLaws.{some_study}
use Rattle.restriction.specs.Outcome.{value_of}
use Rattle.study.specs.declared.Setting.{Setting}
use Rattle.case_study.specs.Cases.{second_value, first_value, half, State, by_run, sharing, passing, Told, told, agree, both_cases, if_named, decide_by}
use Rattle.case_study.specs.Private.Path.{step, formula_at, at_level, resume, second_ones, to_ask, way_down}
use Rattle.case_study.proofs.AcceptedLaws.{case_accepted, half_accepted}

first_agrees : (kind : ℕ) → agree (first_value kind) (first_value kind) ≡ true
first_agrees zero = refl
first_agrees (suc k) = refl

second_differs : (kind : ℕ) → agree (second_value kind) (first_value kind) ≡ false
second_differs zero = refl
second_differs (suc k) = refl

-- Bytes that are equal, or not.
pub same_byte : (b kind : ℕ) → b ≡ kind → agree (value_of b) (first_value kind) ≡ false
same_byte b kind e = ap (λ (x : ℕ). agree (value_of x) (first_value kind)) e ∙ second_differs kind

pub other_byte : (b kind : ℕ) → b ≤ 1 → kind ≤ 1 → (b ≡ kind → ⊥) → agree (value_of b) (first_value kind) ≡ true
other_byte zero zero h g d = absurd (d refl)
other_byte zero (suc k) h g d = refl
other_byte (suc b) zero h g d = refl
other_byte (suc b) (suc k) h g d = absurd (d (omega arith))

-- ---- formulas

pub formula_nil : (s : Setting) (kinds : List ℕ) (literals : List ℤ) → formula_at s kinds literals [] ≡ literals
unfolding formula_at
formula_nil s [] literals = refl
formula_nil s (k ∷ kinds) literals = refl

pub step_accepted : (s : Setting) (kind : ℕ) (kinds : List ℕ) (literals : List ℤ) (v : Bool) → IsAccepted (kind ∷ kinds) literals → IsAccepted kinds (step s kinds literals v)
step_accepted s kind kinds literals v a = by_test (any names_first literals)
  where
    by_test : (b : Bool) → IsAccepted kinds (cond b (half s kinds literals v) (restricted (v ∷ []) literals))
    by_test true = half_accepted kind kinds literals a v s
    by_test false = case_accepted kind kinds literals a v

pub formula_accepted : (s : Setting) (kinds : List ℕ) (literals : List ℤ) (path : List Bool) → length path ≤ length kinds → IsAccepted kinds literals
    → IsAccepted (drop (length path) kinds) (formula_at s kinds literals path)
unfolding formula_at
formula_accepted s [] literals [] h a = a
formula_accepted s [] literals (v ∷ path) h a = absurd (omega arith)
formula_accepted s (k ∷ kinds) literals [] h a = a
formula_accepted s (k ∷ kinds) literals (v ∷ path) h a = formula_accepted s kinds (step s kinds literals v) path (omega arith) (step_accepted s k kinds literals v a)

pub formula_further : (s : Setting) (kinds : List ℕ) (literals : List ℤ) (path rest : List Bool) → length path ≤ length kinds
    → formula_at s kinds literals (path ++ rest) ≡ formula_at s (drop (length path) kinds) (formula_at s kinds literals path) rest
unfolding formula_at
formula_further s [] literals [] rest h = refl
formula_further s [] literals (v ∷ path) rest h = absurd (omega arith)
formula_further s (k ∷ kinds) literals [] rest h = refl
formula_further s (k ∷ kinds) literals (v ∷ path) rest h = formula_further s kinds (step s kinds literals v) path rest (omega arith)

-- ---- what the whole comes to

module _ (s : Setting) (bound n : ℕ) where
  pub resume_nil : (kinds : List ℕ) (literals : List ℤ) (t : Told) → resume s bound n kinds literals [] t ≡ t
  unfolding resume
  resume_nil [] literals t = refl
  resume_nil (k ∷ kinds) literals t = refl

  abbrev second_of : ℕ → List ℕ → List ℤ → Bool → State → Told
  second_of kind kinds literals v later = decide_by s bound n (sharing v) kinds (step s kinds literals (second_value kind)) later

  pub resume_further : (kinds : List ℕ) (literals : List ℤ) (path rest : List Bool) (t : Told) → length path ≤ length kinds
      → resume s bound n kinds literals (path ++ rest) t
      ≡ resume s bound n kinds literals path (resume s bound n (drop (length path) kinds) (formula_at s kinds literals path) rest t)
  unfolding resume formula_at
  resume_further [] literals [] rest t h = refl
  resume_further [] literals (v ∷ path) rest t h = absurd (omega arith)
  resume_further (k ∷ kinds) literals [] rest t h = refl
  resume_further (k ∷ kinds) literals (v ∷ path) rest t h =
      ap (λ (inner : Told). at_level k v inner (second_of k kinds literals)) (resume_further kinds (step s kinds literals v) path rest t (omega arith))

  -- One level alone: in its second case, or passed over; in its first, which is enough; or in its first, which is not.
  module _ (kind : ℕ) (kinds : List ℕ) (literals : List ℤ) (w v : Bool) (st : State) where
    level : {first : Bool} → agree w (first_value kind) ≡ first
        → resume s bound n (kind ∷ kinds) literals (w ∷ []) (told (some v) st)
        ≡ cond first (cond (agree v (first_value kind)) (told (some v) st) (second_of kind kinds literals v st)) (told (some v) st)
    unfolding resume
    level e =
        ap (λ (inner : Told). at_level kind w inner (second_of kind kinds literals)) (resume_nil kinds (step s kinds literals w) (told (some v) st))
        ∙ ap (λ (b : Bool). cond b (cond (agree v (first_value kind)) (told (some v) st) (second_of kind kinds literals v st)) (told (some v) st)) e

    pub level_second : agree w (first_value kind) ≡ false → resume s bound n (kind ∷ kinds) literals (w ∷ []) (told (some v) st) ≡ told (some v) st
    level_second e = level e

    pub level_enough : agree w (first_value kind) ≡ true → agree v (first_value kind) ≡ true
        → resume s bound n (kind ∷ kinds) literals (w ∷ []) (told (some v) st) ≡ told (some v) st
    level_enough e f = level e ∙ ap (λ (b : Bool). cond b (told (some v) st) (second_of kind kinds literals v st)) f

    pub level_turned : agree w (first_value kind) ≡ true → agree v (first_value kind) ≡ false
        → resume s bound n (kind ∷ kinds) literals (w ∷ []) (told (some v) st)
        ≡ resume s bound n (kind ∷ kinds) literals (second_value kind ∷ [])
        (decide_by s bound n (sharing v) kinds (formula_at s (kind ∷ kinds) literals (second_value kind ∷ [])) st)
    unfolding resume formula_at
    level_turned e f =
        let t = second_of kind kinds literals v st in
        let there = decide_by s bound n (sharing v) kinds (formula_at s kinds (step s kinds literals (second_value kind)) []) st in
        level e ∙ ap (λ (b : Bool). cond b (told (some v) st) t) f
        ∙ sym (ap (λ (inner : Told). at_level kind (second_value kind) inner (second_of kind kinds literals)) (resume_nil kinds (step s kinds literals (second_value kind)) there)
        ∙ ap (λ (b : Bool). cond b (both_cases kind there (second_of kind kinds literals)) there) (second_differs kind)
        ∙ ap (λ (phi : List ℤ). decide_by s bound n (sharing v) kinds phi st) (formula_nil s kinds (step s kinds literals (second_value kind))))

  -- The way down.
  pub goes_down : (kinds : List ℕ) (literals : List ℤ) (st : State)
      → decide_by s bound n passing kinds literals st
      ≡ resume s bound n kinds literals (way_down kinds literals)
      (decide_by s bound n by_run (drop (length (way_down kinds literals)) kinds) (formula_at s kinds literals (way_down kinds literals)) st)
  unfolding decide_by resume formula_at way_down
  goes_down [] literals st = refl
  goes_down (k ∷ kinds) literals st = by_name (any names_first literals) refl (goes_down kinds (restricted (second_value k ∷ []) literals) st)
    where
      phi : Bool → Bool → List ℤ
      phi b v = cond b (half s kinds literals v) (restricted (v ∷ []) literals)

      split : Bool → Told
      split b =
          both_cases k (decide_by s bound n by_run kinds (phi b (first_value k)) st) (λ v later. decide_by s bound n (sharing v) kinds (phi b (second_value k)) later)

      beyond : List ℤ → Told
      beyond l =
          let way = way_down kinds (restricted (second_value k ∷ []) literals) in
          resume s bound n kinds l way (decide_by s bound n by_run (drop (length way) kinds) (formula_at s kinds l way) st)

      by_name : (b : Bool) → any names_first literals ≡ b
          → decide_by s bound n passing kinds (restricted (second_value k ∷ []) literals) st
          ≡ resume s bound n kinds (restricted (second_value k ∷ []) literals) (way_down kinds (restricted (second_value k ∷ []) literals))
          (decide_by s bound n by_run (drop (length (way_down kinds (restricted (second_value k ∷ []) literals))) kinds) (formula_at s kinds (restricted (second_value k ∷ []) literals) (way_down kinds (restricted (second_value k ∷ []) literals))) st)
          → if_named (any names_first literals)
          (λ at. both_cases k (decide_by s bound n by_run kinds (half s kinds literals (first_value k)) at) (λ v later. decide_by s bound n (sharing v) kinds (half s kinds literals (second_value k)) later))
          (λ at. decide_by s bound n passing kinds (restricted (second_value k ∷ []) literals) at) st
          ≡ resume s bound n (k ∷ kinds) literals (cond b (first_value k ∷ []) (second_value k ∷ way_down kinds (restricted (second_value k ∷ []) literals)))
          (decide_by s bound n by_run (drop (length (cond b (first_value k ∷ []) (second_value k ∷ way_down kinds (restricted (second_value k ∷ []) literals)))) (k ∷ kinds)) (formula_at s (k ∷ kinds) literals (cond b (first_value k ∷ []) (second_value k ∷ way_down kinds (restricted (second_value k ∷ []) literals)))) st)
      by_name true e ih =
          ap (λ (b : Bool). if_named b
          (λ at. both_cases k (decide_by s bound n by_run kinds (half s kinds literals (first_value k)) at) (λ v later. decide_by s bound n (sharing v) kinds (half s kinds literals (second_value k)) later))
          (λ at. decide_by s bound n passing kinds (restricted (second_value k ∷ []) literals) at) st) e
          ∙ sym (ap (λ (inner : Told). at_level k (first_value k) inner (second_of k kinds literals)) (resume_nil kinds (step s kinds literals (first_value k)) _)
          ∙ ap (λ (l : List ℤ). at_level k (first_value k) (decide_by s bound n by_run kinds l st) (second_of k kinds literals)) (formula_nil s kinds (step s kinds literals (first_value k)))
          ∙ ap (λ (b : Bool). cond b (split (any names_first literals)) (decide_by s bound n by_run kinds (step s kinds literals (first_value k)) st)) (first_agrees k)
          ∙ ap split e)
      by_name false e ih =
          ap (λ (b : Bool). if_named b
          (λ at. both_cases k (decide_by s bound n by_run kinds (half s kinds literals (first_value k)) at) (λ v later. decide_by s bound n (sharing v) kinds (half s kinds literals (second_value k)) later))
          (λ at. decide_by s bound n passing kinds (restricted (second_value k ∷ []) literals) at) st) e
          ∙ ih
          ∙ sym (ap (λ (b : Bool). cond b (both_cases k (beyond (step s kinds literals (second_value k))) (second_of k kinds literals)) (beyond (step s kinds literals (second_value k)))) (second_differs k)
          ∙ ap (λ (b : Bool). beyond (phi b (second_value k))) e)

-- ---- how many formulas are left to ask

most_more : (n : ℕ) → most_studies n < most_studies (suc n)
most_more n = omega (arith, some_study n)

pub some_left : (kinds : List ℕ) (path : List Bool) → 1 ≤ to_ask kinds path
unfolding to_ask
some_left [] path = omega arith
some_left (k ∷ kinds) [] = some_study (length (k ∷ kinds))
some_left (k ∷ kinds) (v ∷ path) = omega (arith, some_left kinds path)

ask_nil : (kinds : List ℕ) → to_ask kinds [] ≡ most_studies (length kinds)
unfolding to_ask
ask_nil [] = refl
ask_nil (k ∷ kinds) = refl

-- Two ways on from a place, of which one leaves fewer.
pub fewer_further : (kinds : List ℕ) (path rest other : List Bool) → length path ≤ length kinds → to_ask (drop (length path) kinds) rest < to_ask (drop (length path) kinds) other
    → to_ask kinds (path ++ rest) < to_ask kinds (path ++ other)
unfolding to_ask
fewer_further kinds [] rest other h l = l
fewer_further [] (v ∷ path) rest other h l = absurd (omega arith)
fewer_further (k ∷ kinds) (v ∷ path) rest other h l = omega (arith, fewer_further kinds path rest other (omega arith) l)

-- A first case turned into the second.
pub fewer_turned : (kind : ℕ) (kinds : List ℕ) (w : Bool) (rest : List Bool) → agree w (first_value kind) ≡ true
    → to_ask (kind ∷ kinds) (second_value kind ∷ []) < to_ask (kind ∷ kinds) (w ∷ rest)
unfolding to_ask
fewer_turned kind kinds w rest e =
    let second = ap (λ (b : Bool). second_ones b (length kinds)) (second_differs kind) in
    let first = ap (λ (b : Bool). second_ones b (length kinds)) e in
    omega (arith, second, first, some_left kinds rest, ask_nil kinds)

no_more_down : (kinds : List ℕ) (literals : List ℤ) → to_ask kinds (way_down kinds literals) ≤ most_studies (length kinds)
unfolding to_ask way_down
no_more_down [] literals = omega arith
no_more_down (k ∷ kinds) literals = by_name (any names_first literals) (no_more_down kinds (restricted (second_value k ∷ []) literals))
  where
    by_name : (b : Bool) → to_ask kinds (way_down kinds (restricted (second_value k ∷ []) literals)) ≤ most_studies (length kinds)
        → to_ask (k ∷ kinds) (cond b (first_value k ∷ []) (second_value k ∷ way_down kinds (restricted (second_value k ∷ []) literals))) ≤ most_studies (length (k ∷ kinds))
    by_name true ih =
        let first = ap (λ (b : Bool). second_ones b (length kinds)) (first_agrees k) in
        omega (arith, first, ask_nil kinds)
    by_name false ih =
        let second = ap (λ (b : Bool). second_ones b (length kinds)) (second_differs k) in
        omega (arith, second, ih)

pub fewer_down : (kind : ℕ) (kinds : List ℕ) (literals : List ℤ) → to_ask (kind ∷ kinds) (way_down (kind ∷ kinds) literals) < to_ask (kind ∷ kinds) []
unfolding to_ask way_down
fewer_down k kinds literals = by_name (any names_first literals)
  where
    by_name : (b : Bool)
        → to_ask (k ∷ kinds) (cond b (first_value k ∷ []) (second_value k ∷ way_down kinds (restricted (second_value k ∷ []) literals))) < most_studies (length (k ∷ kinds))
    by_name true =
        let first = ap (λ (b : Bool). second_ones b (length kinds)) (first_agrees k) in
        omega (arith, first, ask_nil kinds)
    by_name false =
        let second = ap (λ (b : Bool). second_ones b (length kinds)) (second_differs k) in
        omega (arith, second, no_more_down kinds (restricted (second_value k ∷ []) literals), some_study (length kinds))
