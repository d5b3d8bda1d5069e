-- The causes: what a run with the limit 0 tells, what the list's tests tell, and what holds where no cause applies. Assumes nothing.
use Prim.Native.Nat.{ℕ, zero, suc, ◌%◌, ◌/◌, ◌≤◌}
use Rattle.std.specs.Prelude.{⊤, Ok}
use Rattle.cause.specs.declared.Cause.TheVariants.{Kinds, Literals, Beyond}
use Rattle.cause.specs.Cause.{refused_if, unless_cause}
use Rattle.cause.proofs.Numbers.{Known, known_cond}
use native.Mathlib.Omega.{arith}
use mathlib.Core.Path.{◌≡◌, refl, sym, ap, ◌∙◌}
use mathlib.Core.Bool.{Bool, true, false, not, ◌||◌, cond, true≢false}
use mathlib.Core.List.{List, [], ◌∷◌}
use mathlib.Core.Option.{some, none-ne-some}
use lib.Dec.{eqb, ltb}
use lib.IntN.{ℤ}
use lib.ListN.{length, get_elem?}
use borrow.Author.Tests.{eqb-true, eqb-false}
use Rattle.formula.specs.Formula.{work_size}
use Rattle.formula.specs.Causes.{any, cause_1, cause_2, cause_3, checked, sizes, number as cause_number}
use Rattle.formula.specs.declared.Formula.{Formula}
use Rattle.formula.proofs.Accepted.{Accepted as AcceptedFormula, accepted}
use Rattle.trimming_rules.specs.Proved.{Proved}
use Rattle.trimming_rules.proofs.Carried.{proved}
use Rattle.engine.specs.Outcome.{Areas, Given, given, tables_fit, tables_counted, cause as run_cause}
use Rattle.study.specs.declared.Setting.{Setting}
use Rattle.study.specs.Study.{settings_of, formula_of, given_of, unknown, no_round, cause_26, list_cause, cause}

-- ---- a run's causes

-- By the tests: the formula's number, then whether the tables fit, are counted, the work area has its size, the limit is 0.
abbrev by_tests : ℕ → Bool → Bool → Bool → Bool → ℕ
by_tests n fit counted long none = cond (eqb n 0) (cond (not fit) 4 (cond (not counted) 16 (cond (not long) 5 (cond none 6 0)))) n

pub record Fits (found : Areas) : Type 0 where
  pub tables : tables_fit found.universal_rows found.universal_marks found.existential_rows found.existential_marks ≡ true
  pub counts : tables_counted found.universal_rows found.universal_counts found.existential_rows found.existential_counts ≡ true
  pub work : eqb (length found.work) work_size ≡ true

pub record Passes (kinds : List ℕ) (literals : List ℤ) (found : Areas) : Type 0 where
  pub formula : cause_number (checked kinds literals) ≡ 0
  pub fits : Fits found

-- A number that is 0, or what stands for it there.
parts : (n later : ℕ) → cond (eqb n 0) later n ≡ 0 → (n ≡ 0) × (later ≡ 0)
parts n later = by_test (eqb n 0) refl
  where
    by_test : (b : Bool) → eqb n 0 ≡ b → cond b later n ≡ 0 → (n ≡ 0) × (later ≡ 0)
    by_test true t e = (eqb-true n 0 t, e)
    by_test false t e = absurd (eqb-false n 0 t e)

later_applies : (fit counted long none : Bool) → ◌≡◌ {A = ℕ} (cond (not fit) 4 (cond (not counted) 16 (cond (not long) 5 (cond none 6 0)))) 0
    → (fit ≡ true) × (counted ≡ true) × (long ≡ true) × (none ≡ false)
later_applies false counted long none e = let z : ◌≡◌ {A = ℕ} 4 0 = e in absurd (omega arith)
later_applies true false long none e = let z : ◌≡◌ {A = ℕ} 16 0 = e in absurd (omega arith)
later_applies true true false none e = let z : ◌≡◌ {A = ℕ} 5 0 = e in absurd (omega arith)
later_applies true true true true e = let z : ◌≡◌ {A = ℕ} 6 0 = e in absurd (omega arith)
later_applies true true true false e = (refl, refl, refl, refl)

none_applies : (n : ℕ) (fit counted long none : Bool) → by_tests n fit counted long none ≡ 0
    → (n ≡ 0) × ((fit ≡ true) × (counted ≡ true) × (long ≡ true) × (none ≡ false))
none_applies n fit counted long none e =
    let told = parts n (cond (not fit) 4 (cond (not counted) 16 (cond (not long) 5 (cond none 6 0)))) e in
    (told.0, later_applies fit counted long none told.1)

pub passes_if_none : (g : Given) → run_cause g ≡ 0 → Passes g.kinds g.literals g.found
unfolding run_cause
passes_if_none g e =
    let told =
    none_applies (cause_number (checked g.kinds g.literals))
    (tables_fit g.found.universal_rows g.found.universal_marks g.found.existential_rows g.found.existential_marks)
    (tables_counted g.found.universal_rows g.found.universal_counts g.found.existential_rows g.found.existential_counts)
    (eqb (length g.found.work) work_size) (eqb g.limit 0) e in
    record { formula = told.0; fits = record { tables = told.1.0; counts = told.1.1; work = told.1.2 } }

pub limit_if_none : (g : Given) → run_cause g ≡ 0 → 1 ≤ g.limit
unfolding run_cause
limit_if_none g e =
    let told =
    none_applies (cause_number (checked g.kinds g.literals))
    (tables_fit g.found.universal_rows g.found.universal_marks g.found.existential_rows g.found.existential_marks)
    (tables_counted g.found.universal_rows g.found.universal_counts g.found.existential_rows g.found.existential_counts)
    (eqb (length g.found.work) work_size) (eqb g.limit 0) e in
    let some_limit = eqb-false g.limit 0 told.1.3 in
    at_least_one g.limit some_limit
  where
    at_least_one : (n : ℕ) → (n ≡ 0 → ⊥) → 1 ≤ n
    at_least_one zero h = absurd (h refl)
    at_least_one (suc n) h = omega arith

pub none_if_passes : (g : Given) → Passes g.kinds g.literals g.found → eqb g.limit 0 ≡ false → run_cause g ≡ 0
unfolding run_cause
none_if_passes g p some_limit = λ d. by_tests (p.formula d) (p.fits.tables d) (p.fits.counts d) (p.fits.work d) (some_limit d)

-- ---- the study's causes

by_limits : (a b c fit counted long : Bool) (f : Formula) (later : ℕ)
    → cond (eqb (by_tests (cause_number (refused_if a Kinds (refused_if b Literals (refused_if c Beyond (Ok f))))) fit counted long false) 0) later
    (by_tests (cause_number (refused_if a Kinds (refused_if b Literals (refused_if c Beyond (Ok f))))) fit counted long false)
    ≡ cond (eqb (by_tests (cause_number (refused_if a Kinds (refused_if b Literals (refused_if c Beyond (Ok f))))) fit counted long true) 6) later
    (by_tests (cause_number (refused_if a Kinds (refused_if b Literals (refused_if c Beyond (Ok f))))) fit counted long true)
by_limits true b c fit counted long f later = refl
by_limits false true c fit counted long f later = refl
by_limits false false true fit counted long f later = refl
by_limits false false false false counted long f later = refl
by_limits false false false true false long f later = refl
by_limits false false false true true false f later = refl
by_limits false false false true true true f later = refl

refused_at_0 : (n : ℕ) (fit counted long : Bool) → eqb (by_tests n fit counted long true) 0 ≡ false
refused_at_0 n fit counted long = by_test (eqb n 0) refl
  where
    later : (fit counted long : Bool) → eqb (cond (not fit) 4 (cond (not counted) 16 (cond (not long) 5 6))) 0 ≡ false
    later false counted long = refl
    later true false long = refl
    later true true false = refl
    later true true true = refl

    by_test : (b : Bool) → eqb n 0 ≡ b → eqb (cond b (cond (not fit) 4 (cond (not counted) 16 (cond (not long) 5 6))) n) 0 ≡ false
    by_test true t = later fit counted long
    by_test false t = t

module _ (kinds : List ℕ) (literals : List ℤ) (settings : List ℕ) (found : Areas) where
  abbrev pub tested : Given
  tested = given kinds literals [] found 0 0

  -- A run with the limit 0 is refused: by the first cause that does not depend on the settings, or by 6.
  pub never_accepted : eqb (run_cause tested) 0 ≡ false
  unfolding run_cause
  never_accepted =
      refused_at_0 (cause_number (checked kinds literals))
      (tables_fit found.universal_rows found.universal_marks found.existential_rows found.existential_marks)
      (tables_counted found.universal_rows found.universal_counts found.existential_rows found.existential_counts)
      (eqb (length found.work) work_size)

  pub cause_tested : cause kinds literals settings found ≡ cond (eqb (run_cause tested) 6) (list_cause settings) (run_cause tested)
  unfolding cause run_cause checked
  cause_tested =
      by_limits (cause_1 kinds) (cause_2 literals) (cause_3 (length kinds) literals)
      (tables_fit found.universal_rows found.universal_marks found.existential_rows found.existential_marks)
      (tables_counted found.universal_rows found.universal_counts found.existential_rows found.existential_counts)
      (eqb (length found.work) work_size) (sizes kinds literals) (list_cause settings)

-- By the list's tests.
pub by_list_tests : (l : List ℕ) {empty long fours strange unlimited : Bool} → eqb (length l) 0 ≡ empty → ltb 32 (length l) ≡ long
    → eqb (length l % 4) 0 ≡ fours → any unknown (settings_of l) ≡ strange → any no_round (settings_of l) ≡ unlimited
    → unless_cause {A = ⊤} (list_cause l) tt ≡ unless_cause (cond (empty || (long || (not fours || strange))) 26 (cond unlimited 6 0)) tt
unfolding list_cause cause_26
by_list_tests l e1 e2 e3 e4 e5 = λ d. unless_cause {A = ⊤} (cond (e1 d || (e2 d || (not (e3 d) || e4 d))) 26 (cond (e5 d) 6 0)) tt

pub list_known : (l : List ℕ) → Known (list_cause l)
unfolding list_cause
list_known l = known_cond (cause_26 l) of_26 (known_cond (any no_round (settings_of l)) of_6 of_none)
  where
    of_26 : Known 26
    of_26 = refl

    of_6 : Known 6
    of_6 = refl

    of_none : Known 0
    of_none = refl

none_of_list : (empty long fours strange unlimited : Bool) → ◌≡◌ {A = ℕ} (cond (empty || (long || (not fours || strange))) 26 (cond unlimited 6 0)) 0
    → (empty ≡ false) × (fours ≡ true) × (unlimited ≡ false)
none_of_list true long fours strange unlimited e = let z : ◌≡◌ {A = ℕ} 26 0 = e in absurd (omega arith)
none_of_list false true fours strange unlimited e = let z : ◌≡◌ {A = ℕ} 26 0 = e in absurd (omega arith)
none_of_list false false false strange unlimited e = let z : ◌≡◌ {A = ℕ} 26 0 = e in absurd (omega arith)
none_of_list false false true true unlimited e = let z : ◌≡◌ {A = ℕ} 26 0 = e in absurd (omega arith)
none_of_list false false true false true e = let z : ◌≡◌ {A = ℕ} 6 0 = e in absurd (omega arith)
none_of_list false false true false false e = (refl, refl, refl)

any_none : (test : Setting → Bool) (ss : List Setting) (i : ℕ) (s : Setting) → any test ss ≡ false → get_elem? ss i ≡ some s → test s ≡ false
any_none test [] i s e there = absurd (none-ne-some s there)
any_none test (x ∷ ss) zero s e there = let same : x ≡ s = cc in sym (ap test same) ∙ first (test x) (any test ss) e
  where
    first : (a b : Bool) → (a || b) ≡ false → a ≡ false
    first true b e = e
    first false b e = refl
any_none test (x ∷ ss) (suc i) s e there = any_none test ss i s (second (test x) (any test ss) e) there
  where
    second : (a b : Bool) → (a || b) ≡ false → b ≡ false
    second true b e = absurd (true≢false e)
    second false b e = e

pub any_there : (test : Setting → Bool) (ss : List Setting) (i : ℕ) (s : Setting) → get_elem? ss i ≡ some s → test s ≡ true → any test ss ≡ true
any_there test ss i s there passed = by_test (any test ss) refl
  where
    by_test : (b : Bool) → any test ss ≡ b → b ≡ true
    by_test true e = refl
    by_test false e = absurd (true≢false (sym passed ∙ any_none test ss i s e there))

-- A list without a cause has a setting, and each permits a round.
module _ (settings : List ℕ) (none : list_cause settings ≡ 0) where
  list_told : (eqb (length settings) 0 ≡ false) × (eqb (length settings % 4) 0 ≡ true) × (any no_round (settings_of settings) ≡ false)
  unfolding list_cause cause_26
  list_told =
      none_of_list (eqb (length settings) 0) (ltb 32 (length settings)) (eqb (length settings % 4) 0) (any unknown (settings_of settings))
      (any no_round (settings_of settings)) none

  pub some_setting : 1 ≤ length settings / 4
  some_setting =
      let not_empty = eqb-false (length settings) 0 list_told.0 in
      let in_fours : length settings % 4 ≡ 0 = eqb-true (length settings % 4) 0 list_told.1 in
      by_length (length settings) not_empty in_fours
    where
      by_length : (n : ℕ) → (n ≡ 0 → ⊥) → n % 4 ≡ 0 → 1 ≤ n / 4
      by_length zero h e = absurd (h refl)
      by_length (suc n) h e = omega arith

  pub some_round : (i : ℕ) (s : Setting) → get_elem? (settings_of settings) i ≡ some s → eqb s.limit 0 ≡ false
  some_round i s there = any_none no_round (settings_of settings) i s list_told.2 there

  abbrev run_of : List ℕ → List ℤ → Areas → Bool → ℕ
  run_of kinds literals found unlimited =
      by_tests (cause_number (checked kinds literals))
      (tables_fit found.universal_rows found.universal_marks found.existential_rows found.existential_marks)
      (tables_counted found.universal_rows found.universal_counts found.existential_rows found.existential_counts)
      (eqb (length found.work) work_size) unlimited

  -- The study's cause is then that of a run over what is lent, whatever its preferences and its limit, if that is not 0.
  pub cause_of_run : (kinds : List ℕ) (literals : List ℤ) (found : Areas) (preferences : List ℕ) (limit clearing : ℕ) → eqb limit 0 ≡ false
      → run_cause (given kinds literals preferences found limit clearing) ≡ cause kinds literals settings found
  unfolding cause run_cause
  cause_of_run kinds literals found preferences limit clearing some_limit =
      let of_run = run_of kinds literals found false in
      (λ d. run_of kinds literals found (some_limit d)) ∙ sym (ap (λ (n : ℕ). cond (eqb of_run 0) n of_run) none ∙ or_itself of_run)
    where
      or_itself : (n : ℕ) → cond (eqb n 0) 0 n ≡ n
      or_itself n = by_test (eqb n 0) refl
        where
          by_test : (b : Bool) → eqb n 0 ≡ b → cond b 0 n ≡ n
          by_test true t = sym (eqb-true n 0 t)
          by_test false t = refl

-- A formula whose number is 0 is accepted.
pub accepted_by_number : (kinds : List ℕ) (literals : List ℤ) → cause_number (checked kinds literals) ≡ 0 → checked kinds literals ≡ Ok (sizes kinds literals)
unfolding checked
accepted_by_number kinds literals = by_causes (cause_1 kinds) (cause_2 literals) (cause_3 (length kinds) literals)
  where
    by_causes : (a b c : Bool) → cause_number (refused_if a Kinds (refused_if b Literals (refused_if c Beyond (Ok (sizes kinds literals))))) ≡ 0
        → refused_if a Kinds (refused_if b Literals (refused_if c Beyond (Ok (sizes kinds literals)))) ≡ Ok (sizes kinds literals)
    by_causes true b c e = let z : ◌≡◌ {A = ℕ} 1 0 = e in absurd (omega arith)
    by_causes false true c e = let z : ◌≡◌ {A = ℕ} 2 0 = e in absurd (omega arith)
    by_causes false false true e = let z : ◌≡◌ {A = ℕ} 3 0 = e in absurd (omega arith)
    by_causes false false false e = refl

-- Where no cause applies, what is lent passes, and every setting's run is accepted.
module _ (kinds : List ℕ) (literals : List ℤ) (settings : List ℕ) (found : Areas) (none : cause kinds literals settings found ≡ 0) where
  both : (run_cause (given kinds literals [] found 1 0) ≡ 0) × (list_cause settings ≡ 0)
  unfolding cause
  both = parts (run_cause (given kinds literals [] found 1 0)) (list_cause settings) none

  pub list_passes : list_cause settings ≡ 0
  list_passes = both.1

  pub passes : Passes kinds literals found
  passes = passes_if_none (given kinds literals [] found 1 0) both.0

  pub formula_accepted : AcceptedFormula kinds literals
  formula_accepted = accepted kinds literals (accepted_by_number kinds literals passes.formula)

  pub trimming_proved : Proved kinds literals
  trimming_proved = proved kinds literals formula_accepted

  pub formula_passes : (n : ℕ) → cause_number (checked kinds (formula_of n kinds literals)) ≡ 0
  formula_passes zero = passes.formula
  formula_passes (suc n) = trimming_proved.accepted_again

  pub each_accepted : (i : ℕ) (s : Setting) → get_elem? (settings_of settings) i ≡ some s → run_cause (given_of kinds literals s found) ≡ 0
  each_accepted i s there =
      none_if_passes (given_of kinds literals s found) (record { formula = formula_passes s.trim; fits = passes.fits })
      (some_round settings list_passes i s there)
