-- What is returned where a cause applies and where none does. Assumes nothing.
use Prim.Native.Nat.{ℕ, ◌+◌, ◌-◌, ◌*◌, ◌%◌, ◌≤◌}
use Rattle.std.specs.Prelude.{Result, Ok, Err}
use Rattle.cause.specs.declared.Cause.{Cause}
use Rattle.cause.specs.Cause.{number, told, unless_cause}
use Rattle.cause.proofs.Numbers.{from_1, unless_number, Known, known_cond, told_unless}
use native.Mathlib.Omega.{arith}
use mathlib.Core.Path.{◌≡◌, refl, sym, ap, ap₂, ◌∙◌}
use mathlib.Core.Bool.{Bool, true, false, not, ◌&&◌, ◌||◌, cond, and-eq-true_iff}
use mathlib.Core.List.{List, [], ◌∷◌}
use lib.Dec.{eqb, leb, ltb}
use lib.IntN.{ℤ}
use lib.ListN.{length, length-map}
use borrow.Author.Tests.{ltb-false, leb-true, eqb-false, ne_eqb}
use Rattle.formula.specs.Formula.{max_rows, Kind, existential, universal, kind_of, prefix}
use Rattle.formula.specs.Causes as Causes
use Rattle.formula.specs.declared.Formula.{Formula}
use Rattle.formula.proofs.Accepted.{accepted_sizes}
use Rattle.rows.specs.Table.{room, table_fits}
use Rattle.rows.specs.Stray.{stray_rows}
use Rattle.forecast.specs.declared.Outlook.{Outlook}
use Rattle.forecast.specs.Outcome.{Given, width, copies_over, fits, table_cause, cause, outcome}
use Rattle.forecast.specs.Forecast.{ForecastRight, Foretold}
use Rattle.forecast.proofs.FewCopies.{bounded}
use Rattle.forecast.proofs.Spared.{spared}

-- ---- the causes of the tables

tests_passed : (four seven eight : Bool) → ◌≡◌ {A = ℕ} (cond (not four) 4 (cond seven 7 (cond eight 8 0))) 0 → (four ≡ true) × (seven ≡ false)
tests_passed false seven eight e = absurd (omega arith)
tests_passed true true eight e = absurd (omega arith)
tests_passed true false eight e = (refl, refl)

neither : (a b : Bool) → a || b ≡ false → (a ≡ false) × (b ≡ false)
neither false b e = (refl, e)
neither true b e = let z : ◌≡◌ {A = ℕ} 0 1 = cc in absurd (omega arith)

few_rows : (table : List ℕ) → table_fits table ≡ true → room table ≤ max_rows
unfolding table_fits
few_rows table e =
    let both = (and-eq-true_iff (leb 16 (length table) && leb (length table) (max_rows * 16)) (eqb (length table % 16) 0)).0 e in
    let sizes = (and-eq-true_iff (leb 16 (length table)) (leb (length table) (max_rows * 16))).0 both.0 in
    let most = leb-true (length table) (max_rows * 16) sizes.1 in
    omega arith

-- What the tables are if none of their causes applies.
pub record Fitting (A : List ℕ) (a : ℕ) (S : List ℕ) (s : ℕ) : Type 0 where
  pub universal : a ≤ room A
  pub few_universal : a ≤ max_rows
  pub existential : s ≤ room S
  pub few_existential : s ≤ max_rows

pub fitting : (A : List ℕ) (a m : ℕ) (S : List ℕ) (s n : ℕ) → table_cause A a m S s n ≡ 0 → Fitting A a S s
unfolding table_cause
fitting A a m S s n none =
    let passed = tests_passed (table_fits A && table_fits S) (ltb (room A) a || ltb (room S) s) (stray_rows m a A || stray_rows n s S) none in
    let fit = (and-eq-true_iff (table_fits A) (table_fits S)).0 passed.0 in
    let counts = neither (ltb (room A) a) (ltb (room S) s) passed.1 in
    let in_a = ltb-false (room A) a counts.0 in
    let in_s = ltb-false (room S) s counts.1 in
    record {
      universal = in_a;
      few_universal = omega (arith, few_rows A fit.0);
      existential = in_s;
      few_existential = omega (arith, few_rows S fit.1);
    }

-- What is told of the tables' causes is their number.
known_tables : (A : List ℕ) (a m : ℕ) (S : List ℕ) (s n : ℕ) → Known (table_cause A a m S s n)
unfolding table_cause
known_tables A a m S s n =
    known_cond (not (table_fits A && table_fits S)) {n = 4} refl
    (known_cond (ltb (room A) a || ltb (room S) s) {n = 7} refl (known_cond (stray_rows m a A || stray_rows n s S) {n = 8} {m = 0} refl refl))

-- ---- the numbers of unknowns

count_both : (ks : List Kind) → Causes.count universal ks + Causes.count existential ks ≡ length ks
count_both [] = refl
count_both (existential ∷ ks) = let r : Causes.count universal ks + Causes.count existential ks ≡ length ks = count_both ks in omega arith
count_both (universal ∷ ks) = let r : Causes.count universal ks + Causes.count existential ks ≡ length ks = count_both ks in omega arith

module _ (kinds : List ℕ) (literals : List ℤ) (f : Formula) (passed : Causes.checked kinds literals ≡ Ok f) where
  universals_known : f.universals ≡ width universal kinds
  universals_known = ap (λ (x : Formula). x.universals) (accepted_sizes kinds literals passed)

  both_known : f.universals + width existential kinds ≡ length kinds
  both_known =
      let a : f.universals ≡ width universal kinds = universals_known in
      let b : width universal kinds + width existential kinds ≡ length (prefix kinds) = count_both (prefix kinds) in
      omega (arith, length-map kinds kind_of)

  pub universals_most : f.universals ≤ length kinds
  universals_most = omega (arith, both_known)

  existentials_known : length kinds - f.universals ≡ width existential kinds
  existentials_known = omega (arith, both_known)

-- ---- what is returned

none_later : (formula later : ℕ) (v : Bool) → eqb formula 0 ≡ v → cond v later formula ≡ 0 → later ≡ 0
none_later formula later true e none = none
none_later formula later false e none = absurd (eqb-false formula 0 e none)

module _ (g : Given) where
  abbrev checked : Result Formula Cause
  checked = Causes.checked g.kinds g.literals

  abbrev by_tables : ℕ → ℕ → ℕ
  by_tables m n = table_cause g.universal_rows g.universals m g.existential_rows g.existentials n

  abbrev later : ℕ
  later = by_tables (width universal g.kinds) (width existential g.kinds)

  right : cause g ≡ 0 → ForecastRight g
  unfolding cause
  right none =
      let fit = fitting g.universal_rows g.universals (width universal g.kinds) g.existential_rows g.existentials (width existential g.kinds)
      (none_later (Causes.number checked) later _ refl none) in
      record { spared = spared g fit.existential; bounded = bounded g }

  abbrev answer : Outlook
  answer =
      record {
        over_universal = copies_over universal g.kinds g.universal_rows g.universals;
        over_existential = copies_over existential g.kinds g.existential_rows g.existentials;
        fits = fits g.universals g.existential_rows g.existentials;
      }

  by_cause : (c : Cause) → cause g ≡ number c → Foretold g (Err c)
  unfolding outcome
  by_cause c e =
      record { returned = sym (ap (λ (k : ℕ). unless_cause k answer) e ∙ unless_number c answer); numbered = sym e; right = right }

  -- Causes 1 to 3 come first ..
  pub formula_refused : (c : Cause) → checked ≡ Err c → Foretold g (Err c)
  unfolding cause
  formula_refused c e = by_cause c (rw (e, ne_eqb (number c) 0 (λ z. omega (arith, from_1 c))))

  module _ (f : Formula) (passed : checked ≡ Ok f) (tables : Result Unit Cause)
      (found : tables ≡ unless_cause (by_tables f.universals (length g.kinds - f.universals)) tt) where
    tables_told : told tables ≡ by_tables f.universals (length g.kinds - f.universals)
    tables_told =
        ap told found ∙ told_unless _ tt (known_tables g.universal_rows g.universals f.universals g.existential_rows g.existentials _)

    tables_cause : cause g ≡ told tables
    unfolding cause
    tables_cause =
        ap (λ (k : (Result Formula Cause)). cond (eqb (Causes.number k) 0) later (Causes.number k)) passed
        ∙ sym (tables_told ∙ ap₂ by_tables (universals_known g.kinds g.literals f passed) (existentials_known g.kinds g.literals f passed))

    -- .. then those of the tables ..
    pub tables_refused : (c : Cause) → tables ≡ Err c → Foretold g (Err c)
    tables_refused c e = by_cause c (tables_cause ∙ ap told e)

    module _ (u : Unit) (none : tables ≡ Ok u) where
      pub tables_fit : Fitting g.universal_rows g.universals g.existential_rows g.existentials
      tables_fit = fitting g.universal_rows g.universals f.universals g.existential_rows g.existentials (length g.kinds - f.universals)
          (sym tables_told ∙ ap told none)

      -- .. and without a cause the numbers.
      pub answered : (over_a over_s : ℕ) (fit : Bool) → over_a ≡ copies_over universal g.kinds g.universal_rows g.universals
          → over_s ≡ copies_over existential g.kinds g.existential_rows g.existentials
          → fit ≡ fits g.universals g.existential_rows g.existentials
          → Foretold g (Ok (record { over_universal = over_a; over_existential = over_s; fits = fit }))
      unfolding outcome
      answered over_a over_s fit a s e =
          let clear : cause g ≡ 0 = tables_cause ∙ ap told none in
          record { returned = rw (a, s, e, clear); numbered = sym clear; right = right }
