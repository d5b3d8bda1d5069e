-- The causes, test by test, and what holds if none applies. Assumes nothing.
use Prim.Native.Nat.{ℕ, zero, suc, ◌*◌, ◌%◌, ◌≤◌, ◌<◌}
use Rattle.std.specs.Prelude.{Err, Ok, Result}
use Rattle.cause.specs.declared.Cause.{Cause}
use Rattle.cause.specs.declared.Cause.TheVariants.{Rows, Count, StrayBit, Values}
use Rattle.cause.specs.Cause.{number as number_of, caused, unless_cause}
use Rattle.cause.proofs.Numbers.{from_1, unless_number, Known, known_cond, known_told}
use native.Mathlib.Omega.{arith}
use mathlib.Core.Path.{◌≡◌, refl, sym, ap, ◌∙◌}
use mathlib.Core.Bool.{Bool, true, false, cond, not, ◌&&◌, ◌||◌, true≢false}
use mathlib.Core.List.{List}
use lib.Dec.{eqb, leb, ltb}
use lib.IntN.{ℤ}
use lib.ListN.{length}
use borrow.Author.Tests.{eqb-true, eqb-false, ltb-false, leb-true, lt-ltb, le-ltb, ne_eqb}
use Rattle.formula.specs.declared.Formula.{Formula}
use Rattle.formula.specs.Formula.{max_rows}
use Rattle.formula.specs.Causes as Causes
use Rattle.formula.specs.Causes.{checked, sizes}
use Rattle.formula.proofs.Accepted.{accepted_sizes}
use Rattle.formula.proofs.Any.{or_none}
use Rattle.rows.specs.Table.{room, table_fits}
use Rattle.rows.specs.Stray.{stray_rows}
use Rattle.judge.specs.Judge.{other_claim, width}
use Rattle.judge.proofs.Causes.{other_over_1, none_other_to_1}
use Rattle.restriction.specs.Outcome.{wrong_values}
use Rattle.reply.specs.Next.{rows_cause, cause}
use Rattle.reply.specs.Private.Fitting.{Lent}

different : {A : Type 0} → ◌≡◌ {A = ℕ} 0 1 → A
different e = absurd (omega arith)

-- ---- an answer unless a cause applies

pub none_applies : {A : Type 0} (n : ℕ) (answer : A) {a : A} → unless_cause n answer ≡ Ok a → n ≡ 0
none_applies n answer {a} = go (eqb n 0) refl
  where
    go : (b : Bool) → eqb n 0 ≡ b → cond b (Ok answer) (Err (caused n)) ≡ Ok a → n ≡ 0
    go true none e = eqb-true n 0 none
    go false some e = different cc

-- Where a number refuses one answer, a number that is the same unless it is 0 refuses another by the same cause.
pub refused_alike : {A B : Type 0} (n m : ℕ) (a : A) (b : B) {c : Cause} → (eqb n 0 ≡ false → m ≡ n) → unless_cause n a ≡ Err c → Err c ≡ unless_cause m b
refused_alike n m a b {c} same = go (eqb n 0) refl
  where
    go : (t : Bool) → eqb n 0 ≡ t → cond t (Ok a) (Err (caused n)) ≡ Err c → Err c ≡ unless_cause m b
    go true none e = different cc
    go false some e =
        let by : caused n ≡ c = cc in
        sym (ap (λ (k : ℕ). unless_cause k b) (same some) ∙ ap (λ (t : Bool). cond t (Ok b) (Err (caused n))) some ∙ ap Err by)

-- ---- the rows

module _ (kinds : List ℕ) (claim : ℕ) (rows : List ℕ) (count : ℕ) where
  abbrev by_tests : Bool → Bool → Bool → ℕ
  by_tests fit over stray = cond (not fit) 4 (cond over 7 (cond stray 8 0))

  rows_by : (fit over stray : Bool) → table_fits rows ≡ fit → other_claim claim || ltb (room rows) count ≡ over →
      stray_rows (width kinds claim) count rows ≡ stray
      → rows_cause kinds claim rows count ≡ by_tests fit over stray
  unfolding rows_cause
  rows_by fit over stray f o s =
      ap (λ (b : Bool). by_tests b (other_claim claim || ltb (room rows) count) (stray_rows (width kinds claim) count rows)) f
      ∙ ap (λ (b : Bool). by_tests fit b (stray_rows (width kinds claim) count rows)) o
      ∙ ap (by_tests fit over) s

  -- What `check_rows` answers.
  abbrev checked_rows : Result (Unit {0}) Cause
  checked_rows = unless_cause (rows_cause kinds claim rows count) tt

  said_by : (fit over stray : Bool) → table_fits rows ≡ fit → other_claim claim || ltb (room rows) count ≡ over →
      stray_rows (width kinds claim) count rows ≡ stray
      → unless_cause (by_tests fit over stray) (tt {0}) ≡ checked_rows
  said_by fit over stray f o s = ap (λ (n : ℕ). unless_cause n (tt {0})) (sym (rows_by fit over stray f o s))

  pub rows_4 : table_fits rows ≡ false → Err Rows ≡ checked_rows
  rows_4 f = said_by false _ _ f refl refl

  either : (b : Bool) → b || true ≡ true
  either true = refl
  either false = refl

  pub rows_7_claim : table_fits rows ≡ true → 1 < claim → Err Count ≡ checked_rows
  rows_7_claim f over =
      said_by true true _ f (ap (λ (b : Bool). b || ltb (room rows) count) (other_over_1 claim over)) refl

  pub rows_7_count : table_fits rows ≡ true → room rows < count → Err Count ≡ checked_rows
  rows_7_count f over =
      said_by true true _ f (ap (λ (b : Bool). other_claim claim || b) (lt-ltb (room rows) count over) ∙ either (other_claim claim)) refl

  module _ (f : table_fits rows ≡ true) (known : claim ≤ 1) (inside : count ≤ room rows) where
    none_over : other_claim claim || ltb (room rows) count ≡ false
    none_over = ap (λ (b : Bool). b || ltb (room rows) count) (none_other_to_1 claim known) ∙ le-ltb (room rows) count inside

    pub rows_8 : stray_rows (width kinds claim) count rows ≡ true → Err StrayBit ≡ checked_rows
    rows_8 s = said_by true false true f none_over s

    pub rows_0 : stray_rows (width kinds claim) count rows ≡ false → Ok tt ≡ checked_rows
    rows_0 s = said_by true false false f none_over s

  tests_passed : (fit over stray : Bool) → by_tests fit over stray ≡ 0 → (fit ≡ true) × (over ≡ false)
  tests_passed false over stray e = absurd (omega arith)
  tests_passed true true stray e = absurd (omega arith)
  tests_passed true false stray e = (refl, refl)

  pub rows_fine : rows_cause kinds claim rows count ≡ 0 → (table_fits rows ≡ true) × (other_claim claim || ltb (room rows) count ≡ false)
  unfolding rows_cause
  rows_fine e = tests_passed (table_fits rows) (other_claim claim || ltb (room rows) count) (stray_rows (width kinds claim) count rows) e

-- ---- all of them

module _ (kinds : List ℕ) (literals : List ℤ) (claim : ℕ) (rows : List ℕ) (count : ℕ) (moves : List ℕ) where
  abbrev of_rows : ℕ
  of_rows = rows_cause kinds claim rows count

  abbrev of_moves : ℕ
  of_moves = cond (wrong_values (length kinds) moves) 27 0

  -- What `check` answers.
  abbrev checked_all : Result (Unit {0}) Cause
  checked_all = unless_cause (cause kinds literals claim rows count moves) tt

  cause_by : (f : Result Formula Cause) → checked kinds literals ≡ f
      → cause kinds literals claim rows count moves ≡ cond (eqb (Causes.number f) 0) (cond (eqb of_rows 0) of_moves of_rows) (Causes.number f)
  unfolding cause
  cause_by f e = ap (λ (k : Result Formula Cause). cond (eqb (Causes.number k) 0) (cond (eqb of_rows 0) of_moves of_rows) (Causes.number k)) e

  cause_refused : (c : Cause) → checked kinds literals ≡ Err c → cause kinds literals claim rows count moves ≡ number_of c
  cause_refused c e =
      let some = from_1 c in
      cause_by (Err c) e ∙ ap (λ (b : Bool). cond b (cond (eqb of_rows 0) of_moves of_rows) (number_of c)) (ne_eqb (number_of c) 0 (λ z. omega arith))

  pub formula_refused : (c : Cause) → checked kinds literals ≡ Err c → Err c ≡ checked_all
  formula_refused c e = sym (ap (λ (n : ℕ). unless_cause n (tt {0})) (cause_refused c e) ∙ unless_number c (tt {0}))

  module _ (f : Formula) (e : checked kinds literals ≡ Ok f) where
    pub rows_refused : {c : Cause} → unless_cause of_rows (tt {0}) ≡ Err c → Err c ≡ checked_all
    rows_refused =
        refused_alike of_rows (cause kinds literals claim rows count moves) (tt {0}) (tt {0}) (λ some.
        cause_by (Ok f) e ∙ ap (λ (b : Bool). cond b of_moves of_rows) some)

    module _ {u : Unit {0}} (none : unless_cause of_rows (tt {0}) ≡ Ok u) where
      said_moves : unless_cause of_moves (tt {0}) ≡ checked_all
      said_moves =
          ap (λ (n : ℕ). unless_cause n (tt {0})) (sym (cause_by (Ok f) e ∙ ap (λ (m : ℕ). cond (eqb m 0) of_moves m) (none_applies of_rows tt none)))

      pub moves_refused : wrong_values (length kinds) moves ≡ true → Err Values ≡ checked_all
      moves_refused wrong = ap (λ (b : Bool). unless_cause (cond b 27 0) (tt {0})) (sym wrong) ∙ said_moves

      pub not_refused : wrong_values (length kinds) moves ≡ false → Ok tt ≡ checked_all
      not_refused good = ap (λ (b : Bool). unless_cause (cond b 27 0) (tt {0})) (sym good) ∙ said_moves

  known_rows : Known of_rows
  unfolding rows_cause
  known_rows =
      known_cond (not (table_fits rows)) {n = 4} refl
      (known_cond (other_claim claim || ltb (room rows) count) {n = 7} refl (known_cond (stray_rows (width kinds claim) count rows) {n = 8} {m = 0} refl refl))

  -- Each cause's number is one's own.
  pub known_cause : Known (cause kinds literals claim rows count moves)
  unfolding cause
  known_cause =
      known_cond (eqb (Causes.number (checked kinds literals)) 0)
      (known_cond (eqb of_rows 0) (known_cond (wrong_values (length kinds) moves) {n = 27} {m = 0} refl refl) known_rows)
      (known_told (checked kinds literals))

-- ---- none applies

both_second : (a b c : Bool) → a && b && c ≡ true → b ≡ true
both_second true true c e = refl
both_second true false c e = e
both_second false true c e = refl
both_second false false c e = e

table_room : (rows : List ℕ) → table_fits rows ≡ true → room rows ≤ 256
unfolding table_fits
table_room rows fit =
    let few = leb-true (length rows) (max_rows * 16) (both_second (leb 16 (length rows)) (leb (length rows) (max_rows * 16)) (eqb (length rows % 16) 0) fit) in
    omega arith

claim_known : (claim : ℕ) → other_claim claim ≡ false → claim ≤ 1
claim_known zero e = omega arith
claim_known (suc zero) e = omega arith
claim_known (suc (suc claim)) e = absurd (true≢false e)

none_wrong : (b : Bool) → ◌≡◌ {A = ℕ} (cond b 27 0) 0 → b ≡ false
none_wrong true e = absurd (omega arith)
none_wrong false e = refl

module _ (kinds : List ℕ) (literals : List ℤ) (claim : ℕ) (rows : List ℕ) (count : ℕ) (moves : List ℕ) where
  lent_if : (f : Formula) → checked kinds literals ≡ Ok f → rows_cause kinds claim rows count ≡ 0 → Lent kinds literals claim rows count
  lent_if f e none =
      let fine = rows_fine kinds claim rows count none in
      let over = or_none (other_claim claim) (ltb (room rows) count) fine.1 in
      let inside = ltb-false (room rows) count over.1 in
      let few = table_room rows fine.0 in
      record {
        formula = e ∙ ap Ok (accepted_sizes kinds literals e);
        known = claim_known claim over.0;
        few = omega (arith, inside, few);
        inside = inside;
      }

  after_rows : (f : Formula) → checked kinds literals ≡ Ok f → (b : Bool) → eqb (rows_cause kinds claim rows count) 0 ≡ b
      → cond b (cond (wrong_values (length kinds) moves) 27 0) (rows_cause kinds claim rows count) ≡ 0
      → Lent kinds literals claim rows count × (wrong_values (length kinds) moves ≡ false)
  after_rows f e true r none = (lent_if f e (eqb-true (rows_cause kinds claim rows count) 0 r), none_wrong (wrong_values (length kinds) moves) none)
  after_rows f e false r none = absurd (eqb-false (rows_cause kinds claim rows count) 0 r none)

  pub not_refused_lent : cause kinds literals claim rows count moves ≡ 0 → Lent kinds literals claim rows count × (wrong_values (length kinds) moves ≡ false)
  not_refused_lent none = go (checked kinds literals) refl
    where
      go : (k : Result Formula Cause) → checked kinds literals ≡ k → Lent kinds literals claim rows count × (wrong_values (length kinds) moves ≡ false)
      go (Err c) e =
          let some_cause = from_1 c in
          let zero_cause = sym (cause_refused kinds literals claim rows count moves c e) ∙ none in
          absurd (omega arith)
      go (Ok f) e =
          after_rows f e (eqb (rows_cause kinds claim rows count) 0) refl (sym (cause_by kinds literals claim rows count moves (Ok f) e) ∙ none)
