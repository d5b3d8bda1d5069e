-- A run leaves areas of the sizes that it found, and its cause depends on these sizes alone. Assumes nothing.
use Prim.Native.Nat.{ℕ, ◌*◌, ◌/◌, ◌%◌, ◌≤◌}
use native.Mathlib.Omega.{arith}
use mathlib.Core.Path.{◌≡◌, sym, subst, ◌∙◌}
use mathlib.Core.Bool.{Bool, true, not, ◌&&◌, cond, and-eq-true_iff}
use mathlib.Core.List.{List, ◌++◌}
use lib.Dec.{eqb, leb}
use lib.IntN.{ℤ}
use lib.ListN.{length, drop, length-append, length-drop, length-map, length-replicate}
use borrow.Author.Tests.{leb-true, eqb-true, eq-eqb}
use Rattle.formula.specs.Formula.{max_rows, work_size, Kind, existential, universal}
use Rattle.formula.specs.Causes.{checked, number as cause_number}
use Rattle.rows.specs.Table.{room, table_fits, zeroed}
use Rattle.rows.proofs.ZeroedLaws.{length_zeroed}
use Rattle.rounds.specs.Run.{Entry, highest}
use Rattle.rounds.specs.Claim.{table}
use Rattle.rounds.specs.Counts.{came, counts}
use Rattle.rounds.proofs.Bounds.{count_in_room}
use Rattle.engine.specs.Outcome.{Areas, Given, given, lent, side_fits, tables_fit, tables_counted, cause as run_cause, accepted, reached, after, left}
use Rattle.engine.proofs.run.GrowingLaws.{length_row_bytes, length_mark_numbers}
use Rattle.study.specs.Private.Turns.{SameSizes}
use Rattle.study.proofs.CauseLaws.{Fits, passes_if_none}

-- ---- the cause, by the sizes

abbrev rows_fit : ℕ → Bool
rows_fit n = leb 16 n && leb n (max_rows * 16) && eqb (n % 16) 0

abbrev by_sizes : ℕ → ℕ → ℕ → ℕ → ℕ → ℕ → ℕ → ℕ → ℕ → ℕ
by_sizes formula A a_marks a_counts S s_marks s_counts work limit =
    cond (eqb formula 0)
    (cond (not ((rows_fit A && eqb a_marks (A / 16)) && (rows_fit S && eqb s_marks (S / 16)))) 4
    (cond (not (eqb a_counts (A / 16) && eqb s_counts (S / 16))) 16
    (cond (not (eqb work work_size)) 5 (cond (eqb limit 0) 6 0))))
    formula

pub same_cause : (kinds : List ℕ) (literals : List ℤ) (preferences : List ℕ) (a b : Areas) (limit clear_every : ℕ) → SameSizes a b
    → run_cause (given kinds literals preferences a limit clear_every) ≡ run_cause (given kinds literals preferences b limit clear_every)
unfolding run_cause tables_fit tables_counted side_fits table_fits
same_cause kinds literals preferences a b limit clear_every s =
    λ d.
    by_sizes (cause_number (checked kinds literals)) (s.universal_rows d) (s.universal_marks d) (s.universal_counts d) (s.existential_rows d)
    (s.existential_marks d) (s.existential_counts d) (s.work d) limit

-- ---- what fits

pub record SideFits (rows marks counts : List ℕ) : Type 0 where
  pub some_row : 1 ≤ room rows
  pub one_mark : length marks ≡ room rows
  pub one_count : length counts ≡ room rows

side : (rows marks counts : List ℕ) → side_fits rows marks ≡ true → eqb (length counts) (room rows) ≡ true → SideFits rows marks counts
unfolding side_fits table_fits
side rows marks counts fit counted =
    let told = (and-eq-true_iff (rows_fit (length rows)) (eqb (length marks) (room rows))).0 fit in
    let sized = (and-eq-true_iff (leb 16 (length rows) && leb (length rows) (max_rows * 16)) (eqb (length rows % 16) 0)).0 told.0 in
    let long = leb-true 16 (length rows) ((and-eq-true_iff (leb 16 (length rows)) (leb (length rows) (max_rows * 16))).0 sized.0).0 in
    record {
      some_row = omega arith;
      one_mark = eqb-true (length marks) (room rows) told.1;
      one_count = eqb-true (length counts) (room rows) counted;
    }

module _ (found : Areas) (fits : Fits found) where
  fits_both : (side_fits found.universal_rows found.universal_marks ≡ true) × (side_fits found.existential_rows found.existential_marks ≡ true)
  unfolding tables_fit
  fits_both =
      (and-eq-true_iff (side_fits found.universal_rows found.universal_marks) (side_fits found.existential_rows found.existential_marks)).0 fits.tables

  counts_both : (eqb (length found.universal_counts) (room found.universal_rows) ≡ true)
      × (eqb (length found.existential_counts) (room found.existential_rows) ≡ true)
  unfolding tables_counted
  counts_both =
      (and-eq-true_iff (eqb (length found.universal_counts) (room found.universal_rows)) (eqb (length found.existential_counts) (room found.existential_rows))).0
      fits.counts

  pub fits_a : SideFits found.universal_rows found.universal_marks found.universal_counts
  fits_a = side found.universal_rows found.universal_marks found.universal_counts fits_both.0 counts_both.0

  pub fits_s : SideFits found.existential_rows found.existential_marks found.existential_counts
  fits_s = side found.existential_rows found.existential_marks found.existential_counts fits_both.1 counts_both.1

-- ---- what is left

length_over : (new found : List ℕ) (n : ℕ) → length new ≡ n → n ≤ length found → length (new ++ drop n found) ≡ length found
length_over new found n e h = omega (arith, length-append new (drop n found), length-drop n found)

length_counts : (g : Given) (side : Kind) → length (counts (lent g) side g.limit) ≡ length (table side (reached g))
unfolding counts
length_counts g side = length-map (table side (reached g)) (λ (x : Entry). came (lent g) side g.limit x.row)

after_sizes : (g : Given) → Fits g.found → SameSizes (after g g.limit) g.found
after_sizes g fits =
    let found = g.found in
    let n = highest (lent g) g.limit in
    let on_a = fits_a found fits in
    let on_s = fits_s found fits in
    let rows_a = length_zeroed (16 * n) found.universal_rows in
    let marks_a = length_zeroed n found.universal_marks in
    let counts_a = length_zeroed n found.universal_counts in
    let in_a = count_in_room (lent g) g.limit universal on_a.some_row in
    let in_s = count_in_room (lent g) g.limit existential on_s.some_row in
    let mark_a = on_a.one_mark in
    let count_a = on_a.one_count in
    let mark_s = on_s.one_mark in
    let count_s = on_s.one_count in
    record {
      universal_rows = length_row_bytes (reached g).A (zeroed (16 * n) found.universal_rows) (omega arith) ∙ rows_a;
      universal_marks = length_mark_numbers (reached g).A (zeroed n found.universal_marks) (omega arith) ∙ marks_a;
      universal_counts =
          length_over (counts (lent g) universal g.limit) (zeroed n found.universal_counts) (length (reached g).A) (length_counts g universal) (omega arith) ∙ counts_a;
      existential_rows = length_row_bytes (reached g).S found.existential_rows (omega arith);
      existential_marks = length_mark_numbers (reached g).S found.existential_marks (omega arith);
      existential_counts = length_over (counts (lent g) existential g.limit) found.existential_counts (length (reached g).S) (length_counts g existential) (omega arith);
      work = length-replicate {A = ℕ} work_size 0 ∙ sym (eqb-true (length found.work) work_size fits.work);
    }

pub left_sizes : (g : Given) → run_cause g ≡ 0 → SameSizes (left g) g.found
unfolding left
left_sizes g none =
    let answered : accepted g ≡ true = eq-eqb (run_cause g) 0 none in
    subst (λ (b : Bool). SameSizes (cond b (after g g.limit) g.found) g.found) (sym answered) (after_sizes g (passes_if_none g none).fits)
