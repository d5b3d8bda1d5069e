-- What a run leaves, all rounds at once, is what its rounds leave one after the other: 02's C-15 and C-16 in their own words. Assumes nothing.
use Prim.Native.Nat.{ℕ, ◌*◌}
use Rattle.std.specs.Prelude.{Result}
use Rattle.formula.specs.declared.Formula.{Formula}
use Rattle.cause.specs.declared.Cause.{Cause}
use native.Mathlib.Omega.{arith}
use mathlib.Core.Path.{◌≡◌, refl, sym, ap, ◌∙◌}
use mathlib.Core.Bool.{Bool, true, false, not, cond}
use mathlib.Core.List.{List, ◌++◌}
use lib.Dec.{eqb}
use lib.ListN.{length, drop, replicate}
use Rattle.formula.specs.Formula.{work_size, existential, universal}
use Rattle.formula.specs.Causes.{number as cause_number, checked}
use Rattle.rows.specs.Table.{zeroed}
use Rattle.rounds.specs.Run.{run, highest}
use Rattle.rounds.specs.GivenUp.{of_rows, of_marks, of_counts, cells}
use Rattle.rounds.proofs.GivenUp.{given_up}
use Rattle.engine.specs.Outcome.{areas, Given, lent, tables_fit, tables_counted, cause, row_bytes, mark_numbers, after, after_by_rounds}
use Rattle.engine.specs.Private.Growing.{Passes}
use Rattle.engine.proofs.run.LoopLaws.{least_bytes, tables_fitting}
use Rattle.engine.proofs.run.RoundCounts.{counts_fitting}

-- Neither 4 nor 16 applies.
neither : (fit counted : Bool) (later : ℕ) → cond (not fit) 4 (cond (not counted) 16 later) ≡ 0 → (fit ≡ true) × (counted ≡ true)
neither true true later e = (refl, refl)
neither true false later e = let z : ◌≡◌ {A = ℕ} 16 0 = e in absurd (omega arith)
neither false counted later e = let z : ◌≡◌ {A = ℕ} 4 0 = e in absurd (omega arith)

-- A mark and a count take one cell.
one_cell : (standing found : List ℕ) (n m : ℕ) → standing ++ drop (1 * n) (zeroed (1 * m) found) ≡ standing ++ drop n (zeroed m found)
one_cell standing found n m =
    let places : 1 * n ≡ n = omega arith in
    let zeros : 1 * m ≡ m = omega arith in
    λ d. standing ++ drop (places d) (zeroed (zeros d) found)

module _ (g : Given) (passes : Passes g.kinds g.literals) (no_cause : cause g ≡ 0) where
  lent_right : (tables_fit g.found.universal_rows g.found.universal_marks g.found.existential_rows g.found.existential_marks ≡ true)
      × (tables_counted g.found.universal_rows g.found.universal_counts g.found.existential_rows g.found.existential_counts ≡ true)
  unfolding cause
  lent_right =
      neither _ _ (cond (not (eqb (length g.found.work) work_size)) 5 (cond (eqb g.limit 0) 6 0))
      (sym (later_cause _) ∙ no_cause)
    where
      later_cause : (later : ℕ) → cond (eqb (cause_number (checked g.kinds g.literals)) 0) later (cause_number (checked g.kinds g.literals)) ≡ later
      later_cause later = ap (λ (c : (Result Formula Cause)). cond (eqb (cause_number c) 0) later (cause_number c)) passes

  pub left_by_rounds : (r : ℕ) → after g r ≡ after_by_rounds g r
  unfolding row_bytes mark_numbers
  left_by_rounds r =
      let found = g.found in
      let fit = tables_fitting found.universal_rows found.universal_marks found.existential_rows found.existential_marks lent_right.0 in
      let counted = counts_fitting found.universal_rows found.universal_counts found.existential_rows found.existential_counts lent_right.1 in
      let least_a = least_bytes found.universal_rows fit.0.0 in
      let least_s = least_bytes found.existential_rows fit.1.0 in
      let at_once = (given_up (lent g) r).at_once in
      let a_rows = at_once of_rows universal found.universal_rows (omega arith) (omega arith) in
      let a_marks = at_once of_marks universal found.universal_marks (omega arith) (omega (arith, fit.0.1)) in
      let a_counts = at_once of_counts universal found.universal_counts (omega arith) (omega (arith, counted.0)) in
      let s_rows = at_once of_rows existential found.existential_rows (omega arith) (omega arith) in
      let s_marks = at_once of_marks existential found.existential_marks (omega arith) (omega (arith, fit.1.1)) in
      let s_counts = at_once of_counts existential found.existential_counts (omega arith) (omega (arith, counted.1)) in
      λ d.
      areas
      (sym a_rows d)
      (sym (a_marks ∙ one_cell (cells of_marks (lent g) universal r) found.universal_marks (length (run (lent g) r).A) (highest (lent g) r)) d)
      (sym (a_counts ∙ one_cell (cells of_counts (lent g) universal r) found.universal_counts (length (run (lent g) r).A) (highest (lent g) r)) d)
      (sym s_rows d)
      (sym (s_marks ∙ one_cell (cells of_marks (lent g) existential r) found.existential_marks (length (run (lent g) r).S) 0) d)
      (sym (s_counts ∙ one_cell (cells of_counts (lent g) existential r) found.existential_counts (length (run (lent g) r).S) 0) d)
      (replicate work_size 0)
