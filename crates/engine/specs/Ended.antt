-- All that `run` promises: what it returns and leaves, demands 2 and 3, 02's opening and its return counts. Assumes nothing.
use Rattle.std.specs.Prelude.{ℕ, ◌-◌, ◌<◌, ◌≡◌, ◌≢◌, true, false, cond, List, map, length, get_or, take, drop}
use Rattle.formula.specs.Formula.{Kind, existential, universal, prefix, clauses}
use Rattle.formula.specs.Causes.{count}
use Rattle.formula.specs.Meaning.{matrix, meaning, verdict}
use Rattle.rows.specs.Row.{row_of}
use Rattle.rows.specs.Table.{row_at, rows_of}
use Rattle.rounds.specs.Run.{Entry, rows, number, run}
use Rattle.rounds.specs.Claim.{table, Finished, Uncleared, Claim}
use Rattle.rounds.specs.Opening.{set_to, Opens}
use Rattle.rounds.specs.Counts.{counts, CountsRight}
use Rattle.engine.specs.declared.run.Answer.TheVariants.{False, True}
use Rattle.engine.specs.declared.run.Outcome.{Outcome}
use Rattle.engine.specs.Outcome.{Areas, Given, lent, cause, accepted, reached, number_of, returned, written, after, after_by_rounds, left}

-- A side's rows, marks, return counts, and the count of its rows.
abbrev pub row_part : Kind → Areas → List ℕ
row_part universal a = a.universal_rows
row_part existential a = a.existential_rows

abbrev pub mark_part : Kind → Areas → List ℕ
mark_part universal a = a.universal_marks
mark_part existential a = a.existential_marks

abbrev pub count_part : Kind → Areas → List ℕ
count_part universal a = a.universal_counts
count_part existential a = a.existential_counts

abbrev pub count_of : Kind → Outcome → ℕ
count_of universal r = r.universal
count_of existential r = r.existential

-- Finished round r has left a row below the count, with mark r; its sixteen bytes are those of no row of the table before the round.
pub record NewBytes (r : ℕ) (before : List ℕ) (before_count : ℕ) (rows_left marks_left : List ℕ) (number : ℕ) : Type 0 where
  pub place : ℕ
  pub below : place < number
  pub marked : get_or marks_left place 0 ≡ r
  pub new : (i : ℕ) → i < before_count → row_at before i ≢ row_at rows_left place

-- The same of a side's tables: before the round they were what the same call with the limit r - 1 leaves.
abbrev pub Gained : Given → Kind → ℕ → List ℕ → List ℕ → ℕ → Type 0
Gained g side r rows_left marks_left number =
    NewBytes r (row_part side (after g (r - 1))) (length (table side (run (lent g) (r - 1)))) rows_left marks_left number

-- A side's tables at exit, read below the count that is returned.
pub record TableRight (g : Given) (side : Kind) (rows_left marks_left : List ℕ) (number : ℕ) : Type 0 where
  -- They are those of the run.
  pub rows_read : rows_of (count side (prefix g.kinds)) number rows_left ≡ rows (table side (reached g))
  pub marks_read : take number marks_left ≡ map (λ (x : Entry). x.mark) (table side (reached g))
  -- 'In neither table .. at the end, are two rows below its count equal.'
  pub different : (i j : ℕ) → i < number → j < number → row_at rows_left i ≡ row_at rows_left j → i ≡ j
  -- 'For every finished round r, each table .. has a row with mark r that is equal to no row of that table after round r - 1', 'and it keeps what
  -- it gained until the next clearing'.
  pub new_rows : (r : ℕ) → Finished (lent g) g.limit r → Uncleared side (lent g) r g.limit → Gained g side r rows_left marks_left number
  -- 'And this row and its mark still stand .. when the run ends': in the existential table always, in the universal one if it is never cleared.
  pub to_the_end : (side ≡ universal → g.clear_every ≡ 0) → (r : ℕ) → Finished (lent g) g.limit r → Gained g side r rows_left marks_left number

pub record Ended (g : Given) (r : Outcome) (exit : Areas) : Type 0 where
  pub returned_so : r ≡ returned g
  pub numbered : number_of r.answer ≡ cond (accepted g) (number (reached g).answer) (cause g)
  pub left_so : exit ≡ left g
  -- 'Rows and marks of places given up (below the old count, not the new) are zeroed; the others past the count stay as found': round by round.
  pub by_rounds : accepted g ≡ true → exit ≡ after_by_rounds g g.limit
  -- Demand 1 word for word where the universal table is never cleared: 'rows and marks past the reported counts .. as found'.
  pub as_found : accepted g ≡ true → g.clear_every ≡ 0 → exit ≡ written (lent g) g.limit g.found
  -- 'The verdict is this value of the whole formula': true only where it is true, false only where it is false.
  pub only_true : r.answer ≡ True → verdict g.kinds g.literals ≡ true
  pub only_false : r.answer ≡ False → verdict g.kinds g.literals ≡ false
  pub claim : accepted g ≡ true → Claim (lent g) g.limit
  -- 02: 'The formula with that block set to those values has the same verdict.'
  pub opened : accepted g ≡ true → Opens (lent g) (reached g)
  -- .. and so with the values that the sixteen bytes returned have.
  pub opened_bytes : accepted g ≡ true
      → meaning (drop r.block (prefix g.kinds)) (set_to (row_of r.block r.opening) (matrix (clauses g.literals))) ≡ verdict g.kinds g.literals
  pub tables : accepted g ≡ true → (side : Kind) → TableRight g side (row_part side exit) (mark_part side exit) (count_of side r)
  -- 02: a table of counts 'holds for each row below the count the number of searches of this run .. whose model yielded it, however often'.
  pub counts_read : accepted g ≡ true → (side : Kind) → take (count_of side r) (count_part side exit) ≡ counts (lent g) side g.limit
  pub counted : accepted g ≡ true → CountsRight (lent g) g.limit
