-- What `run` returns and leaves, for everything that is lent: causes 1 to 4, 16, 5 and 6 in order, then the outcome of the run with the limit. Assumes nothing.
use Rattle.std.specs.Prelude.{ℕ, ◌*◌, Bool, not, ◌&&◌, cond, List, ◌++◌, map, eqb, ℤ, length, drop, replicate}
use Rattle.formula.specs.Formula.{work_size, Kind, existential, universal, prefix, clauses}
use Rattle.formula.specs.Meaning.{matrix}
use Rattle.formula.specs.Causes.{checked, number as cause_number}
use Rattle.preference.specs.Preference.{prefer}
use Rattle.rows.specs.Row.{bytes_of}
use Rattle.rows.specs.Table.{table_of, room, table_fits, one_a_row, zeroed}
use Rattle.rounds.specs.Run.{Entry, Table, rows, Lent, run, highest, is_false, is_true, spent, no_room_universal, no_room_existential, Answer as RunAnswer, Outcome as RunOutcome}
use Rattle.rounds.specs.Opening.{opening, opening_length}
use Rattle.rounds.specs.Counts.{counts}
use Rattle.rounds.specs.GivenUp.{of_rows, of_marks, of_counts, left_after}
use Rattle.engine.specs.declared.run.Answer.{Answer}
use Rattle.engine.specs.declared.run.Answer.TheVariants.{False, True, Spent, NoRoomUniversal, NoRoomExistential, Refused}
use Rattle.engine.specs.declared.run.Outcome.{Outcome}

-- What is lent to be written: each side's rows, marks and return counts, and the work area.
pub record Areas : Type 0 where
  pub universal_rows : List ℕ
  pub universal_marks : List ℕ
  pub universal_counts : List ℕ
  pub existential_rows : List ℕ
  pub existential_marks : List ℕ
  pub existential_counts : List ℕ
  pub work : List ℕ

abbrev pub areas : List ℕ → List ℕ → List ℕ → List ℕ → List ℕ → List ℕ → List ℕ → Areas
areas A a_marks a_counts S s_marks s_counts work =
    record { universal_rows = A; universal_marks = a_marks; universal_counts = a_counts; existential_rows = S; existential_marks = s_marks; existential_counts = s_counts; work = work }

-- All that is lent: formula, preferences, what the areas were found to hold, limit, and 02's k, how often the universal table is cleared.
pub record Given : Type 0 where
  pub kinds : List ℕ
  pub literals : List ℤ
  pub preferences : List ℕ
  pub found : Areas
  pub limit : ℕ
  pub clear_every : ℕ

abbrev pub given : List ℕ → List ℤ → List ℕ → Areas → ℕ → ℕ → Given
given kinds literals preferences found limit clear_every =
    record { kinds = kinds; literals = literals; preferences = preferences; found = found; limit = limit; clear_every = clear_every }

-- The same as the run's definition takes it.
abbrev pub lent : Given → Lent
lent g =
    record {
      ks = prefix g.kinds;
      phi = matrix (clauses g.literals);
      prefer = prefer g.preferences;
      room_a = room g.found.universal_rows;
      room_s = room g.found.existential_rows;
      clear_every = g.clear_every;
    }

-- Cause 4: 'row table not 16 to 4,096 bytes in sixteens, or (run) marks not one a row', of either side.
unfoldable pub side_fits : List ℕ → List ℕ → Bool
side_fits rows marks = table_fits rows && one_a_row rows marks

unfoldable pub tables_fit : List ℕ → List ℕ → List ℕ → List ℕ → Bool
tables_fit A a_marks S s_marks = side_fits A a_marks && side_fits S s_marks

-- Cause 16, which 'refuses .. a count table that isn't one entry a row', of either side.
unfoldable pub tables_counted : List ℕ → List ℕ → List ℕ → List ℕ → Bool
tables_counted A a_counts S s_counts = one_a_row A a_counts && one_a_row S s_counts

-- The first cause that applies, or 0: 1 to 3 of the formula, 4 of the tables, 16 of their counts, 5 'work area not 65,536', 6 'limit 0'.
unfoldable pub cause : Given → ℕ
cause g =
    let formula : ℕ = cause_number (checked g.kinds g.literals) in
    let later : ℕ =
    cond (not (tables_fit g.found.universal_rows g.found.universal_marks g.found.existential_rows g.found.existential_marks)) 4
    (cond (not (tables_counted g.found.universal_rows g.found.universal_counts g.found.existential_rows g.found.existential_counts)) 16
    (cond (not (eqb (length g.found.work) work_size)) 5 (cond (eqb g.limit 0) 6 0))) in
    cond (eqb formula 0) later formula

abbrev pub accepted : Given → Bool
accepted g = eqb (cause g) 0

-- What an accepted run comes to: that of 01's run with the limit.
abbrev pub reached : Given → RunOutcome
reached g = run (lent g) g.limit

-- An answer of the definition, as the code names it.
abbrev pub named : RunAnswer → Answer
named is_false = False
named is_true = True
named spent = Spent
named no_room_universal = NoRoomUniversal
named no_room_existential = NoRoomExistential

-- 01's number of each case: 'answer numbers: 0 false, 1 true, 2 spent, 3 no room universal, 4 no room existential'; a refusal has its cause's.
abbrev pub number_of : Answer → ℕ
number_of False = 0
number_of True = 1
number_of Spent = 2
number_of NoRoomUniversal = 3
number_of NoRoomExistential = 4
number_of (Refused cause) = cause

-- 'Returned: the answer, the round reached and made, the counts of A and S.' 02 adds the opening, with its block's length.
abbrev pub reported : List Kind → RunOutcome → Outcome
reported ks o =
    record {
      answer = named o.answer;
      round = o.round;
      universal = length o.A;
      existential = length o.S;
      opening = bytes_of (opening ks o);
      block = opening_length o.answer ks;
    }

-- On a refusal all but the cause is 0.
abbrev pub refusal : ℕ → Outcome
refusal n = record { answer = Refused n; round = 0; universal = 0; existential = 0; opening = replicate 16 0; block = 0 }

unfoldable pub returned : Given → Outcome
returned g =
    let answered = reported (prefix g.kinds) (reached g) in
    cond (accepted g) answered (refusal (cause g))

-- The bytes of a table: its rows from the start, and what was found behind them; the same of its marks.
unfoldable pub row_bytes : Table → List ℕ → List ℕ
row_bytes t found = table_of (rows t) ++ drop (16 * length t) found

unfoldable pub mark_numbers : Table → List ℕ → List ℕ
mark_numbers t found = map (λ (x : Entry). x.mark) t ++ drop (length t) found

-- The areas with the tables of the run after round r in them, each over what was found, and with the work area zero.
abbrev pub written : Lent → ℕ → Areas → Areas
written l r found =
    areas
    (row_bytes (run l r).A found.universal_rows)
    (mark_numbers (run l r).A found.universal_marks)
    (counts l universal r ++ drop (length (run l r).A) found.universal_counts)
    (row_bytes (run l r).S found.existential_rows)
    (mark_numbers (run l r).S found.existential_marks)
    (counts l existential r ++ drop (length (run l r).S) found.existential_counts)
    (replicate work_size 0)

-- 02, C-15: 'rows and marks of places given up (below the old count, not the new) are zeroed; the others past the count stay as found'; C-16 the same
-- of the counts. So where the universal table has reached over n places, these are zero behind its rows.
abbrev pub given_up : ℕ → Areas → Areas
given_up n found =
    areas
    (zeroed (16 * n) found.universal_rows)
    (zeroed n found.universal_marks)
    (zeroed n found.universal_counts)
    found.existential_rows
    found.existential_marks
    found.existential_counts
    found.work

-- What the rounds up to r leave.
abbrev pub after : Given → ℕ → Areas
after g r = written (lent g) r (given_up (highest (lent g) r) g.found)

-- The same in 02's own words, one round after the other: what a round finds below the old count and not the new becomes zero, and all behind it stays.
abbrev pub after_by_rounds : Given → ℕ → Areas
after_by_rounds g r =
    areas
    (left_after of_rows (lent g) universal r g.found.universal_rows)
    (left_after of_marks (lent g) universal r g.found.universal_marks)
    (left_after of_counts (lent g) universal r g.found.universal_counts)
    (left_after of_rows (lent g) existential r g.found.existential_rows)
    (left_after of_marks (lent g) existential r g.found.existential_marks)
    (left_after of_counts (lent g) existential r g.found.existential_counts)
    (replicate work_size 0)

-- After an answer the areas are as the run leaves them, after a refusal as found.
unfoldable pub left : Given → Areas
left g =
    let answered = after g g.limit in
    cond (accepted g) answered g.found
