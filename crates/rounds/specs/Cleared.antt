-- Runs worked by hand for 02's C-15, of which it has no example: house preferences, 256 rows a side and limit 9, unless said.
-- Assumes nothing.
use Rattle.std.specs.Prelude.{ℕ, ◌≡◌, true, false, List, [], ◌∷◌, ◌++◌, map, pos, negsuc, replicate}
use Rattle.formula.specs.Formula.{universal, max_rows}
use Rattle.rounds.specs.Run.{under_mark, clears, highest}
use Rattle.rounds.specs.GivenUp.{Part, of_rows, of_marks, of_counts, left_after}
use Rattle.rounds.specs.Worked.{WorkedRun, lent, played, numbers, with_rows, K1, K2, K12, kinds_1, literals_1, kinds_12, literals_12}

-- A run worked by hand with the universal table cleared every k rounds, and what is returned then.
abbrev pub clearing : ℕ → WorkedRun → List ℕ → WorkedRun
clearing k w returned =
    record {
      kinds = w.kinds;
      literals = w.literals;
      preferences = w.preferences;
      room_a = w.room_a;
      room_s = w.room_s;
      limit = w.limit;
      clear_every = k;
      returned = returned;
    }

-- K1, k = 1: true, round 2, counts 1 and 2: the start row is gone.
abbrev pub k1_every : WorkedRun
k1_every = clearing 1 K1 (1 ∷ 2 ∷ 1 ∷ 2 ∷ [])

-- K2, k = 1: false, round 3, which is 2^e + 1 and past 2^a; counts 2 and 2.
abbrev pub k2_every : WorkedRun
k2_every = clearing 1 K2 (0 ∷ 3 ∷ 2 ∷ 2 ∷ [])

-- K12, k = 1: true, round 3, counts 2 and 3.
abbrev pub k12_every : WorkedRun
k12_every = clearing 1 K12 (1 ∷ 3 ∷ 2 ∷ 3 ∷ [])

-- K12, k = 2: true, round 3, counts 1 and 4. A had two rows after round 1, so one place is given up.
abbrev pub k12_second : WorkedRun
k12_second = clearing 2 K12 (1 ∷ 3 ∷ 1 ∷ 4 ∷ [])

-- K1 with one universal row. k = 1: the row of round 1 fits alone; true, round 2. k = 2: no room universal, round 1.
abbrev pub k1_narrow : WorkedRun
k1_narrow = with_rows 1 max_rows 9 kinds_1 literals_1 []

abbrev pub k1_narrow_every : WorkedRun
k1_narrow_every = clearing 1 k1_narrow (1 ∷ 2 ∷ 1 ∷ 2 ∷ [])

abbrev pub k1_narrow_second : WorkedRun
k1_narrow_second = clearing 2 k1_narrow (3 ∷ 1 ∷ 1 ∷ 1 ∷ [])

-- The formula `e 1 0`, `a 2 0`, `1 -2 0`, `-1 2 0`, one universal and two existential rows, k = 1: the two rows of round 2 don't fit, and what
-- round 1 left stays.
abbrev pub left_as_it_was : WorkedRun
left_as_it_was =
    clearing 1 (with_rows 1 2 9 (0 ∷ 1 ∷ []) (pos 1 ∷ negsuc 1 ∷ pos 0 ∷ negsuc 0 ∷ pos 2 ∷ pos 0 ∷ []) []) (3 ∷ 2 ∷ 1 ∷ 2 ∷ [])

-- K12 with three universal rows, k = 2. A has one row, then two; round 2 clears it down to one. So the second place is given up, and the third was never
-- reached.
abbrev pub k12_three : WorkedRun
k12_three = clearing 2 (with_rows 3 max_rows 9 kinds_12 literals_12 []) (1 ∷ 3 ∷ 1 ∷ 4 ∷ [])

abbrev pub cleared_runs : List WorkedRun
cleared_runs = k1_every ∷ k2_every ∷ k12_every ∷ k12_second ∷ k1_narrow_every ∷ k1_narrow_second ∷ left_as_it_was ∷ k12_three ∷ []

-- What the rounds up to r leave of its universal rows, lent as bytes that are all 7, and of marks and counts that are lent.
abbrev pub left_of : Part → ℕ → List ℕ → List ℕ
left_of part r found = left_after part (lent k12_three) universal r found

abbrev pub rows_left : ℕ → List ℕ
rows_left r = left_of of_rows r (replicate 48 7)

-- The sixteen bytes of a row of which the first is given, and those of a place that stays as found.
abbrev pub row_from : ℕ → List ℕ
row_from byte = byte ∷ replicate 15 0

abbrev pub as_lent : List ℕ
as_lent = replicate 16 7

pub record Cleared : Type 0 where
  -- 'Each round divisible by k': the rounds 1 to 6 with k of 0 to 3.
  pub never : map (clears 0) (1 ∷ 2 ∷ 3 ∷ 4 ∷ 5 ∷ 6 ∷ []) ≡ false ∷ false ∷ false ∷ false ∷ false ∷ false ∷ []
  pub every : map (clears 1) (1 ∷ 2 ∷ 3 ∷ 4 ∷ 5 ∷ 6 ∷ []) ≡ true ∷ true ∷ true ∷ true ∷ true ∷ true ∷ []
  pub second : map (clears 2) (1 ∷ 2 ∷ 3 ∷ 4 ∷ 5 ∷ 6 ∷ []) ≡ false ∷ true ∷ false ∷ true ∷ false ∷ true ∷ []
  pub third : map (clears 3) (1 ∷ 2 ∷ 3 ∷ 4 ∷ 5 ∷ 6 ∷ []) ≡ false ∷ false ∷ true ∷ false ∷ false ∷ true ∷ []
  pub runs : map (λ k. numbers (played k)) cleared_runs ≡ map (λ (k : WorkedRun). k.returned) cleared_runs
  -- 'The different rows of that round's model, in order, all with that round's mark.'
  pub k1_a : (played k1_every).A ≡ under_mark 1 (true ∷ []) ∷ []
  pub k2_a : (played k2_every).A ≡ under_mark 2 (true ∷ []) ∷ under_mark 2 (false ∷ []) ∷ []
  pub k12_a : (played k12_second).A ≡ under_mark 2 (true ∷ false ∷ []) ∷ []
  pub k12_highest : highest (lent k12_second) 9 ≡ 2
  pub left_a : (played left_as_it_was).A ≡ under_mark 1 (true ∷ []) ∷ []
  -- 'Rows and marks of places given up (below the old count, not the new) are zeroed; the others past the count stay as found': round by round, in bytes.
  pub rows_0 : rows_left 0 ≡ row_from 2 ++ as_lent ++ as_lent
  pub rows_1 : rows_left 1 ≡ row_from 2 ++ row_from 0 ++ as_lent
  pub rows_2 : rows_left 2 ≡ row_from 1 ++ replicate 16 0 ++ as_lent
  pub rows_9 : rows_left 9 ≡ row_from 1 ++ replicate 16 0 ++ as_lent
  pub marks_0 : left_of of_marks 0 (9 ∷ 9 ∷ 9 ∷ []) ≡ 0 ∷ 9 ∷ 9 ∷ []
  pub marks_1 : left_of of_marks 1 (9 ∷ 9 ∷ 9 ∷ []) ≡ 0 ∷ 1 ∷ 9 ∷ []
  pub marks_2 : left_of of_marks 2 (9 ∷ 9 ∷ 9 ∷ []) ≡ 2 ∷ 0 ∷ 9 ∷ []
  pub marks_9 : left_of of_marks 9 (9 ∷ 9 ∷ 9 ∷ []) ≡ 2 ∷ 0 ∷ 9 ∷ []
  -- .. and of the counts, C-16: the clearing starts again at 1, 'and zeroes those of places given up'.
  pub counts_1 : left_of of_counts 1 (5 ∷ 5 ∷ 5 ∷ []) ≡ 0 ∷ 1 ∷ 5 ∷ []
  pub counts_2 : left_of of_counts 2 (5 ∷ 5 ∷ 5 ∷ []) ≡ 1 ∷ 0 ∷ 5 ∷ []
  pub counts_9 : left_of of_counts 9 (5 ∷ 5 ∷ 5 ∷ []) ≡ 1 ∷ 0 ∷ 5 ∷ []
