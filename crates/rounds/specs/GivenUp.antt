-- 02's C-15 and C-16 in the lent cells, round by round: 'rows and marks of places given up (below the old count, not the new) are zeroed; the others
-- past the count stay as found'. Assumes nothing.
use Rattle.std.specs.Prelude.{ℕ, zero, suc, ◌*◌, ◌-◌, ◌≤◌, ◌≡◌, List, ◌++◌, map, length, drop}
use Rattle.formula.specs.Formula.{Kind, existential, universal}
use Rattle.rows.specs.Table.{table_of, zeroed}
use Rattle.rounds.specs.Run.{Entry, rows, Lent, run, highest}
use Rattle.rounds.specs.Claim.{table}
use Rattle.rounds.specs.Counts.{counts}

-- What is lent of a table: the cells of its rows, of its marks and of its return counts.
pub data Part : Type 0 where
  of_rows of_marks of_counts : Part

-- 'A row is 16 bytes'; marks and counts are one a row.
abbrev pub width : Part → ℕ
width of_rows = 16
width of_marks = 1
width of_counts = 1

-- The cells of what stands below a table's count after round r.
abbrev pub cells : Part → Lent → Kind → ℕ → List ℕ
cells of_rows l side r = table_of (rows (table side (run l r)))
cells of_marks l side r = map (λ (x : Entry). x.mark) (table side (run l r))
cells of_counts l side r = counts l side r

-- What a round leaves where it finds some cells, of which `old` were below the table's count: what now stands below the count, then the places given up,
-- 'below the old count, not the new', zero, and behind them all as found.
abbrev pub stored : List ℕ → ℕ → List ℕ → List ℕ
stored standing old found = standing ++ zeroed (old - length standing) (drop (length standing) found)

-- What the rounds up to r leave, one after the other: the start finds what was lent, each round what the round before it has left.
unfoldable pub stored_after : (ℕ → List ℕ) → ℕ → List ℕ → List ℕ
stored_after standing zero found = stored (standing zero) 0 found
stored_after standing (suc r) found = stored (standing (suc r)) (length (standing r)) (stored_after standing r found)

abbrev pub left_after : Part → Lent → Kind → ℕ → List ℕ → List ℕ
left_after part l side r found = stored_after (cells part l side) r found

-- The places that the rounds up to r have reached over: past the count they were given up. The existential table gives none up.
abbrev pub reached_over : Kind → Lent → ℕ → ℕ
reached_over universal l r = highest l r
reached_over existential l r = 0

-- The rows that a side's table has room for.
abbrev pub room : Kind → Lent → ℕ
room universal l = l.room_a
room existential l = l.room_s

-- All rounds at once: what stands below the count, over what was found with the places zero that the table ever reached over.
pub record GivenUp (l : Lent) (r : ℕ) : Type 0 where
  pub at_once : (part : Part) (side : Kind) (found : List ℕ) → 1 ≤ room side l → width part * room side l ≤ length found
      → left_after part l side r found
      ≡ cells part l side r ++ drop (width part * length (table side (run l r))) (zeroed (width part * reached_over side l r) found)
