-- Counts worked by hand for 02's C-16, of which it has no example: house preferences, 256 rows a side and limit 9, unless said.
-- Assumes nothing.
use Rattle.std.specs.Prelude.{ℕ, ◌≡◌, List, [], ◌∷◌, map, pos, negsuc}
use Rattle.formula.specs.Formula.{existential, universal}
use Rattle.rounds.specs.Worked.{WorkedRun, lent, played, numbers, with_rows, K1, K12}
use Rattle.rounds.specs.Counts.{counts}
use Rattle.rounds.specs.Cleared.{k2_every, k12_every, left_as_it_was}

-- `a 1 0`, `e 2 0`, `2 -1 0`, two universal rows and one existential: no room existential in round 2, whose search yields the row that stands too.
abbrev pub full_s : WorkedRun
full_s = with_rows 2 1 9 (1 ∷ 0 ∷ []) (pos 2 ∷ negsuc 0 ∷ pos 0 ∷ []) (4 ∷ 2 ∷ 2 ∷ 1 ∷ [])

-- `e 1 0`, `a 2 3 0`, `3 -2 0`, `1 3 0`, two rows a side: no room universal in round 2, the same.
abbrev pub full_a : WorkedRun
full_a =
    with_rows 2 2 9 (0 ∷ 1 ∷ 1 ∷ []) (pos 3 ∷ negsuc 1 ∷ pos 0 ∷ pos 1 ∷ pos 3 ∷ pos 0 ∷ []) (3 ∷ 2 ∷ 2 ∷ 2 ∷ [])

-- The counts of both tables of a run worked by hand.
abbrev pub counts_a : WorkedRun → List ℕ
counts_a w = counts (lent w) universal w.limit

abbrev pub counts_s : WorkedRun → List ℕ
counts_s w = counts (lent w) existential w.limit

pub record Counted : Type 0 where
  -- K1: the first row came never, every other row with the search that added it; the first existential one with the next search too.
  pub k1_a : counts_a K1 ≡ 0 ∷ 1 ∷ []
  pub k1_s : counts_s K1 ≡ 2 ∷ 1 ∷ []
  pub k12_a : counts_a K12 ≡ 0 ∷ 1 ∷ 1 ∷ []
  pub k12_s : counts_s K12 ≡ 1 ∷ 2 ∷ 2 ∷ 1 ∷ []
  -- K2, k = 1: the first of the rows of round 2 came in round 1 too, and starts again at 1.
  pub k2_cleared_a : counts_a k2_every ≡ 1 ∷ 1 ∷ []
  -- K12, k = 1: the same; the existential counts know no clearing.
  pub k12_cleared_a : counts_a k12_every ≡ 1 ∷ 1 ∷ []
  pub k12_cleared_s : counts_s k12_every ≡ 2 ∷ 1 ∷ 1 ∷ []
  -- 'A search that ends in no room counts for the rows that stand.'
  pub full : map (λ k. numbers (played k)) (full_s ∷ full_a ∷ []) ≡ full_s.returned ∷ full_a.returned ∷ []
  pub full_counts_s : counts_s full_s ≡ 2 ∷ []
  pub full_counts_a : counts_a full_a ≡ 0 ∷ 2 ∷ []
  -- A clearing that has no room is none: the row of round 1 came again in round 2.
  pub left_counts_a : counts_a left_as_it_was ≡ 2 ∷ []
