-- 02's C-16, how often a row came back: 'the number of searches of this run (universal: from the last clearing on) whose model yielded it,
-- however often'. It is read from the run; the run knows nothing of it. Assumes nothing.
use Rattle.std.specs.Prelude.{ℕ, zero, suc, ◌+◌, ◌-◌, ◌≤◌, ◌≡◌, Bool, true, not, ◌&&◌, ◌||◌, cond, List, [], map, ◌≢◌, eqb}
use Rattle.std.proofs.Math.Option.{Option, none, some}
use Rattle.formula.specs.Formula.{Kind, existential, universal}
use Rattle.formula.specs.Meaning.{bit}
use Rattle.expansion.specs.Play.{Row}
use Rattle.expansion.specs.Copies.{among}
use Rattle.expansion.specs.Model.{search}
use Rattle.rounds.specs.Run.{Entry, rows, Answer, number, Lent, clears, run}
use Rattle.rounds.specs.Claim.{table, Stands, Finished}

-- The rows that a search yielded; none if it found no model.
abbrev pub rows_found : Option (List Row) → List Row
rows_found none = []
rows_found (some yielded) = yielded

-- Whether the run goes on (2, spent), and whether the round that an answer came in was not ended by step 1 (0, false) or 2 (4, no room existential).
abbrev pub is_spent : Answer → Bool
is_spent a = eqb (number a) 2

abbrev pub came_to_3 : Answer → Bool
came_to_3 a = not (eqb (number a) 0 || eqb (number a) 4)

-- The rows that a side's search of round r + 1 yielded; none if it was not made or found no model. Step 1 is the existential side's, over A; step 3
-- the universal side's, over S, which later steps leave.
unfoldable pub searched : Lent → Kind → ℕ → List Row
searched l existential r =
    let yielded = rows_found (search l.prefer existential l.ks l.phi (rows (run l r).A)) in
    cond (is_spent (run l r).answer) yielded []
searched l universal r =
    let yielded = rows_found (search l.prefer universal l.ks l.phi (rows (run l (suc r)).S)) in
    cond (is_spent (run l r).answer && came_to_3 (run l (suc r)).answer) yielded []

-- 'Universal: from the last clearing on': where round r is finished and clears, what came before it is not counted.
abbrev pub since : Lent → Kind → ℕ → ℕ → ℕ
since l existential r n = n
since l universal r n = cond (is_spent (run l r).answer && clears l.clear_every r) 0 n

-- How often a row came in the rounds up to r: a search counts once.
unfoldable pub came : Lent → Kind → ℕ → Row → ℕ
came l side zero x = 0
came l side (suc r) x = since l side (suc r) (came l side r x) + bit (among x (searched l side r))

-- A side's counts when the run ends: of each row below the table's count, how often it came.
unfoldable pub counts : Lent → Kind → ℕ → List ℕ
counts l side limit = map (λ (x : Entry). came l side limit x.row) (table side (run l limit))

-- What follows of the counts.
pub record CountsRight (l : Lent) (limit : ℕ) : Type 0 where
  -- No row came more often than there were rounds.
  pub at_most : (side : Kind) (x : Row) → came l side limit x ≤ (run l limit).round
  -- A row that a finished round added to its table came once, in that round.
  pub added_once : (side : Kind) (r : ℕ) → Finished l limit r → (i : ℕ) (x : Entry) → Stands (table side (run l r)) i x
      → ((j : ℕ) (y : Entry) → Stands (table side (run l (r - 1))) j y → y.row ≢ x.row) → came l side r x.row ≡ 1
  -- 'A clearing starts the universal counts again at 1.'
  pub restarted : (r : ℕ) → Finished l limit r → clears l.clear_every r ≡ true → (i : ℕ) (x : Entry) → Stands (run l r).A i x
      → came l universal r x.row ≡ 1
