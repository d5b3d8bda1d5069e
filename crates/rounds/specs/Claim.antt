-- 01's demand 3 as 02's C-15 restates it for every k: one claim about the whole run, whatever is lent, with every limit from 1. A table after
-- round r is a table of `run l r`. Assumes nothing.
use Rattle.std.specs.Prelude.{ℕ, zero, suc, ◌+◌, ◌-◌, ◌^◌, ◌≤◌, ◌<◌, min, ◌≡◌, ◌↔◌, ◌≢◌, Bool, true, false}
use Rattle.std.proofs.Math.Option.{some}
use Rattle.std.proofs.Math.ListN.{get_elem?}
use Rattle.formula.specs.Formula.{Kind, existential, universal}
use Rattle.formula.specs.Causes.{count}
use Rattle.formula.specs.Meaning.{meaning}
use Rattle.rounds.specs.Run.{clears, Entry, Table, Answer, is_true, is_false, spent, no_room_universal, no_room_existential, Outcome, Lent, round_of, run}

-- The table of a side's rows: A holds universal rows, S existential ones.
abbrev pub table : Kind → Outcome → Table
table universal o = o.A
table existential o = o.S

-- The answer that a side's new rows do not all fit.
abbrev pub no_room : Kind → Answer
no_room universal = no_room_universal
no_room existential = no_room_existential

-- A row and its mark stand at place i, below the table's count.
abbrev pub Stands : Table → ℕ → Entry → Type 0
Stands t i x = get_elem? t i ≡ some x

-- '5. The round is finished. If r is the round limit: spent.' So a round up to the limit is finished if the limit r gives spent, in round r.
pub record Finished (l : Lent) (limit r : ℕ) : Type 0 where
  pub from_one : 1 ≤ r
  pub to_limit : r ≤ limit
  pub reached : (run l r).round ≡ r
  pub passed : (run l r).answer ≡ spent

-- In a table no two rows are equal: where two places hold equal rows they are one place.
abbrev pub AllDifferent : Table → Type 0
AllDifferent t = (i j : ℕ) (x y : Entry) → Stands t i x → Stands t j y → x.row ≡ y.row → i ≡ j

-- A table after round r 'has a row with mark r that is equal to no row of that table' before the round, 'and this row and its mark still
-- stand below that table's count when the run ends': at the same place.
pub record NewRow (r : ℕ) (before after end : Table) : Type 0 where
  pub place : ℕ
  pub entry : Entry
  pub stands : Stands after place entry
  pub marked : entry.mark ≡ r
  pub new : (i : ℕ) (x : Entry) → Stands before i x → x.row ≢ entry.row
  pub still : Stands end place entry

-- The rounds that any run can reach: no more than there are existential rows and one; and if the universal table is never cleared, no more than
-- there are universal rows. 'With k above 0 the last permitted round is 2^e + 1.'
abbrev pub most_with : ℕ → Lent → ℕ
most_with zero l = min (2 ^ count universal l.ks) (2 ^ count existential l.ks + 1)
most_with (suc k) l = 2 ^ count existential l.ks + 1

abbrev pub most_rounds : Lent → ℕ
most_rounds l = most_with l.clear_every l

-- 'Until the next clearing': no round behind r, up to q, is finished and clears the side's table. The existential table is never cleared.
abbrev pub Uncleared : Kind → Lent → ℕ → ℕ → Type 0
Uncleared existential l r q = Unit {0}
Uncleared universal l r q = (p : ℕ) → r < p → Finished l q p → clears l.clear_every p ≡ false

-- The answer that the verdict is.
abbrev pub answer_of : Bool → Answer
answer_of true = is_true
answer_of false = is_false

pub record Claim (l : Lent) (limit : ℕ) : Type 0 where
  -- 'The round returned is the one in which the answer came': the outcome is that of this round, over the tables after the round before it.
  pub round_from_one : 1 ≤ (run l limit).round
  pub round_to_limit : (run l limit).round ≤ limit
  pub came : run l limit ≡ round_of l (run l limit).round (run l ((run l limit).round - 1)).A (run l ((run l limit).round - 1)).S
  -- 'Every round before it is finished.'
  pub before : (r : ℕ) → 1 ≤ r → r < (run l limit).round → Finished l limit r
  -- 'It is finished itself exactly if the answer is spent', and no later one is finished.
  pub itself : Finished l limit (run l limit).round ↔ ((run l limit).answer ≡ spent)
  pub none_later : (r : ℕ) → Finished l limit r → r ≤ (run l limit).round
  -- '5. If r is the round limit: spent', and at no other round.
  pub spent_at_limit : (run l limit).answer ≡ spent → (run l limit).round ≡ limit
  -- 'The existential table still gains in every finished round, the universal one in every finished round that isn't a clearing one' (in a clearing
  -- one too); the row stands in the table after each round q before the next clearing.
  pub new_rows : (side : Kind) (r q : ℕ) → Finished l limit r → r ≤ q → q ≤ limit → Uncleared side l r q
      → NewRow r (table side (run l (r - 1))) (table side (run l r)) (table side (run l q))
  -- 'And it keeps what it gained until the next clearing': every row that stands after round r stands, with its mark and at its place, after each
  -- round q before that.
  pub keeps : (side : Kind) (r q : ℕ) → r ≤ q → Uncleared side l r q → (i : ℕ) (x : Entry) → Stands (table side (run l r)) i x
      → Stands (table side (run l q)) i x
  -- 'And this row and its mark still stand .. when the run ends': in the existential table always, in the universal one if it is never cleared.
  pub to_the_end : (side : Kind) (r : ℕ) → (side ≡ universal → l.clear_every ≡ 0) → Finished l limit r
      → NewRow r (table side (run l (r - 1))) (table side (run l r)) (table side (run l limit))
  -- 'In each round divisible by k the universal table comes to hold only the .. rows of that round's model, .. all with that round's mark.'
  pub cleared : (r : ℕ) → Finished l limit r → clears l.clear_every r ≡ true → (i : ℕ) (x : Entry) → Stands (run l r).A i x → x.mark ≡ r
  -- 'In neither table, after a finished round or at the end, are two rows below its count equal.'
  pub different_after : (side : Kind) (r : ℕ) → Finished l limit r → AllDifferent (table side (run l r))
  pub different_at_end : (side : Kind) → AllDifferent (table side (run l limit))
  -- The rounds made are those of the marks: no mark is past the round returned, and S has a new row with that mark, unless the round ended
  -- in step 1 or without room in step 2.
  pub marks_made : (side : Kind) (i : ℕ) (x : Entry) → Stands (table side (run l limit)) i x → x.mark ≤ (run l limit).round
  pub last_mark : (run l limit).answer ≢ is_false → (run l limit).answer ≢ no_room_existential
      → NewRow (run l limit).round (run l ((run l limit).round - 1)).S (run l limit).S (run l limit).S
  -- 'If they don't all fit, none is added': the table for which there is no room is that after the round before.
  pub none_added : (side : Kind) → (run l limit).answer ≡ no_room side → table side (run l limit) ≡ table side (run l ((run l limit).round - 1))
  -- No round is past min(2^a, 2^e + 1), a and e being the numbers of universal and existential unknowns; with k above 0, past 2^e + 1.
  pub most : (run l limit).round ≤ most_rounds l
  -- With 2^a and 2^e rows and that limit the answer is the verdict.
  pub decided : 2 ^ count universal l.ks ≤ l.room_a → 2 ^ count existential l.ks ≤ l.room_s → most_rounds l ≤ limit
      → (run l limit).answer ≡ answer_of (meaning l.ks l.phi)
