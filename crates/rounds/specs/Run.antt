-- 01's 'The run': the start, a round with its five steps, the run with a limit; and 02's C-15, clearing the universal table. Assumes nothing.
use Rattle.std.specs.Prelude.{ℕ, zero, suc, ◌%◌, max, Bool, false, cond, List, [], ◌∷◌, ◌++◌, map, eqb, leb, length}
use Rattle.std.proofs.Math.Option.{Option, none, some}
use Rattle.formula.specs.Formula.{Kind, existential, universal}
use Rattle.formula.specs.Causes.{count}
use Rattle.rows.specs.Row.{values}
use Rattle.expansion.specs.Play.{Row}
use Rattle.expansion.specs.Copies.{fresh}
use Rattle.expansion.specs.Model.{search}

-- A place of a row table with its mark: 'the round it came in'.
pub record Entry : Type 0 where
  pub row : Row
  pub mark : ℕ

-- What stands below a table's count.
abbrev pub Table : Type 0
Table = List Entry

abbrev pub rows : Table → List Row
rows t = map (λ (x : Entry). x.row) t

abbrev pub under_mark : ℕ → Row → Entry
under_mark r row = record { row = row; mark = r }

-- 'Answer numbers: 0 false, 1 true, 2 spent, 3 no room universal, 4 no room existential.'
pub data Answer : Type 0 where
  is_false is_true spent no_room_universal no_room_existential : Answer

abbrev pub number : Answer → ℕ
number is_false = 0
number is_true = 1
number spent = 2
number no_room_universal = 3
number no_room_existential = 4

-- 'Returned: the answer, the round reached and made, the counts of A and S.' The counts are the tables' lengths.
pub record Outcome : Type 0 where
  pub answer : Answer
  pub round : ℕ
  pub A : Table
  pub S : Table

abbrev pub outcome : Answer → ℕ → Table → Table → Outcome
outcome a r A S = record { answer = a; round = r; A = A; S = S }

-- 'Those not in the table are added in that order, each once, mark r. If they don't all fit, none is added.'
abbrev pub grown : ℕ → Table → List Row → Table
grown r t yielded = t ++ map (under_mark r) (fresh (rows t) yielded)

abbrev pub if_fits : ℕ → Table → Option Table
if_fits room t = cond (leb (length t) room) (some t) none

-- What a run is given; the rows that each table has room for; and 02's k, 'a new .. number k, 0 for never': the universal table's clearing.
pub record Lent : Type 0 where
  pub ks : List Kind
  pub phi : List Bool → Bool
  pub prefer : ℕ → Bool
  pub room_a : ℕ
  pub room_s : ℕ
  pub clear_every : ℕ

-- 'At the start A holds one row, mark 0, its bit k being preference k; S is empty.'
abbrev pub start : Lent → Outcome
start l = outcome spent zero (under_mark zero (values (count universal l.ks) l.prefer) ∷ []) []

-- The universal table is cleared 'in step 4 of each round divisible by k'.
unfoldable pub clears : ℕ → ℕ → Bool
clears zero r = false
clears (suc k) r = eqb (r % suc k) 0

-- What step 4 of round r keeps of the universal table. In a round that clears this is nothing, so that the table 'comes to hold only the different
-- rows of that round's model, in order, all with that round's mark'; 'no room then means that these rows alone don't fit, and leaves the table'.
abbrev pub kept : Lent → ℕ → Table → Table
kept l r A = cond (clears l.clear_every r) [] A

-- Steps 4 and 5 of round r. '4. Otherwise the same towards A: no room, universal. 5. The round is finished.'
abbrev pub step_4 : ℕ → Table → Table → Option Table → Outcome
step_4 r A S none = outcome no_room_universal r A S
step_4 r A S (some A') = outcome spent r A' S

-- '3. No model over S: true.'
abbrev pub step_3 : Lent → ℕ → Table → Table → Option (List Row) → Outcome
step_3 l r A S none = outcome is_true r A S
step_3 l r A S (some yielded) = step_4 r A S (if_fits l.room_a (grown r (kept l r A) yielded))

-- '2. Otherwise each row of A, in order, yields an existential row; those not in S are added .. no room, existential.'
abbrev pub step_2 : Lent → ℕ → Table → Table → Option Table → Outcome
step_2 l r A S none = outcome no_room_existential r A S
step_2 l r A S (some S') = step_3 l r A S' (search l.prefer universal l.ks l.phi (rows S'))

-- '1. No model over A: false.'
abbrev pub step_1 : Lent → ℕ → Table → Table → Option (List Row) → Outcome
step_1 l r A S none = outcome is_false r A S
step_1 l r A S (some yielded) = step_2 l r A S (if_fits l.room_s (grown r S yielded))

-- Round r over the tables A and S.
unfoldable pub round_of : Lent → ℕ → Table → Table → Outcome
round_of l r A S = step_1 l r A S (search l.prefer existential l.ks l.phi (rows A))

-- '5. .. If r is the round limit: spent.' A run with one round more goes on where the run before it is spent; with no round it is the start.
abbrev pub next : Lent → ℕ → Answer → Outcome → Outcome
next l r spent o = round_of l r o.A o.S
next l r is_false o = o
next l r is_true o = o
next l r no_room_universal o = o
next l r no_room_existential o = o

-- 'A table after round r is the rows and marks that stand below its count when the same things are lent with the limit r;
-- after round 0 it is that of the start.'
unfoldable pub run : Lent → ℕ → Outcome
run l zero = start l
run l (suc r) = next l (suc r) (run l r).answer (run l r)

-- The largest count that the universal table had after any of the rounds up to r: so many of its places were ever written.
unfoldable pub highest : Lent → ℕ → ℕ
highest l zero = 1
highest l (suc r) = max (highest l r) (length (run l (suc r)).A)
