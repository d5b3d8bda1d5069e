-- What the functions below `run` promise each other of the return counts: how a table of counts stands for the rows of a table, and what a
-- side's step of a round makes of it.
-- Assumes nothing.
use Rattle.std.specs.Prelude.{ℕ, ◌+◌, ◌^◌, ◌<◌, ◌≡◌, Bool, false, cond, List, [], ◌++◌, map, ℤ, length, drop}
use Rattle.std.proofs.Math.Option.{Option, none, some}
use Rattle.formula.specs.Formula.{work_size, Kind, existential, universal, prefix, clauses}
use Rattle.formula.specs.Meaning.{bit, matrix}
use Rattle.preference.specs.Preference.{prefer}
use Rattle.rows.specs.Table.{table_of, room, zeroed}
use Rattle.expansion.specs.OtherSide.{side_of, other}
use Rattle.expansion.specs.Play.{Row}
use Rattle.expansion.specs.Copies.{among}
use Rattle.expansion.specs.Model.{search}
use Rattle.formula.specs.Lists.{In}
use Rattle.rounds.specs.Run.{Entry, Table, rows, clears}
use Rattle.rounds.specs.Counts.{rows_found}
use Rattle.engine.specs.Outcome.{Given, after}
use Rattle.engine.specs.Private.Growing.{Passes, HoldsRows, Holds, Blank, Half, no_model, no_room, grows, half_table, half_of}

-- The rows that a search yields stand packed from the work area's start.
abbrev pub Packed : Option (List Row) → List ℕ → Type 0
Packed none work = Unit {0}
Packed (some yielded) work = (rest : List ℕ) × (work ≡ table_of yielded ++ rest)

-- A side's step leaves them so.
abbrev pub Packs : List ℕ → List ℤ → List ℕ → List ℕ → ℕ → Bool → List ℕ → List ℕ → Type 0
Packs kinds literals preferences others other_count side work work' =
    (from : Table) (from_found : List ℕ)
    → Passes kinds literals
    → other_count ≡ length from
    → HoldsRows kinds (other (side_of side)) from from_found others
    → length work ≡ work_size
    → Packed (search (prefer preferences) (side_of side) (prefix kinds) (matrix (clauses literals)) (rows from)) work'

-- Some number of each row of a table from the start, and what was found behind them.
abbrev pub tallied : (Row → ℕ) → Table → List ℕ → List ℕ
tallied came t found = map (λ (x : Entry). came x.row) t ++ drop (length t) found

-- Counts stand for the rows of a table: one more of each is a 32-bit number, and what does not stand came never.
pub record Counted (t : Table) (came : Row → ℕ) (found counts : List ℕ) : Type 0 where
  pub in_counts : counts ≡ tallied came t found
  pub far : (x : Row) → came x + 1 < 2 ^ 32
  pub absent : (x : Row) → (In x (rows t) → ⊥) → came x ≡ 0

-- How often a row came after a step: where that cleared the table, in this step alone.
abbrev pub half_since : Bool → Half → ℕ → ℕ
half_since cleared no_model n = n
half_since cleared no_room n = n
half_since cleared (grows u) n = cond cleared 0 n

abbrev pub half_came : Bool → Half → Option (List Row) → (Row → ℕ) → Row → ℕ
half_came cleared h s came x = half_since cleared h (came x) + bit (among x (rows_found s))

-- The existential side's counts.
abbrev pub Tallies : List ℕ → List ℤ → List ℕ → List ℕ → ℕ → List ℕ → List ℕ → ℕ → ℕ → List ℕ → List ℕ → List ℕ → Type 0
Tallies kinds literals preferences others other_count row_part mark_part n mark work counts counts' =
    (from t : Table) (from_found found found_marks counts_found : List ℕ) (came : Row → ℕ)
    → Passes kinds literals
    → other_count ≡ length from
    → n ≡ length t
    → HoldsRows kinds universal from from_found others
    → Holds kinds existential t found found_marks row_part mark_part
    → length work ≡ work_size
    → length counts_found ≡ room found
    → Counted t came counts_found counts
    → counts'
    ≡ tallied
    (half_came false (half_of kinds literals preferences existential (room found) mark from t)
    (search (prefer preferences) existential (prefix kinds) (matrix (clauses literals)) (rows from)) came)
    (half_table t (half_of kinds literals preferences existential (room found) mark from t))
    counts_found

-- The universal side's in round r, which may clear its table. As many places as it had rows were found zero.
abbrev pub TalliesUniversal : List ℕ → List ℤ → List ℕ → List ℕ → ℕ → List ℕ → List ℕ → ℕ → ℕ → ℕ → ℕ → List ℕ → List ℕ → List ℕ → Type 0
TalliesUniversal kinds literals preferences others other_count row_part mark_part n clear_every r mark work counts counts' =
    (from t : Table) (from_found found found_marks counts_found : List ℕ) (place : ℕ) (came : Row → ℕ)
    → Passes kinds literals
    → other_count ≡ length from
    → n ≡ length t
    → HoldsRows kinds existential from from_found others
    → Holds kinds universal t found found_marks row_part mark_part
    → Blank (length t) found found_marks
    → room found ≡ place
    → length work ≡ work_size
    → length counts_found ≡ room found
    → zeroed (length t) counts_found ≡ counts_found
    → Counted t came counts_found counts
    → counts'
    ≡ tallied
    (half_came (clears clear_every r) (half_of kinds literals preferences universal place mark from (cond (clears clear_every r) [] t))
    (search (prefer preferences) universal (prefix kinds) (matrix (clauses literals)) (rows from)) came)
    (half_table t (half_of kinds literals preferences universal place mark from (cond (clears clear_every r) [] t)))
    counts_found

-- A side's counts as the rounds up to r leave them.
abbrev pub counts_after : Kind → Given → ℕ → List ℕ
counts_after universal g r = (after g r).universal_counts
counts_after existential g r = (after g r).existential_counts

-- The lent counts are so.
pub record CountsShow (g : Given) (r : ℕ) (a_counts s_counts : List ℕ) : Type 0 where
  pub counts_a : a_counts ≡ counts_after universal g r
  pub counts_s : s_counts ≡ counts_after existential g r
