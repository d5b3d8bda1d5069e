-- What holds while the tables are made. No public contract cites it. Assumes nothing.
use Rattle.std.specs.Prelude.{ℕ, ◌+◌, ◌*◌, ◌<◌, ◌≤◌, ◌≡◌, ◌⊎◌, true, false, List, length, get_or, drop}
use Rattle.formula.specs.Formula.{max_clauses}
use Rattle.formula.specs.Lists.{Some}
use Rattle.codes.specs.Private.Clauses.{position, clause_of}
use Rattle.search_cells.specs.Cells.{cells}
use Rattle.engine.specs.Private.TermTables.{others, start_of, term_of, listed_in, row_words, names_from, bit, is_open, first_of, name_of}
use Rattle.engine.specs.Private.Terms.{Entered, GivenTrue}

-- The entry behind the clause at `start`.
pub record Past (codes : List ℕ) (start next : ℕ) : Type 0 where
  pub ahead : start < next
  pub inside : next ≤ length codes
  pub none : (e : ℕ) → start ≤ e → e + 1 < next → get_or codes e 0 ≡ 0 → ⊥

-- Entry j is made for the clause at `start`; those before it stay.
pub record EntryMade (kinds codes : List ℕ) (j start : ℕ) (before after : List ℕ) : Type 0 where
  pub entered : (e : ℕ) → (e ≡ start) ⊎ Entered kinds codes before j e → Entered kinds codes after (j + 1) e

-- The last entry of the table is made for the empty clause at the end, among the others.
pub record Closed (last end : ℕ) (after : List ℕ) : Type 0 where
  pub there : start_of after last ≡ end
  pub term : term_of after last ≡ others
  pub listed : listed_in after ≡ last + 1

-- Words lose no bit.
pub record Grown (before after : List ℕ) : Type 0 where
  pub keeps : (p l : ℕ) → bit (get_or before p 0) l ≡ true → bit (get_or after p 0) l ≡ true

-- The word at p takes in the bits of another.
pub record Joined (p rows : ℕ) (before after : List ℕ) : Type 0 where
  pub grown : Grown before after
  pub takes : (l : ℕ) → bit rows l ≡ true → bit (get_or after p 0) l ≡ true

-- Of 64 rows from `from` on, those in which position k, of that kind, may be true, and those in which it may be false: all if it is own.
pub record Told (kind : ℕ) (work : List ℕ) (k from rows on off : ℕ) : Type 0 where
  pub true_there : (l : ℕ) → l < rows → (bit on l ≡ true) ⊎ ((kind ≡ 1 → ⊥) × ((cells work).value (from + l) k ≡ false))
  pub false_there : (l : ℕ) → l < rows → (bit off l ≡ true) ⊎ ((kind ≡ 1 → ⊥) × ((cells work).value (from + l) k ≡ true))

-- A literal of one of the first n positions may miss in the rows of its word; in others it is given and true.
pub record Missed (kinds work : List ℕ) (from rows n : ℕ) (misses : List ℕ) : Type 0 where
  pub every : (c l : ℕ) → 2 ≤ c → position c < n → l < rows → (bit (get_or misses c 0) l ≡ true) ⊎ GivenTrue kinds work (from + l) c

-- The same for all positions and the rows of word w below the count, which are the bits of another word.
pub record RowsLooked (kinds work : List ℕ) (w count all : ℕ) (misses : List ℕ) : Type 0 where
  pub rows : ℕ
  pub fits : rows ≤ 64
  pub enough : (i : ℕ) → i < count → i < 64 * (w + 1) → i < 64 * w + rows
  pub ones : (l : ℕ) → l < rows → bit all l ≡ true
  pub missed : Missed kinds work (64 * w) rows (length kinds) misses

-- The literal of code c doesn't miss in row l of the word.
unfoldable pub Hits : List ℕ → ℕ → ℕ → Type 0
Hits misses l c = bit (get_or misses c 0) l ≡ false

-- Of the rows those remain in which no literal of the clause at `start` hits.
pub record Remaining (codes misses : List ℕ) (start rows left : ℕ) : Type 0 where
  pub every : (l : ℕ) → bit rows l ≡ true → (bit left l ≡ true) ⊎ Some (Hits misses l) (clause_of (drop start codes))

-- The first n clauses of the table, in the rows of word w.
pub record Visited (codes terms misses : List ℕ) (w all n : ℕ) (opened : List ℕ) : Type 0 where
  pub every : (j l : ℕ) → j < n → term_of terms j ≤ others → bit all l ≡ true
      → (bit (get_or opened (row_words * term_of terms j + w) 0) l ≡ true) ⊎ Some (Hits misses l) (clause_of (drop (start_of terms j) codes))

-- All clauses of the table.
pub record WordFilled (codes terms misses : List ℕ) (w all : ℕ) (before after : List ℕ) : Type 0 where
  pub grown : Grown before after
  pub listed : listed_in terms ≤ max_clauses → Visited codes terms misses w all (listed_in terms) after

-- The same for the rows below n.
pub record Filled (kinds codes terms work : List ℕ) (n : ℕ) (opened : List ℕ) : Type 0 where
  pub listed : (i j : ℕ) → i < n → listed_in terms ≤ max_clauses → j < listed_in terms → term_of terms j ≤ others
      → (is_open opened (term_of terms j) i ≡ true) ⊎ Some (GivenTrue kinds work i) (clause_of (drop (start_of terms j) codes))

-- The clauses that stand for the first n terms are named; the rows stay.
pub record Named (terms : List ℕ) (n : ℕ) (before after : List ℕ) : Type 0 where
  pub rows : (p : ℕ) → p < names_from → get_or after p 0 ≡ get_or before p 0
  pub names : (t : ℕ) → t < n → name_of after t ≡ first_of terms t
