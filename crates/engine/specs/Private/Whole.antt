-- The search as a whole, for the contracts of its private functions: what it may rest on once the causes are tested, what the table's search
-- leaves, and what is found. Assumes nothing.
use Rattle.std.specs.Prelude.{ℕ, zero, suc, ◌+◌, ◌≤◌, ◌<◌, ◌≡◌, Bool, true, false, List, ℤ, length, get_or, take, replicate, Result, Ok, Err}
use Rattle.std.proofs.Math.Option.{Option, none, some}
use Rattle.cause.specs.declared.Cause.{Cause}
use Rattle.cause.specs.Cause.{caused}
use Rattle.formula.specs.Formula.{max_unknowns, max_rows, max_entries, work_size, Kind, existential, universal, prefix, clauses}
use Rattle.formula.specs.Meaning.{matrix}
use Rattle.preference.specs.Preference.{prefer}
use Rattle.formula.specs.Causes.{count}
use Rattle.formula.specs.Private.Accepted.{Accepted}
use Rattle.rows.specs.Table.{room, rows_of}
use Rattle.expansion.specs.OtherSide.{other}
use Rattle.expansion.specs.Play.{Row}
use Rattle.expansion.specs.Model.{search}
use Rattle.engine.specs.declared.search.Search.{Search}
use Rattle.engine.specs.Search.{answer, left}
use Rattle.engine.specs.Private.Prepared.{later_cause, LastLeads}
use Rattle.codes.specs.Private.Clauses.{Coded, Encoded}
use Rattle.index.specs.Index.{index_size, index_of}
use Rattle.search_cells.specs.Private.Changes.{FirstDifference}
use Rattle.search_cells.specs.Steps.{rows_filled, packed}
use Rattle.search_numbering.specs.Private.Wants.{WantsFilled}
use Rattle.engine.specs.Private.TermTables.{table_size}
use Rattle.engine.specs.Private.Terms.{Listed}
use Rattle.engine.specs.Private.FirstBlock.{Reads}
use Rattle.engine.specs.Private.Steps.{Tabled, FromStart}

-- The side as a number: 0 existential, 1 universal.
abbrev pub side_kind : ℕ → Kind
side_kind zero = existential
side_kind (suc s) = universal

-- The kinds and the tables have their sizes, and the codes are literals of unknowns.
pub record Tables (kinds codes index : List ℕ) : Type 0 where
  pub few_unknowns : length kinds ≤ max_unknowns
  pub entries : length codes ≤ max_entries
  pub coded : Coded max_unknowns codes
  pub index_lent : length index ≡ index_size

-- The tables are those of an accepted formula.
pub record TablesOf (kinds : List ℕ) (literals : List ℤ) (codes index terms : List ℕ) : Type 0 where
  pub accepted : Accepted kinds literals
  pub encoded : Encoded literals codes
  pub listed : index ≡ index_of codes
  pub terms_sized : length terms ≡ table_size
  pub terms_listed : Listed kinds codes terms

-- No cause applies.
pub record Ready (kinds codes index rows : List ℕ) (lent others side : ℕ) (work : List ℕ) : Type 0 where
  pub tables : Tables kinds codes index
  pub inside : lent ≤ room rows
  pub few : room rows ≤ max_rows
  pub others_known : others ≡ count (other (side_kind side)) (prefix kinds)
  pub side_fits : side ≤ 1
  pub area : length work ≡ work_size

-- What is rested on once the rows are sorted: entry r of `place` is the sorted place of lent row r.
pub record Arranged (kinds codes index place : List ℕ) (side : ℕ) (work : List ℕ) : Type 0 where
  pub tables : Tables kinds codes index
  pub side_fits : side ≤ 1
  pub some_row : 0 < length place
  pub few : length place ≤ max_rows
  pub inside : (r : ℕ) → r < length place → get_or place r 0 < length place
  pub met : (i : ℕ) → i < length place → (r : ℕ) × (r < length place) × (get_or place r 0 ≡ i)
  pub area : length work ≡ work_size

-- The search over a filled table w of the sorted rows: where neighbours differ, what the copies want, what is known of the first block, and what is left.
pub record OverCells (kinds codes index terms preferences own : List ℕ) (known : ℕ) (place : List ℕ) (side : ℕ) (w u : List ℕ) (r : Bool) : Type 0 where
  pub all : List ℕ
  pub wanting_area : List ℕ
  pub long : length place ≤ length all
  pub compared : (i : ℕ) → i + 1 < length place → FirstDifference kinds side w i (get_or all (i + 1) 0)
  pub wanting : WantsFilled kinds preferences place all side w wanting_area
  pub block : List ℕ
  pub reads : Reads kinds own known side block (length block)
  pub from : Tabled side kinds codes index terms → FromStart kinds (take (length place) all) codes block side wanting_area u r

-- The search over rows at their sorted places, from the area w to x: the table is filled and searched, and its rows are packed, or it is cleared.
pub record OverPlaces (kinds codes index terms preferences own : List ℕ) (known : ℕ) (rows place : List ℕ) (side : ℕ) (w x : List ℕ) (r : Bool) : Type 0 where
  pub searched : List ℕ
  pub sized : length searched ≡ length w
  pub decided : OverCells kinds codes index terms preferences own known place side (rows_filled kinds rows place side w) searched r
  pub yields : r ≡ true → x ≡ packed kinds place side searched
  pub clears : r ≡ false → x ≡ replicate (length w) 0

-- What is found, said by a flag and the work area.
abbrev pub FoundIs : Option (List Row) → Bool → List ℕ → Type 0
FoundIs none r u = (r ≡ false) × (u ≡ left none)
FoundIs (some yielded) r u = (r ≡ true) × (u ≡ left (some yielded))

-- What is found over the tables of any formula, where the known row leads.
abbrev pub Finds : List ℕ → List ℕ → List ℕ → List ℕ → List ℕ → List ℕ → ℕ → List ℕ → ℕ → ℕ → ℕ → Bool → List ℕ → Type 0
Finds kinds codes index terms preferences own known rows lent others side r u =
    (literals : List ℤ) → TablesOf kinds literals codes index terms
    → LastLeads kinds literals preferences own known (side_kind side) (rows_of others lent rows)
    → FoundIs (search (prefer preferences) (side_kind side) (prefix kinds) (matrix (clauses literals)) (rows_of others lent rows)) r u

-- The tables fit, and the other side has `others` unknowns.
pub record Accepting (kinds codes index : List ℕ) (others side : ℕ) : Type 0 where
  pub tables : Tables kinds codes index
  pub others_known : others ≡ count (other (side_kind side)) (prefix kinds)
  pub side_fits : side ≤ 1

-- What is answered over tables that fit, and what is left.
pub record Answered (kinds codes index terms preferences own : List ℕ) (known : ℕ) (rows : List ℕ) (lent others side : ℕ) (w u : List ℕ) (r : Result Search Cause) : Type 0 where
  pub refused : (later_cause rows lent others w ≡ 0 → ⊥) → (r ≡ Err (caused (later_cause rows lent others w))) × (u ≡ w)
  pub answered : later_cause rows lent others w ≡ 0 → (literals : List ℤ) → TablesOf kinds literals codes index terms
      → LastLeads kinds literals preferences own known (side_kind side) (rows_of others lent rows)
      → (r ≡ Ok (answer (search (prefer preferences) (side_kind side) (prefix kinds) (matrix (clauses literals)) (rows_of others lent rows))))
      × (u ≡ left (search (prefer preferences) (side_kind side) (prefix kinds) (matrix (clauses literals)) (rows_of others lent rows)))
