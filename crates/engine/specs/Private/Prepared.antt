-- A search over tables that were made of the formula before: what the tables hold, the causes, and what is promised of `prepare` and `first_model_over`.
-- Assumes nothing.
use Rattle.std.specs.Prelude.{ℕ, ◌-◌, ◌<◌, ◌≡◌, Bool, not, cond, ◌&&◌, ◌||◌, List, eqb, ltb, ℤ, length, take, Result, Ok, Err}
use Rattle.cause.specs.declared.Cause.{Cause}
use Rattle.cause.specs.Cause.{caused}
use Rattle.formula.specs.Formula.{max_entries, work_size, Kind, prefix, clauses}
use Rattle.formula.specs.Meaning.{matrix}
use Rattle.formula.specs.Causes.{any, cause_1, checked, sizes, count}
use Rattle.preference.specs.Preference.{prefer}
use Rattle.rows.specs.Row.{row_of}
use Rattle.rows.specs.Table.{row_at, room, table_fits}
use Rattle.rows.specs.Stray.{stray_rows}
use Rattle.expansion.specs.Side.{flags, goal}
use Rattle.expansion.specs.OtherSide.{side_of, other}
use Rattle.expansion.specs.Play.{Row}
use Rattle.expansion.specs.Private.Memory.{LeadsModels}
use Rattle.codes.specs.Codes.{last_code, encoding, used as entries_used, filled as codes_filled}
pub use Rattle.index.specs.Index.{index_size}
use Rattle.index.specs.Index.{index_of, filled as index_filled}
pub use Rattle.engine.specs.Private.TermTables.{table_size}
use Rattle.engine.specs.Private.Terms.{Listed, ListedIn}
use Rattle.engine.specs.declared.search.Search.{Search}
use Rattle.engine.specs.Search.{lent_rows, Searched}

-- The tables of an accepted formula: the codes of its literals, the index of these, and a table in which their clauses are listed with their terms.
pub record Prepared (kinds : List ℕ) (literals : List ℤ) (codes index terms : List ℕ) : Type 0 where
  pub accepted : checked kinds literals ≡ Ok (sizes kinds literals)
  pub coded : codes ≡ encoding literals
  pub listed : index ≡ index_of codes
  pub terms_sized : length terms ≡ table_size
  pub terms_listed : Listed kinds codes terms

-- All that `prepare` promises: how many entries are used, the codes and the index at exit, for whatever is lent, and what is listed in a table of terms;
-- and that these are an accepted formula's tables, if they are large enough.
pub record Prepares (kinds : List ℕ) (literals : List ℤ) (codes index terms : List ℕ) (used : ℕ) (codes_then index_then terms_then : List ℕ) : Type 0 where
  pub entries : used ≡ entries_used literals (length codes)
  pub coded : codes_then ≡ codes_filled literals codes
  pub listed : index_then ≡ index_filled (take used codes_then) index
  pub terms_listed : ListedIn kinds (take used codes_then) terms_then
  pub prepared : checked kinds literals ≡ Ok (sizes kinds literals) → length codes ≡ max_entries → length index ≡ index_size → length terms ≡ table_size
      → Prepared kinds literals (take used codes_then) index_then terms_then

-- A number that is no code: 1, or one above the last.
abbrev pub no_code : ℕ → Bool
no_code c = eqb c 1 || ltb last_code c

-- At most as many codes as a formula has literals, none of them another number, and the size of an index.
unfoldable pub tables_fit : List ℕ → ℕ → Bool
tables_fit codes places = not (ltb max_entries (length codes)) && (eqb places index_size && not (any no_code codes))

-- The causes behind the formula's, in order, for `others` unknowns of the other side; 0 if none applies.
unfoldable pub later_cause : List ℕ → ℕ → ℕ → List ℕ → ℕ
later_cause rows lent others work =
    cond (not (table_fits rows)) 4
    (cond (not (eqb (length work) work_size)) 5
    (cond (ltb (room rows) lent) 7
    (cond (stray_rows others lent rows) 8 0)))

-- The first cause that applies to what is lent with tables, or 0: 1 of the kinds, 2 of the tables, then 4, 5, 7 and 8.
unfoldable pub cause_over : List ℕ → List ℕ → List ℕ → List ℕ → ℕ → Bool → List ℕ → ℕ
cause_over kinds codes index rows lent universal? work =
    let later = later_cause rows lent (count (other (side_of universal?)) (prefix kinds)) work in
    cond (cause_1 kinds) 1 (cond (not (tables_fit codes (length index))) 2 later)

-- The last of the known rows of a side's own table, if there is one, leads the side's models over the others' rows in the first block ..
abbrev pub LastLeads : List ℕ → List ℤ → List ℕ → List ℕ → ℕ → Kind → List Row → Type 0
LastLeads kinds literals preferences own known side rows =
    0 < known
    → LeadsModels (prefer preferences) (flags side (prefix kinds)) (goal side (matrix (clauses literals))) rows (row_of (count side (prefix kinds)) (row_at own (known - 1)))

-- .. over those that are lent. What the first model over some of them yields does.
abbrev pub KnownLeads : List ℕ → List ℤ → List ℕ → List ℕ → ℕ → List ℕ → ℕ → Bool → Type 0
KnownLeads kinds literals preferences own known rows lent universal? =
    LastLeads kinds literals preferences own known (side_of universal?) (lent_rows kinds rows lent universal?)

-- All that `first_model_over` promises: over an accepted formula's tables and a known row that leads what `first_model` promises of the formula, and over
-- any tables that a cause is returned and changes nothing. What tables hold that are no formula's, or a row that does not lead, is not found out, and of an
-- answer over them nothing is promised.
pub record SearchedOver (kinds codes index terms preferences own : List ℕ) (known : ℕ) (rows : List ℕ) (lent : ℕ) (universal? : Bool) (work : List ℕ) (result : Result Search Cause) (work_then : List ℕ) : Type 0 where
  pub prepared : (literals : List ℤ) → Prepared kinds literals codes index terms → KnownLeads kinds literals preferences own known rows lent universal?
      → Searched kinds literals preferences rows lent universal? work result work_then
  pub refused : (cause_over kinds codes index rows lent universal? work ≡ 0 → ⊥)
      → (result ≡ Err (caused (cause_over kinds codes index rows lent universal? work))) × (work_then ≡ work)
