-- Names bound nowhere in a reader's tables, and what was read by name, written by position: 'Writes kinds, literals and the text name of each
-- position, leaves entries past those used.' Assumes nothing.
use Rattle.std.specs.Prelude.{ℕ, ◌+◌, ◌≡◌, Bool, true, cond, ◌&&◌, List, [], ◌∷◌, ◌++◌, leb, ltb, eqb, ℤ, length, take, drop}
use Rattle.formula.specs.Formula.{max_unknowns, max_entries}
use Rattle.named.specs.Named.{max_variables}
use Rattle.named.specs.Closing.{insert, closed_names, closed_kinds, closed_literals}

-- One array has the bound names, and behind them the free ones.
abbrev pub free_in : ℕ → ℕ → List ℕ → List ℕ
free_in bound free N = take free (drop bound N)

abbrev pub placed_in : ℕ → ℕ → List ℕ → List ℕ
placed_in bound free N = closed_names (free_in bound free N) (take bound N)

-- A name among the free ones, which are rising, if the array has room for it.
unfoldable pub with_free : ℕ → ℕ → ℕ → List ℕ → List ℕ
with_free bound free name N =
    cond (ltb (bound + free) (length N)) (take bound N ++ (insert name (free_in bound free N) ++ drop (bound + free + 1) N)) N

-- Kinds, literals and names in tables of a formula's lengths: 128, 8,192, 128.
abbrev pub are_tables : ℕ → ℕ → ℕ → Bool
are_tables kinds literals names = eqb kinds max_unknowns && eqb literals max_entries && eqb names max_unknowns

-- The tables read and those lent have these lengths, and the counts are within them.
abbrev pub tables_fit : ℕ → ℕ → ℕ → ℕ → ℕ → ℕ → ℕ → ℕ → ℕ → Bool
tables_fit bound free m OK OL ON K L N = are_tables OK OL ON && are_tables K L N && leb (bound + free) max_unknowns && leb m max_entries

-- No name is past the largest one.
abbrev pub are_small : List ℕ → Bool
are_small [] = true
are_small (v ∷ vs) = leb v max_variables && are_small vs

-- New entries over the front of a table.
abbrev pub over {ℓ} : {A : Type ℓ} → List A → List A → List A
over new old = new ++ drop (length new) old

-- K, L and N are the kinds, literals and names found, OK, OL and ON those read.
unfoldable pub all_fit : ℕ → ℕ → ℕ → List ℕ → List ℤ → List ℕ → List ℕ → List ℤ → List ℕ → Bool
all_fit bound free m OK OL ON K L N =
    tables_fit bound free m (length OK) (length OL) (length ON) (length K) (length L) (length N) && are_small (take (bound + free) ON)

-- What is written if all fits: names bound nowhere are placed first, 'existential in front of everything'; then every entry has its position.
pub record Written (bound free m : ℕ) (OK : List ℕ) (OL : List ℤ) (ON K : List ℕ) (L : List ℤ) (N K' : List ℕ) (L' : List ℤ) (N' : List ℕ) : Type 0 where
  pub kinds : K' ≡ cond (all_fit bound free m OK OL ON K L N) (over (closed_kinds (free_in bound free ON) (take bound OK)) K) K
  pub literals : L' ≡ cond (all_fit bound free m OK OL ON K L N) (over (closed_literals (free_in bound free ON) (take bound ON) (take m OL)) L) L
  pub names : N' ≡ cond (all_fit bound free m OK OL ON K L N) (over (placed_in bound free ON) N) N
