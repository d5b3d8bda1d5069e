-- The index of a table of which something is dropped: by the lists that change.
-- Assumes nothing.
use Prim.Native.Nat.{ℕ, ◌+◌, ◌%◌, ◌≤◌, ◌<◌}
use mathlib.Core.Path.{◌≡◌, sym, ◌∙◌, ap}
use mathlib.Core.List.{List, []}
use lib.ListN.{length, get_or, length-map}
use Rattle.formula.specs.Formula.{max_entries}
use Rattle.index.specs.Occurrences.{listed}
use Rattle.index.specs.Index.{code_count, index_of, begin_of, end_of, without, removed, cleared}
use Rattle.index.proofs.IndexLaws as index
use Rattle.trimming.specs.Private.Table.{codes}

pub as_many : (before after : List ℕ) → codes after ≡ codes before → length after ≡ length before
as_many before after same = sym (length-map after (λ x. x % 512)) ∙ ap length same ∙ length-map before (λ x. x % 512)

module _ (before after : List ℕ) (few : length before ≤ max_entries) (same_codes : codes after ≡ codes before) where
  pub index_same : ((c : ℕ) → c < code_count → listed c after ≡ listed c before) → index_of after ≡ index_of before
  index_same lists = index.index_kept before after few (as_many before after same_codes) same_codes lists

  module _ (x : ℕ) (small : x < code_count) (others : (c : ℕ) → c < code_count → (c ≡ x → ⊥) → listed c after ≡ listed c before) where
    pub index_removed : (s : ℕ) → listed x after ≡ without s (listed x before) → removed (index_of before) x s ≡ index_of after
    index_removed s own = sym (index.index_removed before after few (as_many before after same_codes) same_codes x small others s own)

    pub index_cleared : listed x after ≡ [] → cleared (index_of before) x ≡ index_of after
    index_cleared own = sym (index.index_cleared before after few (as_many before after same_codes) same_codes x small others own)

-- What stands in an index.
pub record Read (table index : List ℕ) (c : ℕ) : Type 0 where
  pub ends : end_of index c ≡ begin_of index c + length (listed c table)
  pub at : (k : ℕ) → k < length (listed c table) → get_or index (begin_of index c + k) 0 ≡ get_or (listed c table) k 0

pub reads : (table : List ℕ) → length table ≤ max_entries → (c : ℕ) → c < code_count → Read table (index_of table) c
reads table few c small = record { ends = index.index_end table few c small; at = index.read_name table few c small }
