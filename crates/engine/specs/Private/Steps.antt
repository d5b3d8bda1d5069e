-- What the steps of the search promise, over every problem that the lent tables fit.
-- Assumes nothing.
use Rattle.std.specs.Prelude.{ℕ, ◌+◌, ◌-◌, ◌≤◌, ◌<◌, ◌≡◌, ◌↔◌, ◌⊎◌, Bool, true, false, cond, List, eqb, length, get_or, drop}
use Rattle.formula.specs.Formula.{max_unknowns, max_rows, max_entries, work_size}
use Rattle.expansion.specs.Private.Problem.{Mask, Problem, Agree, Sound, Refuted}
use Rattle.expansion.specs.Private.Node.{Node, Won, Grown, MasksWithin}
use Rattle.formula.specs.Lists.{Some}
use Rattle.search_cells.specs.Cells.{cells, wants}
use Rattle.search_cells.specs.Private.Changes.{SameWants}
use Rattle.index.specs.Index.{code_count, index_size, index_of}
use Rattle.search_sets.specs.Sets.{sets_size}
use Rattle.search_sets.specs.Private.Masks.{set_at, masks, conflict, SetsKept}
use Rattle.codes.specs.Codes.{last_code}
use Rattle.codes.specs.Private.Clauses.{Ended, code_true, code_goal, clause_of, Begins, Coded}
use Rattle.engine.specs.Private.Reasons.{IsReason}
use Rattle.search_groups.specs.Private.Parts.{SplitRow, SplitPosition}
use Rattle.engine.specs.Private.TermTables.{others, table_size, is_open}
use Rattle.engine.specs.Private.Terms.{own, TermOpen, Listed as TermsListed}
use Rattle.engine.specs.Private.FirstBlock.{Remembered}

-- The sorted rows: entry i of `differences` is the first position where row i and the row before it have different values, or past the last.
-- The codes are the clauses; the side is 0 or 1.
pub record Fits (P : Problem) (kinds differences codes : List ℕ) (side : ℕ) : Type 0 where
  pub unknowns : P.n ≡ length kinds
  pub rows : P.count ≡ length differences
  pub own : (j : ℕ) → j < length kinds → P.own j ≡ eqb (get_or kinds j 0) side
  pub goal : (f : ℕ → Bool) → P.goal f ≡ code_goal side codes f
  pub sound : Sound P
  pub differ : (i k : ℕ) → i + 1 < length differences → k ≤ length kinds → (k ≤ get_or differences (i + 1) 0) ↔ Agree P i (i + 1) k
  pub together : (i h g k : ℕ) → i ≤ h → h ≤ g → g < length differences → k ≤ length kinds → Agree P i g k → Agree P i h k
  pub ended : Ended codes
  pub coded : Coded P.n codes

-- The literal of code c is given, and true in row i.
pub record GivenIn (P : Problem) (kinds : List ℕ) (i c : ℕ) : Type 0 where
  pub given : own kinds c ≡ false
  pub is : code_true (P.given i) c ≡ true

-- The tables fit, and on the universal side a clause without a given literal that is true in a row is in a term that is open there.
pub record Viewed (P : Problem) (kinds differences codes opened : List ℕ) (side : ℕ) : Type 0 where
  pub fits : Fits P kinds differences codes side
  pub shown : side ≡ 1 → (i start : ℕ) → i < P.count → start < length codes → Begins codes start
      → Some (GivenIn P kinds i) (clause_of (drop start codes)) ⊎ TermOpen kinds codes opened i start ⊎ (is_open opened others i ≡ true)

-- Besides, an earlier search has left the values of the first block.
pub record Known (P : Problem) (kinds differences codes opened block : List ℕ) (side : ℕ) : Type 0 where
  pub viewed : Viewed P kinds differences codes opened side
  pub remembered : Remembered P block

-- From the work area w and the sets s to u and t: open cells of the group were set, the sets grew, and the group is still a node or is refuted.
pub record Propagated (P : Problem) (k lo hi : ℕ) (v : ℕ → Bool) (level : ℕ) (w u s t : List ℕ) (r : Bool) : Type 0 where
  pub grown : Grown level lo hi (cells w) (cells u)
  pub wanted : SameWants w u
  pub masked : MasksWithin k (masks s) (masks t)
  pub kept : r ≡ true → Node P k lo hi v (cells u) (masks t)
  pub failed : r ≡ false → Refuted P k v (conflict t) lo

abbrev pub Propagates : ℕ → List ℕ → List ℕ → ℕ → ℕ → ℕ → List ℕ → List ℕ → List ℕ → List ℕ → Bool → Type 0
Propagates side differences codes lo hi level w u s t r =
    (P : Problem) (kinds : List ℕ) (k : ℕ) (v : ℕ → Bool)
    → Fits P kinds differences codes side → Node P k lo hi v (cells w) (masks s) → 0 < level → level ≤ k + 1
    → Propagated P k lo hi v level w u s t r

-- The same over the kinds and the open terms that are lent.
abbrev pub PropagatesFor : List ℕ → ℕ → List ℕ → List ℕ → List ℕ → ℕ → ℕ → ℕ → List ℕ → List ℕ → List ℕ → List ℕ → Bool → Type 0
PropagatesFor kinds side differences codes opened lo hi level w u s t r =
    (P : Problem) (k : ℕ) (v : ℕ → Bool)
    → Viewed P kinds differences codes opened side → Node P k lo hi v (cells w) (masks s) → 0 < level → level ≤ k + 1
    → Propagated P k lo hi v level w u s t r

-- A search of the group lo to hi from position k on: it succeeds, or is refuted.
pub record Searched (P : Problem) (k lo hi : ℕ) (v : ℕ → Bool) (w u s t : List ℕ) (r : Bool) : Type 0 where
  pub grown : Grown (k + 2) lo hi (cells w) (cells u)
  pub wanted : SameWants w u
  pub masked : MasksWithin k (masks s) (masks t)
  pub won : r ≡ true → Won P k lo hi (cells u)
  pub failed : r ≡ false → Refuted P k v (conflict t) lo

abbrev pub Searches : List ℕ → List ℕ → List ℕ → List ℕ → List ℕ → ℕ → ℕ → ℕ → ℕ → List ℕ → List ℕ → List ℕ → List ℕ → Bool → Type 0
Searches kinds differences codes opened block side k lo hi w u s t r =
    (P : Problem) (v : ℕ → Bool)
    → Known P kinds differences codes opened block side → ((i j : ℕ) → i < P.count → j < P.n → P.own j ≡ true → wants w i j ≡ P.wanted i j) → Node P k lo hi v (cells w) (masks s)
    → Searched P k lo hi v w u s t r

-- The values v with y at position k.
unfoldable pub with_value : ℕ → Bool → (ℕ → Bool) → ℕ → Bool
with_value k y v j = cond (eqb j k) y (v j)

-- A trial of the value y at the own position k, open in the group.
pub record Tried (P : Problem) (k lo hi : ℕ) (v : ℕ → Bool) (y : Bool) (w u s t : List ℕ) (r : Bool) : Type 0 where
  pub grown : Grown (k + 2) lo hi (cells w) (cells u)
  pub wanted : SameWants w u
  pub masked : MasksWithin k (masks s) (masks t)
  pub valued : r ≡ true → (i : ℕ) → lo ≤ i → i < hi → (cells u).value i k ≡ y
  pub won : r ≡ true → Won P (k + 1) lo hi (cells u)
  pub failed : r ≡ false → Refuted P (k + 1) (with_value k y v) (conflict t) lo

abbrev pub Tries : List ℕ → List ℕ → List ℕ → List ℕ → List ℕ → ℕ → ℕ → ℕ → ℕ → Bool → List ℕ → List ℕ → List ℕ → List ℕ → Bool → Type 0
Tries kinds differences codes opened block side k lo hi y w u s t r =
    (P : Problem) (v : ℕ → Bool)
    → Known P kinds differences codes opened block side → ((i j : ℕ) → i < P.count → j < P.n → P.own j ≡ true → wants w i j ≡ P.wanted i j) → Node P k lo hi v (cells w) (masks s)
    → P.own k ≡ true → (cells w).level lo k ≡ 0
    → Tried P k lo hi v y w u s t r

-- A decision at the own position k, open in the group.
abbrev pub Decides : List ℕ → List ℕ → List ℕ → List ℕ → List ℕ → ℕ → ℕ → ℕ → ℕ → List ℕ → List ℕ → List ℕ → List ℕ → Bool → Type 0
Decides kinds differences codes opened block side k lo hi w u s t r =
    (P : Problem) (v : ℕ → Bool)
    → Known P kinds differences codes opened block side → ((i j : ℕ) → i < P.count → j < P.n → P.own j ≡ true → wants w i j ≡ P.wanted i j) → Node P k lo hi v (cells w) (masks s)
    → P.own k ≡ true → (cells w).level lo k ≡ 0
    → Searched P k lo hi v w u s t r

-- The other value at k, over what the trial of y, the wanted one, left when it failed.
abbrev pub Flips : List ℕ → List ℕ → List ℕ → List ℕ → List ℕ → ℕ → ℕ → ℕ → ℕ → Bool → List ℕ → List ℕ → List ℕ → List ℕ → Bool → Type 0
Flips kinds differences codes opened block side k lo hi y w1 u s1 t r =
    (w s : List ℕ) → wants w lo k ≡ y → Tries kinds differences codes opened block side k lo hi y w w1 s s1 false
    → Decides kinds differences codes opened block side k lo hi w u s t r

-- The search at the position behind those that stand.
abbrev pub Steps : List ℕ → List ℕ → List ℕ → List ℕ → List ℕ → ℕ → ℕ → ℕ → ℕ → ℕ → ℕ → List ℕ → List ℕ → List ℕ → List ℕ → Bool → Type 0
Steps kinds differences codes opened block side at until lo mid hi w u s t r =
    (P : Problem) (v : ℕ → Bool)
    → Known P kinds differences codes opened block side → ((i j : ℕ) → i < P.count → j < P.n → P.own j ≡ true → wants w i j ≡ P.wanted i j) → Node P at lo hi v (cells w) (masks s)
    → SplitRow differences lo hi mid → SplitPosition differences lo mid (length kinds) until → at ≤ until
    → (at < until → (P.own at ≡ true) × ((cells w).level lo at ≡ 0))
    → (until < length kinds → P.own until ≡ false)
    → Searched P at lo hi v w u s t r

-- Past the last position: the values of row i reach the goal, or every position is a reason.
pub record Reached (codes : List ℕ) (side : ℕ) (w : List ℕ) (i : ℕ) (s t : List ℕ) (r : Bool) : Type 0 where
  pub kept : SetsKept s t
  pub goal : Ended codes → r ≡ code_goal side codes ((cells w).value i)
  pub full : r ≡ false → (l : ℕ) → l < max_unknowns → set_at t max_unknowns l ≡ true

-- The search of all rows: what it leaves, over every problem that the tables fit, whose rows' cells are set at level 0 and whose other cells are open.
abbrev pub FromStart : List ℕ → List ℕ → List ℕ → List ℕ → ℕ → List ℕ → List ℕ → Bool → Type 0
FromStart kinds differences codes block side w u r =
    (P : Problem)
    → Fits P kinds differences codes side → ((i j : ℕ) → i < P.count → j < P.n → P.own j ≡ true → wants w i j ≡ P.wanted i j)
    → ((i j : ℕ) → i < P.count → j < P.n → P.own j ≡ false → ((cells w).level i j ≡ 1) × ((cells w).value i j ≡ P.given i j))
    → ((i j : ℕ) → ((i < P.count) × (j < P.n) × (P.own j ≡ false) → ⊥) → (cells w).level i j ≡ 0)
    → Remembered P block
    → (r ≡ true → Won P 0 0 P.count (cells u)) × (r ≡ false → (v : ℕ → Bool) → (D : Mask) × Refuted P 0 v D 0)

-- What a list has from one place to another are starts of clauses.
abbrev pub Starts : List ℕ → List ℕ → ℕ → ℕ → Type 0
Starts codes list begin end = (at : ℕ) → begin ≤ at → at < end → Begins codes (get_or list at 0)

-- What an index lists from the begin of a code's list to its end are starts of clauses.
abbrev pub Listed : List ℕ → List ℕ → Type 0
Listed codes index = (c at : ℕ) → c ≤ last_code → get_or index c 0 ≤ at → at < get_or index (code_count + c) 0 → Begins codes (get_or index at 0)

-- The existential side finds a code's clauses through the index of the codes; the universal side takes what it looks up for a hint. What the steps promise is promised
-- over such an index: what is lent from outside can't be compared with it at little cost, and is safe to read in any case.
abbrev pub Indexed : ℕ → List ℕ → List ℕ → Type 0
Indexed side codes index = side ≡ 0 → index ≡ index_of codes

-- Besides, the universal side finds its open clauses through a table of their terms.
pub record Tabled (side : ℕ) (kinds codes index terms : List ℕ) : Type 0 where
  pub indexed : Indexed side codes index
  pub sized : side ≡ 1 → length terms ≡ table_size
  pub told : side ≡ 1 → TermsListed kinds codes terms

-- The sizes of what the steps are lent, and that the codes are literals of unknowns that have a set.
pub record Lent (side : ℕ) (differences codes work sets index : List ℕ) : Type 0 where
  pub rows : length differences ≤ max_rows
  pub entries : length codes ≤ max_entries
  pub coded : Coded max_unknowns codes
  pub area : length work ≡ work_size
  pub sets_lent : length sets ≡ sets_size
  pub index_lent : length index ≡ index_size

-- After a conflict in row i the sets of the positions stay, and the set by which it was reached stays or is that of a reason (`shortening`).
pub record Shortened (codes w : List ℕ) (i level : ℕ) (s t : List ℕ) : Type 0 where
  pub kept : SetsKept s t
  pub reason : ((l : ℕ) → conflict t l ≡ conflict s l) ⊎ ((u : List ℕ) × SetsKept s u × (Coded max_unknowns codes → IsReason codes w u i (level - 1) (conflict t)))
