-- A node of the tree search: a group of rows that agree before a position, over a table of cells, and what a search of the group gives.
-- A cell is open, or has a value and the level at which it got it; each position has a mask on which its set cells rest. Assumes nothing.
use Rattle.std.specs.Prelude.{ℕ, ◌+◌, ◌≤◌, ◌<◌, ◌≡◌, ◌⊎◌, Bool, true, false}
use Rattle.expansion.specs.Cells.{Values, Cells}
use Rattle.expansion.specs.Private.Problem.{Mask, Problem, Agree, Model, Implied, Within, SameBelow}

pub record Node (P : Problem) (k lo hi : ℕ) (v : ℕ → Bool) (T : Cells) (M : ℕ → Mask) : Type 0 where
  pub some : lo < hi
  pub rows : hi ≤ P.count
  pub depth : k ≤ P.n
  pub agree : (i h : ℕ) → lo ≤ i → i < hi → lo ≤ h → h < hi → Agree P i h k
  pub past : (i j : ℕ) → lo ≤ i → i < hi → j < k → (0 < T.level i j) × (T.value i j ≡ v j)
  pub given : (i j : ℕ) → lo ≤ i → i < hi → j < P.n → P.own j ≡ false → (0 < T.level i j) × (T.value i j ≡ P.given i j)
  pub alike : (i h j : ℕ) → lo ≤ i → i < hi → lo ≤ h → h < hi → j < P.n → P.own j ≡ true → Agree P i h j
      → 0 < T.level i j → (0 < T.level h j) × (T.value h j ≡ T.value i j)
  pub implied : (i j : ℕ) → lo ≤ i → i < hi → j < P.n → 0 < T.level i j → Implied P k v (M j) i j (T.value i j)
  pub levels : (i j : ℕ) → lo ≤ i → i < hi → T.level i j ≤ k + 1

-- A group that is searched with success: every cell is set, the goal is reached, rows that share a copy share its value, and from position k on
-- no model leads the values on any row's path: where a model first parts from them, they have the wanted value.
pub record Won (P : Problem) (k lo hi : ℕ) (T : Cells) : Type 0 where
  pub complete : (i j : ℕ) → lo ≤ i → i < hi → j < P.n → 0 < T.level i j
  pub given : (i j : ℕ) → lo ≤ i → i < hi → j < P.n → P.own j ≡ false → T.value i j ≡ P.given i j
  pub alike : (i h j : ℕ) → lo ≤ i → i < hi → lo ≤ h → h < hi → j < P.n → P.own j ≡ true → Agree P i h j
      → T.value h j ≡ T.value i j
  pub reaches : (i : ℕ) → lo ≤ i → i < hi → P.goal (T.value i) ≡ true
  pub leads : (m : Values) → Model P m → (i j : ℕ) → lo ≤ i → i < hi → k ≤ j → j < P.n → P.own j ≡ true
      → SameBelow j (m i) (T.value i) → (m i j ≡ T.value i j) ⊎ (T.value i j ≡ P.wanted i j)

-- Two cells say the same: the same level and, where they are set, the same value.
abbrev pub SameCell : Cells → Cells → ℕ → ℕ → Type 0
SameCell T U i j = (U.level i j ≡ T.level i j) × (0 < T.level i j → U.value i j ≡ T.value i j)

-- From T to U only open cells of the rows lo to hi have been set, at levels from b on.
abbrev pub Grown : ℕ → ℕ → ℕ → Cells → Cells → Type 0
Grown b lo hi T U = (i j : ℕ) → SameCell T U i j ⊎ ((lo ≤ i) × (i < hi) × (T.level i j ≡ 0) × (b ≤ U.level i j))

-- U is T with level b and value y in the rows s to e at position p.
pub record Stored (s e p b : ℕ) (y : Bool) (T U : Cells) : Type 0 where
  pub there : (i : ℕ) → s ≤ i → i < e → (U.level i p ≡ b) × (U.value i p ≡ y)
  pub elsewhere : (i j : ℕ) → ((s ≤ i) × (i < e) × (j ≡ p) → ⊥) → (U.level i j ≡ T.level i j) × (U.value i j ≡ T.value i j)

-- U is T without what has been set in the rows lo to hi from level b on.
pub record Cleared (b lo hi : ℕ) (T U : Cells) : Type 0 where
  pub high : (i j : ℕ) → lo ≤ i → i < hi → b ≤ T.level i j → U.level i j ≡ 0
  pub low : (i j : ℕ) → ((lo ≤ i) × (i < hi) × (b ≤ T.level i j) → ⊥) → (U.level i j ≡ T.level i j) × (U.value i j ≡ T.value i j)

abbrev pub MasksWithin : ℕ → (ℕ → Mask) → (ℕ → Mask) → Type 0
MasksWithin k M N = (j : ℕ) → Within k (M j) (N j)
