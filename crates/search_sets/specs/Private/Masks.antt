-- Sets of positions as relations between two tables, for proofs that use them. No public contract cites them.
-- Assumes nothing.
use Rattle.std.specs.Prelude.{ℕ, ◌+◌, ◌*◌, ◌-◌, ◌/◌, ◌^◌, ◌≤◌, ◌<◌, ◌≡◌, ◌≢◌, ◌⊎◌, true, false, cond, List, ltb, get_or}
use Rattle.formula.specs.Formula.{max_unknowns}
use Rattle.preference.specs.Preference.{odd}
use Rattle.expansion.specs.Private.Problem.{Mask}
use Rattle.formula.specs.Lists.{Every}
use Rattle.codes.specs.Private.Clauses.{position}

-- The set that two words make.
unfoldable pub words : ℕ → ℕ → Mask
words low high l = cond (ltb l 64) (odd (low / 2 ^ l)) (odd (high / 2 ^ (l - 64)))

-- The set at a place.
abbrev pub set_at : List ℕ → ℕ → Mask
set_at s p = words (get_or s (2 * p) 0) (get_or s (2 * p + 1) 0)

-- The sets of the positions, and the set behind them by which the last conflict was reached.
unfoldable pub masks : List ℕ → ℕ → Mask
masks s p = cond (ltb p max_unknowns) (set_at s p) (λ l. false)

unfoldable pub conflict : List ℕ → Mask
conflict s = set_at s max_unknowns

-- Only the set at `to` changes, and it loses nothing.
pub record SetGrown (to : ℕ) (s u : List ℕ) : Type 0 where
  pub others : (p : ℕ) → p ≢ to → (l : ℕ) → set_at u p l ≡ set_at s p l
  pub keeps : (l : ℕ) → set_at s to l ≡ true → set_at u to l ≡ true

-- The sets of the positions stay.
pub record SetsKept (s u : List ℕ) : Type 0 where
  pub same : (p : ℕ) → p < max_unknowns → (l : ℕ) → set_at u p l ≡ set_at s p l

-- The set at `to` becomes that of two words.
pub record Put (to low high : ℕ) (s u : List ℕ) : Type 0 where
  pub others : (p : ℕ) → p ≢ to → (l : ℕ) → set_at u p l ≡ set_at s p l
  pub there : (l : ℕ) → set_at u to l ≡ words low high l

-- The set at `to` takes in the set at `from`.
pub record United (to from : ℕ) (s u : List ℕ) : Type 0 where
  pub grown : SetGrown to s u
  pub takes : (l : ℕ) → set_at s from l ≡ true → set_at u to l ≡ true

-- The set at `to` takes in the set of two words.
pub record WordsUnited (to low high : ℕ) (s u : List ℕ) : Type 0 where
  pub grown : SetGrown to s u
  pub takes : (l : ℕ) → words low high l ≡ true → set_at u to l ≡ true

-- The sets of positions lose nothing below k, and those behind the positions stay.
pub record Trimmed (k : ℕ) (s u : List ℕ) : Type 0 where
  pub below : (p l : ℕ) → l < k → set_at s p l ≡ true → set_at u p l ≡ true
  pub behind : (p l : ℕ) → max_unknowns ≤ p → set_at u p l ≡ set_at s p l

-- For each position from k to `at` that the conflict's set has, it takes in the set of that position.
pub record Resolved (k at : ℕ) (s t : List ℕ) : Type 0 where
  pub grown : SetGrown max_unknowns s t
  pub takes : (p : ℕ) → k ≤ p → p < at → set_at s max_unknowns p ≡ true → (l : ℕ) → set_at s p l ≡ true → set_at t max_unknowns l ≡ true

-- The sets of a clause's positions are united at `to`.
pub record ReasonsAdded (clause : List ℕ) (to : ℕ) (s t : List ℕ) : Type 0 where
  pub grown : SetGrown to s t
  pub takes : Every (λ c. (position c ≡ to) ⊎ ((l : ℕ) → set_at s (position c) l ≡ true → set_at t to l ≡ true)) clause
