-- Cells of the work area after a store to one byte: a cell's level and a cell's flags (value and wanted value) each have a byte of their own.
-- Assumes nothing.
use Prim.Native.Nat.{ℕ, ◌+◌, ◌*◌, ◌/◌, ◌%◌, ◌≤◌, ◌<◌}
use mathlib.Core.Path.{◌≡◌, refl, sym, ap, ◌∙◌}
use mathlib.Core.Logic.{◌⊎◌, inl, inr, ⊎_elim}
use mathlib.Core.Bool.{Bool, true, false}
use mathlib.Core.List.{List}
use native.Mathlib.Omega.{arith}
use native.Mathlib.Decide.{ℕ_discrete, dec_lt}
use lib.ListN.{length, get_or, set, length-set}
use lib.Seq.{get_or-set_same, get_or-set_other}
use borrow.Author.Tests.{lt-ltb, le-ltb, eq-eqb, ne_eqb}
use Rattle.formula.specs.Formula.{work_size, max_rows, max_unknowns}
use Rattle.preference.specs.Preference.{odd}
use Rattle.rows.specs.Row.{weight}
use Rattle.search_cells.specs.Cells.{flags as flags_from, spot, cells, wants}
use Rattle.search_cells.specs.Private.Changes.{SameWants, CellsSet, WantSet}

-- The byte of a cell's value and wanted value.
abbrev pub flags : List ℕ → ℕ → ℕ → ℕ
flags w i k = get_or w (flags_from + spot i k) 0

-- ---- the byte of a cell

pub spot_in : (i k : ℕ) → i < max_rows → k < max_unknowns → spot i k ≡ max_unknowns * i + k
spot_in i k hi hk = rw (lt-ltb i max_rows hi, lt-ltb k max_unknowns hk)

pub spot_out : (i k : ℕ) → ((i < max_rows) × (k < max_unknowns) → ⊥) → spot i k ≡ work_size
spot_out i k out = go (dec_lt i max_rows) (dec_lt k max_unknowns)
  where
    go : Dec (i < max_rows) → Dec (k < max_unknowns) → spot i k ≡ work_size
    go (yes hi) (yes hk) = absurd (out (hi, hk))
    go (yes hi) (no nk) = rw (lt-ltb i max_rows hi, le-ltb k max_unknowns (omega arith))
    go (no ni) d = rw (le-ltb i max_rows (omega arith))

pub spot_cases : (i k : ℕ) → ((i < max_rows) × (k < max_unknowns) × (spot i k ≡ max_unknowns * i + k)) ⊎ (spot i k ≡ work_size)
spot_cases i k = go (dec_lt i max_rows) (dec_lt k max_unknowns)
  where
    go : Dec (i < max_rows) → Dec (k < max_unknowns) → ((i < max_rows) × (k < max_unknowns) × (spot i k ≡ max_unknowns * i + k)) ⊎ (spot i k ≡ work_size)
    go (yes hi) (yes hk) = inl (hi, hk, spot_in i k hi hk)
    go (yes hi) (no nk) = inr (spot_out i k (λ t. nk t.1))
    go (no ni) d = inr (spot_out i k (λ t. ni t.0))

-- ---- what the bytes of the cell (i, k) say

module _ (i k : ℕ) (hi : i < max_rows) (hk : k < max_unknowns) where
  pub level_at : (w : List ℕ) → (cells w).level i k ≡ get_or w (max_unknowns * i + k) 0
  unfolding cells
  level_at w = ap (λ (x : ℕ). get_or w x 0) (spot_in i k hi hk)

  pub flags_at : (w : List ℕ) → flags w i k ≡ get_or w (flags_from + (max_unknowns * i + k)) 0
  flags_at w = ap (λ (x : ℕ). get_or w (flags_from + x) 0) (spot_in i k hi hk)

  pub value_at : (w : List ℕ) → (cells w).value i k ≡ odd (get_or w (flags_from + (max_unknowns * i + k)) 0)
  unfolding cells
  value_at w = ap odd (flags_at w)

  pub wants_at : (w : List ℕ) → wants w i k ≡ odd (get_or w (flags_from + (max_unknowns * i + k)) 0 / 2)
  unfolding wants
  wants_at w = ap (λ (x : ℕ). odd (x / 2)) (flags_at w)

  -- another cell has another byte
  pub spot_apart : (h j : ℕ) → ((h ≡ i) × (j ≡ k) → ⊥) → spot h j ≡ max_unknowns * i + k → ⊥
  spot_apart h j other same =
      ⊎_elim
      (λ t. let a = t.0 in let b = t.1 in let e = t.2 in other (omega arith, omega arith))
      (λ e. omega arith)
      (spot_cases h j)

  -- a level's byte is no flags' byte
  pub spot_below : (h j : ℕ) → spot h j ≡ flags_from + (max_unknowns * i + k) → ⊥
  spot_below h j same = ⊎_elim (λ t. let a = t.0 in let b = t.1 in let e = t.2 in omega arith) (λ e. omega arith) (spot_cases h j)

  module _ (w : List ℕ) (area : length w ≡ work_size) where
    pub level_there : (m : ℕ) → (cells (set w (max_unknowns * i + k) m)).level i k ≡ m
    unfolding cells
    level_there m = rw (spot_in i k hi hk) (get_or-set_same w (max_unknowns * i + k) m 0 (omega arith))

    pub flags_there : (b : ℕ) → flags (set w (flags_from + (max_unknowns * i + k)) b) i k ≡ b
    flags_there b = rw (spot_in i k hi hk) (get_or-set_same w (flags_from + (max_unknowns * i + k)) b 0 (omega arith))

  module _ (w : List ℕ) where
    pub level_elsewhere : (m h j : ℕ) → ((h ≡ i) × (j ≡ k) → ⊥) → (cells (set w (max_unknowns * i + k) m)).level h j ≡ (cells w).level h j
    unfolding cells
    level_elsewhere m h j other = get_or-set_other w (max_unknowns * i + k) (spot h j) m 0 (spot_apart h j other)

    pub flags_elsewhere : (b h j : ℕ) → ((h ≡ i) × (j ≡ k) → ⊥) → flags (set w (flags_from + (max_unknowns * i + k)) b) h j ≡ flags w h j
    flags_elsewhere b h j other = get_or-set_other w (flags_from + (max_unknowns * i + k)) (flags_from + spot h j) b 0 (λ e. spot_apart h j other (omega arith))

    -- a store to a level leaves all flags, and a store to flags all levels
    pub flags_after_level : (m h j : ℕ) → flags (set w (max_unknowns * i + k) m) h j ≡ flags w h j
    flags_after_level m h j = get_or-set_other w (max_unknowns * i + k) (flags_from + spot h j) m 0 (λ e. omega arith)

    pub level_after_flags : (b h j : ℕ) → (cells (set w (flags_from + (max_unknowns * i + k)) b)).level h j ≡ (cells w).level h j
    unfolding cells
    level_after_flags b h j = get_or-set_other w (flags_from + (max_unknowns * i + k)) (spot h j) b 0 (spot_below h j)

-- ---- cells with the same flags have the same value and want the same

pub value_same : (w u : List ℕ) (h j : ℕ) → flags u h j ≡ flags w h j → (cells u).value h j ≡ (cells w).value h j
unfolding cells
value_same w u h j e = ap odd e

pub wants_same : (w u : List ℕ) (h j : ℕ) → flags u h j ≡ flags w h j → wants u h j ≡ wants w h j
unfolding wants
wants_same w u h j e = ap (λ (x : ℕ). odd (x / 2)) e

odd_of : (v : Bool) (n : ℕ) → odd (n / 2 * 2 + weight v) ≡ v
odd_of true n = eq-eqb ((n / 2 * 2 + 1) % 2) 1 (omega arith)
odd_of false n = ne_eqb ((n / 2 * 2 + 0) % 2) 1 (omega arith)

half_of : (v : Bool) (n : ℕ) → (n / 2 * 2 + weight v) / 2 ≡ n / 2
half_of true n = omega arith
half_of false n = omega arith

half_twice : (v : Bool) → odd (2 * weight v / 2) ≡ v
half_twice true = refl
half_twice false = refl

-- ---- a cell is set by two stores, and what it wants by one

abbrev pub level_stored : List ℕ → ℕ → ℕ → ℕ → List ℕ
level_stored w i k level = set w (max_unknowns * i + k) level

abbrev pub value_stored : List ℕ → ℕ → ℕ → Bool → List ℕ
value_stored w i k y = set w (flags_from + (max_unknowns * i + k)) (get_or w (flags_from + (max_unknowns * i + k)) 0 / 2 * 2 + weight y)

module _ (i k : ℕ) (hi : i < max_rows) (hk : k < max_unknowns) (w : List ℕ) (area : length w ≡ work_size) (level : ℕ) (y : Bool) where
  abbrev one_set : List ℕ
  one_set = value_stored (level_stored w i k level) i k y

  area_kept : length (level_stored w i k level) ≡ work_size
  area_kept = length-set w (max_unknowns * i + k) level ∙ area

  -- the flags as they were, but for the value
  flags_of_set : flags one_set i k ≡ flags w i k / 2 * 2 + weight y
  flags_of_set =
      flags_there i k hi hk (level_stored w i k level) area_kept (get_or (level_stored w i k level) (flags_from + (max_unknowns * i + k)) 0 / 2 * 2 + weight y)
      ∙ ap (λ (x : ℕ). x / 2 * 2 + weight y) (sym (flags_at i k hi hk (level_stored w i k level)) ∙ flags_after_level i k hi hk w level i k)

  flags_kept : (h j : ℕ) → ((h ≡ i) × (j ≡ k) → ⊥) → flags one_set h j ≡ flags w h j
  flags_kept h j other =
      flags_elsewhere i k hi hk (level_stored w i k level) (get_or (level_stored w i k level) (flags_from + (max_unknowns * i + k)) 0 / 2 * 2 + weight y) h j
      other
      ∙ flags_after_level i k hi hk w level h j

  level_of_set : (h j : ℕ) → (cells one_set).level h j ≡ (cells (level_stored w i k level)).level h j
  level_of_set h j = level_after_flags i k hi hk (level_stored w i k level) (get_or (level_stored w i k level) (flags_from + (max_unknowns * i + k))
      0 / 2 * 2 + weight y) h j

  value_of_set : (cells one_set).value i k ≡ y
  unfolding cells
  value_of_set = ap odd flags_of_set ∙ odd_of y (flags w i k)

  wants_of_set : wants one_set i k ≡ wants w i k
  unfolding wants
  wants_of_set = ap (λ (x : ℕ). odd (x / 2)) flags_of_set ∙ ap odd (half_of y (flags w i k))

  pub cell_set : CellsSet k i (i + 1) level y w one_set
  cell_set = record {
    stored = record {
      there = λ h low high. let same : h ≡ i = omega arith in rw same (level_of_set i k ∙ level_there i k hi hk w area level, value_of_set);
      elsewhere = λ h j out.
          let other : (h ≡ i) × (j ≡ k) → ⊥ = λ t. let same : h ≡ i = t.0 in out (omega arith, omega arith, t.1) in
          (level_of_set h j ∙ level_elsewhere i k hi hk w level h j other, value_same w one_set h j (flags_kept h j other));
    };
    wanted = wanted;
  }
    where
      wanted : SameWants w one_set
      wanted h j = go (ℕ_discrete h i) (ℕ_discrete j k)
        where
          go : Dec (h ≡ i) → Dec (j ≡ k) → wants one_set h j ≡ wants w h j
          go (yes p) (yes q) = rw (p, q) wants_of_set
          go (yes p) (no q) = wants_same w one_set h j (flags_kept h j (λ t. q t.1))
          go (no p) d = wants_same w one_set h j (flags_kept h j (λ t. p t.0))

module _ (i k : ℕ) (hi : i < max_rows) (hk : k < max_unknowns) (w : List ℕ) (area : length w ≡ work_size) (wanted : Bool) where
  wants_of_want : wants (set w (flags_from + (max_unknowns * i + k)) (2 * weight wanted)) i k ≡ wanted
  unfolding wants
  wants_of_want = ap (λ (x : ℕ). odd (x / 2)) (flags_there i k hi hk w area (2 * weight wanted)) ∙ half_twice wanted

  pub want_set : WantSet i k wanted w (set w (flags_from + (max_unknowns * i + k)) (2 * weight wanted))
  want_set = record {
    there = wants_of_want;
    elsewhere = λ h j other.
        let same = flags_elsewhere i k hi hk w (2 * weight wanted) h j other in (
          wants_same w (set w (flags_from + (max_unknowns * i + k)) (2 * weight wanted)) h j same,
          value_same w
              (set w (flags_from + (max_unknowns * i + k)) (2 * weight wanted)) h j same,
        );
    levels = λ h j. level_after_flags i k hi hk w (2 * weight wanted) h j;
  }

-- ---- the cells of neighbouring rows

pub cells_set_none : (k lo level : ℕ) (y : Bool) (w : List ℕ) → CellsSet k lo lo level y w w
cells_set_none k lo level y w = record {
  stored = record { there = λ i low high. absurd (omega arith); elsewhere = λ i j out. (refl, refl) };
  wanted = λ i j. refl;
}

pub cells_set_more : (k lo i level : ℕ) (y : Bool) (w u x : List ℕ) → lo ≤ i → CellsSet k lo i level y w u → CellsSet k i (i + 1) level y u x
    → CellsSet k lo (i + 1) level y w x
cells_set_more k lo i level y w u x from a b = record {
  stored = record { there = λ h low high. there h low high (dec_lt h i); elsewhere = elsewhere };
  wanted = λ h j. b.wanted h j ∙ a.wanted h j;
}
  where
    there : (h : ℕ) → lo ≤ h → h < i + 1 → Dec (h < i) → ((cells x).level h k ≡ level) × ((cells x).value h k ≡ y)
    there h low high (yes p) =
        let kept = b.stored.elsewhere h k (λ t. let q = t.0 in omega arith) in
        let set_before = a.stored.there h low p in
        (kept.0 ∙ set_before.0, kept.1 ∙ set_before.1)
    there h low high (no p) = b.stored.there h (omega arith) high

    elsewhere : (h j : ℕ) → ((lo ≤ h) × (h < i + 1) × (j ≡ k) → ⊥) → ((cells x).level h j ≡ (cells w).level h j) × ((cells x).value h j ≡ (cells w).value h j)
    elsewhere h j out =
        let second = b.stored.elsewhere h j (λ t. let q = t.0 in let r = t.1 in out (omega arith, omega arith, t.2)) in
        let first = a.stored.elsewhere h j (λ t. let q = t.0 in let r = t.1 in out (omega arith, omega arith, t.2)) in
        (second.0 ∙ first.0, second.1 ∙ first.1)
