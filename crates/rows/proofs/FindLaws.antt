-- Equal rows and the first place of a row.
-- Assumes nothing.
use mathlib.Core.Path.{◌≡◌, refl, sym, ap, ap₂, ◌∙◌}
use Rattle.std.specs.Prelude.{None, Some}
use mathlib.Core.Bool.{Bool, true, false, ◌&&◌, false≢true, and-true, and_assoc, and-eq-true_iff}
use mathlib.Core.List.{List, [], ◌∷◌, ◌++◌}
use Prim.Native.Nat.{ℕ, zero, suc, ◌+◌, ◌*◌, ◌≤◌, ◌<◌, zero-le, suc-le-suc}
use native.Mathlib.Nat.{add-zero, zero-add, add-suc, suc-add, le_of_suc-le-suc, not-suc-le-zero}
use native.Mathlib.Numerals.{add-one}
use native.Mathlib.Omega.{arith}
use lib.Dec.{eqb}
use lib.ListN.{length, get_or, take, drop, length-drop}
use lib.Seq.{take-suc, get_or-drop, length-take-le}
use borrow.Author.Tests.{eqb-true, eq-eqb}
use Rattle.rows.specs.Row.{values, row_of}
use Rattle.rows.specs.Table.{inside, row_at, room}
use Rattle.rows.specs.Access.{same_bytes, equal_rows, first_true, first_place}
use Rattle.rows.proofs.ValueLaws.{length_values, get_or_values, values_false}
use Rattle.rows.proofs.RowLaws.{IsRow, equal_values_equal_bytes}
use Rattle.rows.proofs.TableLaws.{inside_true, inside_false, row_at_inside}

-- ---- equal rows

same_bytes_refl : (b : List ℕ) → same_bytes b b ≡ true
same_bytes_refl [] = refl
same_bytes_refl (x ∷ b) = ap (λ (v : Bool). v && same_bytes b b) (eq-eqb x x refl) ∙ same_bytes_refl b

same_bytes_equal : (b c : List ℕ) → same_bytes b c ≡ true → b ≡ c
same_bytes_equal [] [] e = refl
same_bytes_equal [] (y ∷ c) e = absurd (false≢true e)
same_bytes_equal (x ∷ b) [] e = absurd (false≢true e)
same_bytes_equal (x ∷ b) (y ∷ c) e =
    let both = (and-eq-true_iff (eqb x y) (same_bytes b c)).0 e in
    let first : x ≡ y = eqb-true x y both.0 in
    let later : b ≡ c = same_bytes_equal b c both.1 in
    λ d. first d ∷ later d

same_bytes_more : (b c : List ℕ) (x y : ℕ) → length b ≡ length c → same_bytes (b ++ (x ∷ [])) (c ++ (y ∷ [])) ≡ (same_bytes b c && eqb x y)
same_bytes_more [] [] x y e = and-true (eqb x y)
same_bytes_more [] (v ∷ c) x y e = absurd (omega arith)
same_bytes_more (u ∷ b) [] x y e = absurd (omega arith)
same_bytes_more (u ∷ b) (v ∷ c) x y e = ap (λ (w : Bool). eqb u v && w) (same_bytes_more b c x y (omega arith)) ∙ sym
    (and_assoc (eqb u v) (same_bytes b c) (eqb x y))

take_more : (t : List ℕ) (x p : ℕ) → x + p < length t → take (p + 1) (drop x t) ≡ take p (drop x t) ++ (get_or t (x + p) 0 ∷ [])
take_more t x p h =
    ap (λ (n : ℕ). take n (drop x t)) (add-one p)
    ∙ take-suc (drop x t) p 0 (omega (arith, length-drop x t))
    ∙ ap (λ (v : ℕ). take p (drop x t) ++ (v ∷ [])) (get_or-drop x t p 0)

-- The bytes from x on and from y on, one more of each.
pub same_parts_more : (t : List ℕ) (x : ℕ) (u : List ℕ) (y p : ℕ) → x + p < length t → y + p < length u
    → (same_bytes (take p (drop x t)) (take p (drop y u)) && eqb (get_or t (x + p) 0) (get_or u (y + p) 0)) ≡ same_bytes (take (p + 1) (drop x t))
    (take (p + 1) (drop y u))
same_parts_more t x u y p ht hu =
    let size = length-take-le p (drop x t) (omega (arith, length-drop x t)) ∙ sym (length-take-le p (drop y u) (omega (arith, length-drop y u))) in
    sym (ap₂ same_bytes (take_more t x p ht) (take_more u y p hu) ∙ same_bytes_more (take p (drop x t)) (take p (drop y u)) (get_or t (x + p) 0)
    (get_or u (y + p) 0) size)

pub equal_rows_inside : (t : List ℕ) (i : ℕ) (u : List ℕ) (j : ℕ) → i < room t → j < room u
    → equal_rows t i u j ≡ same_bytes (take 16 (drop (16 * i) t)) (take 16 (drop (16 * j) u))
unfolding equal_rows
equal_rows_inside t i u j hi hj = rw (inside_true t i hi, inside_true u j hj, row_at_inside t i hi, row_at_inside u j hj)

pub equal_rows_outside : (t : List ℕ) (i : ℕ) (u : List ℕ) (j : ℕ) → room t ≤ i → equal_rows t i u j ≡ false
unfolding equal_rows
equal_rows_outside t i u j h = rw (inside_false t i h)

pub equal_rows_other_outside : (t : List ℕ) (i : ℕ) (u : List ℕ) (j : ℕ) → room u ≤ j → equal_rows t i u j ≡ false
unfolding equal_rows
equal_rows_other_outside t i u j h = go (inside t i)
  where
    go : (v : Bool) → v && inside u j && same_bytes (row_at t i) (row_at u j) ≡ false
    go true = ap (λ (v : Bool). v && same_bytes (row_at t i) (row_at u j)) (inside_false u j h)
    go false = refl

-- Rows without stray bits are equal exactly if their values are.
pub equal_rows_true : (t : List ℕ) (i : ℕ) (u : List ℕ) (j : ℕ) → equal_rows t i u j ≡ true → row_at t i ≡ row_at u j
unfolding equal_rows
equal_rows_true t i u j e =
    same_bytes_equal (row_at t i) (row_at u j) ((and-eq-true_iff (inside t i && inside u j) (same_bytes (row_at t i) (row_at u j))).0 e).1

pub equal_values_equal_rows : (m : ℕ) (t : List ℕ) (i : ℕ) (u : List ℕ) (j : ℕ) → i < room t → j < room u
    → IsRow m (row_at t i) → IsRow m (row_at u j) → row_of m (row_at t i) ≡ row_of m (row_at u j) → equal_rows t i u j ≡ true
unfolding equal_rows
equal_values_equal_rows m t i u j hi hj oki okj e =
    rw (inside_true t i hi, inside_true u j hj, equal_values_equal_bytes m (row_at t i) (row_at u j) oki okj e)
    (same_bytes_refl (row_at u j))

-- ---- the first place

first_true_found : (vs : List Bool) (s p : ℕ) → get_or vs p false ≡ true → ((q : ℕ) → q < p → get_or vs q false ≡ false)
    → first_true s vs ≡ Some (s + p)
first_true_found [] s p e none = absurd (false≢true e)
first_true_found (v ∷ vs) s zero e none = ap (λ (u : Bool). first_true s (u ∷ vs)) e ∙ ap Some (sym (add-zero s))
first_true_found (v ∷ vs) s (suc p) e none =
    ap (λ (u : Bool). first_true s (u ∷ vs)) (none zero (suc-le-suc zero-le))
    ∙ first_true_found vs (suc s) p e (λ q h. none (suc q) (suc-le-suc h))
    ∙ ap Some (suc-add s p ∙ sym (add-suc s p))

first_true_none : (vs : List Bool) (s : ℕ) → ((q : ℕ) → get_or vs q false ≡ false) → first_true s vs ≡ None
first_true_none [] s none = refl
first_true_none (v ∷ vs) s none =
    ap (λ (u : Bool). first_true s (u ∷ vs)) (none zero) ∙ first_true_none vs (suc s) (λ q. none (suc q))

-- Where the search stops, and that it does not.
pub first_place_found : (t : List ℕ) (n : ℕ) (u : List ℕ) (j p : ℕ) → p < n → equal_rows t p u j ≡ true
    → ((q : ℕ) → q < p → equal_rows t q u j ≡ false) → first_place t n u j ≡ Some p
unfolding first_place
first_place_found t n u j p h found none =
    let equal : ℕ → Bool = λ i. equal_rows t i u j in
    first_true_found (values n equal) 0 p (get_or_values n equal p h ∙ found)
    (λ q below. get_or_values n equal q (omega arith) ∙ none q below)
    ∙ ap Some (zero-add p)

pub first_place_none : (t : List ℕ) (n : ℕ) (u : List ℕ) (j : ℕ) → ((q : ℕ) → q < n → equal_rows t q u j ≡ false)
    → first_place t n u j ≡ None
unfolding first_place
first_place_none t n u j none = first_true_none (values n (λ i. equal_rows t i u j)) 0 (values_false n (λ i. equal_rows t i u j) none)

-- What an answer tells.
first_true_at : (vs : List Bool) (s p : ℕ) → first_true s vs ≡ Some p
    → (k : ℕ) × (p ≡ s + k) × (k < length vs) × (get_or vs k false ≡ true) × ((q : ℕ) → q < k → get_or vs q false ≡ false)
first_true_at [] s p e = let z : ◌≡◌ {A = ℕ} 0 1 = cc in absurd (omega arith)
first_true_at (true ∷ vs) s p e = let same : s ≡ p = cc in (zero, sym same ∙ sym (add-zero s), suc-le-suc zero-le, refl, λ q h. absurd (not-suc-le-zero h))
first_true_at (false ∷ vs) s p e =
    let (k, place, below, found, none) = first_true_at vs (suc s) p e in
    (suc k, place ∙ suc-add s k ∙ sym (add-suc s k), suc-le-suc below, found, after_false vs k none)
  where
    after_false : (vs : List Bool) (k : ℕ) → ((q : ℕ) → q < k → get_or vs q false ≡ false) → (q : ℕ) → q < suc k → get_or (false ∷ vs) q false ≡ false
    after_false vs k none zero h = refl
    after_false vs k none (suc q) h = none q (le_of_suc-le-suc h)

first_true_absent : (vs : List Bool) (s : ℕ) → first_true s vs ≡ None → (q : ℕ) → get_or vs q false ≡ false
first_true_absent [] s e q = refl
first_true_absent (true ∷ vs) s e q = let z : ◌≡◌ {A = ℕ} 0 1 = cc in absurd (omega arith)
first_true_absent (false ∷ vs) s e zero = refl
first_true_absent (false ∷ vs) s e (suc q) = first_true_absent vs (suc s) e q

pub first_place_at : (t : List ℕ) (n : ℕ) (u : List ℕ) (j p : ℕ) → first_place t n u j ≡ Some p
    → (p < n) × (equal_rows t p u j ≡ true) × ((q : ℕ) → q < p → equal_rows t q u j ≡ false)
unfolding first_place
first_place_at t n u j p e =
    let equal : ℕ → Bool = λ i. equal_rows t i u j in
    let (k, place, below, found, none) = first_true_at (values n equal) 0 p e in
    let same : k ≡ p = omega arith in
    let inside_count : k < n = omega (arith, length_values n equal) in (
      omega arith,
      ap equal (sym same) ∙ sym (get_or_values n equal k inside_count) ∙ found,
      λ q h. sym (get_or_values n equal q (omega arith)) ∙ none q (omega arith),
    )

pub first_place_absent : (t : List ℕ) (n : ℕ) (u : List ℕ) (j : ℕ) → first_place t n u j ≡ None
    → (q : ℕ) → q < n → equal_rows t q u j ≡ false
unfolding first_place
first_place_absent t n u j e q h =
    sym (get_or_values n (λ i. equal_rows t i u j) q h) ∙ first_true_absent (values n (λ i. equal_rows t i u j)) 0 e q
