-- The places of a row: as the loop makes them, and that they are the rules' copies and values. Assumes nothing.
use Prim.Native.Nat.{ℕ, zero, suc, ◌+◌, ◌*◌, ◌≤◌, ◌<◌}
use native.Mathlib.Omega.{arith}
use mathlib.Core.Path.{◌≡◌, refl, sym, ap, ap₂, subst, ◌∙◌}
use mathlib.Core.Bool.{Bool, true, false, cond, ◌&&◌, beq, true≢false, false≢true}
use mathlib.Core.List.{List, [], ◌∷◌}
use mathlib.Core.Logic.{⊎_elim, inl, inr, ◌⊎◌}
use borrow.Author.Tests.{eq-eqb, ne_eqb}
use lib.Dec.{eqb}
use lib.ListN.{length, get_or, set, take, replicate}
use lib.Seq.{get_or-set_same, get_or-set_other}
use Rattle.formula.specs.Formula.{Kind, existential, universal, kind_of, prefix, max_unknowns}
use Rattle.formula.specs.Causes.{count}
use Rattle.formula.specs.Meaning.{bit}
use Rattle.expansion.specs.Side.{own, flags}
use Rattle.expansion.specs.OtherSide.{side_of, other}
use Rattle.expansion.specs.Play.{Row, restriction}
use Rattle.expansion.specs.Copies.{same}
use Rattle.expansion.specs.Cells.{others_before}
use Rattle.expansion.proofs.Booleans.{true_or_false}
use Rattle.rows.specs.Row.{bit_of, row_of}
use Rattle.rows.specs.Table.{row_at, rows_of, room}
use Rattle.rows.proofs.RowLaws.{length_row_of, get_or_row_of}
use Rattle.rows.proofs.TableLaws.{length_rows_of, get_or_rows_of}
use Rattle.judge.specs.Judge.{claims_true}
use Rattle.search_cells.specs.Cells.{owned}
use Rattle.search_cells.proofs.OwnedLaws.{owned_at, length_owned, others_before_own, others_before_other}
use Rattle.cnf_rules.specs.Clauses.{first_like, copy_number}
use Rattle.cnf_text.specs.Private.Walk.{same_front, FirstLike, PlaceBy, PlacesBelow, Low}

-- ---- as the loop makes them

below_or_last : (q k : ℕ) → q < k + 1 → (q ≡ k) ⊎ (q < k)
below_or_last zero zero h = inl refl
below_or_last zero (suc k) h = inr (omega arith)
below_or_last (suc q) zero h = absurd (omega arith)
below_or_last (suc q) (suc k) h = ⊎_elim (λ (e : q ≡ k). inl (ap suc e)) (λ (l : q < k). inr (omega arith)) (below_or_last q k (omega arith))

module _ (kinds : List ℕ) (claim : ℕ) (table : List ℕ) (i k place : ℕ) (places : List ℕ) (inside : k < length places) where
  pub places_next : PlacesBelow kinds claim table i k places
      → PlaceBy table i (others_before (owned kinds claim) k) k (eqb (get_or kinds k 0) claim) place
      → PlacesBelow kinds claim table i (k + 1) (set places k place)
  places_next before here q below =
      ⊎_elim
      (λ (same : q ≡ k). subst (λ p. PlaceBy table i (others_before (owned kinds claim) p) p (eqb (get_or kinds p 0) claim) (get_or (set places k place) p 0)) (sym same)
      (subst (λ v. PlaceBy table i (others_before (owned kinds claim) k) k (eqb (get_or kinds k 0) claim) v) (sym (get_or-set_same places k place 0 inside)) here))
      (λ (less : q < k). subst (λ v. PlaceBy table i (others_before (owned kinds claim) q) q (eqb (get_or kinds q 0) claim) v)
      (sym (get_or-set_other places k q place 0 (λ (e : q ≡ k). omega arith))) (before q less))
      (below_or_last q k below)

-- ---- the rules' flags, copies and values

own_kind : (claim kind : ℕ) → claim ≤ 1 → kind ≤ 1 → own (side_of (claims_true claim)) (kind_of kind) ≡ eqb kind claim
own_kind zero zero a b = refl
own_kind zero (suc k) a b = sym (ne_eqb (suc k) zero (λ e. omega arith))
own_kind (suc s) zero a b = sym (ne_eqb zero (suc s) (λ e. omega arith))
own_kind (suc s) (suc k) a b = sym (eq-eqb (suc k) (suc s) (omega arith))

pub flags_owned : (claim : ℕ) (kinds : List ℕ) → claim ≤ 1 → ((k : ℕ) → get_or kinds k 0 ≤ 1)
    → flags (side_of (claims_true claim)) (prefix kinds) ≡ owned kinds claim
flags_owned claim [] a h = refl
flags_owned claim (k ∷ kinds) a h = ap₂ {C = List Bool} (λ x xs. x ∷ xs) (own_kind claim k a (h 0)) (flags_owned claim kinds a (λ i. h (suc i)))

pub others_most : (side : Kind) (ks : List Kind) (k : ℕ) → others_before (flags side ks) k ≤ count (other side) ks
others_most side ks zero = omega arith
others_most side [] (suc k) = omega arith
others_most existential (existential ∷ ks) (suc k) = others_most existential ks k
others_most existential (universal ∷ ks) (suc k) = let h = others_most existential ks k in omega arith
others_most universal (existential ∷ ks) (suc k) = let h = others_most universal ks k in omega arith
others_most universal (universal ∷ ks) (suc k) = others_most universal ks k

-- A restriction is the start of the row.
restricted : (ts : List Bool) (k : ℕ) (row : Row) → others_before ts k ≤ length row → restriction ts k row ≡ take (others_before ts k) row
restricted ts zero row h = refl
restricted [] (suc k) row h = refl
restricted (true ∷ ts) (suc k) row h = restricted ts k row h
restricted (false ∷ ts) (suc k) [] h = absurd (omega arith)
restricted (false ∷ ts) (suc k) (b ∷ row) h = ap (λ (l : Row). b ∷ l) (restricted ts k row (omega arith))

and_assoc : (a b c : Bool) → a && (b && c) ≡ (a && b) && c
and_assoc true b c = refl
and_assoc false b c = refl

same_more : (m : ℕ) (a b : Row) → m < length a → m < length b
    → same (take (suc m) a) (take (suc m) b) ≡ same (take m a) (take m b) && beq (get_or a m false) (get_or b m false)
same_more m [] b la lb = absurd (omega arith)
same_more m (x ∷ a) [] la lb = absurd (omega arith)
same_more zero (x ∷ a) (y ∷ b) la lb = and_true (beq x y)
  where
    and_true : (c : Bool) → c && true ≡ c
    and_true true = refl
    and_true false = refl
same_more (suc m) (x ∷ a) (y ∷ b) la lb =
    ap (λ c. beq x y && c) (same_more m a b (omega arith) (omega arith))
    ∙ and_assoc (beq x y) (same (take m a) (take m b)) (beq (get_or a m false) (get_or b m false))

module _ (table : List ℕ) (w j i : ℕ) where
  same_start : (m : ℕ) → m ≤ w → same (take m (row_of w (row_at table j))) (take m (row_of w (row_at table i))) ≡ same_front table j i m
  same_start zero h = refl
  same_start (suc m) h =
      let a = row_of w (row_at table j) in
      let b = row_of w (row_at table i) in
      same_more m a b (omega (arith, length_row_of w (row_at table j))) (omega (arith, length_row_of w (row_at table i)))
      ∙ ap₂ ◌&&◌ (same_start m (omega arith)) (ap₂ beq (get_or_row_of w (row_at table j) m (omega arith)) (get_or_row_of w (row_at table i) m (omega arith)))

  same_restricted : (ts : List Bool) (k : ℕ) → others_before ts k ≤ w
      → same (restriction ts k (row_of w (row_at table j))) (restriction ts k (row_of w (row_at table i))) ≡ same_front table j i (others_before ts k)
  same_restricted ts k h =
      ap₂ same
      (restricted ts k (row_of w (row_at table j)) (omega (arith, length_row_of w (row_at table j))))
      (restricted ts k (row_of w (row_at table i)) (omega (arith, length_row_of w (row_at table i))))
      ∙ same_start (others_before ts k) h

-- The first that is like, by places.
first_is : (ts : List Bool) (k : ℕ) (r : Row) (rows : List Row) (first : ℕ) → first < length rows
    → same (restriction ts k (get_or rows first [])) r ≡ true → ((j : ℕ) → j < first → same (restriction ts k (get_or rows j [])) r ≡ false)
    → first_like ts k r rows ≡ first
first_is ts k r [] first h e before = absurd (omega arith)
first_is ts k r (row ∷ rows) zero h e before = rw e refl
first_is ts k r (row ∷ rows) (suc first) h e before =
    rw (before 0 (omega arith)) (ap suc (first_is ts k r rows first (omega arith) e (λ j below. before (suc j) (omega arith))))

module _ (table : List ℕ) (w n i : ℕ) (few : n ≤ room table) (inside : i < n) where
  row_there : (j : ℕ) → j < n → get_or (rows_of w n table) j [] ≡ row_of w (row_at table j)
  row_there j below = get_or_rows_of w n table j below (omega arith)

  pub copy_is : (ts : List Bool) (k first : ℕ) → others_before ts k ≤ w → FirstLike table i (others_before ts k) first
      → copy_number ts (rows_of w n table) (row_of w (row_at table i)) k ≡ max_unknowns * first + k
  copy_is ts k first h like =
      let mine = restriction ts k (row_of w (row_at table i)) in
      let alike : (j : ℕ) → j ≤ i → same (restriction ts k (get_or (rows_of w n table) j [])) mine ≡ same_front table j i (others_before ts k) =
      λ j le. ap (λ (row : Row). same (restriction ts k row) mine) (row_there j (omega arith)) ∙ same_restricted table w j i ts k h in
      ap (λ f. max_unknowns * f + k)
      (first_is ts k mine (rows_of w n table) first (omega (arith, like.inside, length_rows_of w n table)) (alike first like.inside ∙ like.like)
      (λ j below. alike j (omega (arith, like.inside)) ∙ like.none_before j below))

-- ---- one place more

pub zeros_low : (n : ℕ) → Low (replicate n 0)
zeros_low zero k = omega arith
zeros_low (suc n) zero = omega arith
zeros_low (suc n) (suc k) = zeros_low n k

pub low_next : (places : List ℕ) (k place : ℕ) → Low places → place < 32770 → Low (set places k place)
low_next [] k place low small q = low q
low_next (p ∷ places) zero place low small zero = small
low_next (p ∷ places) zero place low small (suc q) = low (suc q)
low_next (p ∷ places) (suc k) place low small zero = low 0
low_next (p ∷ places) (suc k) place low small (suc q) = low_next places k place (λ r. low (suc r)) small q

pub others_then : (kinds : List ℕ) (claim k others : ℕ) (own : Bool) {then : ℕ} → k < length kinds → own ≡ eqb (get_or kinds k 0) claim
    → others ≡ others_before (owned kinds claim) k → then ≡ cond own others (others + 1) → then ≡ others_before (owned kinds claim) (k + 1)
others_then kinds claim k others own {then} below e f g =
    ⊎_elim
    (λ (o : own ≡ true). g ∙ rw o (f ∙ sym (others_before_own (owned kinds claim) k (owned_at kinds claim k below ∙ sym e ∙ o))))
    (λ (o : own ≡ false). g ∙ rw o (ap (λ (n : ℕ). n + 1) f ∙ sym (others_before_other (owned kinds claim) k (omega (arith, length_owned kinds claim)) (owned_at kinds claim k below ∙ sym e ∙ o))))
    (true_or_false own)

module _ (table : List ℕ) (i others k : ℕ) (own : Bool) where
  pub copy_place : {first place : ℕ} → i < 256 → k < 128 → own ≡ true → FirstLike table i others first → place ≡ 2 + (max_unknowns * first + k) → PlaceBy table i others k own place
  copy_place {first} {place} few small o like e =
      let inside = like.inside in
      record { copy = λ is. (first, like, e); value = λ is. absurd (true≢false (sym o ∙ is)); low = omega arith }

  pub value_place : {place : ℕ} (b : Bool) → own ≡ false → b ≡ bit_of (row_at table i) others → place ≡ bit b → PlaceBy table i others k own place
  value_place {place} b o e f =
      record { copy = λ is. absurd (false≢true (sym o ∙ is)); value = λ is. f ∙ ap bit e; low = go b f }
    where
      go : (b : Bool) → place ≡ bit b → place < 32770
      go true f = omega arith
      go false f = omega arith
