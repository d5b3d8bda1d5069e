-- The rows that fit the moves: one row more, and a row by its bits. Assumes nothing.
use Prim.Native.Nat.{ℕ, zero, suc, ◌+◌, ◌-◌, ◌≤◌, ◌<◌}
use native.Mathlib.Omega.{arith}
use mathlib.Core.Path.{◌≡◌, refl, sym, ap, ◌∙◌}
use mathlib.Core.Bool.{Bool, true, false, cond, ◌&&◌, beq}
use mathlib.Core.List.{List, [], ◌∷◌, ◌++◌}
use lib.ListN.{length, get_or, take, drop, length-map, length-drop, get_or-map}
use lib.Seq.{take_all}
use Rattle.formula.specs.Formula.{Kind, existential, universal, kind_of, prefix}
use Rattle.formula.specs.Causes.{count}
use Rattle.expansion.specs.OtherSide.{side_of, other}
use Rattle.expansion.specs.Play.{Row, first_value, later_values}
use Rattle.rows.specs.Row.{values}
use Rattle.judge.specs.Judge.{claims_true, width}
use Rattle.restriction.specs.Outcome.{value_of, values_of}
use Rattle.case_rules.specs.Restricted.{kinds_behind}
use Rattle.case_rules.specs.Casebook.{offered}
use Rattle.reply_rules.specs.Position.{beginning, rows_behind, fitting}
use Rattle.std.specs.Int.{from_bool}
use Rattle.std.specs.List.{count_by}
use Rattle.std.proofs.lemmas.List.Recursion.{is_count_by}
use Rattle.reply.specs.Private.Fitting.{one_if, more_if, owned, agrees, fits}
use Rattle.reply.proofs.BitLaws.{values_same}

-- The part of a list from a place on, as it is lent.
pub part_is : (l : List ℕ) (d : ℕ) → take (length l - d) (drop d l) ≡ drop d l
part_is l d = take_all (length l - d) (drop d l) (omega (arith, length-drop d l))

-- ---- how many unknowns are own

owned_count : (claim : Bool) (ks : List Kind) → count (other (side_of claim)) ks ≡ owned claim ks
owned_count true [] = refl
owned_count false [] = refl
owned_count true (existential ∷ ks) = ap suc (owned_count true ks)
owned_count true (universal ∷ ks) = owned_count true ks
owned_count false (existential ∷ ks) = owned_count false ks
owned_count false (universal ∷ ks) = ap suc (owned_count false ks)

pub width_owned : (kinds : List ℕ) (claim : ℕ) → width kinds claim ≡ owned (claims_true claim) (prefix kinds)
unfolding width
width_owned kinds claim = owned_count (claims_true claim) (prefix kinds)

pub one_if_is : (own : Bool) → from_bool own ≡ one_if own
one_if_is true = refl
one_if_is false = refl

pub one_if_most : (own : Bool) → one_if own ≤ 1
one_if_most true = omega arith
one_if_most false = omega arith

pub owned_few : (claim : Bool) (kinds : List ℕ) → owned claim (prefix kinds) ≤ length kinds
owned_few claim [] = omega arith
owned_few claim (k ∷ kinds) = let h = owned_few claim kinds in go (offered claim (kind_of k)) h
  where
    go : (o : Bool) → owned claim (prefix kinds) ≤ length kinds → more_if o (owned claim (prefix kinds)) ≤ suc (length kinds)
    go true h = omega arith
    go false h = omega arith

pub owned_counted : (claim : Bool) (kinds : List ℕ) → count_by (λ k. offered claim (kind_of k)) kinds ≡ owned claim (prefix kinds)
owned_counted claim kinds = sym (is_count_by (λ ks. owned claim (prefix ks)) (λ k. offered claim (kind_of k)) refl
    (λ k ks. step (offered claim (kind_of k)) (owned claim (prefix ks))) kinds)
  where
    step : (o : Bool) (n : ℕ) → more_if o n ≡ cond o (1 + n) n
    step true n = omega arith
    step false n = refl

pub owned_both : (claim : Bool) (kinds : List ℕ) (d : ℕ) →
    owned claim (prefix (take d kinds)) + owned claim (prefix (drop d kinds)) ≡ owned claim (prefix kinds)
owned_both claim kinds zero = omega arith
owned_both claim [] (suc d) = omega arith
owned_both claim (k ∷ kinds) (suc d) = let h = owned_both claim kinds d in go (offered claim (kind_of k)) h
  where
    go : (o : Bool) → owned claim (prefix (take d kinds)) + owned claim (prefix (drop d kinds)) ≡ owned claim (prefix kinds)
        → more_if o (owned claim (prefix (take d kinds))) + owned claim (prefix (drop d kinds)) ≡ more_if o (owned claim (prefix kinds))
    go true h = omega arith
    go false h = h

-- ---- more rows

pub fitting_empty : (claim : Bool) (ks : List Kind) (vs : List Bool) → fitting claim ks vs [] ≡ []
fitting_empty claim [] vs = refl
fitting_empty claim (k ∷ ks) [] = refl
fitting_empty claim (k ∷ ks) (v ∷ vs) = ap (fitting claim ks vs) (go (offered claim k)) ∙ fitting_empty claim ks vs
  where
    go : (o : Bool) → rows_behind o v [] ≡ []
    go true = refl
    go false = refl

beginning_append : (v : Bool) (xs ys : List Row) → beginning v (xs ++ ys) ≡ beginning v xs ++ beginning v ys
beginning_append v [] ys = refl
beginning_append v (r ∷ xs) ys =
    ap (λ (l : List Row). cond (beq v (first_value r)) (later_values r ∷ l) l) (beginning_append v xs ys) ∙ go (beq v (first_value r))
  where
    go : (b : Bool)
        → cond b (later_values r ∷ (beginning v xs ++ beginning v ys)) (beginning v xs ++ beginning v ys) ≡ cond b (later_values r ∷ beginning v xs)
        (beginning v xs) ++ beginning v ys
    go true = refl
    go false = refl

pub fitting_append : (claim : Bool) (ks : List Kind) (vs : List Bool) (xs ys : List Row)
    → fitting claim ks vs (xs ++ ys) ≡ fitting claim ks vs xs ++ fitting claim ks vs ys
fitting_append claim [] vs xs ys = refl
fitting_append claim (k ∷ ks) [] xs ys = refl
fitting_append claim (k ∷ ks) (v ∷ vs) xs ys =
    ap (fitting claim ks vs) (go (offered claim k))
    ∙ fitting_append claim ks vs (rows_behind (offered claim k) v xs) (rows_behind (offered claim k) v ys)
  where
    go : (o : Bool) → rows_behind o v (xs ++ ys) ≡ rows_behind o v xs ++ rows_behind o v ys
    go true = beginning_append v xs ys
    go false = refl

-- ---- one row

abbrev behind : Bool → List ℕ → List Bool → (ℕ → Bool) → Row
behind claim kinds vs f = values (owned claim (prefix (kinds_behind vs kinds))) (λ i. f (owned claim (prefix (take (length vs) kinds)) + i))

module _ (claim : Bool) where
  abbrev One : List ℕ → List Bool → (ℕ → Bool) → Type 0
  One kinds vs f =
      fitting claim (prefix kinds) vs (values (owned claim (prefix kinds)) f ∷ []) ≡ cond (fits claim (prefix kinds) vs f) (behind claim kinds vs f ∷ []) []

  pub fitting_one : (kinds : List ℕ) (vs : List Bool) (f : ℕ → Bool) → length vs ≤ length kinds → One kinds vs f
  fitting_one [] [] f h = refl
  fitting_one [] (v ∷ vs) f h = absurd (omega arith)
  fitting_one (k ∷ kinds) [] f h =
      ap (λ (r : Row). r ∷ []) (values_same (owned claim (prefix (k ∷ kinds))) f (λ i. f (0 + i)) (λ i below. ap f (omega arith)))
  fitting_one (k ∷ kinds) (v ∷ vs) f h =
      next (offered claim (kind_of k)) (λ g. fitting_one kinds vs g (omega arith))
    where
      -- The rest of a row whose first value agrees, or not.
      kept : (b : Bool) (g : ℕ → Bool) → One kinds vs g
          → fitting claim (prefix kinds) vs (cond b (values (owned claim (prefix kinds)) g ∷ []) [])
          ≡ cond (b && fits claim (prefix kinds) vs g) (behind claim kinds vs g ∷ []) []
      kept true g rest = rest
      kept false g rest = fitting_empty claim (prefix kinds) vs

      shifted : behind claim kinds vs (λ i. f (suc i))
          ≡ values (owned claim (prefix (kinds_behind vs kinds))) (λ i. f (suc (owned claim (prefix (take (length vs) kinds))) + i))
      shifted =
          values_same (owned claim (prefix (kinds_behind vs kinds))) (λ i. f (suc (owned claim (prefix (take (length vs) kinds)) + i)))
          (λ i. f (suc (owned claim (prefix (take (length vs) kinds))) + i)) (λ i below. ap f (omega arith))

      next : (o : Bool) → ((g : ℕ → Bool) → One kinds vs g)
          → fitting claim (prefix kinds) vs (rows_behind o v (values (more_if o (owned claim (prefix kinds))) f ∷ []))
          ≡ cond (agrees o v (f 0) && fits claim (prefix kinds) vs (λ i. f (more_if o i)))
          (values (owned claim (prefix (kinds_behind vs kinds))) (λ i. f (more_if o (owned claim (prefix (take (length vs) kinds))) + i)) ∷ []) []
      next true rest =
          kept (beq v (f 0)) (λ i. f (suc i)) (rest (λ i. f (suc i)))
          ∙ ap (λ (r : Row). cond (beq v (f 0) && fits claim (prefix kinds) vs (λ i. f (suc i))) (r ∷ []) []) shifted
      next false rest = rest f

-- ---- a row's bits, move by move

module _ (claim : Bool) (bits : ℕ → Bool) where
  -- What is left to be compared behind d moves, of which `bit` were own.
  abbrev pub Left : List ℕ → List Bool → ℕ → ℕ → Bool
  Left kinds vs d bit = fits claim (prefix (drop d kinds)) (drop d vs) (λ j. bits (bit + j))

  pub fits_next : (kinds : List ℕ) (vs : List Bool) (d bit : ℕ) → d < length vs → length vs ≤ length kinds
      → Left kinds vs d bit
      ≡ (agrees (offered claim (kind_of (get_or kinds d 0))) (get_or vs d false) (bits bit) && Left kinds vs (d + 1)
      (bit + one_if (offered claim (kind_of (get_or kinds d 0)))))
  fits_next kinds vs d bit below few =
      let one : d + 1 ≡ suc d = omega arith in
      go kinds vs d below few
      ∙ ap (λ (n : ℕ). agrees (offered claim (kind_of (get_or kinds d 0))) (get_or vs d false) (bits bit) && Left kinds vs n
      (bit + one_if (offered claim (kind_of (get_or kinds d 0))))) (sym one)
    where
      moved : (o : Bool) (ks : List Kind) (ws : List Bool) →
          fits claim ks ws (λ i. bits (bit + more_if o i)) ≡ fits claim ks ws (λ j. bits (bit + one_if o + j))
      moved o ks ws = ap (fits claim ks ws) (λ i j. bits (same o j i))
        where
          same : (o : Bool) (j : ℕ) → bit + more_if o j ≡ bit + one_if o + j
          same true j = omega arith
          same false j = omega arith

      here : (k : ℕ) (kinds : List ℕ) (v : Bool) (vs : List Bool)
          → fits claim (prefix (k ∷ kinds)) (v ∷ vs) (λ j. bits (bit + j))
          ≡ (agrees (offered claim (kind_of k)) v (bits bit) && fits claim (prefix kinds) vs (λ j. bits (bit + one_if (offered claim (kind_of k)) + j)))
      here k kinds v vs =
          let first : bit + 0 ≡ bit = omega arith in
          ap (λ (n : ℕ). agrees (offered claim (kind_of k)) v (bits n) && fits claim (prefix kinds) vs
          (λ i. bits (bit + more_if (offered claim (kind_of k)) i))) first
          ∙ ap (λ (b : Bool). agrees (offered claim (kind_of k)) v (bits bit) && b) (moved (offered claim (kind_of k)) (prefix kinds) vs)

      go : (kinds : List ℕ) (vs : List Bool) (d : ℕ) → d < length vs → length vs ≤ length kinds
          → Left kinds vs d bit
          ≡ (agrees (offered claim (kind_of (get_or kinds d 0))) (get_or vs d false) (bits bit) && Left kinds vs (suc d)
          (bit + one_if (offered claim (kind_of (get_or kinds d 0)))))
      go kinds [] d below few = absurd (omega arith)
      go [] (v ∷ vs) d below few = absurd (omega arith)
      go (k ∷ kinds) (v ∷ vs) zero below few = here k kinds v vs
      go (k ∷ kinds) (v ∷ vs) (suc d) below few = go kinds vs d (omega arith) (omega arith)

  pub fits_end : (kinds : List ℕ) (vs : List Bool) (d bit : ℕ) → length vs ≤ d → Left kinds vs d bit ≡ true
  fits_end kinds [] d bit h = none_left (prefix (drop d kinds)) d
    where
      none_left : (ks : List Kind) (d : ℕ) → fits claim ks (drop d []) (λ j. bits (bit + j)) ≡ true
      none_left [] d = refl
      none_left (k ∷ ks) zero = refl
      none_left (k ∷ ks) (suc d) = refl
  fits_end kinds (v ∷ vs) zero bit h = absurd (omega arith)
  fits_end [] (v ∷ vs) (suc d) bit h = refl
  fits_end (k ∷ kinds) (v ∷ vs) (suc d) bit h = fits_end kinds vs d bit (omega arith)

  -- One move, as it is read.
  fits_one_more : (kinds moves : List ℕ) (d bit : ℕ) → d < length moves → length moves ≤ length kinds → {own there same : Bool}
      → own ≡ offered claim (kind_of (get_or kinds d 0)) → there ≡ bits bit → same ≡ agrees own (value_of (get_or moves d 0)) there
      → Left kinds (values_of moves) d bit ≡ (same && Left kinds (values_of moves) (d + 1) (bit + one_if own))
  fits_one_more kinds moves d bit below few {own} {there} {same} o t s =
      fits_next kinds (values_of moves) d bit (omega (arith, length-map moves value_of)) (omega (arith, length-map moves value_of))
      ∙ ap (λ (v : Bool). agrees (offered claim (kind_of (get_or kinds d 0))) v (bits bit) && Left kinds (values_of moves) (d + 1)
      (bit + one_if (offered claim (kind_of (get_or kinds d 0)))))
      (get_or-map value_of moves d 0)
      ∙ ap (λ (b : Bool). agrees b (value_of (get_or moves d 0)) (bits bit) && Left kinds (values_of moves) (d + 1) (bit + one_if b)) (sym o)
      ∙ ap (λ (b : Bool). b && Left kinds (values_of moves) (d + 1) (bit + one_if own)) (ap (agrees own (value_of (get_or moves d 0))) (sym t) ∙ sym s)

  module _ (kinds moves : List ℕ) (d bit : ℕ) (below : d < length moves) (few : length moves ≤ length kinds) {own there same : Bool}
      (o : own ≡ offered claim (kind_of (get_or kinds d 0))) (t : there ≡ bits bit) (s : same ≡ agrees own (value_of (get_or moves d 0)) there) where
    abbrev later : Bool
    later = Left kinds (values_of moves) (d + 1) (bit + one_if own)

    pub fits_differs : same ≡ false → Left kinds (values_of moves) d bit ≡ false
    fits_differs e = fits_one_more kinds moves d bit below few o t s ∙ ap (λ (b : Bool). b && later) e

    pub fits_agrees : same ≡ true → (n : ℕ) → n ≡ one_if own → Left kinds (values_of moves) d bit ≡ Left kinds (values_of moves) (d + 1) (bit + n)
    fits_agrees e n one =
        fits_one_more kinds moves d bit below few o t s
        ∙ ap (λ (b : Bool). b && later) e
        ∙ ap (λ (m : ℕ). Left kinds (values_of moves) (d + 1) (bit + m)) (sym one)
