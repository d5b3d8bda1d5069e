-- What a search may conclude early (cuts), over tables of values: a value that every model has is forced, a choice that no model makes is
-- refuted, and a failure that does not depend on the last choice fails the choice before it (backjumping).
-- All is read over the models of ALL rows of the search, never over a group of rows alone: what a group implies does not pass to a part of it.
-- A mask is a set of positions on whose values a conclusion rests; every conclusion survives larger masks. Assumes nothing.
use Prim.Native.Nat.{ℕ, ◌+◌, ◌≤◌, ◌<◌}
use mathlib.Core.Path.{◌≡◌, refl, sym, ◌∙◌, ap, subst}
use mathlib.Core.Logic.{◌⊎◌, inl, inr, ⊎_elim}
use mathlib.Core.Bool.{Bool, true, false, not}
use native.Mathlib.Omega.{arith}
use native.Mathlib.Nat.{eq-or-lt_of_le}
use Rattle.expansion.specs.Cells.{Values}
pub use Rattle.expansion.specs.Private.Problem.{Mask, Problem, Agree, Sound, Model, Heeds, Refuted, Implied, Within, SameBelow}
use Rattle.expansion.proofs.Booleans.{true_or_false, never_both}

-- ---- Booleans and orders

pub other_value : (a b : Bool) → (a ≡ b → ⊥) → a ≡ not b
other_value true true h = absurd (h refl)
other_value true false h = refl
other_value false true h = refl
other_value false false h = absurd (h refl)

pub below_or_last : (l k : ℕ) → l < k + 1 → (l < k) ⊎ (l ≡ k)
below_or_last l k lt =
    let le : l ≤ k = omega arith in
    ⊎_elim (λ e. inr e) (λ h. inl h) (eq-or-lt_of_le le)

-- ---- rows that agree

module _ (P : Problem) where
  pub agree_shorter : (i h k j : ℕ) → j ≤ k → Agree P i h k → Agree P i h j
  agree_shorter i h k j le a l lt = a l (omega arith)

  pub agree_sym : (i h k : ℕ) → Agree P i h k → Agree P h i k
  agree_sym i h k a l lt o = sym (a l lt o)

  pub agree_trans : (i h g k : ℕ) → Agree P i h k → Agree P h g k → Agree P i g k
  agree_trans i h g k a b l lt o = a l lt o ∙ b l lt o

  -- an own position parts no rows, and another parts those that differ there
  pub agree_own : (i h k : ℕ) → P.own k ≡ true → Agree P i h k → Agree P i h (k + 1)
  agree_own i h k o a l lt f =
      ⊎_elim (λ q. a l q f) (λ q. absurd (never_both (ap P.own q ∙ o) f)) (below_or_last l k lt)

  pub agree_given : (i h k : ℕ) → P.given i k ≡ P.given h k → Agree P i h k → Agree P i h (k + 1)
  agree_given i h k e a l lt f =
      ⊎_elim
      (λ q. a l q f)
      (λ q. subst (λ (x : ℕ). P.given i x ≡ P.given h x) (sym q) e)
      (below_or_last l k lt)

  -- rows that agree before k have the same values before k in every model
  pub models_agree : (m : Values) → Model P m → (i h k : ℕ) → i < P.count → h < P.count → k ≤ P.n → Agree P i h k → SameBelow k (m i) (m h)
  models_agree m M i h k hi hh hk a l lt =
      ⊎_elim
      (λ o. M.uniform i h l hi hh (omega arith) o (agree_shorter i h k l (omega arith) a))
      (λ o. M.follows i l hi (omega arith) o ∙ a l lt o ∙ sym (M.follows h l hh (omega arith) o))
      (true_or_false (P.own l))

  pub heeds_row : (m : Values) → Model P m → (i h k : ℕ) (v : ℕ → Bool) (D : Mask) → i < P.count → h < P.count → k ≤ P.n → Agree P i h k → Heeds m i k v D →
      Heeds m h k v D
  heeds_row m M i h k v D hi hh hk a e l lt d = sym (models_agree m M i h k hi hh hk a l lt) ∙ e l lt d

  -- what is refuted, or implied, in one row is so in every row that agrees with it
  pub refuted_row : (i h k : ℕ) (v : ℕ → Bool) (D : Mask) → i < P.count → h < P.count → k ≤ P.n → Agree P i h k → Refuted P k v D i → Refuted P k v D h
  refuted_row i h k v D hi hh hk a r m M e = r m M (heeds_row m M h i k v D hh hi hk (agree_sym i h k a) e)

  pub implied_row : (i h k j : ℕ) (v : ℕ → Bool) (D : Mask) (y : Bool) → i < P.count → h < P.count → k ≤ P.n → j < P.n → Agree P i h k → P.own j ≡ true →
      Agree P i h j → Implied P k v D i j y → Implied P k v D h j y
  implied_row i h k j v D y hi hh hk hj a o b r m M e =
      sym (M.uniform i h j hi hh hj o b) ∙ r m M (heeds_row m M h i k v D hh hi hk (agree_sym i h k a) e)

  -- ---- larger masks, and more values

  pub heeds_smaller : (m : Values) (i k : ℕ) (v : ℕ → Bool) (D E : Mask) → Within k D E → Heeds m i k v E → Heeds m i k v D
  heeds_smaller m i k v D E w e l lt d = e l lt (w l lt d)

  pub implied_larger : (k : ℕ) (v : ℕ → Bool) (D E : Mask) (i j : ℕ) (y : Bool) → Within k D E → Implied P k v D i j y → Implied P k v E i j y
  implied_larger k v D E i j y w r m M e = r m M (heeds_smaller m i k v D E w e)

  pub implied_later : (k h : ℕ) (v w : ℕ → Bool) (D : Mask) (i j : ℕ) (y : Bool) → k ≤ h → SameBelow k v w → Implied P k v D i j y → Implied P h w D i j y
  implied_later k h v w D i j y le same r m M e = r m M (λ l lt d. e l (omega arith) d ∙ sym (same l lt))

  -- ---- backjumping

  -- a model that heeds the mask below k, and has w's value at k if the mask names k, heeds it below k + 1
  heeds_next : (m : Values) (i k : ℕ) (v w : ℕ → Bool) (D : Mask) → SameBelow k v w → (D k ≡ true → m i k ≡ w k) → Heeds m i k v D → Heeds m i (k + 1) w D
  heeds_next m i k v w D same last e l lt d =
      ⊎_elim
      (λ q. e l q d ∙ same l q)
      (λ q. subst (λ (x : ℕ). m i x ≡ w x) (sym q) (last (subst (λ (x : ℕ). D x ≡ true) q d)))
      (below_or_last l k lt)

  -- a failure whose mask lacks the last choice fails the choice before it
  pub refuted_without : (k : ℕ) (v w : ℕ → Bool) (D : Mask) (i : ℕ) → SameBelow k v w → D k ≡ false → Refuted P (k + 1) w D i → Refuted P k v D i
  refuted_without k v w D i same lacks r m M e =
      r m M (heeds_next m i k v w D same (λ d. absurd (never_both d lacks)) e)

  -- a failure at a value that the row gives is a failure without it
  pub refuted_given : (k : ℕ) (v w : ℕ → Bool) (D : Mask) (i : ℕ) → i < P.count → k < P.n → P.own k ≡ false → w k ≡ P.given i k → SameBelow k v w →
      Refuted P (k + 1) w D i → Refuted P k v D i
  refuted_given k v w D i hi hk o g same r m M e = r m M (heeds_next m i k v w D same (λ d. M.follows i k hi hk o ∙ sym g) e)

  -- both values fail
  pub refuted_both : (k : ℕ) (v w u : ℕ → Bool) (D E F : Mask) (i : ℕ) → SameBelow k v w → SameBelow k v u → u k ≡ not (w k) → Within k D F → Within k E F →
      Refuted P (k + 1) w D i → Refuted P (k + 1) u E i → Refuted P k v F i
  refuted_both k v w u D E F i samew sameu opposite in_d inE r s m M e =
      s m M
      (heeds_next m i k v u E sameu
      (λ d. other_value (m i k) (w k) (λ q. r m M (heeds_next m i k v w D samew (λ d'. q) (heeds_smaller m i k v D F in_d e))) ∙ sym opposite)
      (heeds_smaller m i k v E F inE e))
