-- Cells that stay, grow, are stored and cleared in a node of the tree search. Assumes nothing.
use Prim.Native.Nat.{ℕ, ◌≤◌, ◌<◌}
use mathlib.Core.Path.{◌≡◌, refl, sym, ◌∙◌, ap, subst}
use mathlib.Core.Logic.{◌⊎◌, inl, inr, ⊎_elim}
use mathlib.Core.Bool.{Bool}
use native.Mathlib.Omega.{arith}
use native.Mathlib.Decide.{ℕ_discrete, dec_le, dec_lt}
use Rattle.expansion.specs.Cells.{Cells}
pub use Rattle.expansion.specs.Private.Node.{Node, Won, SameCell, Grown, Stored, Cleared, MasksWithin}

-- ---- cells that stay

pub positive : (a b : ℕ) → a ≡ b → 0 < b → 0 < a
positive a b e h = omega arith

pub grown_refl : (b lo hi : ℕ) (T : Cells) → Grown b lo hi T T
grown_refl b lo hi T i j = inl (refl, λ h. refl)

-- a set cell stays as it is
pub grown_keeps : (b lo hi : ℕ) (T U : Cells) → Grown b lo hi T U → (i j : ℕ) → 0 < T.level i j → (U.level i j ≡ T.level i j) × (U.value i j ≡ T.value i j)
grown_keeps b lo hi T U g i j h = ⊎_elim (λ s. (s.0, s.1 h)) (λ o. absurd (let z : T.level i j ≡ 0 = o.2 in omega arith)) (g i j)

pub grown_outside : (b lo hi : ℕ) (T U : Cells) → Grown b lo hi T U → (i j : ℕ) → ((lo ≤ i) × (i < hi) → ⊥) → SameCell T U i j
grown_outside b lo hi T U g i j out = ⊎_elim (λ s. s) (λ o. absurd (out (o.0, o.1))) (g i j)

pub grown_wider : (b c lo hi a e : ℕ) (T U : Cells) → c ≤ b → a ≤ lo → hi ≤ e → Grown b lo hi T U → Grown c a e T U
grown_wider b c lo hi a e T U cb al he g i j =
    ⊎_elim (λ s. inl s) (λ o. inr (
      let p : lo ≤ i = o.0 in omega arith,
      let q : i < hi = o.1 in omega arith,
      o.2,
      let r : b ≤ U.level i j = o.3 in omega
          arith,
    )) (g i j)

pub grown_trans : (b lo hi : ℕ) (T U X : Cells) → 0 < b → Grown b lo hi T U → Grown b lo hi U X → Grown b lo hi T X
grown_trans b lo hi T U X pos g h i j = ⊎_elim same new (g i j)
  where
    same : SameCell T U i j → SameCell T X i j ⊎ ((lo ≤ i) × (i < hi) × (T.level i j ≡ 0) × (b ≤ X.level i j))
    same s =
        ⊎_elim
        (λ t. inl (t.0 ∙ s.0, λ q. t.1 (positive (U.level i j) (T.level i j) s.0 q) ∙ s.1 q))
        (λ o. inr (o.0, o.1, sym s.0 ∙ o.2, o.3))
        (h i j)

    new : (lo ≤ i) × (i < hi) × (T.level i j ≡ 0) × (b ≤ U.level i j) → SameCell T X i j ⊎ ((lo ≤ i) × (i < hi) × (T.level i j ≡ 0) × (b ≤ X.level i j))
    new o =
        ⊎_elim
        (λ t. inr (o.0, o.1, o.2, subst (λ (x : ℕ). b ≤ x) (sym t.0) o.3))
        (λ o'. inr (o.0, o.1, o.2, o'.3))
        (h i j)

pub grown_stored : (b lo hi s e p : ℕ) (y : Bool) (T U : Cells) → lo ≤ s → e ≤ hi → ((i : ℕ) → s ≤ i → i < e → T.level i p ≡ 0) → Stored s e p b y T U →
    Grown b lo hi T U
grown_stored b lo hi s e p y T U ls eh open_at st i j = go (dec_le s i) (dec_lt i e) (ℕ_discrete j p)
  where
    out : ((s ≤ i) × (i < e) × (j ≡ p) → ⊥) → SameCell T U i j ⊎ ((lo ≤ i) × (i < hi) × (T.level i j ≡ 0) × (b ≤ U.level i j))
    out n = inl ((st.elsewhere i j n).0, λ q. (st.elsewhere i j n).1)

    go : Dec (s ≤ i) → Dec (i < e) → Dec (j ≡ p) → SameCell T U i j ⊎ ((lo ≤ i) × (i < hi) × (T.level i j ≡ 0) × (b ≤ U.level i j))
    go (yes a) (yes c) (yes d) =
        inr (
          omega arith,
          omega arith,
          ap (T.level i) d ∙ open_at i a c,
          (let q : U.level i j ≡ b = ap (U.level i) d ∙ (st.there i a c).0 in omega arith),
        )
    go (yes a) (yes c) (no d) = out (λ t. d t.2)
    go (yes a) (no c) d = out (λ t. c t.1)
    go (no a) c d = out (λ t. a t.0)

-- clearing what has been set from level b on gives back the cells before, if those were all below b
pub cleared_back : (b lo hi : ℕ) (T U X : Cells) → ((i j : ℕ) → lo ≤ i → i < hi → T.level i j < b) → Grown b lo hi T U → Cleared b lo hi U X → (i j : ℕ) →
    SameCell T X i j
cleared_back b lo hi T U X below g c i j = ⊎_elim same new (g i j)
  where
    same : SameCell T U i j → SameCell T X i j
    same s =
        let kept : (X.level i j ≡ U.level i j) × (X.value i j ≡ U.value i j) = c.low i j
        (λ t. let z : T.level i j < b = below i j t.0 t.1 in let y : b ≤ U.level i j = t.2 in let x : U.level i j ≡ T.level i j = s.0 in omega
        arith) in
        (kept.0 ∙ s.0, λ q. kept.1 ∙ s.1 q)

    new : (lo ≤ i) × (i < hi) × (T.level i j ≡ 0) × (b ≤ U.level i j) → SameCell T X i j
    new o =
        (c.high i j o.0 o.1 o.3 ∙ sym o.2, λ q. absurd (let z : T.level i j ≡ 0 = o.2 in omega arith))
