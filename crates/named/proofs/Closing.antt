-- Names that no block binds, bound as existential ones in front of all blocks: the formula is true exactly if some values of them make
-- what is behind them true. Assumes nothing.
use Prim.Native.Nat.{ℕ, zero, suc}
use native.Mathlib.Omega.{arith}
use mathlib.Core.Path.{◌≡◌, refl, ap, ap₂, ◌∙◌}
use mathlib.Core.Bool.{Bool, true, false, cond, not, ◌&&◌, ◌||◌}
use mathlib.Core.List.{List, [], ◌∷◌, ◌++◌}
use mathlib.Core.Logic.{◌⊎◌, inl, inr}
use borrow.Author.Tests.{eqb-true, eqb-false}
use lib.Dec.{eqb}
use lib.IntN.{pos, negsuc}
use lib.ListN.{length}
use Rattle.formula.specs.Formula.{Kind, existential, Clause}
use Rattle.named.specs.Named.{Values, with_value, named_clause, named_matrix, quantify, named_meaning}
use Rattle.named.specs.Names.{In, InAll, AllIn}

abbrev pub existentials : List ℕ → List Kind → List Kind
existentials [] ks = ks
existentials (x ∷ xs) ks = existential ∷ existentials xs ks

-- Values that agree on the names of the clauses give the matrix one value.
module _ (all : List ℕ) (g h : Values) (same : (v : ℕ) → In v all → g v ≡ h v) where
  clause_alike : (c : Clause) → InAll all c → named_clause g c ≡ named_clause h c
  clause_alike [] k = refl
  clause_alike (pos zero ∷ c) k = absurd k
  clause_alike (pos (suc v) ∷ c) k = ap₂ ◌||◌ (same (suc v) k.0) (clause_alike c k.1)
  clause_alike (negsuc v ∷ c) k = ap₂ ◌||◌ (ap not (same (suc v) k.0)) (clause_alike c k.1)

  pub matrix_alike : (cs : List Clause) → AllIn all cs → named_matrix cs g ≡ named_matrix cs h
  matrix_alike [] k = refl
  matrix_alike (c ∷ cs) k = ap₂ ◌&&◌ (clause_alike c k.0) (matrix_alike cs k.1)

-- A matrix that looks at some names only.
abbrev pub Looks : List ℕ → (Values → Bool) → Type 0
Looks all phi = (g h : Values) → ((v : ℕ) → In v all → g v ≡ h v) → phi g ≡ phi h

with_agree : (x v : ℕ) (b : Bool) (g h : Values) → ((x ≡ v → ⊥) → g v ≡ h v) → with_value x b g v ≡ with_value x b h v
with_agree x v b g h other = go (eqb x v) refl
  where
    go : (t : Bool) → eqb x v ≡ t → cond t b (g v) ≡ cond t b (h v)
    go true q = refl
    go false q = other (eqb-false x v q)

neither : (x v : ℕ) (xs : List ℕ) → (x ≡ v → ⊥) → (In v xs → ⊥) → In v (x ∷ xs) → ⊥
neither x v xs a b (inl e) = a e
neither x v xs a b (inr i) = b i

module _ (all : List ℕ) (phi : Values → Bool) (looks : Looks all phi) where
  pub meaning_agrees : (ks : List Kind) (xs : List ℕ) → length ks ≡ length xs → (g h : Values) → ((v : ℕ) → In v all → (In v xs → ⊥) → g v ≡ h v)
      → named_meaning ks xs phi g ≡ named_meaning ks xs phi h
  meaning_agrees [] [] e g h same = looks g h (λ v i. same v i (λ e. e))
  meaning_agrees [] (x ∷ xs) e g h same = absurd (omega arith)
  meaning_agrees (k ∷ ks) [] e g h same = absurd (omega arith)
  meaning_agrees (k ∷ ks) (x ∷ xs) e g h same =
      ap₂ (quantify k)
      (meaning_agrees ks xs (omega arith) (with_value x true g) (with_value x true h) (λ v i n. with_agree x v true g h (λ o. same v i (neither x v xs o n))))
      (meaning_agrees ks xs (omega arith) (with_value x false g) (with_value x false h)
      (λ v i n. with_agree x v false g h (λ o. same v i (neither x v xs o n))))

  some_value : (a b : Bool) → (a || b) ≡ true → (a ≡ true) ⊎ (b ≡ true)
  some_value true b e = inl refl
  some_value false b e = inr e

  by_value : (c a b : Bool) → cond c a b ≡ true → (a || b) ≡ true
  by_value true a b e = rw e refl
  by_value false true b e = refl
  by_value false false b e = e

  module _ (ks : List Kind) (xs : List ℕ) (alike : length ks ≡ length xs) where
    -- From the closed formula to values of the free names.
    pub opened : (free : List ℕ) (g : Values) → named_meaning (existentials free ks) (free ++ xs) phi g ≡ true → (h : Values) ×
        (named_meaning ks xs phi h ≡ true)
    opened [] g e = (g, e)
    opened (x ∷ free) g e =
        go (some_value (named_meaning (existentials free ks) (free ++ xs) phi (with_value x true g))
        (named_meaning (existentials free ks) (free ++ xs) phi (with_value x false g)) e)
        (λ b e. opened free (with_value x b g) e)
      where
        go : (named_meaning (existentials free ks) (free ++ xs) phi (with_value x true g) ≡ true) ⊎
            (named_meaning (existentials free ks) (free ++ xs) phi (with_value x false g) ≡ true)
            → ((b : Bool) → named_meaning (existentials free ks) (free ++ xs) phi (with_value x b g) ≡ true → (h : Values) × (named_meaning ks xs phi h ≡ true))
            → (h : Values) × (named_meaning ks xs phi h ≡ true)
        go (inl e) more = more true e
        go (inr e) more = more false e

    -- And back: each free name takes its value there.
    pub closed : (free : List ℕ) (g h : Values) → named_meaning ks xs phi h ≡ true
        → ((v : ℕ) → In v all → (In v free → ⊥) → (In v xs → ⊥) → g v ≡ h v) → named_meaning (existentials free ks) (free ++ xs) phi g ≡ true
    closed [] g h e same = meaning_agrees ks xs alike g h (λ v i n. same v i (λ z. z) n) ∙ e
    closed (x ∷ free) g h e same =
        by_value (h x) (named_meaning (existentials free ks) (free ++ xs) phi (with_value x true g))
        (named_meaning (existentials free ks) (free ++ xs) phi (with_value x false g))
        (pick (h x) (λ b. named_meaning (existentials free ks) (free ++ xs) phi (with_value x b g)) (closed free (with_value x (h x) g) h e agree))
      where
        pick : (c : Bool) (f : Bool → Bool) → f c ≡ true → cond c (f true) (f false) ≡ true
        pick true f e = e
        pick false f e = e

        agree : (v : ℕ) → In v all → (In v free → ⊥) → (In v xs → ⊥) → with_value x (h x) g v ≡ h v
        agree v i n m = go (eqb x v) refl
          where
            go : (t : Bool) → eqb x v ≡ t → cond t (h x) (g v) ≡ h v
            go true q = ap h (eqb-true x v q)
            go false q = same v i (neither x v free (eqb-false x v q) n) m
