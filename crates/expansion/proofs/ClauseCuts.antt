-- What a row's set cells say of the clauses: a clause that is false refutes on the existential side, a clause that is false but for one
-- literal forces that literal; a row in which every clause is true refutes on the universal side. For any form of literals. Assumes nothing.
use Prim.Native.Nat.{ℕ, ◌≤◌, ◌<◌}
use mathlib.Core.Path.{◌≡◌, refl, sym, ◌∙◌, ap, subst}
use mathlib.Core.Logic.{◌⊎◌, inl, inr, ⊎_elim}
use mathlib.Core.Bool.{Bool, true, false, not, ◌||◌, or-true, and-eq-true_iff}
use mathlib.Core.List.{List, [], ◌∷◌}
use native.Mathlib.Omega.{arith}
pub use Rattle.formula.specs.Lists.{Every, Some}
pub use Rattle.expansion.specs.Private.Matrix.{clause_at, matrix_at}
use Rattle.expansion.proofs.Booleans.{true_or_false, never_both}
use Rattle.expansion.specs.Cells.{Values, Cells}
use Rattle.expansion.proofs.Cuts.{Mask, Problem, Model, Heeds, Refuted, Implied, Within}
use Rattle.expansion.proofs.Node.{Node}

-- ---- all and some of a list

module _ {A : Type 0} where
  pub every_map : (Q R : A → Type 0) → ((x : A) → Q x → R x) → (xs : List A) → Every Q xs → Every R xs
  every_map Q R f [] e = tt
  every_map Q R f (x ∷ xs) e = (f x e.0, every_map Q R f xs e.1)

  pub some_map : (Q R : A → Type 0) → ((x : A) → Q x → R x) → (xs : List A) → Some Q xs → Some R xs
  some_map Q R f (x ∷ xs) (inl q) = inl (f x q)
  some_map Q R f (x ∷ xs) (inr s) = inr (some_map Q R f xs s)
  some_map Q R f [] x' = elim x' [ ]

-- ---- clauses of literals

module _ {L : Type 0} (true_at : (ℕ → Bool) → L → Bool) where
  pub clause_true : (f : ℕ → Bool) (c : List L) → Some (λ z. true_at f z ≡ true) c → clause_at true_at f c ≡ true
  clause_true f (z ∷ c) (inl e) = rw e refl
  clause_true f (z ∷ c) (inr s) = rw (clause_true f c s) (or-true (true_at f z))
  clause_true f [] x' = elim x' [ ]

  pub clause_false : (f : ℕ → Bool) (c : List L) → Every (λ z. true_at f z ≡ false) c → clause_at true_at f c ≡ false
  clause_false f [] e = refl
  clause_false f (z ∷ c) e = rw (e.0, clause_false f c e.1) refl

  pub matrix_true : (f : ℕ → Bool) (cs : List (List L)) → Every (λ c. clause_at true_at f c ≡ true) cs → matrix_at true_at cs f ≡ true
  matrix_true f [] e = refl
  matrix_true f (c ∷ cs) e = rw (e.0, matrix_true f cs e.1) refl

  -- in a true clause whose literals are all z or false, z is true
  pub unit_true : (f : ℕ → Bool) (z : L) (c : List L) → clause_at true_at f c ≡ true → Every (λ x. (x ≡ z) ⊎ (true_at f x ≡ false)) c → true_at f z ≡ true
  unit_true f z [] e every = absurd (never_both e refl)
  unit_true f z (x ∷ c) e every =
      ⊎_elim
      (λ h. ⊎_elim (λ q. subst (λ (y : L). true_at f y ≡ true) q h) (λ q. absurd (never_both h q)) every.0)
      (λ h. unit_true f z c (sym (ap (λ (b : Bool). b || clause_at true_at f c) h) ∙ e) every.1)
      (true_or_false (true_at f x))

  pub true_clause : (f : ℕ → Bool) (cs : List (List L)) (c : List L) → matrix_at true_at cs f ≡ true → Some (λ x. x ≡ c) cs → clause_at true_at f c ≡ true
  true_clause f (x ∷ cs) c e (inl q) = subst (λ (y : List L). clause_at true_at f y ≡ true) q
      ((and-eq-true_iff (clause_at true_at f x) (matrix_at true_at cs f)).0 e).0
  true_clause f (x ∷ cs) c e (inr s) = true_clause f cs c ((and-eq-true_iff (clause_at true_at f x) (matrix_at true_at cs f)).0 e).1 s
  true_clause f [] c e x'' = elim x'' [ ]

  -- ---- over a node

  module _ (place : L → ℕ) where
    -- In row i the literal's cell is set, the literal is y there, and the position's mask lies in D.
    pub record Rests (n k : ℕ) (T : Cells) (M : ℕ → Mask) (D : Mask) (i : ℕ) (y : Bool) (z : L) : Type 0 where
      pub named : place z < n
      pub set : 0 < T.level i (place z)
      pub is : true_at (T.value i) z ≡ y
      pub masked : Within k (M (place z)) D

    module _ (local : (z : L) (f g : ℕ → Bool) → f (place z) ≡ g (place z) → true_at f z ≡ true_at g z) (P : Problem) (k lo hi : ℕ) (v : ℕ → Bool) (T : Cells)
        (M : ℕ → Mask) (D : Mask)
        (A : Node P k lo hi v T M) (i : ℕ) (il : lo ≤ i) (ih : i < hi) where
      below : i < P.count
      below = let z : hi ≤ P.count = A.rows in omega arith

      -- every model that heeds D has the literal's value
      pub rests_in_model : (m : Values) → Model P m → Heeds m i k v D → (y : Bool) (z : L) → Rests P.n k T M D i y z → true_at (m i) z ≡ y
      rests_in_model m Mm heeds y z r =
          local z (m i) (T.value i) (A.implied i (place z) il ih r.named r.set m Mm (λ l lt d. heeds l lt (r.masked l lt d))) ∙ r.is

      -- a false clause
      pub dead_clause : (cs : List (List L)) (c : List L) → ((f : ℕ → Bool) → P.goal f ≡ matrix_at true_at cs f) → Some (λ x. x ≡ c) cs →
          Every (Rests P.n k T M D i false) c → Refuted P k v D i
      dead_clause cs c is_matrix mem every m Mm heeds =
          never_both
          (true_clause (m i) cs c (sym (is_matrix (m i)) ∙ Mm.reaches i below) mem)
          (clause_false (m i) c (every_map (Rests P.n k T M D i false) (λ z. true_at (m i) z ≡ false) (λ z r. rests_in_model m Mm heeds false z r) c every))

      -- a clause that is false but for the literal z: z is true
      pub unit_clause : (cs : List (List L)) (c : List L) (z : L) (y : Bool) → ((f : ℕ → Bool) → true_at f z ≡ true → f (place z) ≡ y) →
          ((f : ℕ → Bool) → P.goal f ≡ matrix_at true_at cs f) → Some (λ x. x ≡ c) cs → Every (λ x. (x ≡ z) ⊎ Rests P.n k T M D i false x) c →
          Implied P k v D i (place z) y
      unit_clause cs c z y sign is_matrix mem every m Mm heeds =
          sign (m i)
          (unit_true (m i) z c
          (true_clause (m i) cs c (sym (is_matrix (m i)) ∙ Mm.reaches i below) mem)
          (every_map (λ x. (x ≡ z) ⊎ Rests P.n k T M D i false x) (λ x. (x ≡ z) ⊎ (true_at (m i) x ≡ false))
          (λ x r. ⊎_elim (λ e. inl e) (λ s. inr (rests_in_model m Mm heeds false x s)) r) c every))

      -- every clause has a true literal in the row
      pub dead_row : (cs : List (List L)) → ((f : ℕ → Bool) → P.goal f ≡ not (matrix_at true_at cs f)) → Every (Some (Rests P.n k T M D i true)) cs →
          Refuted P k v D i
      dead_row cs is_not_matrix every m Mm heeds =
          never_both
          (Mm.reaches i below)
          (is_not_matrix (m i) ∙ ap not
          (matrix_true (m i) cs (every_map (Some (Rests P.n k T M D i true)) (λ c. clause_at true_at (m i) c ≡ true)
          (λ c s. clause_true (m i) c (some_map (Rests P.n k T M D i true) (λ z. true_at (m i) z ≡ true) (λ z q. rests_in_model m Mm heeds true z q) c
          s)) cs every)))
