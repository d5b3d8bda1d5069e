-- What a store, a false clause, a clause with one open literal, a decision and a conflict give the row that is searched alone. Assumes nothing.
use Prim.Native.Nat.{ℕ, ◌%◌, ◌≤◌, ◌<◌}
use mathlib.Core.Path.{◌≡◌, refl, sym, ◌∙◌, ap, subst}
use mathlib.Core.Logic.{◌≢◌, ◌⊎◌, inl, inr, ⊎_elim}
use mathlib.Core.Bool.{Bool, true, false, not, cond}
use mathlib.Core.List.{List}
use native.Mathlib.Omega.{arith}
use native.Mathlib.Decide.{ℕ_discrete, dec_lt}
use borrow.Author.Tests.{eq-eqb, ne_eqb}
use lib.Dec.{eqb}
use lib.ListN.{get_or, drop}
use Rattle.formula.specs.Formula.{max_unknowns}
use Rattle.preference.specs.Preference.{odd}
use Rattle.expansion.proofs.Booleans.{true_or_false, never_both}
use Rattle.expansion.proofs.Cuts.{Mask, other_value}
use Rattle.expansion.proofs.ClauseCuts.{Every, clause_at, clause_false, unit_true, true_clause}
use Rattle.codes.specs.Private.Clauses.{position, code_true, code_clauses, clause_of, Begins, Coded}
use Rattle.codes.proofs.CodeLaws.{code_sign, clause_among, clause_coded, every_both, row_position_is}
use Rattle.search_cells.specs.Cells.{cells}
use Rattle.search_sets.specs.Private.Masks.{set_at, SetsKept, ReasonsAdded}
use Rattle.engine.specs.Private.Reasons.{Fixed, IsReason}
use Rattle.engine.specs.Private.Held.{Model, Implied, Denied, Held, LineSet, LineOpened, IsFalse, FalseBut, SetsBut}

-- a literal is false by a number of its sign's parity
false_sign : (c y : ℕ) → y % 2 ≡ c % 2 → cond (eqb (c % 2) 0) (odd y) (not (odd y)) ≡ false
false_sign c y e = go (ℕ_discrete (c % 2) 0)
  where
    go : Dec (c % 2 ≡ 0) → cond (eqb (c % 2) 0) (odd y) (not (odd y)) ≡ false
    go (yes z) = rw (eq-eqb (c % 2) 0 z, ne_eqb (y % 2) 1 (λ x. omega arith)) refl
    go (no n) = rw (ne_eqb (c % 2) 0 n, eq-eqb (y % 2) 1 (omega arith)) refl

false_by : (c : ℕ) (f : ℕ → Bool) (y : ℕ) → f (position c) ≡ odd y → y % 2 ≡ c % 2 → code_true f c ≡ false
unfolding code_true
false_by c f y e parity = ap (λ (b : Bool). cond (eqb (c % 2) 0) b (not b)) e ∙ false_sign c y parity

module _ (codes w s : List ℕ) (i : ℕ) where
  -- ---- models and sets

  pub model_smaller : (D E : Mask) (f : ℕ → Bool) → ((l : ℕ) → l < max_unknowns → D l ≡ true → E l ≡ true) → Model codes w s i E f → Model codes w s i D f
  model_smaller D E f within m = record { keeps = m.keeps; heeds = λ l lt d. m.heeds l lt (within l lt d); solves = m.solves }

  -- ---- values that were reached

  module _ (a o : List ℕ) (held : Held codes w s i a o) where
    pub held_same : (q : List ℕ) → SetsKept o q → Held codes w s i a q
    held_same q kept = record {
      reached = λ j lt set f m. held.reached j lt set f (model_smaller (set_at o j) (set_at q j) f (λ l ll d. kept.same j lt l ∙ d) m);
    }

    -- a value at position p, with a set that it was reached by
    pub held_store : (b q : List ℕ) (p : ℕ) (y : Bool) → LineSet p y a b → SetsBut p o q → Implied codes w s i (set_at q p) p y → Held codes w s i b q
    held_store b q p y stored others reached = record { reached = λ j lt set. go j lt set (ℕ_discrete j p) }
      where
        go : (j : ℕ) → j < max_unknowns → 0 < get_or b j 0 → Dec (j ≡ p) → Implied codes w s i (set_at q j) j (odd (get_or b j 0))
        go j lt set (yes e) f m =
            subst (λ (x : ℕ). Implied codes w s i (set_at q x) x (odd (get_or b x 0))) (sym e) (λ g n. reached g n ∙ sym stored.there) f m
        go j lt set (no n) f m =
            let same = stored.elsewhere j n in
            held.reached j lt (subst (λ (x : ℕ). 0 < x) same set) f
            (model_smaller (set_at o j) (set_at q j) f (λ l ll d. others.same j lt n l ∙ d) m)
            ∙ ap odd (sym same)

    pub held_open : (b : List ℕ) → LineOpened a b → Held codes w s i b o
    held_open b opened = record { reached = λ j lt set. ⊎_elim (λ none. absurd (omega arith)) (λ same. kept j lt set same) (opened.each j) }
      where
        kept : (j : ℕ) → j < max_unknowns → 0 < get_or b j 0 → get_or b j 0 ≡ get_or a j 0 → Implied codes w s i (set_at o j) j (odd (get_or b j 0))
        kept j lt set same f m = held.reached j lt (subst (λ (x : ℕ). 0 < x) same set) f m ∙ ap odd (sym same)

    -- ---- a look at a clause

    module _ (coded : Coded max_unknowns codes) (start found : ℕ) (begins : Begins codes start) (looked : FalseBut codes a start found) where
      abbrev clause : List ℕ
      clause = clause_of (drop start codes)

      clause_solved : (D : Mask) (f : ℕ → Bool) → Model codes w s i D f → clause_at code_true f clause ≡ true
      clause_solved D f m = true_clause code_true f (code_clauses codes) clause m.solves (clause_among codes start begins looked.ends)

      -- a literal that is false, and whose position's set lies in D, is false in every model of D
      literal_false : (D : Mask) (f : ℕ → Bool) (c : ℕ) → 2 ≤ c → position c < max_unknowns → IsFalse a c →
          ((l : ℕ) → set_at o (position c) l ≡ true → D l ≡ true)
          → Model codes w s i D f → code_true f c ≡ false
      literal_false D f c two lt at within m =
          let there = row_position_is c two lt in
          false_by c f (get_or a (position c) 0)
          (held.reached (position c) lt (subst (λ (x : ℕ). 0 < get_or a x 0) there at.set) f (model_smaller (set_at o (position c)) D f (λ l ll. within l) m))
          (subst (λ (x : ℕ). get_or a x 0 % 2 ≡ c % 2) there at.is)

      literals : Every (λ c. ((2 ≤ c) × (position c < max_unknowns)) × ((c ≡ found) ⊎ IsFalse a c)) clause
      literals =
          every_both (λ c. (2 ≤ c) × (position c < max_unknowns)) (λ c. (c ≡ found) ⊎ IsFalse a c)
          (λ c. ((2 ≤ c) × (position c < max_unknowns)) × ((c ≡ found) ⊎ IsFalse a c))
          (λ c x y. (x, y)) clause (clause_coded max_unknowns codes start coded) looked.rest

      -- all its literals are false: its set is denied
      pub denied_false : found ≡ 0 → (r q : List ℕ) → SetsKept o r → ReasonsAdded clause max_unknowns r q → Denied codes w s i (set_at q max_unknowns)
      denied_false none r q kept reasons_added f m =
          never_both (clause_solved (set_at q max_unknowns) f m)
          (clause_false code_true f clause
          (every_both (λ c. ((2 ≤ c) × (position c < max_unknowns)) × ((c ≡ found) ⊎ IsFalse a c))
          (λ c. (position c ≡ max_unknowns) ⊎ ((l : ℕ) → set_at r (position c) l ≡ true → set_at q max_unknowns l ≡ true))
          (λ c. code_true f c ≡ false) each clause literals reasons_added.takes))
        where
          each : (c : ℕ) → ((2 ≤ c) × (position c < max_unknowns)) × ((c ≡ found) ⊎ IsFalse a c) →
              (position c ≡ max_unknowns) ⊎ ((l : ℕ) → set_at r (position c) l ≡ true → set_at q max_unknowns l ≡ true)
              → code_true f c ≡ false
          each c x (inl e) = absurd (let p : position c < max_unknowns = x.0.1 in omega arith)
          each c x (inr takes) =
              ⊎_elim
              (λ e. absurd (let p : 2 ≤ c = x.0.0 in omega arith))
              (λ at. literal_false (set_at q max_unknowns) f c x.0.0 x.0.1 at (λ l h. takes l (kept.same (position c) x.0.1 l ∙ h)) m)
              x.1

      -- all are false but the open one that was found: it is true by the others' sets
      pub implied_open : (p : ℕ) → position found ≡ p → get_or a p 0 ≡ 0 → (r q : List ℕ) → SetsBut p o r → ReasonsAdded clause p r q
          → Implied codes w s i (set_at q p) p (eqb (found % 2) 0)
      implied_open p there unset r q others reasons_added f m =
          ap f (sym there)
          ∙ code_sign found f
          (unit_true code_true f found clause (clause_solved (set_at q p) f m)
          (every_both (λ c. ((2 ≤ c) × (position c < max_unknowns)) × ((c ≡ found) ⊎ IsFalse a c))
          (λ c. (position c ≡ p) ⊎ ((l : ℕ) → set_at r (position c) l ≡ true → set_at q p l ≡ true))
          (λ c. (c ≡ found) ⊎ (code_true f c ≡ false)) each clause literals reasons_added.takes))
        where
          apart : (c : ℕ) → 2 ≤ c → position c < max_unknowns → IsFalse a c → position c ≢ p
          apart c two lt at e =
              let set : 0 < get_or a (position c) 0 = subst (λ (x : ℕ). 0 < get_or a x 0) (row_position_is c two lt) at.set in
              let same : get_or a (position c) 0 ≡ get_or a p 0 = ap (λ (x : ℕ). get_or a x 0) e in
              omega arith

          each : (c : ℕ) → ((2 ≤ c) × (position c < max_unknowns)) × ((c ≡ found) ⊎ IsFalse a c)
              → (position c ≡ p) ⊎ ((l : ℕ) → set_at r (position c) l ≡ true → set_at q p l ≡ true) → (c ≡ found) ⊎ (code_true f c ≡ false)
          each c (x, inl e) t = inl e
          each c (x, inr at) (inl e) = absurd (apart c x.0 x.1 at e)
          each c (x, inr at) (inr takes) =
              inr (literal_false (set_at q p) f c x.0 x.1 at (λ l h. takes l (others.same (position c) x.1 (apart c x.0 x.1 at) l ∙ h)) m)

  -- ---- why a value is reached

  pub implied_fixed : (D : Mask) (p : ℕ) → p < max_unknowns → Fixed w s i p → Implied codes w s i D p ((cells w).value i p)
  implied_fixed D p lt fixed f m = m.keeps p lt fixed

  pub implied_decided : (D : Mask) (p : ℕ) → p < max_unknowns → D p ≡ true → Implied codes w s i D p ((cells w).value i p)
  implied_decided D p lt named f m = m.heeds p lt named

  -- a set that is denied gives the other value of each of its positions, by the others
  pub implied_turned : (D E : Mask) (p : ℕ) → Denied codes w s i D → ((l : ℕ) → l < max_unknowns → l ≢ p → D l ≡ true → E l ≡ true)
      → Implied codes w s i E p (not ((cells w).value i p))
  implied_turned D E p denied within f m =
      other_value (f p) ((cells w).value i p)
      (λ e. denied f (record { keeps = m.keeps; heeds = λ l lt d. at e l lt d (ℕ_discrete l p); solves = m.solves }))
    where
      at : f p ≡ (cells w).value i p → (l : ℕ) → l < max_unknowns → D l ≡ true → Dec (l ≡ p) → f l ≡ (cells w).value i l
      at e l lt d (yes same) = subst (λ (x : ℕ). f x ≡ (cells w).value i x) (sym same) e
      at e l lt d (no other) = m.heeds l lt (within l lt other d)

  -- a set before k that is denied is a reason
  pub denied_reason : (k : ℕ) (D : Mask) → Denied codes w s i D → ((l : ℕ) → k ≤ l → l < max_unknowns → D l ≡ false) → IsReason codes w s i k D
  denied_reason k D denied before = record {
    denies = λ f keeps heeds.
        ⊎_elim
        (λ e. absurd (denied f (record { keeps = keeps; heeds = λ l lt d. at f heeds l lt d (dec_lt l k); solves = e })))
        (λ e. e)
        (true_or_false _);
  }
    where
      at : (f : ℕ → Bool) → ((l : ℕ) → l < k → D l ≡ true → f l ≡ (cells w).value i l) → (l : ℕ) → l < max_unknowns → D l ≡ true → Dec (l < k) →
          f l ≡ (cells w).value i l
      at f heeds l lt d (yes less) = heeds l less d
      at f heeds l lt d (no n) = absurd (never_both d (before l (omega arith) lt))
