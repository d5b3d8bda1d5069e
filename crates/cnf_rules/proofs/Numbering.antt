-- Numbers for the copies: values of the variables as a strategy, and a strategy as values. Assumes nothing.
use Prim.Native.Nat.{ℕ, zero, suc, ◌<◌}
use native.Mathlib.Omega.{arith}
use mathlib.Core.Path.{◌≡◌, refl, sym, ap, subst, ◌∙◌}
use mathlib.Core.Logic.{⊎_elim, inl, inr}
use mathlib.Core.Bool.{Bool, true, false, ◌&&◌, ◌||◌}
use mathlib.Core.List.{List, [], ◌∷◌}
use lib.Dec.{eqb}
use lib.ListN.{length, get_or}
use borrow.Author.Tests.{eqb-true, eq-eqb}
use Rattle.formula.specs.Causes.{any}
use Rattle.expansion.specs.Play.{Row, Strategy, restriction}
use Rattle.expansion.specs.Copies.{same}
use Rattle.expansion.specs.Cells.{tabulate}
use Rattle.expansion.proofs.Booleans.{true_or_false}
use Rattle.expansion.proofs.Membership.{In, in_of_place, place_of_in, same_refl, same_eq}
use Rattle.expansion.proofs.CopyLaws.{Own}
use Rattle.expansion.proofs.Engine.{length_tabulate, tabulate_at}
use Rattle.expansion.proofs.LeadingPath.{own_within}
use Rattle.cnf_rules.specs.Clauses.{first_like}
use Rattle.cnf_rules.proofs.LeftOver.{Agrees}

-- The i-th row has the number `name row k` for its copy at the own position k. Numbers are below m, and two are equal exactly if the copies are.
pub record Numbers (ts : List Bool) (rows : List Row) (name : Row → ℕ → ℕ) (m : ℕ) : Type 0 where
  pub below : (i k : ℕ) → i < length rows → get_or ts k false ≡ true → name (get_or rows i []) k < m
  pub alike : (i j k : ℕ) → i < length rows → j < length rows → get_or ts k false ≡ true
      → restriction ts k (get_or rows i []) ≡ restriction ts k (get_or rows j []) → name (get_or rows i []) k ≡ name (get_or rows j []) k
  pub apart : (i j k l : ℕ) → i < length rows → j < length rows → get_or ts k false ≡ true → get_or ts l false ≡ true
      → name (get_or rows i []) k ≡ name (get_or rows j []) l
      → (k ≡ l) × (restriction ts k (get_or rows i []) ≡ restriction ts k (get_or rows j []))

module _ (ts : List Bool) (k : ℕ) (r : Row) where
  -- If some row has the restriction, the first one that does is inside, and has it.
  pub first_is_like : (rows : List Row) (i : ℕ) → i < length rows → restriction ts k (get_or rows i []) ≡ r
      → (first_like ts k r rows < length rows) × (restriction ts k (get_or rows (first_like ts k r rows) []) ≡ r)
  first_is_like [] i l e = absurd (omega arith)
  first_is_like (x ∷ rows) zero l e =
      let found : same (restriction ts k x) r ≡ true = rw (e, same_refl r) in
      rw found (omega arith, e)
  first_is_like (x ∷ rows) (suc i) l e =
      let later = first_is_like rows i (omega arith) e in
      ⊎_elim
      (λ (p : same (restriction ts k x) r ≡ true). rw p (omega arith, same_eq (restriction ts k x) r p))
      (λ (p : same (restriction ts k x) r ≡ false). rw p (omega (arith, later.0), later.1))
      (true_or_false (same (restriction ts k x) r))

module _ {A : Type 0} (test : A → Bool) where
  any_true : (x : A) (xs : List A) → In x xs → test x ≡ true → any test xs ≡ true
  any_true x [] h e = absurd h
  any_true x (y ∷ xs) (inl p) e = rw (← p, e)
  any_true x (y ∷ xs) (inr h) e = or_true (test y) (any_true x xs h e)
    where
      or_true : (a : Bool) {b : Bool} → b ≡ true → a || b ≡ true
      or_true true e = refl
      or_true false e = e

  any_false : (xs : List A) → ((x : A) → In x xs → test x ≡ false) → any test xs ≡ false
  any_false [] none = refl
  any_false (x ∷ xs) none = rw (none x (inl refl)) (any_false xs (λ y h. none y (inr h)))

module _ (ts : List Bool) (rows : List Row) (name : Row → ℕ → ℕ) (m : ℕ) (numbers : Numbers ts rows name m) where
  -- What the numbering says, of rows that stand in the list.
  pub below_in : (row : Row) → In row rows → (k : ℕ) → Own ts k → name row k < m
  below_in row h k o =
      let p = place_of_in row rows [] h in
      subst (λ x. name x k < m) p.2 (numbers.below p.0 k p.1 o)

  alike_in : (row : Row) → In row rows → (j k : ℕ) → j < length rows → Own ts k → restriction ts k row ≡ restriction ts k (get_or rows j [])
      → name row k ≡ name (get_or rows j []) k
  alike_in row h j k l o e =
      let p = place_of_in row rows [] h in
      subst (λ x. name x k ≡ name (get_or rows j []) k) p.2 (numbers.alike p.0 j k p.1 l o (ap (restriction ts k) p.2 ∙ e))

  apart_in : (row other : Row) → In row rows → In other rows → (k l : ℕ) → Own ts k → Own ts l → name row k ≡ name other l
      → (k ≡ l) × (restriction ts k row ≡ restriction ts k other)
  apart_in row other h g k l ok ol e =
      let p = place_of_in row rows [] h in
      let q = place_of_in other rows [] g in
      let both = numbers.apart p.0 q.0 k l p.1 q.1 ok ol (ap (λ x. name x k) p.2 ∙ e ∙ ap (λ x. name x l) (sym q.2)) in
      (both.0, ap (restriction ts k) (sym p.2) ∙ both.1 ∙ ap (restriction ts k) q.2)

  -- Values read as a strategy.
  abbrev pub strategy_by : List Bool → Strategy
  strategy_by vs k r = get_or vs (name (get_or rows (first_like ts k r rows) []) k) false

  pub agrees_to : (vs : List Bool) (row : Row) → In row rows → Agrees ts (name row) row (strategy_by vs) vs
  agrees_to vs row h k o =
      let r = restriction ts k row in
      let p = place_of_in row rows [] h in
      let first = first_is_like ts k r rows p.0 p.1 (ap (restriction ts k) p.2) in
      ap (λ n. get_or vs n false) (alike_in row h (first_like ts k r rows) k first.0 o (sym first.1))

  -- A strategy as values: at a number that of the copy that has it.
  abbrev is_at : Strategy → ℕ → Row → ℕ → Bool
  is_at σ v row k = get_or ts k false && (eqb (name row k) v && σ k (restriction ts k row))

  abbrev at_number : Strategy → ℕ → Bool
  at_number σ v = any (λ row. any (is_at σ v row) (tabulate (length ts) (λ k. k))) rows

  abbrev pub values_by : Strategy → List Bool
  values_by σ = tabulate m (at_number σ)

  at_number_true : (σ : Strategy) (row : Row) → In row rows → (k : ℕ) → Own ts k → σ k (restriction ts k row) ≡ true → at_number σ (name row k) ≡ true
  at_number_true σ row h k o e =
      let ks = tabulate (length ts) (λ k. k) in
      let l = own_within ts k o in
      let in_ks : In k ks = subst (λ x. In x ks) (tabulate_at (length ts) (λ k. k) k 0 l) (in_of_place ks k 0 (omega (arith, length_tabulate (length ts) (λ (k : ℕ). k)))) in
      any_true (λ row'. any (is_at σ (name row k) row') ks) row rows h
      (any_true (is_at σ (name row k) row) k ks in_ks (rw (o, eq-eqb (name row k) (name row k) refl, e)))

  at_number_false : (σ : Strategy) (row : Row) → In row rows → (k : ℕ) → Own ts k → σ k (restriction ts k row) ≡ false → at_number σ (name row k) ≡ false
  at_number_false σ row h k o e =
      let ks = tabulate (length ts) (λ k. k) in
      any_false (λ other. any (is_at σ (name row k) other) ks) rows
      (λ other g. any_false (is_at σ (name row k) other) ks (λ l in_ks. none other g l))
    where
      none : (other : Row) → In other rows → (l : ℕ) → is_at σ (name row k) other l ≡ false
      none other g l =
          ⊎_elim
          (λ (ol : get_or ts l false ≡ true). ⊎_elim
          (λ (p : eqb (name other l) (name row k) ≡ true).
          let same = apart_in row other h g k l o ol (sym (eqb-true (name other l) (name row k) p)) in
          let equal : σ l (restriction ts l other) ≡ false = subst (λ n. σ n (restriction ts n other) ≡ false) same.0 (ap (σ k) (sym same.1) ∙ e) in
          rw (ol, p, equal))
          (λ (p : eqb (name other l) (name row k) ≡ false). rw (ol, p))
          (true_or_false (eqb (name other l) (name row k))))
          (λ (ol : get_or ts l false ≡ false). rw ol)
          (true_or_false (get_or ts l false))

  pub agrees_from : (σ : Strategy) (row : Row) → In row rows → Agrees ts (name row) row σ (values_by σ)
  agrees_from σ row h k o =
      tabulate_at m (at_number σ) (name row k) false (below_in row h k o)
      ∙ ⊎_elim
      (λ (e : σ k (restriction ts k row) ≡ true). at_number_true σ row h k o e ∙ sym e)
      (λ (e : σ k (restriction ts k row) ≡ false). at_number_false σ row h k o e ∙ sym e)
      (true_or_false (σ k (restriction ts k row)))
