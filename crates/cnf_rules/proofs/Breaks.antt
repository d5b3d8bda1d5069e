-- The clauses of claim 1: with the further variables they say that, for each row, one of the clauses that the row leaves is false. Assumes nothing.
use Prim.Native.Nat.{ℕ, zero, suc, ◌+◌}
use mathlib.Core.Path.{◌≡◌, refl, sym, ◌∙◌}
use mathlib.Core.Bool.{Bool, true, false, not, ◌&&◌, ◌||◌, and-eq-true_iff, true≢false, false≢true}
use mathlib.Core.List.{List, [], ◌∷◌, ◌++◌, append_assoc}
use mathlib.Core.Logic.{⊎_elim, inl, inr}
use lib.IntN.{ℤ, pos, negsuc}
use lib.ListN.{length, get_or}
use Rattle.formula.specs.Formula.{Clause, universal}
use Rattle.formula.specs.Meaning.{literal, clause, matrix}
use Rattle.formula.specs.Causes.{any}
use Rattle.expansion.specs.Side.{goal}
use Rattle.expansion.specs.Play.{Row, Strategy, play}
use Rattle.expansion.specs.Model.{wins}
use Rattle.expansion.proofs.Booleans.{true_or_false}
use Rattle.expansion.proofs.Membership.{In}
use Rattle.cnf_rules.specs.Clauses.{row_literal, own_part, left_over, opposite, breaks_one, breaks, some_of, over_rows}
use Rattle.cnf_rules.proofs.LeftOver.{Agrees, left_over_value, matrix_append}

pub not_true : (b : Bool) → not b ≡ true → b ≡ false
not_true true e = absurd (false≢true e)
not_true false e = refl

pub or_false : (a b : Bool) → a || b ≡ false → (a ≡ false) × (b ≡ false)
or_false true b e = absurd (true≢false e)
or_false false b e = (refl, e)

or_with_false : (b : Bool) → b || false ≡ b
or_with_false true = refl
or_with_false false = refl

pub not_and : (a b : Bool) → not a || not b ≡ not (a && b)
not_and true b = refl
not_and false b = refl

and_false : (a : Bool) {b : Bool} → b ≡ false → a && b ≡ false
and_false true e = e
and_false false e = refl

-- From values of the variables to a false clause.
opposite_true : (vs : List Bool) (z : ℤ) → literal vs (opposite z) ≡ true → literal vs z ≡ false
opposite_true vs (pos zero) e = refl
opposite_true vs (pos (suc v)) e = not_true (get_or vs v false) e
opposite_true vs (negsuc v) e = rw e

one_false : (vs : List Bool) (t : ℕ) (c : Clause) → get_or vs t false ≡ true → matrix (breaks_one t c) vs ≡ true → clause vs c ≡ false
one_false vs t [] on e = refl
one_false vs t (z ∷ c) on e =
    let both = (and-eq-true_iff (not (get_or vs t false) || (literal vs (opposite z) || false)) (matrix (breaks_one t c) vs)).0 e in
    let opposed : literal vs (opposite z) || false ≡ true = rw on at both.0 in
    rw (opposite_true vs z (sym (or_with_false (literal vs (opposite z))) ∙ opposed)) (one_false vs t c on both.1)

module _ (vs ts : List Bool) (name : ℕ → ℕ) (row : Row) where
  some_is_false : (t : ℕ) (cs : List Clause) → clause vs (some_of ts row t cs) ≡ true → matrix (breaks ts name row t cs) vs ≡ true
      → matrix (left_over ts name row cs) vs ≡ false
  some_is_false t [] s e = absurd (false≢true s)
  some_is_false t (c ∷ cs) s e =
      let more = some_is_false (suc t) cs in
      let later = breaks ts name row (suc t) cs in
      let own = own_part ts name c in
      let parted : matrix (breaks_one t own ++ later) vs ≡ true → (matrix (breaks_one t own) vs ≡ true) × (matrix later vs ≡ true) =
      λ whole. (and-eq-true_iff (matrix (breaks_one t own) vs) (matrix later vs)).0 (sym (matrix_append (breaks_one t own) later vs) ∙ whole) in
      ⊎_elim
      (λ (p : any (row_literal ts row) c ≡ true). rw p (more (rw p at s) (rw p at e)))
      (λ (p : any (row_literal ts row) c ≡ false).
      let both = parted (rw p at e) in
      ⊎_elim
      (λ (on : get_or vs t false ≡ true). rw (p, one_false vs t own on both.0))
      (λ (off : get_or vs t false ≡ false). rw p (and_false (clause vs own) (more (rw (p, off) at s) both.1)))
      (true_or_false (get_or vs t false)))
      (true_or_false (any (row_literal ts row) c))

-- Row after row: under values that make the clauses true the strategy wins.
pub wins_if_some_false : (ts : List Bool) (name : Row → ℕ → ℕ) (cs : List Clause) (σ : Strategy) (vs : List Bool) (t : ℕ) (rows : List Row)
    → ((row : Row) → In row rows → Agrees ts (name row) row σ vs)
    → matrix (over_rows true ts name cs t rows) vs ≡ true → wins ts (goal universal (matrix cs)) σ rows ≡ true
wins_if_some_false ts name cs σ vs t [] agrees e = refl
wins_if_some_false ts name cs σ vs t (row ∷ rows) agrees e =
    let broken = breaks ts (name row) row t cs in
    let some = some_of ts row t cs in
    let later = over_rows true ts name cs (t + length cs) rows in
    let whole : matrix (broken ++ (some ∷ later)) vs ≡ true = rw (append_assoc broken (some ∷ []) later) at e in
    let parts = (and-eq-true_iff (matrix broken vs) (matrix (some ∷ later) vs)).0 (sym (matrix_append broken (some ∷ later) vs) ∙ whole) in
    let ends = (and-eq-true_iff (clause vs some) (matrix later vs)).0 parts.1 in
    let lost : matrix cs (play ts σ row) ≡ false =
    sym (left_over_value ts (name row) row σ vs (agrees row (inl refl)) cs) ∙ some_is_false vs ts (name row) row t cs ends.0 parts.0 in
    let behind = wins_if_some_false ts name cs σ vs (t + length cs) rows (λ other l. agrees other (inr l)) ends.1 in
    rw lost behind
