-- What a row leaves of the clauses is true exactly if the clauses are, under the row and its copies' values. Assumes nothing.
use Prim.Native.Nat.{ℕ, zero, suc, ◌+◌}
use mathlib.Core.Path.{◌≡◌, refl, sym, ap, ap₂, ◌∙◌}
use mathlib.Core.Bool.{Bool, true, false, not, ◌&&◌, ◌||◌, true≢false, false≢true}
use mathlib.Core.List.{List, [], ◌∷◌, ◌++◌}
use mathlib.Core.Logic.{⊎_elim, inl, inr}
use lib.IntN.{ℤ, pos, negsuc}
use lib.ListN.{length, get_or}
use Rattle.formula.specs.Formula.{Clause}
use Rattle.formula.specs.Meaning.{literal, clause, matrix}
use Rattle.formula.specs.Causes.{any}
use Rattle.expansion.specs.Play.{Row, Strategy, play, restriction, past_own, past_row, first_value, later_values}
use Rattle.expansion.specs.Model.{wins}
use Rattle.expansion.proofs.Booleans.{true_or_false}
use Rattle.expansion.proofs.Membership.{In}
use Rattle.expansion.proofs.CopyLaws.{Own}
use Rattle.expansion.proofs.LeadingPath.{play_at_own}
use Rattle.cnf_rules.specs.Clauses.{own_literal, row_literal, renamed, own_part, left_over, over_rows}

or_swap : (a b c : Bool) → a || (b || c) ≡ b || (a || c)
or_swap true true c = refl
or_swap true false c = refl
or_swap false b c = refl

or_assoc : (a b c : Bool) → a || (b || c) ≡ (a || b) || c
or_assoc true b c = refl
or_assoc false b c = refl

and_assoc : (a b c : Bool) → a && (b && c) ≡ (a && b) && c
and_assoc true b c = refl
and_assoc false b c = refl

-- At what is not own two strategies make the same.
play_at_others : (ts : List Bool) (σ τ : Strategy) (row : Row) (k : ℕ) → get_or ts k false ≡ false →
    get_or (play ts σ row) k false ≡ get_or (play ts τ row) k false
play_at_others [] σ τ row k o = refl
play_at_others (true ∷ ts) σ τ row zero o = absurd (true≢false o)
play_at_others (true ∷ ts) σ τ row (suc k) o = play_at_others ts (past_own σ) (past_own τ) row k o
play_at_others (false ∷ ts) σ τ row zero o = refl
play_at_others (false ∷ ts) σ τ row (suc k) o =
    let b = first_value row in
    play_at_others ts (past_row b σ) (past_row b τ) (later_values row) k o

-- The variables have the values that the strategy gives to the row's copies.
abbrev pub Agrees : List Bool → (ℕ → ℕ) → Row → Strategy → List Bool → Type 0
Agrees ts name row σ vs = (k : ℕ) → Own ts k → get_or vs (name k) false ≡ σ k (restriction ts k row)

module _ (ts : List Bool) (name : ℕ → ℕ) (row : Row) (σ : Strategy) (vs : List Bool) (agrees : Agrees ts name row σ vs) where
  own_value : (z : ℤ) → own_literal ts z ≡ true → literal (play ts σ row) z ≡ literal vs (renamed name z)
  own_value (pos zero) o = absurd (false≢true o)
  own_value (pos (suc k)) o = play_at_own ts σ row k o ∙ sym (agrees k o)
  own_value (negsuc k) o = ap not (play_at_own ts σ row k o ∙ sym (agrees k o))

  other_value : (z : ℤ) → own_literal ts z ≡ false → literal (play ts σ row) z ≡ literal (play ts (λ k r. false) row) z
  other_value (pos zero) o = refl
  other_value (pos (suc k)) o = play_at_others ts σ (λ k r. false) row k o
  other_value (negsuc k) o = ap not (play_at_others ts σ (λ k r. false) row k o)

  clause_value : (c : Clause) → clause (play ts σ row) c ≡ any (row_literal ts row) c || clause vs (own_part ts name c)
  clause_value [] = refl
  clause_value (z ∷ c) =
      ⊎_elim
      (λ (o : own_literal ts z ≡ true). rw o
      (ap₂ ◌||◌ (own_value z o) (clause_value c) ∙ or_swap (literal vs (renamed name z)) (any (row_literal ts row) c) (clause vs (own_part ts name c))))
      (λ (o : own_literal ts z ≡ false). rw o
      (ap₂ ◌||◌ (other_value z o) (clause_value c)
      ∙ or_assoc (literal (play ts (λ k r. false) row) z) (any (row_literal ts row) c) (clause vs (own_part ts name c))))
      (true_or_false (own_literal ts z))

  pub left_over_value : (cs : List Clause) → matrix (left_over ts name row cs) vs ≡ matrix cs (play ts σ row)
  left_over_value [] = refl
  left_over_value (c ∷ cs) =
      ⊎_elim
      (λ (t : any (row_literal ts row) c ≡ true). rw (t, clause_value c, t) (left_over_value cs))
      (λ (t : any (row_literal ts row) c ≡ false). rw (t, clause_value c, t) (ap (λ b. clause vs (own_part ts name c) && b) (left_over_value cs)))
      (true_or_false (any (row_literal ts row) c))

pub matrix_append : (cs ds : List Clause) (vs : List Bool) → matrix (cs ++ ds) vs ≡ matrix cs vs && matrix ds vs
matrix_append [] ds vs = refl
matrix_append (c ∷ cs) ds vs = ap (λ b. clause vs c && b) (matrix_append cs ds vs) ∙ and_assoc (clause vs c) (matrix cs vs) (matrix ds vs)

-- Row after row: the clauses of claim 0 are true exactly if the strategy wins.
pub all_true_value : (ts : List Bool) (name : Row → ℕ → ℕ) (cs : List Clause) (σ : Strategy) (vs : List Bool) (t : ℕ) (rows : List Row)
    → ((row : Row) → In row rows → Agrees ts (name row) row σ vs) → matrix (over_rows false ts name cs t rows) vs ≡ wins ts (matrix cs) σ rows
all_true_value ts name cs σ vs t [] agrees = refl
all_true_value ts name cs σ vs t (row ∷ rows) agrees =
    let later = t + length cs in
    matrix_append (left_over ts (name row) row cs) (over_rows false ts name cs later rows) vs
    ∙ ap₂ ◌&&◌
    (left_over_value ts (name row) row σ vs (agrees row (inl refl)) cs)
    (all_true_value ts name cs σ vs later rows (λ other l. agrees other (inr l)))
