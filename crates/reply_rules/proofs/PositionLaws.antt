-- The position behind one unknown more, and what is borne out there. Assumes nothing.
use Prim.Native.Nat.{ℕ, ◌≤◌}
use native.Mathlib.Omega.{arith}
use mathlib.Core.Path.{◌≡◌, refl, sym, ap, ◌∙◌}
use mathlib.Core.Bool.{Bool, true, false}
use mathlib.Core.List.{List, [], ◌∷◌, ◌++◌}
use lib.IntN.{ℤ}
use lib.ListN.{length}
use Rattle.formula.specs.Formula.{Kind, kind_of, prefix, clauses}
use Rattle.formula.specs.Meaning.{matrix, after}
use Rattle.expansion.specs.Play.{Row}
use Rattle.expansion.specs.Judge.{accepted}
use Rattle.case_rules.specs.Restricted.{restricted, kinds_behind}
use Rattle.case_rules.specs.Casebook.{offered}
use Rattle.case_rules.proofs.RestrictedLaws.{restricted_matrix, set_one_more}
use Rattle.reply_rules.specs.Position.{rows_behind, fitting, borne_out}
use Rattle.reply_rules.proofs.RowLaws.{other_value, any_value, few_behind}

abbrev head : List ℕ → ℕ
head [] = 0
head (k ∷ kinds) = k

abbrev tail : List ℕ → List ℕ
tail [] = []
tail (k ∷ kinds) = kinds

nothing_there : {k : ℕ} {kinds : List ℕ} → ◌≡◌ {A = List ℕ} [] (k ∷ kinds) → ⊥
nothing_there e = let same = ap length e in omega arith

-- ---- the unknowns and rows behind one unknown more

pub fitting_none : (claim : Bool) (ks : List Kind) (rows : List Row) → fitting claim ks [] rows ≡ rows
fitting_none claim [] rows = refl
fitting_none claim (k ∷ ks) rows = refl

pub few_fitting : (claim : Bool) (ks : List Kind) (vs : List Bool) (rows : List Row) → length (fitting claim ks vs rows) ≤ length rows
few_fitting claim [] vs rows = omega arith
few_fitting claim (k ∷ ks) [] rows = omega arith
few_fitting claim (k ∷ ks) (v ∷ vs) rows =
    let one = few_behind (offered claim k) v rows in
    let rest = few_fitting claim ks vs (rows_behind (offered claim k) v rows) in
    omega (arith, one, rest)

module _ (v : Bool) (k : ℕ) (left : List ℕ) where
  pub behind_next : (kinds : List ℕ) (vs : List Bool) → kinds_behind vs kinds ≡ k ∷ left → kinds_behind (vs ++ (v ∷ [])) kinds ≡ left
  behind_next [] [] e = absurd (nothing_there e)
  behind_next [] (w ∷ vs) e = absurd (nothing_there e)
  behind_next (j ∷ kinds) [] e = ap tail e
  behind_next (j ∷ kinds) (w ∷ vs) e = behind_next kinds vs e

  pub fitting_next : (claim : Bool) (kinds : List ℕ) (vs : List Bool) (rows : List Row) → kinds_behind vs kinds ≡ k ∷ left
      → fitting claim (prefix kinds) (vs ++ (v ∷ [])) rows ≡ rows_behind (offered claim (kind_of k)) v (fitting claim (prefix kinds) vs rows)
  fitting_next claim [] [] rows e = absurd (nothing_there e)
  fitting_next claim [] (w ∷ vs) rows e = absurd (nothing_there e)
  fitting_next claim (j ∷ kinds) [] rows e =
      fitting_none claim (prefix kinds) (rows_behind (offered claim (kind_of j)) v rows)
      ∙ ap (λ (n : ℕ). rows_behind (offered claim (kind_of n)) v rows) (ap head e)
  fitting_next claim (j ∷ kinds) (w ∷ vs) rows e = fitting_next claim kinds vs (rows_behind (offered claim (kind_of j)) w rows) e

matrix_next : (vs : List Bool) (v : Bool) (literals : List ℤ)
    → matrix (clauses (restricted (vs ++ (v ∷ [])) literals)) ≡ after v (matrix (clauses (restricted vs literals)))
matrix_next vs v literals =
    restricted_matrix (vs ++ (v ∷ [])) literals
    ∙ sym (set_one_more vs v (matrix (clauses literals)))
    ∙ ap (after v) (sym (restricted_matrix vs literals))

-- ---- what is borne out

module _ (claim : Bool) (kinds : List ℕ) (literals : List ℤ) (rows : List Row) where
  pub at_start : accepted claim (prefix kinds) (matrix (clauses literals)) rows ≡ true → borne_out claim kinds literals rows [] ≡ true
  unfolding borne_out
  at_start e =
      ap (accepted claim (prefix kinds) (matrix (clauses (restricted [] literals)))) (fitting_none claim (prefix kinds) rows)
      ∙ ap (λ (psi : List Bool → Bool). accepted claim (prefix kinds) psi rows) (restricted_matrix [] literals)
      ∙ e

  module _ (vs : List Bool) (k : ℕ) (left : List ℕ) (there : kinds_behind vs kinds ≡ k ∷ left) where
    abbrev here : List Bool → Bool
    here = matrix (clauses (restricted vs literals))

    abbrev fit : List Row
    fit = fitting claim (prefix kinds) vs rows

    borne_here : borne_out claim kinds literals rows vs ≡ accepted claim (kind_of k ∷ prefix left) here fit
    unfolding borne_out
    borne_here = ap (λ (ns : List ℕ). accepted claim (prefix ns) here fit) there

    borne_next : (v : Bool)
        → borne_out claim kinds literals rows (vs ++ (v ∷ [])) ≡ accepted claim (prefix left) (after v here) (rows_behind (offered claim (kind_of k)) v fit)
    unfolding borne_out
    borne_next v =
        ap
        (λ (ns : List ℕ). accepted claim (prefix ns) (matrix (clauses (restricted (vs ++ (v ∷ [])) literals))) (fitting claim (prefix kinds) (vs ++ (v ∷ [])) rows))
        (behind_next v k left kinds vs there)
        ∙ ap (λ (psi : List Bool → Bool). accepted claim (prefix left) psi (fitting claim (prefix kinds) (vs ++ (v ∷ [])) rows)) (matrix_next vs v literals)
        ∙ ap (accepted claim (prefix left) (after v here)) (fitting_next v k left claim kinds vs rows there)

    -- Behind the other side's unknown, whatever its value.
    pub borne_any : offered claim (kind_of k) ≡ false → (v : Bool) → borne_out claim kinds literals rows vs ≡ true
        → borne_out claim kinds literals rows (vs ++ (v ∷ [])) ≡ true
    borne_any o v e =
        borne_next v
        ∙ ap (λ (b : Bool). accepted claim (prefix left) (after v here) (rows_behind b v fit)) o
        ∙ any_value claim (kind_of k) (prefix left) here fit v o (sym borne_here ∙ e)

    -- Behind the winner's, with one of the two values.
    pub borne_other : offered claim (kind_of k) ≡ true → borne_out claim kinds literals rows vs ≡ true
        → borne_out claim kinds literals rows (vs ++ (true ∷ [])) ≡ false → borne_out claim kinds literals rows (vs ++ (false ∷ [])) ≡ true
    borne_other o e refused =
        borne_next false
        ∙ ap (λ (b : Bool). accepted claim (prefix left) (after false here) (rows_behind b false fit)) o
        ∙ other_value claim (kind_of k) (prefix left) here fit o (sym borne_here ∙ e)
        (ap (λ (b : Bool). accepted claim (prefix left) (after true here) (rows_behind b true fit)) (sym o) ∙ sym (borne_next true) ∙ refused)
