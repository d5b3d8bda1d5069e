-- Closing keeps the meaning. Assumes nothing.
use Prim.Native.Nat.{ℕ, suc}
use mathlib.Core.Path.{◌≡◌, refl, sym, ap, ◌∙◌}
use mathlib.Core.Bool.{false}
use mathlib.Core.List.{List, [], ◌∷◌}
use lib.IntN.{ℤ}
use lib.ListN.{length}
use Rattle.formula.specs.Formula.{Kind, existential, prefix, clauses}
use Rattle.formula.specs.Meaning.{meaning, matrix, verdict}
use Rattle.named.specs.Named.{Values, named_matrix, named_meaning}
use Rattle.named.specs.Names.{Distinct, Known}
use Rattle.named.specs.Closing.{closed_names, closed_kinds, closed_literals}
use Rattle.named.specs.ClosingRight.{ClosingRight}
use Rattle.named.proofs.Positions.{positions_right, known_clauses}
use Rattle.named.proofs.Closing.{existentials, Looks, matrix_alike, opened, closed}

length_existentials : (free : List ℕ) (ks : List Kind) (names : List ℕ) → length ks ≡ length names →
    length (existentials free ks) ≡ length (closed_names free names)
length_existentials [] ks names e = e
length_existentials (x ∷ free) ks names e = ap suc (length_existentials free ks names e)

pub length_prefix : (kinds : List ℕ) → length (prefix kinds) ≡ length kinds
length_prefix [] = refl
length_prefix (k ∷ kinds) = ap suc (length_prefix kinds)

-- Free names have existential kinds in front.
prefix_closed : (free kinds : List ℕ) → prefix (closed_kinds free kinds) ≡ existentials free (prefix kinds)
prefix_closed [] kinds = refl
prefix_closed (x ∷ free) kinds = ap (λ (ks : List Kind). existential ∷ ks) (prefix_closed free kinds)

module _ (free kinds names : List ℕ) (entries : List ℤ) (as_many : length kinds ≡ length names) (distinct : Distinct (closed_names free names))
    (known : Known (closed_names free names) entries) where
  looks : Looks (closed_names free names) (named_matrix (clauses entries))
  looks g h same = matrix_alike (closed_names free names) g h same (clauses entries) (known_clauses (closed_names free names) entries known)

  alike : length (prefix kinds) ≡ length names
  alike = length_prefix kinds ∙ as_many

  -- The formula by position has the meaning by name, whatever values other names have.
  by_names : (g : Values)
      → verdict (closed_kinds free kinds) (closed_literals free names entries) ≡ named_meaning (existentials free (prefix kinds)) (closed_names free names)
      (named_matrix (clauses entries)) g
  unfolding verdict
  by_names g =
      ap (λ (ks : List Kind). meaning ks (matrix (clauses (closed_literals free names entries)))) (prefix_closed free kinds)
      ∙ positions_right (existentials free (prefix kinds)) (closed_names free names) entries g (length_existentials free (prefix kinds) names alike) distinct
      known

  pub closing_right : ClosingRight free kinds names entries
  closing_right =
      record {
        only_if =
            λ e.
            opened (closed_names free names) (named_matrix (clauses entries)) looks (prefix kinds) names alike free (λ v. false)
            (sym (by_names (λ v. false)) ∙ e);
        for_some =
            λ h e.
            by_names h ∙ closed (closed_names free names) (named_matrix (clauses entries)) looks (prefix kinds) names alike free h h e (λ v i n m. refl);
      }
