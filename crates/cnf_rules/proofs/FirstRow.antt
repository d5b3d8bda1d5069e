-- The numbering by the first row gives different copies different numbers. Assumes nothing.
use Prim.Native.Nat.{ℕ, ◌+◌, ◌*◌, ◌<◌, ◌≤◌}
use native.Mathlib.Omega.{arith}
use mathlib.Core.Path.{◌≡◌, refl, sym, ap, ◌∙◌}
use mathlib.Core.Bool.{Bool}
use mathlib.Core.List.{List, []}
use lib.ListN.{length, get_or}
use Rattle.formula.specs.Formula.{max_unknowns}
use Rattle.expansion.specs.Play.{Row, restriction}
use Rattle.expansion.proofs.LeadingPath.{own_within}
use Rattle.cnf_rules.specs.Clauses.{first_like, copy_number}
use Rattle.cnf_rules.proofs.Numbering.{Numbers, first_is_like}

module _ (ts : List Bool) (rows : List Row) where
  -- The restriction of a row, and the first row that has it.
  abbrev restricted : ℕ → ℕ → Row
  restricted i k = restriction ts k (get_or rows i [])

  abbrev first_of : ℕ → ℕ → ℕ
  first_of i k = first_like ts k (restricted i k) rows

  first_of_is : (i k : ℕ) → i < length rows → (first_of i k < length rows) × (restricted (first_of i k) k ≡ restricted i k)
  first_of_is i k l = first_is_like ts k (restricted i k) rows i l refl

  pub by_first_row : length ts ≤ max_unknowns → Numbers ts rows (copy_number ts rows) (max_unknowns * length rows)
  by_first_row short = record {
    below = λ i k l o. omega (arith, (first_of_is i k l).0, own_within ts k o);
    alike = λ i j k li lj o e. ap (λ r. max_unknowns * first_like ts k r rows + k) e;
    apart = λ i j k l li lj ok ol e.
        let bk = own_within ts k ok in
        let bl = own_within ts l ol in
        let k_is : k ≡ l = omega arith in
        let f_is : first_of i k ≡ first_of j l = omega arith in
        let f_same : first_of i k ≡ first_of j k = f_is ∙ ap (λ p. first_of j p) (sym k_is) in
        (k_is, sym (first_of_is i k li).1 ∙ ap (λ f. restricted f k) f_same ∙ (first_of_is j k lj).1);
  }
