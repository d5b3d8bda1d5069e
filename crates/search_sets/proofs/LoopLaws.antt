-- A turn of each loop: a change for one position more, and one code less to come. Assumes nothing.
use Prim.Native.Nat.{ℕ, ◌-◌, ◌≤◌, ◌<◌}
use mathlib.Core.Path.{◌≡◌, sym, ap, ◌∙◌}
use mathlib.Core.List.{List}
use native.Mathlib.Omega.{arith}
use lib.ListN.{length, get_or, drop, drop_of_length-le}
use Rattle.codes.specs.Private.Clauses.{clause_of}
use Rattle.codes.proofs.CodeLaws.{clause_stop}
use Rattle.search_sets.specs.Sets.{each_from, codes_joined}

-- ---- positions, one after the other

pub each_start : (change : List ℕ → ℕ → List ℕ) (k : ℕ) (s : List ℕ) → s ≡ each_from change k (k - k) s
each_start change k s = let none : 0 ≡ k - k = omega arith in ap (λ (m : ℕ). each_from change k m s) none

module _ (change : List ℕ → ℕ → List ℕ) (k p : ℕ) (s t : List ℕ) (so_far : t ≡ each_from change k (p - k) s) where
  pub each_done : (n : ℕ) → p - k ≡ n - k → t ≡ each_from change k (n - k) s
  each_done n e = so_far ∙ ap (λ (m : ℕ). each_from change k m s) e

-- ---- codes, up to the end of the clause

module _ (codes : List ℕ) (to e : ℕ) (t : List ℕ) where
  pub codes_stop : e < length codes → get_or codes e 0 ≡ 0 → t ≡ codes_joined to (clause_of (drop e codes)) t
  codes_stop inside none = sym (ap (λ (cs : List ℕ). codes_joined to cs t) (clause_stop codes e inside none))

  pub codes_end : length codes ≤ e → t ≡ codes_joined to (clause_of (drop e codes)) t
  codes_end past = sym (ap (λ (cs : List ℕ). codes_joined to (clause_of cs) t) (drop_of_length-le codes past))
