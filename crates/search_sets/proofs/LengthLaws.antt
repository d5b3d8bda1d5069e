-- No function changes the length of its table. Assumes nothing.
use Prim.Native.Nat.{ℕ, zero, suc, ◌+◌}
use mathlib.Core.Path.{◌≡◌, refl, ◌∙◌}
use mathlib.Core.Bool.{Bool, true, false, cond}
use mathlib.Core.List.{List}
use lib.Dec.{eqb}
use lib.ListN.{length, length-set}
use Rattle.codes.specs.Codes.{row_position}
use Rattle.search_sets.specs.Sets.{words_put, words_joined, words_met, set_joined, bit_at, each_from, followed, code_joined}

-- ---- sets at places that are there

length_if : (b : Bool) (x y : List ℕ) {n : ℕ} → length x ≡ n → length y ≡ n → length (cond b x y) ≡ n
length_if true x y e f = e
length_if false x y e f = f

module _ (s : List ℕ) (to : ℕ) where
  length_put : (low high : ℕ) → length (words_put s to low high) ≡ length s
  unfolding words_put
  length_put low high = simp length-set

  length_joined : (low high : ℕ) → length (words_joined s to low high) ≡ length s
  unfolding words_joined
  length_joined low high = length_put _ _

  length_set_joined : (from : ℕ) → length (set_joined s to from) ≡ length s
  unfolding set_joined
  length_set_joined from = length_joined _ _

  pub length_met : (low high : ℕ) → length (words_met s to low high) ≡ length s
  unfolding words_met
  length_met low high = length_put _ _

pub length_followed : (of : ℕ) (s : List ℕ) (p : ℕ) → length (followed of s p) ≡ length s
length_followed of s p = length_if (bit_at s of p) (set_joined s of p) s (length_set_joined s of p) refl

pub length_code_joined : (to : ℕ) (s : List ℕ) (c : ℕ) → length (code_joined to s c) ≡ length s
length_code_joined to s c = length_if (eqb (row_position c) to) s (set_joined s to (row_position c)) refl (length_set_joined s to (row_position c))

pub length_each : (change : List ℕ → ℕ → List ℕ) → ((t : List ℕ) (p : ℕ) → length (change t p) ≡ length t)
    → (k m : ℕ) (s : List ℕ) → length (each_from change k m s) ≡ length s
length_each change keeps k zero s = refl
length_each change keeps k (suc m) s = keeps (each_from change k m s) (k + m) ∙ length_each change keeps k m s
