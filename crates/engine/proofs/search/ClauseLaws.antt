-- A clause read code by code: what holds of the rest gives the whole. Assumes nothing.
use Prim.Native.Nat.{ℕ, zero, suc, ◌+◌, ◌-◌, ◌<◌}
use mathlib.Core.Path.{◌≡◌, refl, sym, ap, ◌∙◌, subst}
use mathlib.Core.Logic.{◌⊎◌, inl, inr, ⊎_elim}
use mathlib.Core.Bool.{true}
use mathlib.Core.List.{List, [], ◌∷◌}
use native.Mathlib.Omega.{arith}
use lib.Bits.{bit_and}
use lib.ListN.{length, get_or, drop}
use Rattle.expansion.proofs.Booleans.{true_or_false}
use Rattle.expansion.proofs.ClauseCuts.{Every, Some}
use Rattle.codes.specs.Private.Clauses.{clause_of, HasEnd, Ended, Begins, code_onto, code_clauses}
use Rattle.codes.proofs.CodeLaws.{clause_step}
use Rattle.engine.specs.Private.TermTables.{bit}
use Rattle.engine.specs.Private.TermSteps.{Hits, Remaining}
use Rattle.engine.proofs.search.BitLaws.{and_both}

module _ (codes : List ℕ) (e : ℕ) (c : ℕ) (inside : e < length codes) (is : c ≡ get_or codes e 0) where
  here : (c ≡ 0 → ⊥) → clause_of (drop e codes) ≡ c ∷ clause_of (drop (e + 1) codes)
  here some = clause_step codes e inside (omega arith) ∙ ap (λ (x : ℕ). x ∷ clause_of (drop (e + 1) codes)) (sym is)

  module _ (Q : ℕ → Type 0) {A : Type 0} where
    pub some_later : (c ≡ 0 → ⊥) → (Some Q (clause_of (drop e codes)) → A) → Some Q (clause_of (drop (e + 1) codes)) → A
    some_later some f s = f (subst (λ (cs : List ℕ). Some Q cs) (sym (here some)) (inr s))

    pub some_here : (c ≡ 0 → ⊥) → (Some Q (clause_of (drop e codes)) → A) → Q c → A
    some_here some f q = f (subst (λ (cs : List ℕ). Some Q cs) (sym (here some)) (inl q))

    pub every_later : (c ≡ 0 → ⊥) → (Every Q (clause_of (drop e codes)) → A) → Q c → Every Q (clause_of (drop (e + 1) codes)) → A
    every_later some f q s = f (subst (λ (cs : List ℕ). Every Q cs) (sym (here some)) (q, s))

-- ---- rows that remain

pub record Reading (codes misses : List ℕ) (start rows left e : ℕ) : Type 0 where
  pub so_far : Remaining codes misses start rows left
  pub rest : (l : ℕ) → Some (Hits misses l) (clause_of (drop e codes)) → Some (Hits misses l) (clause_of (drop start codes))

module _ {codes misses : List ℕ} {start rows left e : ℕ} (reading : Reading codes misses start rows left e) (c : ℕ) (inside : e < length codes)
    (is : c ≡ get_or codes e 0) (some : c ≡ 0 → ⊥) where
  pub reading_passed : Reading codes misses start rows left (e + 1)
  reading_passed = record { so_far = reading.so_far; rest = λ l. some_later codes e c inside is (Hits misses l) some (reading.rest l) }

  pub reading_more : Reading codes misses start rows (bit_and left (get_or misses c 0)) (e + 1)
  unfolding Hits
  reading_more = record { so_far = record { every = λ l h. ⊎_elim (kept l) (λ s. inr s) (reading.so_far.every l h) }; rest = reading_passed.rest }
    where
      kept : (l : ℕ) → bit left l ≡ true → (bit (bit_and left (get_or misses c 0)) l ≡ true) ⊎ Some (Hits misses l) (clause_of (drop start codes))
      kept l b =
          ⊎_elim
          (λ e₁. inl (and_both left (get_or misses c 0) l b e₁))
          (λ e₁. inr (some_here codes e c inside is (Hits misses l) some (reading.rest l) e₁))
          (true_or_false (bit (get_or misses c 0) l))

-- ---- all clauses, by their starts

abbrev behind_first : List (List ℕ) → List (List ℕ)
behind_first [] = []
behind_first (x ∷ xs) = xs

behind_onto : (c : ℕ) (xs : List (List ℕ)) → behind_first (code_onto c xs) ≡ behind_first xs
behind_onto c [] = refl
behind_onto c (x ∷ xs) = refl

module _ (Q : List ℕ → Type 0) where
  every_first : (codes : List ℕ) → HasEnd codes → Q (clause_of codes) → Every Q (behind_first (code_clauses codes)) → Every Q (code_clauses codes)
  every_first codes end q rest = subst (λ (xs : List (List ℕ)). Every Q xs) (sym (shape codes end)) (q, rest)
    where
      shape : (cs : List ℕ) → HasEnd cs → code_clauses cs ≡ clause_of cs ∷ behind_first (code_clauses cs)
      shape [] h = elim h [ ]
      shape (zero ∷ cs) h = refl
      shape (suc c ∷ cs) h = ap (code_onto (suc c)) (shape cs h) ∙ ap (λ (xs : List (List ℕ)). (suc c ∷ clause_of cs) ∷ xs)
          (sym (behind_onto (suc c) (code_clauses cs)))

  every_behind : (codes : List ℕ) → Ended codes → ((e : ℕ) → suc e < length codes → get_or codes e 0 ≡ 0 → Q (clause_of (drop (suc e) codes)))
      → Every Q (behind_first (code_clauses codes))
  every_behind [] ended f = tt
  every_behind (zero ∷ []) ended f = tt
  every_behind (zero ∷ (c ∷ cs)) ended f =
      every_first (c ∷ cs) ended.1.0 (f 0 (omega arith) refl) (every_behind (c ∷ cs) ended.1 (λ e lt z. f (suc e) (omega arith) z))
  every_behind (suc c ∷ cs) ended f =
      subst (λ (xs : List (List ℕ)). Every Q xs) (sym (behind_onto (suc c) (code_clauses cs)))
      (every_behind cs ended.1 (λ e lt z. f (suc e) (omega arith) z))

  -- What holds of the clause at every start holds of every clause.
  pub every_start : (codes : List ℕ) → Ended codes → ((start : ℕ) → start < length codes → Begins codes start → Q (clause_of (drop start codes)))
      → Every Q (code_clauses codes)
  every_start [] ended f = tt
  every_start (c ∷ cs) ended f =
      every_first (c ∷ cs) ended.0 (f 0 (omega arith) (inl refl))
      (every_behind (c ∷ cs) ended
      (λ e lt z. f (suc e) lt (inr (subst (λ (x : ℕ). get_or (c ∷ cs) x 0 ≡ 0) (let same : e ≡ suc e - 1 = omega arith in same) z))))
