-- Clauses as codes: the clause that begins at an entry is one of the clauses, and its codes stand one after the other; a literal's value is
-- that of its position, turned by its sign. Assumes nothing.
use Prim.Native.Nat.{ℕ, zero, suc, ◌+◌, ◌-◌, ◌%◌, ◌≤◌, ◌<◌}
use mathlib.Core.Path.{◌≡◌, refl, sym, ◌∙◌, ap, subst}
use mathlib.Core.Logic.{◌≢◌, inl, inr}
use mathlib.Core.Bool.{Bool, true, false, not, cond}
use mathlib.Core.List.{List, [], ◌∷◌}
use native.Mathlib.Omega.{arith}
use native.Mathlib.Numerals.{add-one}
use lib.Dec.{eqb}
use lib.ListN.{length, get_or, drop, length-drop}
use lib.Seq.{drop-cons, get_or-drop}
use Rattle.formula.specs.Formula.{max_unknowns}
use Rattle.expansion.proofs.ClauseCuts.{Every, Some}
use Rattle.codes.specs.Codes.{row_position}
use Rattle.codes.specs.Private.Clauses.{position, code_true, code_onto, code_clauses, clause_of, HasEnd, Begins, Coded}

-- ---- literals

pub code_local : (c : ℕ) (f g : ℕ → Bool) → f (position c) ≡ g (position c) → code_true f c ≡ code_true g c
unfolding code_true
code_local c f g e = ap (λ (b : Bool). cond (eqb (c % 2) 0) b (not b)) e

sign_of : (b x : Bool) → cond b x (not x) ≡ true → x ≡ b
sign_of true x e = e
sign_of false true e = sym e
sign_of false false e = refl

-- a true literal's position has the value of its sign
pub code_sign : (c : ℕ) (f : ℕ → Bool) → code_true f c ≡ true → f (position c) ≡ eqb (c % 2) 0
unfolding code_true
code_sign c f e = sign_of (eqb (c % 2) 0) (f (position c)) e

-- ---- a clause among the clauses

abbrev behind_first : List (List ℕ) → List (List ℕ)
behind_first [] = []
behind_first (x ∷ xs) = xs

some_behind : (Q : List ℕ → Type 0) (xs : List (List ℕ)) → Some Q (behind_first xs) → Some Q xs
some_behind Q [] s = s
some_behind Q (x ∷ xs) s = inr s

-- an entry in front changes the first clause alone
behind_onto : (c : ℕ) (xs : List (List ℕ)) → behind_first (code_onto c xs) ≡ behind_first xs
behind_onto c [] = refl
behind_onto c (x ∷ xs) = refl

first_clause : (codes : List ℕ) → HasEnd codes → (rest : List (List ℕ)) × (code_clauses codes ≡ clause_of codes ∷ rest)
first_clause [] end = absurd end
first_clause (zero ∷ codes) end = (code_clauses codes, refl)
first_clause (suc c ∷ codes) end =
    let later : (rest : List (List ℕ)) × (code_clauses codes ≡ clause_of codes ∷ rest) = first_clause codes end in
    (later.0, ap (code_onto (suc c)) later.1)

from_first : (codes : List ℕ) → HasEnd codes → Some (λ x. x ≡ clause_of codes) (code_clauses codes)
from_first codes end =
    subst (λ (xs : List (List ℕ)). Some (λ x. x ≡ clause_of codes) xs) (sym (first_clause codes end).1) (inl refl)

-- a clause behind a zero is not the first
from_later : (codes : List ℕ) (e : ℕ) → get_or codes e 0 ≡ 0 → HasEnd (drop (suc e) codes) →
    Some (λ x. x ≡ clause_of (drop (suc e) codes)) (behind_first (code_clauses codes))
from_later [] e z end = absurd end
from_later (zero ∷ codes) zero z end = from_first codes end
from_later (zero ∷ codes) (suc e) z end = some_behind (λ x. x ≡ clause_of (drop (suc e) codes)) (code_clauses codes) (from_later codes e z end)
from_later (suc c ∷ codes) zero z end = absurd (omega arith)
from_later (suc c ∷ codes) (suc e) z end =
    subst (λ (xs : List (List ℕ)). Some (λ x. x ≡ clause_of (drop (suc e) codes)) xs) (sym (behind_onto (suc c) (code_clauses codes)))
    (from_later codes e z end)

-- the clause that begins at an entry is one of the clauses
pub clause_among : (codes : List ℕ) (start : ℕ) → Begins codes start → HasEnd (drop start codes) →
    Some (λ x. x ≡ clause_of (drop start codes)) (code_clauses codes)
clause_among codes zero b end = from_first codes end
clause_among codes (suc e) b end = some_behind (λ x. x ≡ clause_of (drop (suc e) codes)) (code_clauses codes) (from_later codes e (behind b) end)
  where
    behind : Begins codes (suc e) → get_or codes e 0 ≡ 0
    behind (inl q) = absurd (omega arith)
    behind (inr q) = subst (λ (x : ℕ). get_or codes x 0 ≡ 0) (let same : suc e - 1 ≡ e = omega arith in same) q

-- ---- a clause's codes

module _ (codes : List ℕ) (e : ℕ) (inside : e < length codes) where
  drop_next : drop e codes ≡ get_or codes e 0 ∷ drop (e + 1) codes
  drop_next = drop-cons codes e 0 inside ∙ ap (λ (n : ℕ). get_or codes e 0 ∷ drop n codes) (sym (add-one e))

  clause_more : (c : ℕ) (cs : List ℕ) → 0 < c → clause_of (c ∷ cs) ≡ c ∷ clause_of cs
  clause_more zero cs p = absurd (omega arith)
  clause_more (suc c) cs p = refl

  pub clause_step : 0 < get_or codes e 0 → clause_of (drop e codes) ≡ get_or codes e 0 ∷ clause_of (drop (e + 1) codes)
  clause_step p = ap clause_of drop_next ∙ clause_more (get_or codes e 0) (drop (e + 1) codes) p

  pub clause_stop : get_or codes e 0 ≡ 0 → clause_of (drop e codes) ≡ []
  clause_stop z = ap clause_of (drop_next ∙ ap (λ (n : ℕ). n ∷ drop (e + 1) codes) z)

clause_coded_all : (n : ℕ) (codes : List ℕ) → Coded n codes → Every (λ c. (2 ≤ c) × (position c < n)) (clause_of codes)
clause_coded_all n [] coded = tt
clause_coded_all n (zero ∷ codes) coded = tt
clause_coded_all n (suc c ∷ codes) coded =
    (coded 0 (omega arith) (omega arith), clause_coded_all n codes (λ e lt p. coded (suc e) (omega arith) p))

-- each code of a clause is a literal of one of the unknowns
pub clause_coded : (n : ℕ) (codes : List ℕ) (start : ℕ) → Coded n codes → Every (λ c. (2 ≤ c) × (position c < n)) (clause_of (drop start codes))
clause_coded n codes start coded =
    clause_coded_all n (drop start codes)
    (λ e lt p.
    subst (λ (x : ℕ). (2 ≤ x) × (position x < n)) (sym (get_or-drop start codes e 0))
    (coded (start + e) (let l : length (drop start codes) ≡ length codes - start = length-drop start codes in omega arith)
    (subst (λ (x : ℕ). 0 < x) (get_or-drop start codes e 0) p)))

-- ---- all and some of a list

module _ {A : Type 0} where
  -- two facts of each element
  pub every_both : (Q R S : A → Type 0) → ((x : A) → Q x → R x → S x) → (xs : List A) → Every Q xs → Every R xs → Every S xs
  every_both Q R S f [] a b = tt
  every_both Q R S f (x ∷ xs) a b = (f x a.0 b.0, every_both Q R S f xs a.1 b.1)

  -- what follows of an element that is met, where all are so
  pub every_some : (Q R : A → Type 0) (B : Type 0) → ((x : A) → Q x → R x → B) → (xs : List A) → Every Q xs → Some R xs → B
  every_some Q R B f (x ∷ xs) a (inl r) = f x a.0 r
  every_some Q R B f (x ∷ xs) a (inr s) = every_some Q R B f xs a.1 s
  every_some Q R B f [] a x'' = elim x'' [ ]

-- ---- positions and ends

pub row_position_is : (c : ℕ) → 2 ≤ c → position c < max_unknowns → row_position c ≡ position c
row_position_is c two below = omega arith

onto_some : (c : ℕ) (xs : List (List ℕ)) → code_onto c xs ≢ []
onto_some c [] e = let z : ◌≡◌ {A = ℕ} 0 1 = cc in omega arith
onto_some c (x ∷ xs) e = let z : ◌≡◌ {A = ℕ} 0 1 = cc in omega arith

-- Where a clause has its end, there is a clause.
pub clauses_some : (cs : List ℕ) → HasEnd cs → code_clauses cs ≢ []
clauses_some (zero ∷ cs) h e = let z : ◌≡◌ {A = ℕ} 0 1 = cc in omega arith
clauses_some (suc c ∷ cs) h e = onto_some (suc c) (code_clauses cs) e
clauses_some [] h e = elim h [ ]
