-- The encoding of literals stands for them: the clauses of codes have the value of the clauses of literals, each has its end, and each code
-- is of an unknown that a literal names. It is no longer than the literals. Assumes nothing.
use Prim.Native.Nat.{ℕ, zero, suc, ◌+◌, ◌*◌, ◌-◌, ◌%◌, ◌≤◌, ◌<◌}
use native.Mathlib.Numerals.{sub-one}
use native.Mathlib.Omega.{arith}
use native.Mathlib.Decide.{ℕ_discrete}
use mathlib.Core.Path.{◌≡◌, refl, sym, ◌∙◌, ap}
use mathlib.Core.Logic.{◌⊎◌, inl, inr, ⊎_elim}
use mathlib.Core.Bool.{Bool, true, false, not, cond, ◌&&◌, ◌||◌, or-true, or-false, or_assoc, or_comm, not-not, false≢true, true≢false}
use mathlib.Core.List.{List, [], ◌∷◌, ◌++◌}
use borrow.Author.Tests.{eq-eqb, ne_eqb, eqb-true, lt-ltb, le-ltb}
use lib.Dec.{eqb, ltb}
use lib.IntN.{ℤ, pos, negsuc, nat_abs}
use lib.ListN.{length, get_or, take, replicate, length-append}
use lib.Seq.{take_at}
use Rattle.formula.specs.Formula.{max_unknowns, Clause, onto, clauses}
use Rattle.formula.specs.Causes.{any, beyond, ended}
use Rattle.formula.proofs.Any.{or_none}
use Rattle.expansion.proofs.ClauseCuts.{Every, every_map, clause_at, matrix_at}
use Rattle.expansion.proofs.Engine.{literal_at}
use Rattle.codes.specs.Codes.{code_of, opposite, has, with_code, Reading, so_far, always_true, read_code, closed, encoding_from, encoding, refused, used}
use Rattle.codes.specs.Codes.{filled}
use Rattle.codes.specs.Private.Clauses.{position, code_true, code_onto, code_clauses, HasEnd, Ended, Encoded, Names}

-- ---- a code and its literal

-- A code of a literal of one of n unknowns.
abbrev pub IsLiteral : ℕ → ℕ → Type 0
IsLiteral n c = (2 ≤ c) × (position c < n)

pub code_literal : (n : ℕ) (z : ℤ) → (code_of z ≡ 0 → ⊥) → nat_abs z ≤ n → IsLiteral n (code_of z)
code_literal n (pos zero) other small = absurd (other refl)
code_literal n (pos (suc v)) other small = omega arith
code_literal n (negsuc v) other small = omega arith

pub even_or_odd : (c : ℕ) → (c % 2 ≡ 0) ⊎ (c % 2 ≡ 1)
even_or_odd c = elim (ℕ_discrete (c % 2) 0) [ yes even ↦ inl even | no odd ↦ inr (omega arith) ]

module _ (f : ℕ → Bool) where
  code_even : (c : ℕ) → c % 2 ≡ 0 → code_true f c ≡ f (position c)
  unfolding code_true
  code_even c even = rw (eq-eqb (c % 2) 0 even)

  code_odd : (c : ℕ) → c % 2 ≡ 1 → code_true f c ≡ not (f (position c))
  unfolding code_true
  code_odd c odd = rw (ne_eqb (c % 2) 0 (omega arith))

  code_value : (z : ℤ) → (code_of z ≡ 0 → ⊥) → code_true f (code_of z) ≡ literal_at f z
  code_value (pos zero) other = absurd (other refl)
  code_value (pos (suc v)) other =
      let at : position (2 * suc v) ≡ v = omega arith in
      code_even (2 * suc v) (omega arith) ∙ ap f at
  code_value (negsuc v) other =
      let at : position (2 * suc v + 1) ≡ v = omega arith in
      code_odd (2 * suc v + 1) (omega arith) ∙ ap (λ (k : ℕ). not (f k)) at

  code_opposite : (c : ℕ) → 2 ≤ c → code_true f (opposite c) ≡ not (code_true f c)
  unfolding opposite
  code_opposite c two =
      ⊎_elim
      (λ even.
      let odd : (c + 1) % 2 ≡ 1 = omega arith in
      let same : position (c + 1) ≡ position c = omega arith in
      rw (eq-eqb (c % 2) 0 even) (code_odd (c + 1) odd ∙ ap (λ (k : ℕ). not (f k)) same ∙ ap not (sym (code_even c even))))
      (λ odd.
      let even : (c - 1) % 2 ≡ 0 = omega arith in
      let same : position (c - 1) ≡ position c = omega arith in
      rw (ne_eqb (c % 2) 0 (omega arith))
      (code_even (c - 1) even ∙ ap f same ∙ sym (ap not (code_odd c odd) ∙ not-not (f (position c)))))
      (even_or_odd c)

-- ---- a clause with one code more

-- What holds of both ways to place the code holds of the clause.
pub with_code_cases : (P : List ℕ → Type 0) (c x : ℕ) (xs : List ℕ) → (ltb x c ≡ true → P (c ∷ xs ++ (x ∷ []))) → (ltb x c ≡ false → P (x ∷ xs ++ (c ∷ []))) →
    P (with_code c (x ∷ xs))
unfolding with_code
with_code_cases P c x xs larger other = go (ltb x c) refl
  where
    go : (b : Bool) → ltb x c ≡ b → P (cond b (c ∷ xs ++ (x ∷ [])) (x ∷ xs ++ (c ∷ [])))
    go true e = larger e
    go false e = other e

pub or_swap : (a b c : Bool) → (a || (b || c)) ≡ (b || (a || c))
or_swap true true c = refl
or_swap true false c = refl
or_swap false true c = refl
or_swap false false c = refl

clause_behind : (f : ℕ → Bool) (xs : List ℕ) (x : ℕ) → clause_at code_true f (xs ++ (x ∷ [])) ≡ (code_true f x || clause_at code_true f xs)
clause_behind f [] x = refl
clause_behind f (y ∷ xs) x = rw (clause_behind f xs x) (or_swap (code_true f y) (code_true f x) (clause_at code_true f xs))

with_code_value : (f : ℕ → Bool) (c : ℕ) (xs : List ℕ) → clause_at code_true f (with_code c xs) ≡ (code_true f c || clause_at code_true f xs)
unfolding with_code
with_code_value f c [] = refl
with_code_value f c (x ∷ xs) =
    with_code_cases (λ l. clause_at code_true f l ≡ (code_true f c || (code_true f x || clause_at code_true f xs))) c x xs
    (λ e. ap (λ (b : Bool). code_true f c || b) (clause_behind f xs x))
    (λ e. ap (λ (b : Bool). code_true f x || b) (clause_behind f xs c) ∙ or_swap (code_true f x) (code_true f c) (clause_at code_true f xs))

every_append : {A : Type 0} (Q : A → Type 0) (xs ys : List A) → Every Q xs → Every Q ys → Every Q (xs ++ ys)
every_append Q [] ys e g = g
every_append Q (x ∷ xs) ys e g = (e.0, every_append Q xs ys e.1 g)

with_code_every : (Q : ℕ → Type 0) (c : ℕ) (xs : List ℕ) → Q c → Every Q xs → Every Q (with_code c xs)
unfolding with_code
with_code_every Q c [] q every = (q, tt)
with_code_every Q c (x ∷ xs) q every =
    with_code_cases (Every Q) c x xs
    (λ e. (q, every_append Q xs (x ∷ []) every.1 (every.0, tt)))
    (λ e. (every.0, every_append Q xs (c ∷ []) every.1 (q, tt)))

pub with_code_length : (c : ℕ) (xs : List ℕ) → length (with_code c xs) ≡ length xs + 1
unfolding with_code
with_code_length c [] = refl
with_code_length c (x ∷ xs) =
    with_code_cases (λ l. length l ≡ suc (length xs) + 1) c x xs
    (λ e. omega (arith, length-append xs (x ∷ [])))
    (λ e. omega (arith, length-append xs (c ∷ [])))

-- ---- a clause as far as it is read

abbrev value : (ℕ → Bool) → Reading → Bool
value f (so_far clause) = clause_at code_true f clause
value f always_true = true

abbrev All : (ℕ → Type 0) → Reading → Type 0
All Q (so_far clause) = Every Q clause
All Q always_true = Unit {0}

abbrev size : Reading → ℕ
size (so_far clause) = length clause
size always_true = 0

-- What holds of a clause that is always true, of the same one, and of the one with the code, holds of the clause after it.
read_cases : (P : Reading → Type 0) (c : ℕ) (clause : List ℕ) → (has (opposite c) clause ≡ true → P always_true) → (has c clause ≡ true → P (so_far clause)) →
    P (so_far (with_code c clause)) → P (read_code c (so_far clause))
read_cases P c clause opposed seen new = go (has (opposite c) clause) (has c clause) refl refl
  where
    go : (b d : Bool) → has (opposite c) clause ≡ b → has c clause ≡ d → P (cond b always_true (cond d (so_far clause) (so_far (with_code c clause))))
    go true d e g = opposed e
    go false true e g = seen g
    go false false e g = new

has_true : (f : ℕ → Bool) (x : ℕ) (xs : List ℕ) → has x xs ≡ true → code_true f x ≡ true → clause_at code_true f xs ≡ true
has_true f x [] h t = absurd (false≢true h)
has_true f x (y ∷ xs) h t = go (eqb x y) refl h (λ s. has_true f x xs s t)
  where
    go : (b : Bool) → eqb x y ≡ b → (b || has x xs) ≡ true → (has x xs ≡ true → clause_at code_true f xs ≡ true) →
        (code_true f y || clause_at code_true f xs) ≡ true
    go true e s later = rw (sym (ap (code_true f) (eqb-true x y e)) ∙ t)
    go false e s later = rw (later s) (or-true (code_true f y))

or_absorbed : (a b : Bool) → (b ≡ true → a ≡ true) → a ≡ (a || b)
or_absorbed true b implied = refl
or_absorbed false true implied = implied refl
or_absorbed false false implied = refl

or_implied : (a b : Bool) → (b ≡ false → a ≡ true) → true ≡ (a || b)
or_implied a true implied = sym (or-true a)
or_implied a false implied = sym (or-false a ∙ implied refl)

read_value : (f : ℕ → Bool) (c : ℕ) (r : Reading) → 2 ≤ c → value f (read_code c r) ≡ (value f r || code_true f c)
read_value f c always_true two = refl
read_value f c (so_far clause) two =
    read_cases (λ r. value f r ≡ (clause_at code_true f clause || code_true f c)) c clause
    (λ h. or_implied (clause_at code_true f clause) (code_true f c) (λ no. has_true f (opposite c) clause h (code_opposite f c two ∙ ap not no)))
    (λ h. or_absorbed (clause_at code_true f clause) (code_true f c) (has_true f c clause h))
    (with_code_value f c clause ∙ or_comm (code_true f c) (clause_at code_true f clause))

read_all : (Q : ℕ → Type 0) (c : ℕ) (r : Reading) → Q c → All Q r → All Q (read_code c r)
read_all Q c always_true q all = tt
read_all Q c (so_far clause) q all = read_cases (All Q) c clause (λ h. tt) (λ h. all) (with_code_every Q c clause q all)

read_size : (c : ℕ) (r : Reading) → size (read_code c r) ≤ size r + 1
read_size c always_true = omega arith
read_size c (so_far clause) =
    read_cases (λ r. size r ≤ length clause + 1) c clause (λ h. omega arith) (λ h. omega arith) (omega (arith, with_code_length c clause))

-- ---- the length

closed_length : (r : Reading) → length (closed r) ≤ size r + 1
closed_length (so_far clause) = omega (arith, length-append clause (0 ∷ []))
closed_length always_true = omega arith

length_from : (r : Reading) (zs : List ℤ) → length (encoding_from r zs) ≤ size r + length zs
length_from r [] = omega arith
length_from r (pos zero ∷ zs) =
    let later : length (encoding_from (so_far []) zs) ≤ 0 + length zs = length_from (so_far []) zs in
    omega (arith, length-append (closed r) (encoding_from (so_far []) zs), closed_length r)
length_from r (pos (suc v) ∷ zs) = omega (arith, length_from (read_code (2 * suc v) r) zs, read_size (2 * suc v) r)
length_from r (negsuc v ∷ zs) = omega (arith, length_from (read_code (2 * suc v + 1) r) zs, read_size (2 * suc v + 1) r)

pub encoding_length : (literals : List ℤ) → length (encoding literals) ≤ length literals
unfolding encoding
encoding_length literals = let l : length (encoding_from (so_far []) literals) ≤ 0 + length literals = length_from (so_far []) literals in omega arith

-- ---- every clause has its end

end_behind : (xs : List ℕ) → HasEnd (xs ++ (0 ∷ []))
end_behind [] = tt
end_behind (zero ∷ xs) = tt
end_behind (suc c ∷ xs) = end_behind xs

ended_behind : (xs : List ℕ) → Ended (xs ++ (0 ∷ []))
ended_behind [] = (tt, tt)
ended_behind (x ∷ xs) = (end_behind (x ∷ xs), ended_behind xs)

end_append : (xs ys : List ℕ) → HasEnd xs → HasEnd (xs ++ ys)
end_append [] ys end = absurd end
end_append (zero ∷ xs) ys end = tt
end_append (suc c ∷ xs) ys end = end_append xs ys end

ended_append : (xs ys : List ℕ) → Ended xs → Ended ys → Ended (xs ++ ys)
ended_append [] ys e g = g
ended_append (x ∷ xs) ys e g = (end_append (x ∷ xs) ys e.0, ended_append xs ys e.1 g)

closed_ended : (r : Reading) → Ended (closed r)
closed_ended (so_far clause) = ended_behind clause
closed_ended always_true = tt

ended_from : (r : Reading) (zs : List ℤ) → Ended (encoding_from r zs)
ended_from r [] = tt
ended_from r (pos zero ∷ zs) = ended_append (closed r) (encoding_from (so_far []) zs) (closed_ended r) (ended_from (so_far []) zs)
ended_from r (pos (suc v) ∷ zs) = ended_from (read_code (2 * suc v) r) zs
ended_from r (negsuc v ∷ zs) = ended_from (read_code (2 * suc v + 1) r) zs

-- ---- every code is of an unknown that is named

module _ (n : ℕ) where
  abbrev ZeroOrLiteral : ℕ → Type 0
  ZeroOrLiteral c = 0 < c → IsLiteral n c

  closed_coded : (r : Reading) → All (IsLiteral n) r → Every ZeroOrLiteral (closed r)
  closed_coded (so_far clause) all =
      every_append ZeroOrLiteral clause (0 ∷ []) (every_map (IsLiteral n) ZeroOrLiteral (λ x l p. l) clause all) (λ p. absurd (omega arith), tt)
  closed_coded always_true all = tt

  coded_from : (r : Reading) (zs : List ℤ) → All (IsLiteral n) r → Names n zs → Every ZeroOrLiteral (encoding_from r zs)
  coded_from r [] all names = tt
  coded_from r (pos zero ∷ zs) all names =
      every_append ZeroOrLiteral (closed r) (encoding_from (so_far []) zs) (closed_coded r all)
      (coded_from (so_far []) zs tt (λ i below. names (suc i) (omega arith)))
  coded_from r (pos (suc v) ∷ zs) all names =
      coded_from (read_code (2 * suc v) r) zs (read_all (IsLiteral n) (2 * suc v) r (code_literal n (pos (suc v)) (λ e. omega arith) (names 0 (omega arith)))
      all) (λ i below. names (suc i) (omega arith))
  coded_from r (negsuc v ∷ zs) all names =
      coded_from (read_code (2 * suc v + 1) r) zs
      (read_all (IsLiteral n) (2 * suc v + 1) r (code_literal n (negsuc v) (λ e. omega arith) (names 0 (omega arith))) all)
      (λ i below. names (suc i) (omega arith))

every_at : {A : Type 0} (Q : A → Type 0) (d : A) (xs : List A) → Every Q xs → (i : ℕ) → i < length xs → Q (get_or xs i d)
every_at Q d [] e i below = absurd (omega arith)
every_at Q d (x ∷ xs) e zero below = e.0
every_at Q d (x ∷ xs) e (suc i) below = every_at Q d xs e.1 i (omega arith)

-- ---- the matrix has the same value

-- The value of clauses of which the first has begun with the value b.
abbrev begun : (ℕ → Bool) → Bool → List Clause → Bool
begun f b [] = true
begun f b (c ∷ cs) = (b || clause_at literal_at f c) && matrix_at literal_at cs f

begun_none : (f : ℕ → Bool) (cs : List Clause) → begun f false cs ≡ matrix_at literal_at cs f
begun_none f [] = refl
begun_none f (c ∷ cs) = refl

begun_onto : (f : ℕ → Bool) (b : Bool) (z : ℤ) (cs : List Clause) → 0 < length cs → begun f b (onto z cs) ≡ begun f (b || literal_at f z) cs
begun_onto f b z [] some = absurd (omega arith)
begun_onto f b z (c ∷ cs) some = ap (λ (x : Bool). x && matrix_at literal_at cs f) (sym (or_assoc b (literal_at f z) (clause_at literal_at f c)))

onto_some : (z : ℤ) (cs : List Clause) → 0 < length (onto z cs)
onto_some z [] = omega arith
onto_some z (c ∷ cs) = omega arith

clauses_some : (z : ℤ) (zs : List ℤ) → 0 < length (clauses (z ∷ zs))
clauses_some (pos zero) zs = omega arith
clauses_some (pos (suc v)) zs = onto_some (pos (suc v)) (clauses zs)
clauses_some (negsuc v) zs = onto_some (negsuc v) (clauses zs)

pub ended_later : (z : ℤ) (zs : List ℤ) → ended (z ∷ zs) ≡ true → ended zs ≡ true
ended_later z [] e = refl
ended_later z (y ∷ zs) e = same ∙ e
  where
    same : ended (y ∷ zs) ≡ ended (z ∷ y ∷ zs)
    same = simp sub-one

-- A clause goes on behind a literal.
pub clauses_behind : (z : ℤ) (zs : List ℤ) → (code_of z ≡ 0 → ⊥) → ended (z ∷ zs) ≡ true → 0 < length (clauses zs)
clauses_behind z (y ∷ zs) other e = clauses_some y zs
clauses_behind (pos zero) [] other e = absurd (other refl)
clauses_behind (pos (suc v)) [] other e = absurd (false≢true e)
clauses_behind (negsuc v) [] other e = absurd (false≢true e)

-- The codes up to the first zero are the first clause.
pub clauses_closed : (clause codes : List ℕ) → has 0 clause ≡ false → code_clauses ((clause ++ (0 ∷ [])) ++ codes) ≡ clause ∷ code_clauses codes
clauses_closed [] codes none = refl
clauses_closed (zero ∷ clause) codes none = absurd (true≢false none)
clauses_closed (suc c ∷ clause) codes none = ap (code_onto (suc c)) (clauses_closed clause codes (or_none (eqb 0 (suc c)) (has 0 clause) none).1)

no_zero : (clause : List ℕ) → Every (λ c. 2 ≤ c) clause → has 0 clause ≡ false
no_zero [] two = refl
no_zero (c ∷ clause) two = rw (ne_eqb 0 c (λ e. let above : 2 ≤ c = two.0 in omega arith)) (no_zero clause two.1)

module _ (f : ℕ → Bool) where
  closed_value : (r : Reading) (codes : List ℕ) → All (λ c. 2 ≤ c) r →
      (value f r && matrix_at code_true (code_clauses codes) f) ≡ matrix_at code_true (code_clauses (closed r ++ codes)) f
  closed_value (so_far clause) codes two = ap (λ (xss : List (List ℕ)). matrix_at code_true xss f) (sym (clauses_closed clause codes (no_zero clause two)))
  closed_value always_true codes two = refl

  literal_value : (r : Reading) (z : ℤ) (zs : List ℤ) → (code_of z ≡ 0 → ⊥) → 2 ≤ code_of z → ended (z ∷ zs) ≡ true →
      begun f (value f r) (onto z (clauses zs)) ≡ begun f (value f (read_code (code_of z) r)) (clauses zs)
  literal_value r z zs other two e =
      begun_onto f (value f r) z (clauses zs) (clauses_behind z zs other e)
      ∙ ap (λ (b : Bool). begun f b (clauses zs)) (ap (λ (b : Bool). value f r || b) (sym (code_value f z other)) ∙ sym (read_value f (code_of z) r two))

  value_from : (r : Reading) (zs : List ℤ) → All (λ c. 2 ≤ c) r → ended zs ≡ true →
      begun f (value f r) (clauses zs) ≡ matrix_at code_true (code_clauses (encoding_from r zs)) f
  value_from r [] two e = refl
  value_from r (pos zero ∷ zs) two e =
      ap (λ (b : Bool). b && matrix_at literal_at (clauses zs) f) (or-false (value f r))
      ∙ ap (λ (b : Bool). value f r && b) (sym (begun_none f (clauses zs)) ∙ value_from (so_far []) zs tt (ended_later (pos zero) zs e))
      ∙ closed_value r (encoding_from (so_far []) zs) two
  value_from r (pos (suc v) ∷ zs) two e =
      literal_value r (pos (suc v)) zs (λ z. omega arith) (omega arith) e
      ∙ value_from (read_code (2 * suc v) r) zs (read_all (λ c. 2 ≤ c) (2 * suc v) r (omega arith) two) (ended_later (pos (suc v)) zs e)
  value_from r (negsuc v ∷ zs) two e =
      literal_value r (negsuc v) zs (λ z. omega arith) (omega arith) e
      ∙ value_from (read_code (2 * suc v + 1) r) zs (read_all (λ c. 2 ≤ c) (2 * suc v + 1) r (omega arith) two) (ended_later (negsuc v) zs e)

pub encoding_encoded : (literals : List ℤ) → ended literals ≡ true → Encoded literals (encoding literals)
unfolding encoding
encoding_encoded literals end =
    record {
      same = λ f. sym (begun_none f (clauses literals)) ∙ value_from f (so_far []) literals tt end;
      ended = ended_from (so_far []) literals;
      coded = λ n names. every_at (ZeroOrLiteral n) 0 (encoding literals) (coded_from n (so_far []) literals tt names);
    }

-- ---- what the function makes

none_beyond : (n : ℕ) (literals : List ℤ) → Names n literals → any (beyond n) literals ≡ false
none_beyond n [] names = refl
none_beyond n (z ∷ zs) names = rw (le-ltb n (nat_abs z) (names 0 (omega arith))) (none_beyond n zs (λ i below. names (suc i) (omega arith)))

pub refused_longer : (literals : List ℤ) (places : ℕ) → places < length literals → refused literals places ≡ true
unfolding refused
refused_longer literals places longer = rw (lt-ltb places (length literals) longer)

pub refused_beyond : (literals : List ℤ) (places : ℕ) → any (beyond max_unknowns) literals ≡ true → refused literals places ≡ true
unfolding refused
refused_beyond literals places some = rw some (or-true (ltb places (length literals)))

pub refused_neither : (literals : List ℤ) (places : ℕ) → length literals ≤ places → any (beyond max_unknowns) literals ≡ false → refused literals places ≡ false
unfolding refused
refused_neither literals places room none = rw (le-ltb places (length literals) room) none

pub accepted : (literals : List ℤ) (places : ℕ) → length literals ≤ places → Names max_unknowns literals → refused literals places ≡ false
accepted literals places room names = refused_neither literals places room (none_beyond max_unknowns literals names)

pub nothing_made : (literals : List ℤ) (codes : List ℕ) → refused literals (length codes) ≡ true → (0 ≡ used literals (length codes)) ×
    (codes ≡ filled literals codes)
nothing_made literals codes refuse = rw refuse (refl, refl)

pub all_made : (literals : List ℤ) (codes written cleared : List ℕ) (end : ℕ) → refused literals (length codes) ≡ false → end ≡ length (encoding literals) →
    take end written ≡ encoding literals → length written ≡ length codes
    → cleared ≡ take end written ++ replicate (length written - end) 0 → (end ≡ used literals (length codes)) × (cleared ≡ filled literals codes)
all_made literals codes written cleared end accept counted is sized made =
    rw accept (
      counted,
      made ∙ ap (λ (l : List ℕ). l ++ replicate (length written - end) 0) is
          ∙ ap (λ (n : ℕ). encoding literals ++ replicate (n - end) 0) sized
          ∙ ap (λ (n : ℕ). encoding literals ++ replicate (length codes - n) 0) counted,
    )

module _ (literals : List ℤ) (codes : List ℕ) (accept : refused literals (length codes) ≡ false) where
  pub used_part : take (used literals (length codes)) (filled literals codes) ≡ encoding literals
  used_part = rw accept (take_at (encoding literals) (replicate (length codes - length (encoding literals)) 0) (length (encoding literals)) refl)
