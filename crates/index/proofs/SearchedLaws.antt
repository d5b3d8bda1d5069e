-- The search's clauses are the lent ones that are not always true, in order, each literal once.
-- Assumes nothing.
use Prim.Native.Nat.{ℕ, zero, suc, ◌+◌, ◌*◌, ◌-◌, ◌%◌, ◌≤◌, ◌<◌}
use native.Mathlib.Omega.{arith}
use mathlib.Core.Path.{◌≡◌, refl, sym, ap, ap₂, ◌∙◌, subst}
use mathlib.Core.Logic.{◌⊎◌, inl, inr}
use mathlib.Core.Bool.{Bool, true, false, cond, ◌||◌, or-true, false≢true}
use mathlib.Core.List.{List, [], ◌∷◌, ◌++◌, map, append-nil, append_assoc}
use borrow.Author.Tests.{eqb-true, eqb-false, eq-eqb, ne_eqb}
use lib.Dec.{eqb}
use lib.IntN.{ℤ, pos, negsuc}
use lib.ListN.{length}
use Rattle.formula.specs.Formula.{Clause, onto, clauses}
use Rattle.formula.specs.Causes.{any, ended}
use Rattle.formula.proofs.Any.{or_none}
use Rattle.codes.specs.Codes.{code_of, opposite, has, with_code, Reading, so_far, read_code, closed, encoding_from, encoding}
use Rattle.codes.specs.Codes as Codes
use Rattle.codes.specs.Private.Clauses.{code_clauses}
use Rattle.codes.proofs.EncodeLaws.{even_or_odd, with_code_cases, or_swap, ended_later, clauses_behind, clauses_closed}
use Rattle.codes.proofs.ReadLaws.{has_behind, has_with_code}
use Rattle.index.specs.Searched.{always_true, looked_up, Once, Stand}

-- ---- codes in a clause

eqb_flip : (x y : ℕ) → eqb x y ≡ false → eqb y x ≡ false
eqb_flip x y e = ne_eqb y x (λ q. eqb-false x y e (sym q))

once_behind : (xs : List ℕ) (z : ℕ) → Once xs → has z xs ≡ false → Once (xs ++ (z ∷ []))
once_behind [] z once new = (refl, tt)
once_behind (y ∷ xs) z once new =
    let apart = or_none (eqb z y) (has z xs) new in
    (has_behind y xs z ∙ ap₂ ◌||◌ (eqb_flip z y apart.0) once.0, once_behind xs z once.1 apart.1)

once_with_code : (c : ℕ) (xs : List ℕ) → Once xs → has c xs ≡ false → Once (with_code c xs)
unfolding with_code
once_with_code c [] once new = (refl, tt)
once_with_code c (x ∷ xs) once new =
    let apart = or_none (eqb c x) (has c xs) new in
    with_code_cases Once c x xs
    (λ e. (has_behind c xs x ∙ ap₂ ◌||◌ apart.0 apart.1, once_behind xs x once.1 once.0))
    (λ e. (has_behind x xs c ∙ ap₂ ◌||◌ (eqb_flip c x apart.0) once.0, once_behind xs c once.1 apart.1))

-- ---- a literal and its opposite

opposite_back : (x y : ℕ) → 2 ≤ x → opposite y ≡ x → y ≡ opposite x
unfolding opposite
opposite_back x y two is = go (even_or_odd y)
  where
    go : (y % 2 ≡ 0) ⊎ (y % 2 ≡ 1) → y ≡ cond (eqb (x % 2) 0) (x + 1) (x - 1)
    go (inl even) =
        let there : y + 1 ≡ x = sym (ap (λ (b : Bool). cond b (y + 1) (y - 1)) (eq-eqb (y % 2) 0 even)) ∙ is in
        sym (ap (λ (b : Bool). cond b (x + 1) (x - 1)) (ne_eqb (x % 2) 0 (λ e. omega arith)) ∙ (let back : x - 1 ≡ y = omega arith in back))
    go (inr odd) =
        let there : y - 1 ≡ x = sym (ap (λ (b : Bool). cond b (y + 1) (y - 1)) (ne_eqb (y % 2) 0 (λ e. omega arith))) ∙ is in
        sym (ap (λ (b : Bool). cond b (x + 1) (x - 1)) (eq-eqb (x % 2) 0 (omega arith)) ∙ (let back : x + 1 ≡ y = omega arith in back))

opposite_other : (x : ℕ) → 2 ≤ x → eqb (opposite x) x ≡ false
unfolding opposite
opposite_other x two = go (even_or_odd x)
  where
    go : (x % 2 ≡ 0) ⊎ (x % 2 ≡ 1) → eqb (cond (eqb (x % 2) 0) (x + 1) (x - 1)) x ≡ false
    go (inl even) = rw (eq-eqb (x % 2) 0 even) (ne_eqb (x + 1) x (λ e. omega arith))
    go (inr odd) = rw (ne_eqb (x % 2) 0 (λ e. omega arith)) (ne_eqb (x - 1) x (λ e. omega arith))

-- One code more: what was always true is; what has the opposite is; anything else is as before.
module _ (q : List ℕ) (x : ℕ) where
  abbrev more : List ℕ
  more = q ++ (x ∷ [])

  over : (l : List ℕ) → any (λ y. has (opposite y) more) (l ++ (x ∷ [])) ≡ (has (opposite x) more || any (λ y. has (opposite y) more) l)
  over [] = refl
  over (y ∷ l) = rw (over l) (or_swap (has (opposite y) more) (has (opposite x) more) (any (λ y. has (opposite y) more) l))

  stays_true : always_true q ≡ true → always_true more ≡ true
  stays_true h = over q ∙ ap (λ (b : Bool). has (opposite x) more || b) (each q h) ∙ or-true (has (opposite x) more)
    where
      each : (l : List ℕ) → any (λ y. has (opposite y) q) l ≡ true → any (λ y. has (opposite y) more) l ≡ true
      each [] h = absurd (false≢true h)
      each (y ∷ l) h = go (has (opposite y) q) refl h (each l)
        where
          go : (b : Bool) → has (opposite y) q ≡ b → (b || any (λ y. has (opposite y) q) l) ≡ true →
              (any (λ y. has (opposite y) q) l ≡ true → any (λ y. has (opposite y) more) l ≡ true)
              → (has (opposite y) more || any (λ y. has (opposite y) more) l) ≡ true
          go true e t later = ap (λ (b : Bool). b || any (λ y. has (opposite y) more) l)
              (has_behind (opposite y) q x ∙ ap (λ (b : Bool). eqb (opposite y) x || b) e ∙ or-true (eqb (opposite y) x))
          go false e t later = ap (λ (b : Bool). has (opposite y) more || b) (later t) ∙ or-true (has (opposite y) more)

  made_true : has (opposite x) q ≡ true → always_true more ≡ true
  made_true h =
      over q
      ∙ ap (λ (b : Bool). b || any (λ y. has (opposite y) more) q) (has_behind (opposite x) q x ∙ ap (λ (b : Bool). eqb (opposite x) x || b) h ∙ or-true
      (eqb (opposite x) x))

  stays_open : 2 ≤ x → always_true q ≡ false → has (opposite x) q ≡ false → always_true more ≡ false
  stays_open two clear none =
      over q
      ∙ ap₂ ◌||◌ (has_behind (opposite x) q x ∙ ap₂ ◌||◌ (opposite_other x two) none) (each q clear none)
    where
      each : (l : List ℕ) → any (λ y. has (opposite y) q) l ≡ false → has (opposite x) l ≡ false → any (λ y. has (opposite y) more) l ≡ false
      each [] a b = refl
      each (y ∷ l) a b =
          let here = or_none (has (opposite y) q) (any (λ y. has (opposite y) q) l) a in
          let apart = or_none (eqb (opposite x) y) (has (opposite x) l) b in
          ap₂ ◌||◌
          (has_behind (opposite y) q x ∙ ap₂ ◌||◌ (ne_eqb (opposite y) x (λ e. eqb-false (opposite x) y apart.0 (sym (opposite_back x y two e)))) here.0)
          (each l here.1 apart.1)

-- ---- a clause as far as it is read

-- The codes of the literals that are read are q.
record Open (q c : List ℕ) : Type 0 where
  same : (x : ℕ) → has x c ≡ has x q
  once : Once c
  open_still : always_true q ≡ false
  literals : has 0 q ≡ false

abbrev Read : List ℕ → Reading → Type 0
Read q (so_far c) = Open q c
Read q Codes.always_true = always_true q ≡ true

none_read : Read [] (so_far [])
none_read = record { same = λ x. refl; once = tt; open_still = refl; literals = refl }

one_read : (q : List ℕ) (r : Reading) (x : ℕ) → 2 ≤ x → Read q r → Read (q ++ (x ∷ [])) (read_code x r)
one_read q Codes.always_true x two h = stays_true q x h
one_read q (so_far c) x two h = go (has (opposite x) c) refl (has x c) refl
  where
    no_zero : has 0 (q ++ (x ∷ [])) ≡ false
    no_zero = has_behind 0 q x ∙ ap₂ ◌||◌ (ne_eqb 0 x (λ e. omega arith)) h.literals

    go : (a : Bool) → has (opposite x) c ≡ a → (b : Bool) → has x c ≡ b →
        Read (q ++ (x ∷ [])) (cond a Codes.always_true (cond b (so_far c) (so_far (with_code x c))))
    go true e b f = made_true q x (sym (h.same (opposite x)) ∙ e)
    go false e true f =
        record {
          same = λ y. h.same y ∙ sym (has_behind y q x ∙ absorbed y (eqb y x) refl);
          once = h.once;
          open_still = stays_open q x two h.open_still (sym (h.same (opposite x)) ∙ e);
          literals = no_zero;
        }
      where
        absorbed : (y : ℕ) (b : Bool) → eqb y x ≡ b → (b || has y q) ≡ has y q
        absorbed y true g = sym (ap (λ (n : ℕ). has n q) (eqb-true y x g) ∙ sym (h.same x) ∙ f)
        absorbed y false g = refl
    go false e false f =
        record {
          same = λ y. has_with_code y x c ∙ ap (λ (b : Bool). eqb y x || b) (h.same y) ∙ sym (has_behind y q x);
          once = once_with_code x c h.once f;
          open_still = stays_open q x two h.open_still (sym (h.same (opposite x)) ∙ e);
          literals = no_zero;
        }

-- ---- clause by clause

-- The first of the clauses begins with these literals.
abbrev joined : Clause → List Clause → List Clause
joined p [] = []
joined p (k ∷ ks) = (p ++ k) ∷ ks

joined_none : (ks : List Clause) → joined [] ks ≡ ks
joined_none [] = refl
joined_none (k ∷ ks) = refl

joined_onto : (p : Clause) (z : ℤ) (ks : List Clause) → 0 < length ks → joined p (onto z ks) ≡ joined (p ++ (z ∷ [])) ks
joined_onto p z [] some = absurd (omega arith)
joined_onto p z (k ∷ ks) some = ap (λ (l : Clause). l ∷ ks) (sym (append_assoc p (z ∷ []) k))

codes_behind : (p : Clause) (z : ℤ) → map code_of (p ++ (z ∷ [])) ≡ map code_of p ++ (code_of z ∷ [])
codes_behind [] z = refl
codes_behind (y ∷ p) z = ap (λ (l : List ℕ). code_of y ∷ l) (codes_behind p z)

-- A clause is closed.
clause_closed : (p : Clause) (r : Reading) (ks : List Clause) (codes : List ℕ) → Read (map code_of p) r → Stand (looked_up ks) (code_clauses codes)
    → Stand (looked_up ((p ++ []) ∷ ks)) (code_clauses (closed r ++ codes))
clause_closed p (so_far c) ks codes h rest =
    let whole = append-nil p in
    let open_clause : always_true (map code_of (p ++ [])) ≡ false = ap (λ (l : Clause). always_true (map code_of l)) whole ∙ h.open_still in
    subst (λ (d : List (List ℕ)). Stand (looked_up ((p ++ []) ∷ ks)) d) (sym (clauses_closed c codes (h.same 0 ∙ h.literals)))
    (subst (λ (b : Bool). Stand (cond b (looked_up ks) ((p ++ []) ∷ looked_up ks)) (c ∷ code_clauses codes)) (sym open_clause)
    (record { same = λ x. h.same x ∙ ap (λ (l : Clause). has x (map code_of l)) (sym whole); once = h.once }, rest))
clause_closed p Codes.always_true ks codes h rest =
    subst (λ (b : Bool). Stand (cond b (looked_up ks) ((p ++ []) ∷ looked_up ks)) (code_clauses codes))
    (sym (ap (λ (l : Clause). always_true (map code_of l)) (append-nil p) ∙ h)) rest

stands_from : (p : Clause) (r : Reading) (zs : List ℤ) → Read (map code_of p) r → ended zs ≡ true →
    Stand (looked_up (joined p (clauses zs))) (code_clauses (encoding_from r zs))
stands_from p r [] h e = tt
stands_from p r (pos zero ∷ zs) h e =
    clause_closed p r (clauses zs) (encoding_from (so_far []) zs) h
    (subst (λ (ks : List Clause). Stand (looked_up ks) (code_clauses (encoding_from (so_far []) zs))) (joined_none (clauses zs))
    (stands_from [] (so_far []) zs none_read (ended_later (pos zero) zs e)))
stands_from p r (pos (suc v) ∷ zs) h e =
    subst (λ (ks : List Clause). Stand (looked_up ks) (code_clauses (encoding_from (read_code (2 * suc v) r) zs)))
    (sym (joined_onto p (pos (suc v)) (clauses zs) (clauses_behind (pos (suc v)) zs (λ z. omega arith) e)))
    (stands_from (p ++ (pos (suc v) ∷ [])) (read_code (2 * suc v) r) zs
    (subst (λ (q : List ℕ). Read q (read_code (2 * suc v) r)) (sym (codes_behind p (pos (suc v)))) (one_read (map code_of p) r (2 * suc v) (omega arith) h))
    (ended_later (pos (suc v)) zs e))
stands_from p r (negsuc v ∷ zs) h e =
    subst (λ (ks : List Clause). Stand (looked_up ks) (code_clauses (encoding_from (read_code (2 * suc v + 1) r) zs)))
    (sym (joined_onto p (negsuc v) (clauses zs) (clauses_behind (negsuc v) zs (λ z. omega arith) e)))
    (stands_from (p ++ (negsuc v ∷ [])) (read_code (2 * suc v + 1) r) zs
    (subst (λ (q : List ℕ). Read q (read_code (2 * suc v + 1) r)) (sym (codes_behind p (negsuc v)))
    (one_read (map code_of p) r (2 * suc v + 1) (omega arith) h))
    (ended_later (negsuc v) zs e))

pub search_clauses : (literals : List ℤ) → ended literals ≡ true → Stand (looked_up (clauses literals)) (code_clauses (encoding literals))
unfolding encoding
search_clauses literals e =
    subst (λ (ks : List Clause). Stand (looked_up ks) (code_clauses (encoding_from (so_far []) literals))) (joined_none (clauses literals))
    (stands_from [] (so_far []) literals none_read e)
