-- Clauses and the matrix where literals and clauses are dropped: what they are worth, and which unknowns they name.
-- Assumes nothing.
use Prim.Native.Nat.{ℕ, zero, suc, ◌≤◌, ◌<◌}
use native.Mathlib.Omega.{arith}
use mathlib.Core.Path.{◌≡◌, refl, sym, ◌∙◌, ap, ap₂, subst}
use mathlib.Core.Logic.{◌⊎◌, inl, inr}
use mathlib.Core.Bool.{Bool, true, false, not, cond, ◌&&◌, ◌||◌, true≢false, false≢true, or-true, beq}
use mathlib.Core.List.{List, [], ◌∷◌}
use mathlib.Core.Option.{Option, none, some}
use lib.Dec.{T, eqb, eqb→eq, eqb_refl}
use lib.IntN.{ℤ, pos, negsuc, neg_ℤ, nat_abs}
use lib.ListN.{get_or}
use Rattle.formula.specs.Formula.{Clause}
pub use Rattle.formula.specs.Lists.{Every, In}
use Rattle.formula.specs.Causes.{any}
use Rattle.formula.specs.Meaning.{literal, clause, matrix}
use Rattle.trimming_rules.specs.Trimming.{same, has, position, keep, behind, without_first, always_true, without_clauses, without_literal, set_true}
use Rattle.trimming_rules.specs.Trimming.{found}
use Rattle.trimming_rules.proofs.MeaningLaws.{Below, AgreeOff, Ignores, literal_at}

-- ---- tests

pub true_or_false : (b : Bool) → (b ≡ true) ⊎ (b ≡ false)
true_or_false true = inl refl
true_or_false false = inr refl

pub never_both : {b : Bool} → b ≡ true → b ≡ false → ⊥
never_both p q = true≢false (sym p ∙ q)

holds : (b : Bool) → b ≡ true → T b
holds true e = tt
holds false e = absurd (false≢true e)

held : (b : Bool) → T b → b ≡ true
held true t = refl
held false t = absurd t

-- ---- literals

pub same_is : (z y : ℤ) → same z y ≡ true → z ≡ y
same_is (pos a) (pos b) e = ap pos (eqb→eq a b (holds (eqb a b) e))
same_is (pos a) (negsuc b) e = absurd (false≢true e)
same_is (negsuc a) (pos b) e = absurd (false≢true e)
same_is (negsuc a) (negsuc b) e = ap negsuc (eqb→eq a b (holds (eqb a b) e))

pub same_itself : (z : ℤ) → same z z ≡ true
same_itself (pos a) = held (eqb a a) (eqb_refl a)
same_itself (negsuc a) = held (eqb a a) (eqb_refl a)

-- 'v or -v with v from 1 to n'
pub record Named (n : ℕ) (z : ℤ) : Type 0 where
  pub from_one : 1 ≤ nat_abs z
  pub to_last : nat_abs z ≤ n

pub opposite_named : (n : ℕ) (z : ℤ) → Named n z → Named n (neg_ℤ z)
opposite_named n (pos zero) h = absurd (let e = h.from_one in omega arith)
opposite_named n (pos (suc v)) h = record { from_one = h.from_one; to_last = h.to_last }
opposite_named n (negsuc v) h = record { from_one = h.from_one; to_last = h.to_last }

pub opposite_false : (n : ℕ) (z : ℤ) → Named n z → (vs : List Bool) → literal vs (neg_ℤ z) ≡ not (literal vs z)
opposite_false n (pos zero) h vs = absurd (let e = h.from_one in omega arith)
opposite_false n (pos (suc v)) h vs = refl
opposite_false n (negsuc v) h vs = go (get_or vs v false)
  where
    go : (b : Bool) → b ≡ not (not b)
    go true = refl
    go false = refl

-- Literals of one unknown are equal or opposite.
pub one_name : (n : ℕ) (z y : ℤ) → Named n z → Named n y → position y ≡ position z → (z ≡ y) ⊎ (neg_ℤ z ≡ y)
one_name n (pos zero) y h k e = absurd (let e = h.from_one in omega arith)
one_name n (pos (suc v)) (pos zero) h k e = absurd (let e = k.from_one in omega arith)
one_name n (pos (suc v)) (pos (suc w)) h k e = inl (ap (λ x. pos (suc x)) (sym e))
one_name n (pos (suc v)) (negsuc w) h k e = inr (ap negsuc (sym e))
one_name n (negsuc v) (pos zero) h k e = absurd (let e = k.from_one in omega arith)
one_name n (negsuc v) (pos (suc w)) h k e = inr (ap (λ x. pos (suc x)) (sym e))
one_name n (negsuc v) (negsuc w) h k e = inl (ap negsuc (sym e))

pub opposite_position : (n : ℕ) (z : ℤ) → Named n z → position (neg_ℤ z) ≡ position z
opposite_position n (pos zero) h = absurd (let e = h.from_one in omega arith)
opposite_position n (pos (suc v)) h = refl
opposite_position n (negsuc v) h = refl

pub position_below : (n : ℕ) (z : ℤ) → Named n z → position z < n
position_below n (pos zero) h = absurd (let e = h.from_one in omega arith)
position_below n (pos (suc v)) h = h.to_last
position_below n (negsuc v) h = h.to_last

-- The value that makes a literal true.
abbrev pub sign : ℤ → Bool
sign (pos v) = true
sign (negsuc v) = false

pub literal_is : (n : ℕ) (z : ℤ) → Named n z → (vs : List Bool) → literal vs z ≡ literal_at (position z) (sign z) vs
literal_is n (pos zero) h vs = absurd (let e = h.from_one in omega arith)
literal_is n (pos (suc v)) h vs = go (get_or vs v false)
  where
    go : (b : Bool) → b ≡ beq b true
    go true = refl
    go false = refl
literal_is n (negsuc v) h vs = go (get_or vs v false)
  where
    go : (b : Bool) → not b ≡ beq b false
    go true = refl
    go false = refl

pub literal_set : (n : ℕ) (z : ℤ) → Named n z → (vs : List Bool) → get_or vs (position z) false ≡ sign z → literal vs z ≡ true
literal_set n (pos zero) h vs e = absurd (let e = h.from_one in omega arith)
literal_set n (pos (suc v)) h vs e = e
literal_set n (negsuc v) h vs e = ap not e

-- A literal of another unknown does not look at position v.
pub literal_ignores : (v : ℕ) (y : ℤ) → (position y ≡ v → ⊥) → (vs ws : List Bool) → AgreeOff v vs ws → literal vs y ≡ literal ws y
literal_ignores v (pos zero) other vs ws a = refl
literal_ignores v (pos (suc w)) other vs ws a = a w other
literal_ignores v (negsuc w) other vs ws a = ap not (a w other)

-- ---- lists

module _ {A : Type 0} where
  pub every_in : (Q : A → Type 0) (xs : List A) (a : A) → Every Q xs → In a xs → Q a
  every_in Q (x ∷ xs) a e (inl p) = subst Q (sym p) e.0
  every_in Q (x ∷ xs) a e (inr i) = every_in Q xs a e.1 i
  every_in Q [] a e x'' = elim x'' [ ]

  pub every_from : (Q : A → Type 0) (xs : List A) → ((a : A) → In a xs → Q a) → Every Q xs
  every_from Q [] f = tt
  every_from Q (x ∷ xs) f = (f x (inl refl), every_from Q xs (λ a i. f a (inr i)))

  pub in_any : (test : A → Bool) (xs : List A) (a : A) → In a xs → test a ≡ true → any test xs ≡ true
  in_any test (x ∷ xs) a (inl p) e = rw (ap test (sym p) ∙ e)
  in_any test (x ∷ xs) a (inr i) e = rw (in_any test xs a i e) (or-true (test x))
  in_any test [] a x'' e = elim x'' [ ]

  pub any_in : (test : A → Bool) (xs : List A) → any test xs ≡ true → (a : A) × In a xs × (test a ≡ true)
  any_in test [] e = absurd (false≢true e)
  any_in test (x ∷ xs) e = go (test x) refl e (any_in test xs)
    where
      go : (t : Bool) → test x ≡ t → (t || any test xs) ≡ true → (any test xs ≡ true → (a : A) × In a xs × (test a ≡ true)) → (a : A) × In a (x ∷ xs) ×
          (test a ≡ true)
      go true p e later = (x, inl refl, p)
      go false p e later = let l = later e in (l.0, inr l.1, l.2)

  pub keep_in : (test : A → Bool) (xs : List A) (a : A) → In a (keep test xs) → In a xs × (test a ≡ true)
  keep_in test (x ∷ xs) a i = go (test x) refl i (keep_in test xs a)
    where
      go : (t : Bool) → test x ≡ t → In a (cond t (x ∷ keep test xs) (keep test xs)) → (In a (keep test xs) → In a xs × (test a ≡ true)) → In a (x ∷ xs) ×
          (test a ≡ true)
      go true p (inl e) later = (inl e, ap test e ∙ p)
      go true p (inr i) later = let l = later i in (inr l.0, l.1)
      go false p i later = let l = later i in (inr l.0, l.1)
  keep_in test [] a i = elim i [ ]

  pub keep_all : (test : A → Bool) (xs : List A) → ((a : A) → In a xs → test a ≡ true) → keep test xs ≡ xs
  keep_all test [] f = refl
  keep_all test (x ∷ xs) f = rw (f x (inl refl), keep_all test xs (λ a i. f a (inr i))) refl

  pub without_in : (test : A → Bool) (xs ys : List A) → without_first test xs ≡ some ys → (a : A) → In a ys → In a xs
  without_in test [] ys e a i = absurd (let z : ◌≡◌ {A = ℕ} 0 1 = cc in omega arith)
  without_in test (x ∷ xs) ys e a i = go (test x) e (without_first test xs) refl (without_in test xs)
    where
      go : (t : Bool) → cond t (some xs) (behind x (without_first test xs)) ≡ some ys → (o : Option (List A)) → without_first test xs ≡ o
          → ((zs : List A) → without_first test xs ≡ some zs → (b : A) → In b zs → In b xs) → In a (x ∷ xs)
      go true e o f later = let s : xs ≡ ys = cc in inr (subst (λ (l : List A). In a l) (sym s) i)
      go false e none f later = absurd (let z : ◌≡◌ {A = ℕ} 0 1 = cc in omega arith)
      go false e (some zs) f later =
          let s : ◌≡◌ {A = List A} (x ∷ zs) ys = cc in
          split (subst (λ (l : List A). In a l) (sym s) i)
        where
          split : In a (x ∷ zs) → In a (x ∷ xs)
          split (inl p) = inl p
          split (inr j) = inr (later zs f a j)

-- The values of a part of the literals of a list.
pub has_in : (z : ℤ) (c : Clause) → has z c ≡ true → In z c
has_in z c e = let f = any_in (same z) c e in subst (λ (y : ℤ). In y c) (sym (same_is z f.0 f.2)) f.1

pub in_has : (z : ℤ) (c : Clause) → In z c → has z c ≡ true
in_has z c i = in_any (same z) c z i (same_itself z)

-- ---- clauses

pub clause_in : (vs : List Bool) (c : Clause) (z : ℤ) → In z c → literal vs z ≡ true → clause vs c ≡ true
clause_in vs (y ∷ c) z (inl p) e = rw (ap (literal vs) (sym p) ∙ e)
clause_in vs (y ∷ c) z (inr i) e = rw (clause_in vs c z i e) (or-true (literal vs y))
clause_in vs [] z x'' e = elim x'' [ ]

pub in_clause : (vs : List Bool) (c : Clause) → clause vs c ≡ true → (z : ℤ) × In z c × (literal vs z ≡ true)
in_clause vs [] e = absurd (false≢true e)
in_clause vs (y ∷ c) e = go (literal vs y) refl e (in_clause vs c)
  where
    go : (t : Bool) → literal vs y ≡ t → (t || clause vs c) ≡ true → (clause vs c ≡ true → (z : ℤ) × In z c × (literal vs z ≡ true)) → (z : ℤ) × In z (y ∷ c) ×
        (literal vs z ≡ true)
    go true p e later = (y, inl refl, p)
    go false p e later = let l = later e in (l.0, inr l.1, l.2)

-- 1. A clause with a literal and its opposite is true.
pub always_true_is : (n : ℕ) (c : Clause) → Every (Named n) c → always_true c ≡ true → (vs : List Bool) → clause vs c ≡ true
always_true_is n c named e vs =
    let f = any_in (λ z. has (neg_ℤ z) c) c e in
    go f.0 f.1 (has_in (neg_ℤ f.0) c f.2) (true_or_false (literal vs f.0))
  where
    go : (z : ℤ) → In z c → In (neg_ℤ z) c → (literal vs z ≡ true) ⊎ (literal vs z ≡ false) → clause vs c ≡ true
    go z i j (inl t) = clause_in vs c z i t
    go z i j (inr f) = clause_in vs c (neg_ℤ z) j (opposite_false n z (every_in (Named n) c z named i) vs ∙ ap not f)

-- A clause without a literal of position v does not look there.
pub clause_ignores : (v : ℕ) (c : Clause) → Every (λ y. position y ≡ v → ⊥) c → Ignores v (λ vs. clause vs c)
clause_ignores v [] other vs ws a = refl
clause_ignores v (y ∷ c) other vs ws a = ap₂ ◌||◌ (literal_ignores v y other.0 vs ws a) (clause_ignores v c other.1 vs ws a)

pub matrix_ignores : (v : ℕ) (cs : List Clause) → Every (Every (λ y. position y ≡ v → ⊥)) cs → Ignores v (matrix cs)
matrix_ignores v [] other vs ws a = refl
matrix_ignores v (c ∷ cs) other vs ws a = ap₂ ◌&&◌ (clause_ignores v c other.0 vs ws a) (matrix_ignores v cs other.1 vs ws a)

-- ---- an unknown is set

pub matrix_in : (vs : List Bool) (cs : List Clause) (c : Clause) → matrix cs vs ≡ true → In c cs → clause vs c ≡ true
matrix_in vs (d ∷ cs) c e (inl p) = ap (clause vs) p ∙ first (clause vs d) e
  where
    first : (t : Bool) → (t && matrix cs vs) ≡ true → t ≡ true
    first true e = refl
    first false e = absurd (false≢true e)
matrix_in vs (d ∷ cs) c e (inr i) = matrix_in vs cs c (later (clause vs d) e) i
  where
    later : (t : Bool) → (t && matrix cs vs) ≡ true → matrix cs vs ≡ true
    later true e = e
    later false e = absurd (false≢true e)
matrix_in vs [] c e x'' = elim x'' [ ]

pub in_matrix : (vs : List Bool) (cs : List Clause) → ((c : Clause) → In c cs → clause vs c ≡ true) → matrix cs vs ≡ true
in_matrix vs [] f = refl
in_matrix vs (c ∷ cs) f = rw (f c (inl refl), in_matrix vs cs (λ d i. f d (inr i)))

not_is_true : (b : Bool) → not b ≡ true → b ≡ false
not_is_true true e = absurd (false≢true e)
not_is_true false e = refl

-- The literals that stay are those of the clause, and a false literal is no loss.
pub without_literal_clause : (vs : List Bool) (z : ℤ) (c : Clause) → literal vs z ≡ false → clause vs (keep (λ y. not (same z y)) c) ≡ clause vs c
without_literal_clause vs z [] f = refl
without_literal_clause vs z (y ∷ c) f = go (same z y) refl (without_literal_clause vs z c f)
  where
    go : (t : Bool) → same z y ≡ t → clause vs (keep (λ y. not (same z y)) c) ≡ clause vs c →
        clause vs (cond (not t) (y ∷ keep (λ y. not (same z y)) c) (keep (λ y. not (same z y)) c)) ≡ clause vs (y ∷ c)
    go true p later = later ∙ sym (ap (λ b. b || clause vs c) (ap (literal vs) (sym (same_is z y p)) ∙ f))
    go false p later = ap (λ b. literal vs y || b) later

pub without_literal_matrix : (vs : List Bool) (z : ℤ) (cs : List Clause) → literal vs z ≡ false → matrix (without_literal z cs) vs ≡ matrix cs vs
without_literal_matrix vs z [] f = refl
without_literal_matrix vs z (c ∷ cs) f = ap₂ ◌&&◌ (without_literal_clause vs z c f) (without_literal_matrix vs z cs f)

-- A clause with a true literal is no loss.
pub without_clauses_matrix : (vs : List Bool) (z : ℤ) (cs : List Clause) → literal vs z ≡ true → matrix (without_clauses z cs) vs ≡ matrix cs vs
without_clauses_matrix vs z [] t = refl
without_clauses_matrix vs z (c ∷ cs) t = go (has z c) refl (without_clauses_matrix vs z cs t)
  where
    go : (h : Bool) → has z c ≡ h → matrix (without_clauses z cs) vs ≡ matrix cs vs →
        matrix (cond (not h) (c ∷ without_clauses z cs) (without_clauses z cs)) vs ≡ matrix (c ∷ cs) vs
    go true p later = later ∙ sym (ap (λ b. b && matrix cs vs) (clause_in vs c z (has_in z c p) t))
    go false p later = ap (λ b. clause vs c && b) later

pub set_true_matrix : (n : ℕ) (z : ℤ) → Named n z → (cs : List Clause) (vs : List Bool) → literal vs z ≡ true → matrix cs vs ≡ matrix (set_true z cs) vs
set_true_matrix n z named cs vs t =
    sym (without_literal_matrix vs (neg_ℤ z) (without_clauses z cs) (opposite_false n z named vs ∙ ap not t) ∙ without_clauses_matrix vs z cs t)

-- No literal of the unknown is left.
pub set_true_ignores : (n : ℕ) (z : ℤ) → Named n z → (cs : List Clause) → Every (Every (Named n)) cs → Ignores (position z) (matrix (set_true z cs))
set_true_ignores n z named cs within = matrix_ignores (position z) (set_true z cs) (each cs within)
  where
    inside : (c : Clause) → Every (Named n) c → has z c ≡ false → (y : ℤ) → In y (keep (λ x. not (same (neg_ℤ z) x)) c) → position y ≡ position z → ⊥
    inside c names absent y i e = go (one_name n z y named (every_in (Named n) c y names stays.0) e)
      where
        stays : In y c × (not (same (neg_ℤ z) y) ≡ true)
        stays = keep_in (λ x. not (same (neg_ℤ z) x)) c y i

        go : (z ≡ y) ⊎ (neg_ℤ z ≡ y) → ⊥
        go (inl p) = never_both (in_has z c (subst (λ (x : ℤ). In x c) (sym p) stays.0)) absent
        go (inr p) = never_both (subst (λ (x : ℤ). same (neg_ℤ z) x ≡ true) p (same_itself (neg_ℤ z))) (not_is_true (same (neg_ℤ z) y) stays.1)

    each : (cs : List Clause) → Every (Every (Named n)) cs → Every (Every (λ y. position y ≡ position z → ⊥)) (set_true z cs)
    each [] within = tt
    each (c ∷ cs) within = go (has z c) refl (each cs within.1)
      where
        go : (h : Bool) → has z c ≡ h → Every (Every (λ y. position y ≡ position z → ⊥)) (set_true z cs)
            → Every (Every (λ y. position y ≡ position z → ⊥)) (without_literal (neg_ℤ z) (cond (not h) (c ∷ without_clauses z cs) (without_clauses z cs)))
        go true p later = later
        go false p later = (every_from (λ y. position y ≡ position z → ⊥) (keep (λ x. not (same (neg_ℤ z) x)) c) (inside c within.0 p), later)

-- Fewer clauses are true where all were; and where clauses with fewer literals are true, the whole ones are.
pub without_clauses_below : (z : ℤ) (cs : List Clause) → Below (matrix cs) (matrix (without_clauses z cs))
without_clauses_below z cs vs e = in_matrix vs (without_clauses z cs) (λ c i. matrix_in vs cs c e (keep_in (λ d. not (has z d)) cs c i).0)

pub without_literal_below : (z : ℤ) (cs : List Clause) → Below (matrix (without_literal z cs)) (matrix cs)
without_literal_below z [] vs e = refl
without_literal_below z (c ∷ cs) vs e = rw (first, without_literal_below z cs vs second)
  where
    split : (a b : Bool) → (a && b) ≡ true → (a ≡ true) × (b ≡ true)
    split true b e = (refl, e)
    split false b e = absurd (false≢true e)

    parts : (clause vs (keep (λ y. not (same z y)) c) ≡ true) × (matrix (without_literal z cs) vs ≡ true)
    parts = split (clause vs (keep (λ y. not (same z y)) c)) (matrix (without_literal z cs) vs) e

    second : matrix (without_literal z cs) vs ≡ true
    second = parts.1

    first : clause vs c ≡ true
    first = let f = in_clause vs (keep (λ y. not (same z y)) c) parts.0 in clause_in vs c f.0 (keep_in (λ y. not (same z y)) c f.0 f.1).0 f.2

-- What is not found is not dropped.
pub without_literal_none : (z : ℤ) (cs : List Clause) → found z cs ≡ false → without_literal z cs ≡ cs
without_literal_none z [] e = refl
without_literal_none z (c ∷ cs) e = ap₂ ◌∷◌ (keep_all (λ y. not (same z y)) c stays) (without_literal_none z cs (second (has z c) e))
  where
    first : (a : Bool) → (a || found z cs) ≡ false → a ≡ false
    first true e = absurd (true≢false e)
    first false e = refl

    second : (a : Bool) → (a || found z cs) ≡ false → found z cs ≡ false
    second true e = absurd (true≢false e)
    second false e = e

    stays : (y : ℤ) → In y c → not (same z y) ≡ true
    stays y i = go (true_or_false (same z y))
      where
        go : (same z y ≡ true) ⊎ (same z y ≡ false) → not (same z y) ≡ true
        go (inl t) = absurd (never_both (in_any (same z) c y i t) (first (has z c) e))
        go (inr f) = ap not f

pub without_clauses_none : (z : ℤ) (cs : List Clause) → found z cs ≡ false → without_clauses z cs ≡ cs
without_clauses_none z cs e = keep_all (λ c. not (has z c)) cs stays
  where
    stays : (c : Clause) → In c cs → not (has z c) ≡ true
    stays c i = go (true_or_false (has z c))
      where
        go : (has z c ≡ true) ⊎ (has z c ≡ false) → not (has z c) ≡ true
        go (inl t) = absurd (never_both (in_any (has z) cs c i t) e)
        go (inr f) = ap not f
