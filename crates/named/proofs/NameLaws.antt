-- Lists of names, as one comes to them: which are there, that they stay different, rising and known. Assumes nothing.
use Prim.Native.Nat.{ℕ, zero, suc, ◌≤◌, ◌<◌, min, max}
use native.Mathlib.Omega.{arith}
use native.Mathlib.Decide.{dec_lt}
use mathlib.Core.Path.{◌≡◌, refl, sym, ap, subst, ◌∙◌}
use mathlib.Core.Bool.{Bool, true, false, ◌&&◌, ◌||◌, true≢false, false≢true}
use mathlib.Core.List.{List, [], ◌∷◌, ◌++◌}
use mathlib.Core.Logic.{◌⊎◌, inl, inr}
use borrow.Author.Tests.{eqb-true, eqb-false}
use lib.Dec.{eqb}
use lib.IntN.{ℤ, pos, negsuc}
use lib.ListN.{length, get_or}
use Rattle.named.specs.Named.{among, signed}
use Rattle.named.specs.Names.{In, Distinct, Above, Rising, UpTo, Known}
use Rattle.named.specs.Closing.{insert}

-- Two tests.
pub and_both : (a b : Bool) → (a && b) ≡ true → (a ≡ true) × (b ≡ true)
and_both true b e = (refl, e)
and_both false b e = absurd (false≢true e)

-- The test and what it tests.
pub among_in : (v : ℕ) (xs : List ℕ) → among v xs ≡ true → In v xs
among_in v [] e = absurd (false≢true e)
among_in v (x ∷ xs) e = go (eqb x v) refl e (among_in v xs)
  where
    go : (b : Bool) → eqb x v ≡ b → (b || among v xs) ≡ true → (among v xs ≡ true → In v xs) → In v (x ∷ xs)
    go true q e more = inl (eqb-true x v q)
    go false q e more = inr (more e)

pub in_among : (v : ℕ) (xs : List ℕ) → In v xs → among v xs ≡ true
in_among v [] i = absurd i
in_among v (x ∷ xs) i = go (eqb x v) refl i (in_among v xs)
  where
    go : (b : Bool) → eqb x v ≡ b → In v (x ∷ xs) → (In v xs → among v xs ≡ true) → (b || among v xs) ≡ true
    go true q i more = refl
    go false q (inl e) more = absurd (eqb-false x v q e)
    go false q (inr i) more = more i

pub not_among : (v : ℕ) (xs : List ℕ) → among v xs ≡ false → In v xs → ⊥
not_among v xs e i = true≢false (sym (in_among v xs i) ∙ e)

-- Two lists in a row.
or_assoc : (a b c : Bool) → (a || (b || c)) ≡ ((a || b) || c)
or_assoc true b c = refl
or_assoc false b c = refl

pub among_append : (v : ℕ) (xs ys : List ℕ) → among v (xs ++ ys) ≡ (among v xs || among v ys)
among_append v [] ys = refl
among_append v (x ∷ xs) ys = ap (λ (b : Bool). eqb x v || b) (among_append v xs ys) ∙ or_assoc (eqb x v) (among v xs) (among v ys)

pub in_append : (v : ℕ) (xs ys : List ℕ) → In v (xs ++ ys) → In v xs ⊎ In v ys
in_append v [] ys i = inr i
in_append v (x ∷ xs) ys (inl e) = inl (inl e)
in_append v (x ∷ xs) ys (inr i) = go (in_append v xs ys i)
  where
    go : In v xs ⊎ In v ys → In v (x ∷ xs) ⊎ In v ys
    go (inl j) = inl (inr j)
    go (inr j) = inr j

pub in_front : (v : ℕ) (xs ys : List ℕ) → In v xs → In v (xs ++ ys)
in_front v [] ys i = absurd i
in_front v (x ∷ xs) ys (inl e) = inl e
in_front v (x ∷ xs) ys (inr i) = inr (in_front v xs ys i)

pub in_behind : (v : ℕ) (xs ys : List ℕ) → In v ys → In v (xs ++ ys)
in_behind v [] ys i = i
in_behind v (x ∷ xs) ys i = inr (in_behind v xs ys i)

pub distinct_front : (xs ys : List ℕ) → Distinct (xs ++ ys) → Distinct xs
distinct_front [] ys d = tt
distinct_front (x ∷ xs) ys d = (λ i. d.0 (in_front x xs ys i), distinct_front xs ys d.1)

pub distinct_last : (xs : List ℕ) (v : ℕ) → Distinct (xs ++ (v ∷ [])) → In v xs → ⊥
distinct_last [] v d i = i
distinct_last (x ∷ xs) v d (inl e) = d.0 (in_behind x xs (v ∷ []) (inl (sym e)))
distinct_last (x ∷ xs) v d (inr i) = distinct_last xs v d.1 i

-- A name behind the others, which it is none of.
pub distinct_behind : (xs : List ℕ) (v : ℕ) → Distinct xs → (In v xs → ⊥) → Distinct (xs ++ (v ∷ []))
distinct_behind [] v d new = (λ i. i, tt)
distinct_behind (x ∷ xs) v d new = (λ i. go (in_append x xs (v ∷ []) i), distinct_behind xs v d.1 (λ i. new (inr i)))
  where
    go : In x xs ⊎ In x (v ∷ []) → ⊥
    go (inl i) = d.0 i
    go (inr (inl e)) = new (inl (sym e))
    go (inr (inr i)) = i

pub up_to_in : (m : ℕ) (xs : List ℕ) (v : ℕ) → UpTo m xs → In v xs → v ≤ m
up_to_in m [] v u i = absurd i
up_to_in m (x ∷ xs) v u (inl e) = omega (arith, u.0)
up_to_in m (x ∷ xs) v u (inr i) = up_to_in m xs v u.1 i

pub up_to_at : (m : ℕ) (xs : List ℕ) (i : ℕ) → UpTo m xs → get_or xs i 0 ≤ m
up_to_at m [] i u = omega arith
up_to_at m (x ∷ xs) zero u = u.0
up_to_at m (x ∷ xs) (suc i) u = up_to_at m xs i u.1

pub up_to_append : (m : ℕ) (xs ys : List ℕ) → UpTo m xs → UpTo m ys → UpTo m (xs ++ ys)
up_to_append m [] ys u w = w
up_to_append m (x ∷ xs) ys u w = (u.0, up_to_append m xs ys u.1 w)

-- Entries known among some names are known among others that have these.
pub known_more : (xs ys : List ℕ) → ((v : ℕ) → In v xs → In v ys) → (zs : List ℤ) → Known xs zs → Known ys zs
known_more xs ys more [] k = tt
known_more xs ys more (pos zero ∷ zs) k = known_more xs ys more zs k
known_more xs ys more (pos (suc v) ∷ zs) k = (more (suc v) k.0, known_more xs ys more zs k.1)
known_more xs ys more (negsuc v ∷ zs) k = (more (suc v) k.0, known_more xs ys more zs k.1)

pub known_append : (xs : List ℕ) (zs ws : List ℤ) → Known xs zs → Known xs ws → Known xs (zs ++ ws)
known_append xs [] ws k l = l
known_append xs (pos zero ∷ zs) ws k l = known_append xs zs ws k l
known_append xs (pos (suc v) ∷ zs) ws k l = (k.0, known_append xs zs ws k.1 l)
known_append xs (negsuc v ∷ zs) ws k l = (k.0, known_append xs zs ws k.1 l)

pub known_signed : (xs : List ℕ) (b : Bool) (v : ℕ) → In v xs → Known xs (signed b v ∷ [])
known_signed xs true zero i = tt
known_signed xs true (suc v) i = (i, tt)
known_signed xs false zero i = tt
known_signed xs false (suc v) i = (i, tt)

-- Of two names the smaller and the larger.
data Ordered (v x : ℕ) : Type 0 where
  stays : min v x ≡ v → max v x ≡ x → v ≤ x → Ordered v x
  moves : min v x ≡ x → max v x ≡ v → x ≤ v → Ordered v x

ordered : (v x : ℕ) → Ordered v x
ordered v x = go (dec_lt v x)
  where
    go : Dec (v < x) → Ordered v x
    go (yes h) = stays (omega arith) (omega arith) (omega arith)
    go (no h) = moves (omega arith) (omega arith) (omega arith)

-- The insertion has the name and those before, and no others.
pub length_insert : (v : ℕ) (xs : List ℕ) → length (insert v xs) ≡ suc (length xs)
length_insert v [] = refl
length_insert v (x ∷ xs) = ap suc (length_insert (max v x) xs)

swap_or : (a b c : Bool) → (a || (b || c)) ≡ (b || (a || c))
swap_or true true c = refl
swap_or true false c = refl
swap_or false true c = refl
swap_or false false c = refl

pub among_insert : (w v : ℕ) (xs : List ℕ) → among w (insert v xs) ≡ (eqb v w || among w xs)
among_insert w v [] = refl
among_insert w v (x ∷ xs) = go (ordered v x) (among_insert w (max v x) xs)
  where
    go : Ordered v x → among w (insert (max v x) xs) ≡ (eqb (max v x) w || among w xs)
        → (eqb (min v x) w || among w (insert (max v x) xs)) ≡ (eqb v w || (eqb x w || among w xs))
    go (stays a b l) ih = rw (ih, a, b) refl
    go (moves a b l) ih = rw (ih, a, b) (swap_or (eqb x w) (eqb v w) (among w xs))

-- A name behind others, or among rising ones in front of others, is there as they are.
or_swap : (a b : Bool) → (a || (b || false)) ≡ (b || a)
or_swap true true = refl
or_swap true false = refl
or_swap false true = refl
or_swap false false = refl

pub among_behind : (w v : ℕ) (xs : List ℕ) → among w (xs ++ (v ∷ [])) ≡ (eqb v w || among w xs)
among_behind w v xs = among_append w xs (v ∷ []) ∙ or_swap (among w xs) (eqb v w)

pub among_inserted : (w v : ℕ) (xs ys : List ℕ) → among w (insert v xs ++ ys) ≡ (eqb v w || among w (xs ++ ys))
among_inserted w v xs ys =
    among_append w (insert v xs) ys
    ∙ ap (λ (b : Bool). b || among w ys) (among_insert w v xs)
    ∙ sym (or_assoc (eqb v w) (among w xs) (among w ys))
    ∙ ap (λ (b : Bool). eqb v w || b) (sym (among_append w xs ys))

pub insert_has : (v : ℕ) (xs ys : List ℕ) (w : ℕ) → In w (insert v xs ++ ys) → (v ≡ w) ⊎ In w (xs ++ ys)
insert_has v [] ys w i = i
insert_has v (x ∷ xs) ys w i = go (ordered v x) i (insert_has (max v x) xs ys w)
  where
    under : {m : ℕ} → m ≡ x → (m ≡ w) ⊎ In w (xs ++ ys) → In w (x ∷ (xs ++ ys))
    under e (inl f) = inl (sym e ∙ f)
    under e (inr i) = inr i

    past : {m : ℕ} → m ≡ v → (m ≡ w) ⊎ In w (xs ++ ys) → (v ≡ w) ⊎ In w (x ∷ (xs ++ ys))
    past e (inl f) = inl (sym e ∙ f)
    past e (inr i) = inr (inr i)

    go : Ordered v x → (min v x ≡ w) ⊎ In w (insert (max v x) xs ++ ys) → (In w (insert (max v x) xs ++ ys) → (max v x ≡ w) ⊎ In w (xs ++ ys))
        → (v ≡ w) ⊎ In w (x ∷ (xs ++ ys))
    go (stays a b l) (inl e) more = inl (sym a ∙ e)
    go (stays a b l) (inr i) more = inr (under b (more i))
    go (moves a b l) (inl e) more = inr (inl (sym a ∙ e))
    go (moves a b l) (inr i) more = past b (more i)

pub insert_holds : (v : ℕ) (xs ys : List ℕ) (w : ℕ) → (v ≡ w) ⊎ In w (xs ++ ys) → In w (insert v xs ++ ys)
insert_holds v [] ys w i = i
insert_holds v (x ∷ xs) ys w i = go (ordered v x) i (insert_holds (max v x) xs ys w)
  where
    go : Ordered v x → (v ≡ w) ⊎ In w (x ∷ (xs ++ ys)) → ((max v x ≡ w) ⊎ In w (xs ++ ys) → In w (insert (max v x) xs ++ ys))
        → (min v x ≡ w) ⊎ In w (insert (max v x) xs ++ ys)
    go (stays a b l) (inl e) more = inl (a ∙ e)
    go (stays a b l) (inr (inl e)) more = inr (more (inl (b ∙ e)))
    go (stays a b l) (inr (inr i)) more = inr (more (inr i))
    go (moves a b l) (inl e) more = inr (more (inl (b ∙ e)))
    go (moves a b l) (inr (inl e)) more = inl (a ∙ e)
    go (moves a b l) (inr (inr i)) more = inr (more (inr i))

-- A name that is new leaves the names different, and rising ones rising.
pub distinct_insert : (v : ℕ) (xs ys : List ℕ) → Distinct (xs ++ ys) → (In v (xs ++ ys) → ⊥) → Distinct (insert v xs ++ ys)
distinct_insert v [] ys d new = (new, d)
distinct_insert v (x ∷ xs) ys d new = go (ordered v x) (distinct_insert (max v x) xs ys d.1)
  where
    none : (m w : ℕ) → (m ≡ w → ⊥) → (In w (xs ++ ys) → ⊥) → (m ≡ w) ⊎ In w (xs ++ ys) → ⊥
    none m w a b (inl e) = a e
    none m w a b (inr i) = b i

    go : Ordered v x → ((In (max v x) (xs ++ ys) → ⊥) → Distinct (insert (max v x) xs ++ ys))
        → (In (min v x) (insert (max v x) xs ++ ys) → ⊥) × Distinct (insert (max v x) xs ++ ys)
    go (stays a b l) more = (
      λ i.
          none x v (λ e. new (inl e)) (λ j. new (inr j))
          (insert_has x xs ys v (subst (λ (m : ℕ). In v (insert m xs ++ ys)) b (subst (λ (m : ℕ). In m (insert (max v x) xs ++ ys)) a i))),
      more (λ i. d.0 (subst (λ (m : ℕ). In m (xs ++ ys)) b i)),
    )
    go (moves a b l) more = (
      λ i.
          none v x (λ e. new (inl (sym e))) d.0
          (insert_has v xs ys x (subst (λ (m : ℕ). In x (insert m xs ++ ys)) b (subst (λ (m : ℕ). In m (insert (max v x) xs ++ ys)) a i))),
      more (λ i. new (inr (subst (λ (m : ℕ). In m (xs ++ ys)) b i))),
    )

-- What is above a name is neither it nor below.
above_in : (y w : ℕ) (xs : List ℕ) → Above y xs → In w xs → y < w
above_in y w [] a i = absurd i
above_in y w (x ∷ xs) a (inl e) = omega (arith, a.0)
above_in y w (x ∷ xs) a (inr i) = omega (arith, a.0, above_in x w xs a.1 i)

above_lower : (v x : ℕ) (xs : List ℕ) → v ≤ x → Above x xs → Above v xs
above_lower v x [] l a = tt
above_lower v x (y ∷ xs) l a = (omega (arith, a.0), a.1)

differ : (v x : ℕ) → (x ≡ v → ⊥) → min v x < max v x
differ v x n = go (dec_lt (min v x) (max v x))
  where
    go : Dec (min v x < max v x) → min v x < max v x
    go (yes h) = h
    go (no h) = absurd (n (omega arith))

-- The smaller and the larger of a name and the first of rising ones, which it is none of.
parted : (v x : ℕ) (xs : List ℕ) → Above x xs → (In v (x ∷ xs) → ⊥) → (min v x < max v x) × Above (min v x) xs × (In (max v x) xs → ⊥)
parted v x xs a new = (differ v x (λ e. new (inl e)), above_lower (min v x) x xs (omega arith) a, go (ordered v x))
  where
    go : Ordered v x → In (max v x) xs → ⊥
    go (stays c d l) i = omega (arith, above_in x (max v x) xs a i)
    go (moves c d l) i = new (inr (subst (λ (y : ℕ). In y xs) d i))

above_insert : (m v : ℕ) (xs : List ℕ) → m < v → Above m xs → (In v xs → ⊥) → Above m (insert v xs)
above_insert m v [] h a new = (h, tt)
above_insert m v (x ∷ xs) h a new =
    let p = parted v x xs a.1 new in
    (omega (arith, a.0), above_insert (min v x) (max v x) xs p.0 p.1 p.2)

pub rising_insert : (v : ℕ) (xs : List ℕ) → Rising xs → (In v xs → ⊥) → Rising (insert v xs)
rising_insert v [] r new = tt
rising_insert v (x ∷ xs) r new =
    let p = parted v x xs r new in
    above_insert (min v x) (max v x) xs p.0 p.1 p.2

pub up_to_inserted : (m v : ℕ) (xs ys : List ℕ) → v ≤ m → UpTo m (xs ++ ys) → UpTo m (insert v xs ++ ys)
up_to_inserted m v [] ys h u = (h, u)
up_to_inserted m v (x ∷ xs) ys h u = (omega (arith, u.0), up_to_inserted m (max v x) xs ys (omega (arith, u.0)) u.1)
