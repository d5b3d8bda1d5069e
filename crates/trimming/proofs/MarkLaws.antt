-- What marking does to a clause: an entry that is marked is dropped, and any other stays; a clause that is marked whole is gone.
-- Assumes nothing.
use Prim.Native.Nat.{ℕ, ◌+◌, ◌≤◌, ◌<◌}
use native.Mathlib.Omega.{arith}
use mathlib.Core.Path.{◌≡◌, refl, sym, ◌∙◌, ap, ap₂}
use mathlib.Core.Bool.{Bool, true, false, not, cond, ◌&&◌, ◌||◌}
use mathlib.Core.List.{List, [], ◌∷◌, map}
use borrow.Author.Tests.{ltb-true, ltb-false, le-ltb, lt-ltb, leb-true, le-leb, ne_eqb}
use lib.Dec.{leb, eqb}
use Rattle.formula.specs.Causes.{any}
use Rattle.codes.specs.Codes.{last_code, has}
use Rattle.trimming_rules.specs.Trimming as Trimming
use Rattle.trimming_rules.specs.Trimming.{keep}
use Rattle.trimming_rules.proofs.ClauseLaws.{Every}
use Rattle.trimming_marks.specs.Marks.{is_left, marked}
use Rattle.trimming.specs.Private.Table.{literal_of, Entry}
use Rattle.trimming.proofs.CodeLaws.{same_code}
use Rattle.trimming.proofs.BlockLaws.{left_code}
use Rattle.trimming.proofs.PassLaws.{marked_code}

-- ---- tests over a list

module _ {A B : Type 0} where
  -- What is kept under one test is kept, as it is mapped, under another.
  pub map_keep : (f : A → B) (p : A → Bool) (q : B → Bool) (xs : List A) → Every (λ x. p x ≡ q (f x)) xs → map f (keep p xs) ≡ keep q (map f xs)
  map_keep f p q [] same = refl
  map_keep f p q (x ∷ xs) same = rw same.0 (go (q (f x)) (map_keep f p q xs same.1))
    where
      go : (t : Bool) → map f (keep p xs) ≡ keep q (map f xs) →
          map f (cond t (x ∷ keep p xs) (keep p xs)) ≡ cond t (f x ∷ keep q (map f xs)) (keep q (map f xs))
      go true later = ap (λ (l : List B). f x ∷ l) later
      go false later = later

  -- A test of what is left, mapped.
  pub any_left : (f : A → B) (here : A → Bool) (q : B → Bool) (p : A → Bool) (xs : List A) → Every (λ x. (here x && q (f x)) ≡ p x) xs →
      any q (map f (keep here xs)) ≡ any p xs
  any_left f here q p [] same = refl
  any_left f here q p (x ∷ xs) same = go (here x) refl same.0 (any_left f here q p xs same.1)
    where
      go : (t : Bool) → here x ≡ t → (here x && q (f x)) ≡ p x → any q (map f (keep here xs)) ≡ any p xs →
          any q (map f (cond t (x ∷ keep here xs) (keep here xs))) ≡ (p x || any p xs)
      go true e s later = ap₂ ◌||◌ (ap (λ (b : Bool). b && q (f x)) (sym e) ∙ s) later
      go false e s later = later ∙ ap (λ (b : Bool). b || any p xs) (ap (λ (b : Bool). b && q (f x)) (sym e) ∙ s)

module _ {A : Type 0} where
  pub keep_keep : (p q r : A → Bool) (xs : List A) → Every (λ x. r x ≡ (p x && q x)) xs → keep r xs ≡ keep q (keep p xs)
  keep_keep p q r [] same = refl
  keep_keep p q r (x ∷ xs) same = rw same.0 (go (p x) (q x) refl (keep_keep p q r xs same.1))
    where
      go : (a b : Bool) → q x ≡ b → keep r xs ≡ keep q (keep p xs) → cond (a && b) (x ∷ keep r xs) (keep r xs) ≡ keep q (cond a (x ∷ keep p xs) (keep p xs))
      go true true e later = rw e (ap (λ (l : List A). x ∷ l) later)
      go true false e later = rw e later
      go false b e later = later

  pub every_all : (P : A → Type 0) → ((x : A) → P x) → (xs : List A) → Every P xs
  every_all P f [] = tt
  every_all P f (x ∷ xs) = (f x, every_all P f xs)

-- ---- an entry that is marked

pub marked_stays : (low high x : ℕ) → (low ≤ x → x ≤ high → x < 512 → ⊥) → marked low high x ≡ x
unfolding marked
marked_stays low high x never = go (leb low x) refl (leb x high) refl (is_left x) refl
  where
    go : (a : Bool) → leb low x ≡ a → (b : Bool) → leb x high ≡ b → (c : Bool) → is_left x ≡ c → cond (a && (b && c)) (x + 512) x ≡ x
    go true p true q true r = absurd (never (leb-true low x p) (leb-true x high q) (ltb-true x 512 r))
    go true p true q false r = refl
    go true p false q c r = refl
    go false p b q c r = refl

pub marked_goes : (low high x : ℕ) → low ≤ x → x ≤ high → x < 512 → marked low high x ≡ x + 512
unfolding marked
marked_goes low high x a b c = rw (le-leb low x a, le-leb x high b, lt-ltb x 512 c)

-- Whether an entry is among those marked.
abbrev pub among : ℕ → ℕ → ℕ → Bool
among low high x = leb low x && leb x high

pub left_marked : (low high x : ℕ) → is_left (marked low high x) ≡ (is_left x && not (among low high x))
unfolding marked
left_marked low high x = go (leb low x) (leb x high) (is_left x) refl
  where
    go : (a b c : Bool) → is_left x ≡ c → is_left (cond (a && (b && c)) (x + 512) x) ≡ (c && not (a && b))
    go true true true r = le-ltb (x + 512) 512 (omega arith)
    go true true false r = r
    go true false true r = r
    go true false false r = r
    go false b true r = r
    go false b false r = r

marked_once : (low high x : ℕ) → Entry x → marked low high x < 1024
unfolding marked
marked_once low high x e = go (leb low x) (leb x high) (is_left x) refl
  where
    go : (a b c : Bool) → is_left x ≡ c → cond (a && (b && c)) (x + 512) x < 1024
    go true true true r = let s = ltb-true x 512 r in omega arith
    go true true false r = e.once
    go true false c r = e.once
    go false b c r = e.once

pub marked_entry : (low high x : ℕ) → Entry x → Entry (marked low high x)
marked_entry low high x e =
    record {
      literal = rw (marked_code low high x) e.literal;
      known = rw (marked_code low high x) e.known;
      once = marked_once low high x e;
    }

pub marked_entries : (low high : ℕ) (c : List ℕ) → Every Entry c → Every Entry (map (marked low high) c)
marked_entries low high [] all = tt
marked_entries low high (x ∷ c) all = (marked_entry low high x all.0, marked_entries low high c all.1)

-- What is left of a clause, some of which is marked; an entry that stays has not the mark.
pub keep_marked : (low high : ℕ) (c : List ℕ) → keep is_left (map (marked low high) c) ≡ keep (λ x. not (among low high x)) (keep is_left c)
keep_marked low high [] = refl
keep_marked low high (x ∷ c) = rw (left_marked low high x) (go (is_left x) (among low high x) refl (keep_marked low high c))
  where
    go : (a b : Bool) → among low high x ≡ b → keep is_left (map (marked low high) c) ≡ keep (λ y. not (among low high y)) (keep is_left c)
        → cond (a && not b) (marked low high x ∷ keep is_left (map (marked low high) c)) (keep is_left (map (marked low high) c)) ≡ keep
        (λ y. not (among low high y)) (cond a (x ∷ keep is_left c) (keep is_left c))
    go true true e later = rw e later
    go true false e later = rw e (ap₂ ◌∷◌ (marked_stays low high x (λ p q r. absurd (both p q))) later)
      where
        both : low ≤ x → x ≤ high → ⊥
        both p q = let t : among low high x ≡ true = rw (le-leb low x p) (le-leb x high q) in let z : ◌≡◌ {A = ℕ} 0 1 = cc in omega arith
    go false b e later = later

-- ---- a clause

pub none_marked : (low high : ℕ) → high < low → (c : List ℕ) → map (marked low high) c ≡ c
none_marked low high above [] = refl
none_marked low high above (x ∷ c) = ap₂ ◌∷◌ (marked_stays low high x (λ p q r. omega arith)) (none_marked low high above c)

pub gone_stays : (low high : ℕ) (c : List ℕ) → Every (λ x. Entry x × (512 ≤ x)) c → map (marked low high) c ≡ c
gone_stays low high [] all = refl
gone_stays low high (x ∷ c) all = ap₂ ◌∷◌ (marked_stays low high x (λ p q r. let h = all.0.1 in omega arith)) (gone_stays low high c all.1)

pub all_marked : (c : List ℕ) → Every Entry c → Every (λ x. Entry x × (512 ≤ x)) (map (marked 0 511) c)
all_marked [] all = tt
all_marked (x ∷ c) all = ((marked_entry 0 511 x all.0, above (is_left x) refl), all_marked c all.1)
  where
    above : (t : Bool) → is_left x ≡ t → 512 ≤ marked 0 511 x
    above true l = let s = ltb-true x 512 l in rw (marked_goes 0 511 x (omega arith) (omega arith) s) (omega arith)
    above false l = let s = ltb-false x 512 l in rw (marked_stays 0 511 x (λ p q r. omega arith)) s

-- ---- whether a clause has a literal

pub has_literal : (d : ℕ) → 2 ≤ d → d < last_code + 1 → (c : List ℕ) → Every Entry c → Trimming.has (literal_of d) (map literal_of (keep is_left c)) ≡ has d c
has_literal d two small c all =
    any_left literal_of is_left (Trimming.same (literal_of d)) (eqb d) c (each c all)
  where
    one : (x : ℕ) → Entry x → (t : Bool) → is_left x ≡ t → (t && Trimming.same (literal_of d) (literal_of x)) ≡ eqb d x
    one x e true l = let s = left_code x e l in same_code d x two s.0
    one x e false l = let s = ltb-false x 512 l in sym (ne_eqb d x (λ q. omega arith))

    each : (c : List ℕ) → Every Entry c → Every (λ x. (is_left x && Trimming.same (literal_of d) (literal_of x)) ≡ eqb d x) c
    each [] all = tt
    each (x ∷ c) all = (one x all.0 (is_left x) refl, each c all.1)
