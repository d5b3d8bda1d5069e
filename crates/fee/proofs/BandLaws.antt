-- What the bands add up to is a price for each round, added up. Assumes nothing.
use Prim.Native.Nat.{ℕ, zero, suc, ◌+◌, ◌*◌, ◌-◌, ◌<◌, ◌≤◌}
use native.Mathlib.Omega.{arith}
use native.Mathlib.Nat.{suc-mul, zero-mul, suc-ne-zero, suc_inj, sub-zero, suc-sub-suc}
use mathlib.Core.Path.{◌≡◌, refl, sym, ap, ◌∙◌}
use mathlib.Core.Bool.{Bool, true, false, cond, and-eq-true_iff}
use mathlib.Core.List.{List, [], ◌∷◌}
use lib.Dec.{leb, ltb}
use lib.ListN.{length}
use borrow.Author.Tests.{leb-true, leb-false, ltb-true, lt-leb, le-leb}
use Rattle.fee.specs.Fee.{total}
use Rattle.fee.specs.Bands.{last_price, price_with, rises}
use Rattle.fee.specs.ByBands.{by_bands}

module _ (f g : ℕ) (fs : List ℕ) (e : rises (f ∷ g ∷ fs) ≡ true) where
  pub rise_here : f < g
  rise_here = ltb-true f g ((and-eq-true_iff (ltb f g) (rises (g ∷ fs))).0 e).0

  pub rise_later : rises (g ∷ fs) ≡ true
  rise_later = ((and-eq-true_iff (ltb f g) (rises (g ∷ fs))).0 e).1

-- A band that begins after round r, and those behind it, don't matter to r ..
pub none_begun : (p r f : ℕ) (fs ps : List ℕ) → r < f → rises (f ∷ fs) ≡ true → last_price p (f ∷ fs) ps r ≡ p
none_begun p r f fs [] h e = refl
none_begun p r f [] (q ∷ qs) h e = rw (lt-leb f r h)
none_begun p r f (g ∷ gs) (q ∷ qs) h e =
    let l : f < g = rise_here f g gs e in
    ap (λ (b : Bool). last_price (cond b q p) (g ∷ gs) qs r) (lt-leb f r h) ∙ none_begun p r g gs qs (omega arith) (rise_later f g gs e)

-- .. and no round up to r counts for them.
none_counted : (r f : ℕ) (fs ps : List ℕ) → r < f → rises (f ∷ fs) ≡ true → by_bands r (f ∷ fs) ps ≡ 0
none_counted r f fs [] h e = refl
none_counted r f [] (p ∷ ps) h e = let z : suc r - f ≡ 0 = omega arith in rw (z, zero-mul p)
none_counted r f (g ∷ gs) (p ∷ ps) h e =
    let z : suc r - f ≡ 0 = omega arith in
    let l : f < g = rise_here f g gs e in
    let y : suc r - g ≡ 0 = omega arith in
    rw (z, y, zero-mul p, none_counted r g gs ps (omega arith) (rise_later f g gs e))

-- What round r costs where p is the price of the band that begins at f, and the bands behind it follow.
abbrev cost : ℕ → ℕ → List ℕ → List ℕ → ℕ → ℕ
cost p f fs ps r = cond (leb f r) (last_price p fs ps r) 0

not_yet : (r p f : ℕ) (fs ps : List ℕ) → rises (f ∷ fs) ≡ true → suc r < f
    → by_bands (suc r) (f ∷ fs) (p ∷ ps) ≡ by_bands r (f ∷ fs) (p ∷ ps) + cost p f fs ps (suc r)
not_yet r p f fs ps e l =
    none_counted (suc r) f fs (p ∷ ps) l e ∙ sym (rw (none_counted r f fs (p ∷ ps) (omega arith) e, lt-leb f (suc r) l))

-- One round more, from a band's first round on.
one_on : (r f : ℕ) → f ≤ suc r → suc (suc r) - f ≡ suc (suc r - f)
one_on r f l = omega arith

both_on : (r f g : ℕ) → f ≤ suc r → g ≤ suc r → suc (suc r) - f - (suc (suc r) - g) ≡ suc r - f - (suc r - g)
both_on r f g l m = rw (one_on r f l, one_on r g m, suc-sub-suc (suc r - f) (suc r - g))

only_on : (r f g : ℕ) → f ≤ suc r → suc r < g → suc (suc r) - f - (suc (suc r) - g) ≡ suc (suc r - f - (suc r - g))
only_on r f g l m =
    let none : suc (suc r) - g ≡ 0 = omega arith in
    let before : suc r - g ≡ 0 = omega arith in
    rw (one_on r f l, none, before, sub-zero (suc r - f), sub-zero (suc (suc r - f)))

alone : (r p f : ℕ) (ps : List ℕ) → by_bands (suc r) (f ∷ []) (p ∷ ps) ≡ by_bands r (f ∷ []) (p ∷ ps) + cost p f [] ps (suc r)
alone r p f ps = cases (leb f (suc r)) refl
  where
    once_more : (a : ℕ) → (suc a - 0) * p + 0 ≡ ((a - 0) * p + 0) + p
    once_more a = rw (sub-zero (suc a), sub-zero a, suc-mul a p) (omega arith)

    cases : (b : Bool) → leb f (suc r) ≡ b → by_bands (suc r) (f ∷ []) (p ∷ ps) ≡ by_bands r (f ∷ []) (p ∷ ps) + cond b p 0
    cases true h = rw (one_on r f (leb-true _ _ h)) (once_more (suc r - f))
    cases false h = not_yet r p f [] ps refl (leb-false _ _ h) ∙ ap (λ (b : Bool). by_bands r (f ∷ []) (p ∷ ps) + cond b p 0) h

followed : (r p f x g : ℕ) (gs xs : List ℕ) → rises (f ∷ g ∷ gs) ≡ true
    → by_bands (suc r) (g ∷ gs) (x ∷ xs) ≡ by_bands r (g ∷ gs) (x ∷ xs) + cost x g gs xs (suc r)
    → by_bands (suc r) (f ∷ g ∷ gs) (p ∷ x ∷ xs) ≡ by_bands r (f ∷ g ∷ gs) (p ∷ x ∷ xs) + cost p f (g ∷ gs) (x ∷ xs) (suc r)
followed r p f x g gs xs e later = at_f (leb f (suc r)) refl
  where
    B : ℕ
    B = by_bands r (g ∷ gs) (x ∷ xs)

    more : (a b d B' : ℕ) → a ≡ b → B' ≡ B + d → a * p + B' ≡ (b * p + B) + d
    more a b d B' u w = rw (u, w) (omega arith)

    more_one : (a b B' : ℕ) → a ≡ suc b → B' ≡ B + 0 → a * p + B' ≡ (b * p + B) + p
    more_one a b B' u w = rw (u, w, suc-mul b p) (omega arith)

    at_g : f ≤ suc r → (b : Bool) → leb g (suc r) ≡ b
        → by_bands (suc r) (f ∷ g ∷ gs) (p ∷ x ∷ xs) ≡ by_bands r (f ∷ g ∷ gs) (p ∷ x ∷ xs) + last_price (cond b x p) gs xs (suc r)
    at_g l true h =
        more (suc (suc r) - f - (suc (suc r) - g)) (suc r - f - (suc r - g)) (last_price x gs xs (suc r)) (by_bands (suc r) (g ∷ gs) (x ∷ xs))
        (both_on r f g l (leb-true _ _ h)) (later ∙ ap (λ (c : Bool). B + cond c (last_price x gs xs (suc r)) 0) h)
    at_g l false h =
        let m : suc r < g = leb-false _ _ h in
        let c : last_price p (g ∷ gs) (x ∷ xs) (suc r) ≡ p = none_begun p (suc r) g gs (x ∷ xs) m (rise_later f g gs e) in
        let d : last_price p gs xs (suc r) ≡ p = ap (λ (t : Bool). last_price (cond t x p) gs xs (suc r)) (sym h) ∙ c in
        more_one (suc (suc r) - f - (suc (suc r) - g)) (suc r - f - (suc r - g)) (by_bands (suc r) (g ∷ gs) (x ∷ xs))
        (only_on r f g l m) (later ∙ ap (λ (c : Bool). B + cond c (last_price x gs xs (suc r)) 0) h)
        ∙ ap (λ (z : ℕ). by_bands r (f ∷ g ∷ gs) (p ∷ x ∷ xs) + z) (sym d)

    at_f : (b : Bool) → leb f (suc r) ≡ b
        → by_bands (suc r) (f ∷ g ∷ gs) (p ∷ x ∷ xs) ≡ by_bands r (f ∷ g ∷ gs) (p ∷ x ∷ xs) + cond b (last_price p (g ∷ gs) (x ∷ xs) (suc r)) 0
    at_f true h = at_g (leb-true _ _ h) (leb g (suc r)) refl
    at_f false h =
        not_yet r p f (g ∷ gs) (x ∷ xs) e (leb-false _ _ h)
        ∙ ap (λ (b : Bool). by_bands r (f ∷ g ∷ gs) (p ∷ x ∷ xs) + cond b (last_price p (g ∷ gs) (x ∷ xs) (suc r)) 0) h

-- One round more costs the price of the last band that begins no later.
one_more : (r p f : ℕ) (fs ps : List ℕ) → rises (f ∷ fs) ≡ true → length fs ≡ length ps
    → by_bands (suc r) (f ∷ fs) (p ∷ ps) ≡ by_bands r (f ∷ fs) (p ∷ ps) + cost p f fs ps (suc r)
one_more r p f [] ps e n = alone r p f ps
one_more r p f (g ∷ gs) [] e n = absurd (suc-ne-zero (length gs) n)
one_more r p f (g ∷ gs) (x ∷ xs) e n = followed r p f x g gs xs e (one_more r x g gs xs (rise_later f g gs e) (suc_inj n))

pub by_round : (f p : ℕ) (fs ps : List ℕ) → f ≡ 1 → rises (f ∷ fs) ≡ true → length fs ≡ length ps
    → (r : ℕ) → by_bands r (f ∷ fs) (p ∷ ps) ≡ total (price_with (f ∷ fs) (p ∷ ps)) r
by_round f p fs ps first e n zero = none_counted 0 f fs (p ∷ ps) (omega arith) e
by_round f p fs ps first e n (suc r) = one_more r p f fs ps e n ∙ rw (by_round f p fs ps first e n r, le-leb f (suc r) (omega arith))
