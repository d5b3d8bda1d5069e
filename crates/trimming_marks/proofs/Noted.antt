-- A table with a 1 at each code that a clause has says which codes it has.
-- Assumes nothing.
use Prim.Native.Nat.{ℕ, ◌+◌, ◌<◌}
use native.Mathlib.Omega.{arith}
use mathlib.Core.Path.{◌≡◌, refl, ◌∙◌, ap, ap₂}
use mathlib.Core.Bool.{Bool, true, false, cond, ◌&&◌, ◌||◌, or-false}
use mathlib.Core.List.{List, [], ◌∷◌}
use borrow.Author.Tests.{ltb-true, ltb-false, eqb-true, eqb-false}
use lib.Dec.{ltb, eqb}
use lib.ListN.{length, get_or, set, replicate, length-set, length-replicate, get_or-replicate}
use lib.Seq.{get_or-set_same, get_or-set_other}
use Rattle.formula.specs.Causes.{any}
use Rattle.codes.specs.Codes.{last_code, opposite, has}
use Rattle.codes.proofs.ReadLaws.{opposite_below}
use Rattle.trimming_marks.specs.Marks.{clashes, always_true, noted_one, noted, noted_clash}

-- Whether a 1 stands at a code.
abbrev pub stands : List ℕ → ℕ → Bool
stands seen c = eqb (get_or seen c 0) 1

noted_one_stands : (seen : List ℕ) (x c : ℕ) → length seen ≡ last_code + 1 → c < last_code + 1 → stands (noted_one seen x) c ≡ (eqb c x || stands seen c)
unfolding noted_one
noted_one_stands seen x c size small = go (ltb x (last_code + 1)) refl (eqb c x) refl
  where
    go : (fits : Bool) → ltb x (last_code + 1) ≡ fits → (e : Bool) → eqb c x ≡ e → stands (cond fits (set seen x 1) seen) c ≡ (e || stands seen c)
    go true f true e = ap (λ (y : ℕ). eqb y 1) (ap (λ (k : ℕ). get_or (set seen x 1) k 0) (eqb-true c x e) ∙ get_or-set_same seen x 1 0
        (let l = ltb-true x (last_code + 1) f in omega arith))
    go true f false e = ap (λ (y : ℕ). eqb y 1) (get_or-set_other seen x c 1 0 (eqb-false c x e))
    go false f true e = absurd (let l = ltb-false x (last_code + 1) f in let s = eqb-true c x e in omega arith)
    go false f false e = refl

length_noted_one : (seen : List ℕ) (x : ℕ) → length (noted_one seen x) ≡ length seen
unfolding noted_one
length_noted_one seen x = go (ltb x (last_code + 1))
  where
    go : (fits : Bool) → length (cond fits (set seen x 1) seen) ≡ length seen
    go true = length-set seen x 1
    go false = refl

or_swap : (a b c : Bool) → (a || (b || c)) ≡ ((b || a) || c)
or_swap true true c = refl
or_swap true false c = refl
or_swap false true c = refl
or_swap false false c = refl

pub noted_stands : (clause seen : List ℕ) (c : ℕ) → length seen ≡ last_code + 1 → c < last_code + 1 →
    stands (noted seen clause) c ≡ (has c clause || stands seen c)
noted_stands [] seen c size small = refl
noted_stands (x ∷ xs) seen c size small =
    noted_stands xs (noted_one seen x) c (length_noted_one seen x ∙ size) small
    ∙ ap (λ (b : Bool). has c xs || b) (noted_one_stands seen x c size small)
    ∙ or_swap (has c xs) (eqb c x) (stands seen c)

noted_clash_is : (clause : List ℕ) (x : ℕ) → noted_clash (noted (replicate (last_code + 1) 0) clause) x ≡ clashes clause x
unfolding noted_clash
noted_clash_is clause x = go (ltb x (last_code + 1)) refl
  where
    go : (small : Bool) → ltb x (last_code + 1) ≡ small →
        (small && stands (noted (replicate (last_code + 1) 0) clause) (opposite x)) ≡ (small && has (opposite x) clause)
    go true s =
        let o = opposite_below x (ltb-true x (last_code + 1) s) in
        noted_stands clause (replicate (last_code + 1) 0) (opposite x) (length-replicate {A = ℕ} (last_code + 1) 0) o
        ∙ ap (λ (y : ℕ). has (opposite x) clause || eqb y 1) (get_or-replicate {A = ℕ} (last_code + 1) (opposite x) 0 0 o)
        ∙ or-false (has (opposite x) clause)
    go false s = refl

any_same : (f g : ℕ → Bool) → ((x : ℕ) → f x ≡ g x) → (xs : List ℕ) → any f xs ≡ any g xs
any_same f g e [] = refl
any_same f g e (x ∷ xs) = ap₂ ◌||◌ (e x) (any_same f g e xs)

pub noted_always_true : (clause : List ℕ) → any (noted_clash (noted (replicate (last_code + 1) 0) clause)) clause ≡ always_true clause
noted_always_true clause = any_same (noted_clash (noted (replicate (last_code + 1) 0) clause)) (clashes clause) (noted_clash_is clause) clause
