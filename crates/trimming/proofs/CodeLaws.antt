-- Codes and their literals: what is asked of a literal is asked of its code.
-- Assumes nothing.
use Prim.Native.Nat.{ℕ, zero, suc, ◌+◌, ◌*◌, ◌-◌, ◌/◌, ◌%◌, ◌≤◌, ◌<◌}
use native.Mathlib.Omega.{arith}
use mathlib.Core.Path.{◌≡◌, refl, sym, ◌∙◌, ap, subst}
use mathlib.Core.Bool.{Bool, true, false, not, cond}
use mathlib.Core.List.{List, ◌∷◌}
use borrow.Author.Tests.{eqb-true, eqb-false, eq-eqb, ne_eqb}
use lib.Dec.{eqb}
use lib.IntN.{ℤ, pos, negsuc, neg_ℤ}
use lib.ListN.{get_or, get_or-map}
use Rattle.formula.specs.Formula.{max_unknowns, kind_of, prefix}
use Rattle.codes.specs.Codes.{last_code, code_of, opposite}
use Rattle.trimming_rules.specs.Trimming as Trimming
use Rattle.trimming_rules.proofs.ClauseLaws.{Named}
use Rattle.trimming_marks.specs.Marks.{is_universal}
use Rattle.trimming.specs.Private.Table.{literal_of}

-- ---- there and back

pub literal_even : (v : ℕ) → literal_of (2 * v) ≡ pos v
unfolding literal_of
literal_even v =
    ap (λ (b : Bool). cond b (pos (2 * v / 2)) (negsuc (2 * v / 2 - 1))) (eq-eqb (2 * v % 2) 0 (omega arith))
    ∙ ap pos (let e : 2 * v / 2 ≡ v = omega arith in e)

pub literal_odd : (v : ℕ) → literal_of (2 * suc v + 1) ≡ negsuc v
unfolding literal_of
literal_odd v =
    ap (λ (b : Bool). cond b (pos ((2 * suc v + 1) / 2)) (negsuc ((2 * suc v + 1) / 2 - 1))) (ne_eqb ((2 * suc v + 1) % 2) 0 (λ e. omega arith))
    ∙ ap negsuc (let e : (2 * suc v + 1) / 2 - 1 ≡ v = omega arith in e)

pub literal_code : (z : ℤ) → literal_of (code_of z) ≡ z
literal_code (pos v) = literal_even v
literal_code (negsuc v) = literal_odd v

-- A code is that of a literal v or -v.
pub data Form : ℕ → Type 0 where
  even : (v : ℕ) → Form (2 * suc v)
  odd : (v : ℕ) → Form (2 * suc v + 1)

pub form : (c : ℕ) → 2 ≤ c → Form c
form c two = go (eqb (c % 2) 0) refl
  where
    go : (b : Bool) → eqb (c % 2) 0 ≡ b → Form c
    go true e = let p = eqb-true (c % 2) 0 e in subst Form (let q : 2 * suc (c / 2 - 1) ≡ c = omega arith in q) (even (c / 2 - 1))
    go false e = let p = eqb-false (c % 2) 0 e in subst Form (let q : 2 * suc (c / 2 - 1) + 1 ≡ c = omega arith in q) (odd (c / 2 - 1))

-- ---- what is asked of a literal

same_eqb : (a b x y : ℕ) → (a ≡ b → x ≡ y) → (x ≡ y → a ≡ b) → eqb a b ≡ eqb x y
same_eqb a b x y f g = go (eqb x y) refl
  where
    go : (t : Bool) → eqb x y ≡ t → eqb a b ≡ t
    go true e = eq-eqb a b (g (eqb-true x y e))
    go false e = ne_eqb a b (λ p. eqb-false x y e (f p))

pub same_code : (c d : ℕ) → 2 ≤ c → 2 ≤ d → Trimming.same (literal_of c) (literal_of d) ≡ eqb c d
same_code c d p q = go (form c p) (form d q)
  where
    go : {c d : ℕ} → Form c → Form d → Trimming.same (literal_of c) (literal_of d) ≡ eqb c d
    go (even v) (even w) = rw (literal_even (suc v), literal_even (suc w)) (same_eqb (suc v) (suc w) (2 * suc v) (2 * suc w) (λ e. omega arith)
        (λ e. omega arith))
    go (even v) (odd w) = rw (literal_even (suc v), literal_odd w) (sym (ne_eqb (2 * suc v) (2 * suc w + 1) (λ e. omega arith)))
    go (odd v) (even w) = rw (literal_odd v, literal_even (suc w)) (sym (ne_eqb (2 * suc v + 1) (2 * suc w) (λ e. omega arith)))
    go (odd v) (odd w) = rw (literal_odd v, literal_odd w) (same_eqb v w (2 * suc v + 1) (2 * suc w + 1) (λ e. omega arith) (λ e. omega arith))

pub opposite_even : (v : ℕ) → opposite (2 * suc v) ≡ 2 * suc v + 1
unfolding opposite
opposite_even v = ap (λ (b : Bool). cond b (2 * suc v + 1) (2 * suc v - 1)) (eq-eqb (2 * suc v % 2) 0 (omega arith))

pub opposite_odd : (v : ℕ) → opposite (2 * suc v + 1) ≡ 2 * suc v
unfolding opposite
opposite_odd v =
    ap (λ (b : Bool). cond b (2 * suc v + 1 + 1) (2 * suc v + 1 - 1)) (ne_eqb ((2 * suc v + 1) % 2) 0 (λ e. omega arith))
    ∙ (let e : 2 * suc v + 1 - 1 ≡ 2 * suc v = omega arith in e)

pub opposite_literal : (c : ℕ) → 2 ≤ c → neg_ℤ (literal_of c) ≡ literal_of (opposite c)
opposite_literal c two = go (form c two)
  where
    go : {c : ℕ} → Form c → neg_ℤ (literal_of c) ≡ literal_of (opposite c)
    go (even v) = rw (literal_even (suc v), opposite_even v, literal_odd v)
    go (odd v) = rw (literal_odd v, opposite_odd v, literal_even (suc v))

pub opposite_bounds : (c : ℕ) → 2 ≤ c → c < last_code + 1 → (2 ≤ opposite c) × (opposite c < last_code + 1)
opposite_bounds c two small = go (form c two) small
  where
    go : {c : ℕ} → Form c → c < last_code + 1 → (2 ≤ opposite c) × (opposite c < last_code + 1)
    go (even v) s = rw (opposite_even v) (omega arith, omega arith)
    go (odd v) s = rw (opposite_odd v) (omega arith, omega arith)

pub opposite_half : (c : ℕ) → 2 ≤ c → opposite c / 2 ≡ c / 2
opposite_half c two = go (form c two)
  where
    go : {c : ℕ} → Form c → opposite c / 2 ≡ c / 2
    go (even v) = rw (opposite_even v) (omega arith)
    go (odd v) = rw (opposite_odd v) (omega arith)

pub opposite_other : (c : ℕ) → 2 ≤ c → c ≡ opposite c → ⊥
opposite_other c two e = go (form c two) e
  where
    go : {c : ℕ} → Form c → c ≡ opposite c → ⊥
    go (even v) e = let z = e ∙ opposite_even v in omega arith
    go (odd v) e = let z = e ∙ opposite_odd v in omega arith

pub position_code : (c : ℕ) → 2 ≤ c → suc (Trimming.position (literal_of c)) ≡ c / 2
position_code c two = go (form c two)
  where
    go : {c : ℕ} → Form c → suc (Trimming.position (literal_of c)) ≡ c / 2
    go (even v) = rw (literal_even (suc v)) (omega arith)
    go (odd v) = rw (literal_odd v) (omega arith)

pub named_code : (c : ℕ) → 2 ≤ c → c < last_code + 1 → Named max_unknowns (literal_of c)
named_code c two small = go (form c two) small
  where
    go : {c : ℕ} → Form c → c < last_code + 1 → Named max_unknowns (literal_of c)
    go (even v) s = rw (literal_even (suc v)) (record { from_one = omega arith; to_last = omega arith })
    go (odd v) s = rw (literal_odd v) (record { from_one = omega arith; to_last = omega arith })

-- ---- kinds

is_universal_kind : (k : ℕ) → Trimming.is_universal (kind_of k) ≡ not (eqb k 0)
is_universal_kind zero = refl
is_universal_kind (suc k) = sym (ap not (ne_eqb (suc k) 0 (λ e. omega arith)))

pub universal_code : (kinds : List ℕ) (c : ℕ) → 2 ≤ c → Trimming.is_universal (Trimming.kind_at (prefix kinds) (literal_of c)) ≡ is_universal kinds c
unfolding is_universal
universal_code kinds c two =
    ap Trimming.is_universal (get_or-map kind_of kinds (Trimming.position (literal_of c)) 0)
    ∙ is_universal_kind (get_or kinds (Trimming.position (literal_of c)) 0)
    ∙ ap (λ (k : ℕ). not (eqb (get_or (0 ∷ kinds) k 0) 0)) (position_code c two)
