-- What is left of an entry, as the code tests it, and how long it is. Assumes nothing.
use Prim.Native.Nat.{ℕ, zero, suc, ◌+◌, ◌-◌, ◌*◌, ◌≤◌, ◌<◌}
use native.Mathlib.Omega.{arith}
use mathlib.Core.Path.{◌≡◌, refl, ap, ◌∙◌}
use mathlib.Core.Bool.{Bool, true, false, not, cond}
use mathlib.Core.List.{List, [], ◌∷◌, ◌++◌}
use borrow.Author.Tests.{eq-eqb, ne_eqb, lt-ltb, le-ltb}
use lib.Dec.{eqb, ltb}
use lib.IntN.{ℤ, pos, negsuc, nat_abs}
use lib.Signed.{lt_z}
use lib.ListN.{length, get_or, drop, length-append}
use Rattle.formula.specs.Literal.{negative, magnitude_at, negative_at}
use Rattle.formula.proofs.Places.{drop_front}
use Rattle.numerals.proofs.DigitLaws.{decimal_most}
use Rattle.report.specs.Report.{ascii, decimal}
use Rattle.cnf_text.specs.Private.Walk.{place_of, literal_bytes, end_bytes, copy_bytes, entry_bytes, kept_behind, number_behind, walk, kept_from, walked, row_bytes, Low}

pub literal_minus : (minus : Bool) (v : ℕ) → minus ≡ true → literal_bytes minus v ≡ ascii "-" ++ (decimal v ++ ascii " ")
literal_minus minus v e = rw e refl

pub literal_plain : (minus : Bool) (v : ℕ) → minus ≡ false → literal_bytes minus v ≡ decimal v ++ ascii " "
literal_plain minus v e = rw e refl

module _ (style t : ℕ) where
  pub end_zero : style ≡ 0 → end_bytes style t ≡ ascii "0\n"
  end_zero e = rw e refl

  pub end_one : style ≡ 1 → end_bytes style t ≡ []
  end_one e = rw e refl

  pub copy_zero : (minus : Bool) (v : ℕ) → style ≡ 0 → copy_bytes style t minus v ≡ literal_bytes minus v
  copy_zero minus v e = rw e refl

  pub copy_one : (minus : Bool) (v : ℕ) → style ≡ 1 → copy_bytes style t minus v ≡ literal_bytes true (t + 1) ++ literal_bytes (not minus) v ++ ascii "0\n"
  copy_one minus v e = rw e refl

pub end_other : (style t : ℕ) → (style ≡ 0 → ⊥) → (style ≡ 1 → ⊥) → end_bytes style t ≡ literal_bytes false (t + 1)
end_other zero t a b = absurd (a refl)
end_other (suc zero) t a b = absurd (b refl)
end_other (suc (suc style)) t a b = refl

pub copy_other : (style t : ℕ) (minus : Bool) (v : ℕ) → (style ≡ 0 → ⊥) → (style ≡ 1 → ⊥) → copy_bytes style t minus v ≡ []
copy_other zero t minus v a b = absurd (a refl)
copy_other (suc zero) t minus v a b = absurd (b refl)
copy_other (suc (suc style)) t minus v a b = refl

module _ (places : List ℕ) (style t : ℕ) (minus : Bool) (name : ℕ) where
  pub entry_dropped : (kept : Bool) → kept ≡ false → entry_bytes places style kept t minus name ≡ []
  entry_dropped kept e = rw e refl

  pub entry_end : (kept : Bool) → kept ≡ true → name ≡ 0 → entry_bytes places style kept t minus name ≡ end_bytes style t
  entry_end kept e zero_name = rw (e, eq-eqb name 0 zero_name) refl

  pub entry_value : (kept : Bool) → kept ≡ true → (name ≡ 0 → ⊥) → place_of places name < 2 → entry_bytes places style kept t minus name ≡ []
  entry_value kept e other low = rw (e, ne_eqb name 0 other, lt-ltb (place_of places name) 2 low) refl

  pub entry_copy : (kept : Bool) → kept ≡ true → (name ≡ 0 → ⊥) → 2 ≤ place_of places name
      → entry_bytes places style kept t minus name ≡ copy_bytes style t minus (place_of places name - 1)
  entry_copy kept e other high = rw (e, ne_eqb name 0 other, le-ltb (place_of places name) 2 high) refl

-- ---- the walk

pub sign_read : (z : ℤ) → lt_z z (pos 0) ≡ negative z
sign_read (pos n) = le-ltb n 0 (omega arith)
sign_read (negsuc n) = refl

module _ (places : List ℕ) (style : ℕ) (kept : Bool) (t : ℕ) (literals : List ℤ) (i : ℕ) where
  module _ (n : ℕ) (minus : Bool) (below : i < length literals) (e : n ≡ magnitude_at literals i) (f : minus ≡ negative_at literals i) where
    pub next_entry : (kept_then : Bool) (t_then : ℕ) → kept_then ≡ kept_behind places kept (get_or literals i (pos 0)) (drop (i + 1) literals)
        → t_then ≡ cond (eqb n 0) (t + 1) t
        → walk places style kept t (drop i literals) ≡ entry_bytes places style kept t minus n ++ walk places style kept_then t_then (drop (i + 1) literals)
    next_entry kept_then t_then g h = rw (g, h, e, f, drop_front literals i (pos 0) below) refl

pub later_number : (t n i first : ℕ) (t_then : ℕ) → t ≤ first + i → t_then ≡ cond (eqb n 0) (t + 1) t → t_then ≤ first + (i + 1)
later_number t n i first t_then few e = go (eqb n 0) e
  where
    go : (b : Bool) → t_then ≡ cond b (t + 1) t → t_then ≤ first + (i + 1)
    go true e = omega arith
    go false e = omega arith

pub copy_length : (style t : ℕ) (minus : Bool) (v : ℕ) → style ≡ 1
    → length (copy_bytes style t minus v) ≡ length (literal_bytes true (t + 1)) + (length (literal_bytes (not minus) v) + 2)
copy_length style t minus v e =
    ap length (copy_one style t minus v e)
    ∙ omega (
      arith,
      length-append (literal_bytes true (t + 1) ++ literal_bytes (not minus) v) (ascii "0\n"),
      length-append (literal_bytes true (t + 1)) (literal_bytes (not minus) v),
    )

pub minus_length : (minus : Bool) (v : ℕ) → minus ≡ true → length (literal_bytes minus v) ≡ 1 + length (decimal v ++ ascii " ")
minus_length minus v e = ap length (literal_minus minus v e) ∙ length-append (ascii "-") (decimal v ++ ascii " ")

-- ---- lengths

literal_most : (minus : Bool) (v k : ℕ) → length (decimal v) ≤ k → length (literal_bytes minus v) ≤ k + 2
literal_most true v k short =
    omega (arith, length-append (ascii "-") (decimal v ++ ascii " "), length-append (decimal v) (ascii " "), short)
literal_most false v k short = omega (arith, length-append (decimal v) (ascii " "), short)

five : (v : ℕ) → v < 32770 → length (decimal v) ≤ 5
five v low = decimal_most 4 v (omega arith)

six : (v : ℕ) → v < 1000000 → length (decimal v) ≤ 6
six v low = decimal_most 5 v (omega arith)

module _ (places : List ℕ) (low : Low places) where
  entry_most : (kept : Bool) (t : ℕ) (minus : Bool) (name : ℕ) → t < 999999
      → (length (entry_bytes places 0 kept t minus name) ≤ 18)
      × (length (entry_bytes places 1 kept t minus name) + length (entry_bytes places 2 kept t minus name) ≤ 18)
  entry_most false t minus name few = (omega arith, omega arith)
  entry_most true t minus name few = go (eqb name 0) (ltb (place_of places name) 2)
    where
      v : ℕ
      v = place_of places name - 1

      go : (b d : Bool)
          → (length (cond b (end_bytes 0 t) (cond d [] (copy_bytes 0 t minus v))) ≤ 18)
          × (length (cond b (end_bytes 1 t) (cond d [] (copy_bytes 1 t minus v))) + length (cond b (end_bytes 2 t) (cond d [] (copy_bytes 2 t minus v))) ≤ 18)
      go true d = (omega arith, omega (arith, literal_most false (t + 1) 6 (six (t + 1) (omega arith))))
      go false true = (omega arith, omega arith)
      go false false =
          let copy = literal_most minus v 5 (five v (omega (arith, low (name - 1)))) in
          let turned = literal_most (not minus) v 5 (five v (omega (arith, low (name - 1)))) in
          let further = literal_most true (t + 1) 6 (six (t + 1) (omega arith)) in (
            omega (arith, copy),
            omega (
              arith,
              turned,
              further,
              length-append (literal_bytes true (t + 1) ++ literal_bytes (not minus) v) (ascii "0\n"),
              length-append (literal_bytes true (t + 1)) (literal_bytes (not minus) v),
            ),
          )

  behind_most : (t : ℕ) (z : ℤ) → number_behind t z ≤ t + 1
  behind_most t z = go (eqb (nat_abs z) 0)
    where
      go : (b : Bool) → cond b (t + 1) t ≤ t + 1
      go true = omega arith
      go false = omega arith

  walk_most : (kept : Bool) (t : ℕ) (zs : List ℤ) → t + length zs < 999999
      → (length (walk places 0 kept t zs) ≤ 18 * length zs) × (length (walk places 1 kept t zs) + length (walk places 2 kept t zs) ≤ 18 * length zs)
  walk_most kept t [] few = (omega arith, omega arith)
  walk_most kept t (z ∷ zs) few =
      let minus = negative z in
      let name = nat_abs z in
      let entry = entry_most kept t minus name (omega arith) in
      let next = number_behind t z in
      let later_kept = kept_behind places kept z zs in
      let later = walk_most later_kept next zs (omega (arith, behind_most t z)) in (
        omega (arith, entry.0, later.0, length-append (entry_bytes places 0 kept t minus name) (walk places 0 later_kept next zs)),
        omega (
          arith,
          entry.1,
          later.1,
          length-append (entry_bytes places 1 kept t minus name) (walk places 1 later_kept next zs),
          length-append (entry_bytes places 2 kept t minus name) (walk places 2 later_kept next zs),
        ),
      )

  -- One row's lines.
  pub walked_most : (t : ℕ) (literals : List ℤ) → t ≤ 557056 → length literals ≤ 8192
      → (length (walked places 0 t literals) ≤ 18 * length literals)
      × (length (walked places 1 t literals) + length (walked places 2 t literals) ≤ 18 * length literals)
  walked_most t literals few short = walk_most (kept_from places literals) t literals (omega arith)

  pub row_most : (claim t : ℕ) (literals : List ℤ) → t ≤ 557056 → length literals ≤ 8192 → length (row_bytes places claim t literals) ≤ 18 * length literals + 2
  row_most zero t literals few short = omega (arith, (walked_most t literals few short).0)
  row_most (suc claim) t literals few short =
      omega (
        arith,
        (walked_most t literals few short).1,
        length-append (walked places 1 t literals ++ walked places 2 t literals) (ascii "0\n"),
        length-append (walked places 1 t literals) (walked places 2 t literals),
      )

pub row_zero : (places : List ℕ) (claim t : ℕ) (literals : List ℤ) → claim ≡ 0 → row_bytes places claim t literals ≡ walked places 0 t literals
row_zero places claim t literals e = rw e refl

pub row_other : (places : List ℕ) (claim t : ℕ) (literals : List ℤ) → (claim ≡ 0 → ⊥)
    → row_bytes places claim t literals ≡ walked places 1 t literals ++ walked places 2 t literals ++ ascii "0\n"
row_other places zero t literals other = absurd (other refl)
row_other places (suc claim) t literals other = refl
