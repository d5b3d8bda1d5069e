-- The file of a record that can be written: what is put into a buffer, and what is read again. Assumes nothing.
use Prim.Native.Nat.{ℕ, ◌*◌, ◌/◌, ◌≤◌}
use Rattle.std.specs.Prelude.{Err, Ok, Result}
use Rattle.cause.specs.declared.Cause.{Cause}
use Rattle.cause.specs.Cause.{unless_cause}
use native.Mathlib.Omega.{arith}
use mathlib.Core.Path.{◌≡◌, refl, sym, ap, ◌∙◌}
use mathlib.Core.Bool.{Bool, true, false, cond, ◌||◌}
use mathlib.Core.List.{List, [], ◌∷◌, ◌++◌}
use lib.Dec.{eqb, leb, ltb}
use lib.ListN.{length, take, drop}
use borrow.Author.Tests.{ltb-true, ltb-false, le-leb, lt-leb, le-ltb, ne_eqb}
use Rattle.formula.specs.Formula.{max_rows}
use Rattle.report.specs.Report.{put, put_count}
use Rattle.witness.specs.declared.Record.{Record}
use Rattle.witness.specs.File.{made, two_bytes, file, record_of, size, bad_claim, bad_counts, over_lent, stands, write_cause, reading, writing, out_after, kept}
use Rattle.witness.specs.RoundTrip.{ReadAgain}
use Rattle.witness.proofs.TestLaws.{passed}
use Rattle.witness.proofs.RoundTrip.{round_trip}

abbrev count_of : Result ℕ Cause → ℕ
count_of (Ok n) = n
count_of (Err cause) = 0

module _ (r : Record) (U E : List ℕ) (fine : write_cause r U E (size r) ≡ 0) where
  pub again : ReadAgain r U E
  again = round_trip.written_then_read r U E (size r) fine

  abbrev f : List ℕ
  f = file r U E

  module _ (out : List ℕ) where
    abbrev by : Bool → Bool → ℕ → ℕ
    by map short rest = cond map 17 (cond short 18 rest)

    abbrev rest : ℕ
    rest =
        cond (bad_claim r) 7
        (cond (bad_counts r) 4 (cond (over_lent (stands 2 r.map) r.universal U || over_lent (stands 3 r.map) r.existential E) 4 0))

    cause_so : write_cause r U E (length out) ≡ cond (ltb (length out) (size r)) 18 0
    unfolding write_cause
    cause_so =
        let one = passed (ltb 31 r.map) 16 (cond (ltb (size r) (size r)) 18 rest) fine in
        let two = passed (ltb (size r) (size r)) 17 rest one.1 in
        ap (λ (b : Bool). by b (ltb (length out) (size r)) rest) one.0 ∙ ap (λ (n : ℕ). by false (ltb (length out) (size r)) n) two.1

    fits_so : (b : Bool) → ltb (length out) (size r) ≡ b → leb (length f) (length out) ≡ cond b false true
    fits_so true e = let more = ltb-true (length out) (size r) e in lt-leb (length f) (length out) (omega (arith, again.whole, more))
    fits_so false e = let most = ltb-false (length out) (size r) e in le-leb (length f) (length out) (omega (arith, again.whole, most))

    counted_by : (b : Bool) → ltb (length out) (size r) ≡ b → count_of (unless_cause (cond b 18 0) (size r)) ≡ put_count f out
    unfolding put_count
    counted_by true e = ap (λ (t : Bool). cond t (length f) 0) (sym (fits_so true e))
    counted_by false e = sym again.whole ∙ ap (λ (t : Bool). cond t (length f) 0) (sym (fits_so false e))

    written_by : (b : Bool) → ltb (length out) (size r) ≡ b → cond (eqb (cond b 18 0) 0) (f ++ drop (size r) out) out ≡ put f out
    unfolding put
    written_by true e = ap (λ (t : Bool). cond t (f ++ drop (length f) out) out) (sym (fits_so true e))
    written_by false e =
        ap (λ (n : ℕ). f ++ drop n out) (sym again.whole) ∙ ap (λ (t : Bool). cond t (f ++ drop (length f) out) out) (sym (fits_so false e))

    counted_so : count_of (writing r U E out) ≡ put_count f out
    counted_so = ap (λ (n : ℕ). count_of (unless_cause n (size r))) cause_so ∙ counted_by (ltb (length out) (size r)) refl

    pub written_so : out_after r U E out ≡ put f out
    unfolding out_after
    written_so = ap (λ (n : ℕ). cond (eqb n 0) (f ++ drop (size r) out) out) cause_so ∙ written_by (ltb (length out) (size r)) refl

    pub length_counted : {w : Result ℕ Cause} {n : ℕ} → w ≡ writing r U E out → w ≡ Ok n → n ≡ put_count f out
    length_counted returned told = ap count_of (sym told ∙ returned) ∙ counted_so

    pub refused_counted : {w : Result ℕ Cause} {cause : Cause} → w ≡ writing r U E out → w ≡ Err cause → 0 ≡ put_count f out
    refused_counted returned told = ap count_of (sym told ∙ returned) ∙ counted_so

  -- Read again it is the record, if nothing in it counts for nothing.
  pub read_so : kept r ≡ r → reading f ≡ Ok r
  read_so same =
      ap (λ (n : ℕ). unless_cause n (record_of f)) again.accepted ∙ ap Ok (again.same ∙ same)

-- The records of a true and of a false formula, with k rows.
module _ (u c k rounds : ℕ) (some_row : 1 ≤ k) (few : k ≤ max_rows) where
  abbrev pub of_true : Record
  of_true = made 27 1 u c 0 k rounds

  abbrev pub of_false : Record
  of_false = made 23 0 u c k 0 rounds

  fine_by : (short counts lent : Bool) → short ≡ false → counts ≡ false → lent ≡ false → ◌≡◌ {A = ℕ} (cond short 18 (cond counts 4 (cond lent 4 0))) 0
  fine_by short counts lent a b d = rw (a, b, d) refl

  or_none : (a b : Bool) → a ≡ false → b ≡ false → (a || b) ≡ false
  or_none a b e g = rw (e, g) refl

  in_count : (eqb k 0 || ltb max_rows k) ≡ false
  in_count = or_none (eqb k 0) (ltb max_rows k) (ne_eqb k 0 (λ e. omega (arith, e, some_row))) (le-ltb max_rows k (omega (arith, few)))

  pub true_fine : (U E : List ℕ) → 16 * k ≤ length E → write_cause of_true U E (size of_true) ≡ 0
  unfolding write_cause
  true_fine U E lent =
      fine_by (ltb (size of_true) (size of_true)) (eqb k 0 || ltb max_rows k) (ltb (length E / 16) k) (le-ltb (size of_true) (size of_true) (omega arith)) in_count
      (le-ltb (length E / 16) k (omega (arith, lent)))

  pub false_fine : (U E : List ℕ) → 16 * k ≤ length U → write_cause of_false U E (size of_false) ≡ 0
  unfolding write_cause
  false_fine U E lent =
      fine_by (ltb (size of_false) (size of_false)) ((eqb k 0 || ltb max_rows k) || false) (ltb (length U / 16) k || false) (le-ltb (size of_false) (size of_false) (omega arith))
      (or_none (eqb k 0 || ltb max_rows k) false in_count refl)
      (or_none (ltb (length U / 16) k) false (le-ltb (length U / 16) k (omega (arith, lent))) refl)

  -- Of the rows lent only the first k of its side count.
  pub true_same : (U E E' : List ℕ) → take (16 * k) E ≡ take (16 * k) E' → file of_true U E ≡ file of_true [] E'
  unfolding file
  true_same U E E' e =
      ap (λ (rows : List ℕ). 27 ∷ 1 ∷ ((two_bytes u ++ two_bytes c) ++ ((two_bytes k ++ rows) ++ two_bytes rounds))) e

  pub false_same : (U E U' : List ℕ) → take (16 * k) U ≡ take (16 * k) U' → file of_false U E ≡ file of_false U' []
  unfolding file
  false_same U E U' e =
      ap (λ (rows : List ℕ). 23 ∷ 0 ∷ ((two_bytes u ++ two_bytes c) ++ ((two_bytes k ++ rows) ++ two_bytes rounds))) e

  pub true_size : size of_true ≤ 4106
  true_size = omega (arith, few)

  pub false_size : size of_false ≤ 4106
  false_size = omega (arith, few)
