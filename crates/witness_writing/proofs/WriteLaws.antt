-- A record's file as it is put into a buffer, also where it cannot be written. Assumes nothing.
use Prim.Native.Nat.{ℕ, ◌<◌}
use Rattle.std.specs.Prelude.{Err, Ok, Result}
use Rattle.cause.specs.declared.Cause.{Cause}
use Rattle.cause.specs.Cause.{caused}
use native.Mathlib.Omega.{arith}
use mathlib.Core.Path.{◌≡◌, refl, sym, ap, ◌∙◌}
use mathlib.Core.Bool.{Bool, true, false, cond, ◌&&◌, ◌||◌, true≢false, and-eq-true_iff}
use mathlib.Core.List.{List, [], ◌++◌}
use lib.Dec.{eqb, ltb, leb, leb-zero}
use lib.ListN.{length, drop}
use borrow.Author.Tests.{eqb-true, leb-true, le-ltb}
use Rattle.report.specs.Report.{put, put_count}
use Rattle.witness.specs.declared.Record.{Record}
use Rattle.witness.specs.File.{file, size, bad_claim, bad_counts, over_lent, stands, write_cause, writing, out_after}
use Rattle.witness_writing.specs.WitnessFile.{side_record, record_file, numbers_fit, file_of}
use Rattle.witness_writing.proofs.FileLaws.{written_so, length_counted, refused_counted}

pub nothing_put : (bytes buffer : List ℕ) → bytes ≡ [] → (0 ≡ put_count bytes buffer) × (buffer ≡ put bytes buffer)
unfolding put put_count
nothing_put bytes buffer e = (rw (e, leb-zero (length buffer)) refl, rw (e, leb-zero (length buffer)) refl)

-- What cannot be written into a buffer of its size can be written into none.
still_refused : (map fits short : Bool) (rest : ℕ) → fits ≡ false → eqb (cond map 17 (cond fits 18 rest)) 0 ≡ false
    → eqb (cond map 17 (cond short 18 rest)) 0 ≡ false
still_refused true fits short rest e h = refl
still_refused false true short rest e h = absurd (true≢false e)
still_refused false false true rest e h = refl
still_refused false false false rest e h = h

module _ (r : Record) (rows out : List ℕ) where
  abbrev can : Bool
  can = eqb (write_cause r rows rows (size r)) 0

  module _ (fine : can ≡ true) where
    whole : record_file r rows ≡ file r rows rows
    unfolding record_file
    whole = ap (λ (b : Bool). cond b (file r rows rows) []) fine

    no_cause : write_cause r rows rows (size r) ≡ 0
    no_cause = eqb-true (write_cause r rows rows (size r)) 0 fine

  module _ (bad : can ≡ false) where
    empty : record_file r rows ≡ []
    unfolding record_file
    empty = ap (λ (b : Bool). cond b (file r rows rows) []) bad

    refused_here : eqb (write_cause r rows rows (length out)) 0 ≡ false
    unfolding write_cause
    refused_here =
        still_refused (ltb 31 r.map) (ltb (size r) (size r)) (ltb (length out) (size r))
        (cond (bad_claim r) 7
        (cond (bad_counts r) 4 (cond (over_lent (stands 2 r.map) r.universal rows || over_lent (stands 3 r.map) r.existential rows) 4 0)))
        (le-ltb (size r) (size r) (omega arith)) bad

    returned_so : writing r rows rows out ≡ Err (caused (write_cause r rows rows (length out)))
    returned_so =
        ap (λ (b : Bool). cond b (Ok (size r)) (Err (caused (write_cause r rows rows (length out))))) refused_here

    left_so : out_after r rows rows out ≡ out
    unfolding out_after
    left_so = ap (λ (b : Bool). cond b (file r rows rows ++ drop (size r) out) out) refused_here

  pub file_written : out_after r rows rows out ≡ put (record_file r rows) out
  file_written = go can refl
    where
      go : (b : Bool) → can ≡ b → out_after r rows rows out ≡ put (record_file r rows) out
      go true e = written_so r rows rows (no_cause e) out ∙ ap (λ (bytes : List ℕ). put bytes out) (sym (whole e))
      go false e = left_so e ∙ (nothing_put (record_file r rows) out (empty e)).1

  module _ {w : Result ℕ Cause} (returned : w ≡ writing r rows rows out) where
    pub file_counted : {n : ℕ} → w ≡ Ok n → n ≡ put_count (record_file r rows) out
    file_counted {n} told = go can refl
      where
        go : (b : Bool) → can ≡ b → n ≡ put_count (record_file r rows) out
        go true e = length_counted r rows rows (no_cause e) out returned told ∙ ap (λ (bytes : List ℕ). put_count bytes out) (sym (whole e))
        go false e = let z : ◌≡◌ {A = ℕ} 0 1 = cc (returned_so e) in absurd (omega (arith, z))

    pub none_counted : {cause : Cause} → w ≡ Err cause → 0 ≡ put_count (record_file r rows) out
    none_counted {cause} told = go can refl
      where
        go : (b : Bool) → can ≡ b → 0 ≡ put_count (record_file r rows) out
        go true e = refused_counted r rows rows (no_cause e) out returned told ∙ ap (λ (bytes : List ℕ). put_count bytes out) (sym (whole e))
        go false e = (nothing_put (record_file r rows) out (empty e)).0

-- The file of a side, by whether its numbers fit.
module _ (value : Bool) (u c : ℕ) (rows : List ℕ) (k n : ℕ) where
  pub fitting_file : numbers_fit u c k n ≡ true → file_of value u c rows k n ≡ record_file (side_record value u c k n) rows
  unfolding file_of
  fitting_file fit = ap (λ (b : Bool). cond b (record_file (side_record value u c k n) rows) []) fit

  pub no_file : numbers_fit u c k n ≡ false → file_of value u c rows k n ≡ []
  unfolding file_of
  no_file fit = ap (λ (b : Bool). cond b (record_file (side_record value u c k n) rows) []) fit

-- Each number fits, if all do.
pub each_fits : (u c k n : ℕ) → numbers_fit u c k n ≡ true → (u < 65536) × (c < 65536) × (k < 65536) × (n < 65536)
each_fits u c k n fit =
    let three = (and-eq-true_iff (leb u 65535 && leb c 65535 && leb k 65535) (leb n 65535)).0 fit in
    let two = (and-eq-true_iff (leb u 65535 && leb c 65535) (leb k 65535)).0 three.0 in
    let one = (and-eq-true_iff (leb u 65535) (leb c 65535)).0 two.0 in
    let a = leb-true u 65535 one.0 in
    let b = leb-true c 65535 one.1 in
    let d = leb-true k 65535 two.1 in
    let e = leb-true n 65535 three.1 in
    (omega (arith, a), omega (arith, b), omega (arith, d), omega (arith, e))

-- What was put of a record is the file that it stands for.
pub record_put : (rows out : List ℕ) {R R' : Record} {bytes : List ℕ} {n : ℕ} {after : List ℕ} → R ≡ R' → record_file R' rows ≡ bytes
    → n ≡ put_count (record_file R rows) out → after ≡ put (record_file R rows) out → (n ≡ put_count bytes out) × (after ≡ put bytes out)
record_put rows out same is counted written =
    let whole = ap (λ (x : Record). record_file x rows) same ∙ is in
    (counted ∙ ap (λ (b : List ℕ). put_count b out) whole, written ∙ ap (λ (b : List ℕ). put b out) whole)
