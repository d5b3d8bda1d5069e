-- The file that is written is read again, and what is read is the file that is written.
-- Assumes nothing.
use Prim.Native.Nat.{ℕ, suc, ◌+◌, ◌*◌, ◌/◌, ◌≤◌, ◌<◌}
use Rattle.std.specs.Prelude.{Ok}
use native.Mathlib.Omega.{arith}
use mathlib.Core.Path.{◌≡◌, refl, sym, ap, ap₂, ◌∙◌}
use mathlib.Core.Bool.{Bool, true, false, cond, ◌&&◌, ◌||◌}
use mathlib.Core.List.{List, [], ◌∷◌, ◌++◌, append_assoc, append-nil}
use lib.Dec.{ltb}
use lib.ListN.{length, get_or, take, drop, length-append, take-append-drop, length-drop, drop_of_length-le}
use borrow.Author.Tests.{eq-eqb, ne_eqb, le-ltb}
use lib.Seq.{length-take-le, take_at, drop_at, drop-drop, drop-cons, get_or-drop, take-take}
use Rattle.witness.specs.declared.Record.{Record}
use Rattle.witness.specs.File.{stands, part, if_stands, two_bytes, word, rows_field, file, has, sizes_at, universal_at, universal_count, existential_at}
use Rattle.witness.specs.File.{existential_count, rounds_at, end_of, record_of, side_rows, bad_count, content_cause, file_cause}
use Rattle.witness.specs.File.{over_lent, write_cause, rows_back, out_after, kept}
use Rattle.witness.specs.RoundTrip.{WrittenAgain, ReadAgain, RoundTrip}
use Rattle.witness.specs.Private.Steps.{Fitting}
use Rattle.witness.proofs.TestLaws.{stop, pass, content_passed, accepted, write_taken}
use Rattle.witness.proofs.PutLaws.{fields_file, length_fields}

-- Bytes from a word, and a word from bytes.
pub word_back : (n : ℕ) (l : List ℕ) → word (two_bytes n ++ l) ≡ n
word_back n l = omega arith

pub bytes_back : (a b : ℕ) → a < 256 → two_bytes (a + b * 256) ≡ a ∷ b ∷ []
bytes_back a b h = ap₂ (λ (x y : ℕ). x ∷ y ∷ []) (omega arith) (omega arith)

-- Two bytes at the front of a list that is long enough.
pub front_word : (l : List ℕ) → 2 ≤ length l → get_or l 0 0 < 256 → l ≡ two_bytes (word l) ++ drop 2 l
front_word [] h b = absurd (omega arith)
front_word (x ∷ []) h b = absurd (omega arith)
front_word (x ∷ y ∷ l) h b = ap (λ (t : List ℕ). t ++ l) (sym (bytes_back x y b))

-- Every element is a byte.
abbrev pub Bytes : List ℕ → Type 0
Bytes f = (i : ℕ) → get_or f i 0 < 256

-- A field that stands, or doesn't, at a place of the file.
module _ (f : List ℕ) (bytes : Bytes f) where
  same_drop : (a b : ℕ) → a ≡ b → drop a f ≡ drop b f
  same_drop a b e = ap (λ (k : ℕ). drop k f) e

  word_at : (at : ℕ) → at + 2 ≤ length f → drop at f ≡ two_bytes (word (drop at f)) ++ drop (at + 2) f
  word_at at h =
      front_word (drop at f) (omega (arith, length-drop at f)) (rw (get_or-drop at f 0 0) (bytes (at + 0)))
      ∙ ap (λ (l : List ℕ). two_bytes (word (drop at f)) ++ l) (drop-drop 2 at f)

  claim_at : (b : Bool) → 1 + if_stands b 1 ≤ length f → drop 1 f ≡ part b (if_stands b (get_or f 1 0) ∷ []) ++ drop (1 + if_stands b 1) f
  claim_at true h = drop-cons f 1 0 (omega arith)
  claim_at false h = refl

  sizes_part : (b : Bool) (at : ℕ) → at + if_stands b 4 ≤ length f
      → drop at f ≡ part b (two_bytes (if_stands b (word (drop at f))) ++ two_bytes (if_stands b (word (drop (at + 2) f)))) ++ drop (at + if_stands b 4) f
  sizes_part true at h =
      word_at at (omega arith)
      ∙ ap (λ (l : List ℕ). two_bytes (word (drop at f)) ++ l) (word_at (at + 2) (omega arith) ∙ ap (λ (l : List ℕ). two_bytes (word (drop (at + 2) f)) ++ l)
      (same_drop (at + 2 + 2) (at + 4) (omega arith)))
      ∙ sym (append_assoc (two_bytes (word (drop at f))) (two_bytes (word (drop (at + 2) f))) (drop (at + 4) f))
  sizes_part false at h = same_drop at (at + 0) (omega arith)

  rows_part : (b : Bool) (at count : ℕ) → count ≡ if_stands b (word (drop at f)) → at + if_stands b (2 + 16 * count) ≤ length f
      → drop at f ≡ part b (rows_field count (part b (take (16 * count) (drop (at + 2) f)))) ++ drop (at + if_stands b (2 + 16 * count)) f
  rows_part true at count e h =
      word_at at (omega arith)
      ∙ ap₂ (λ (n : ℕ) (l : List ℕ). two_bytes n ++ l) (sym e)
      (sym (take-append-drop (16 * count) (drop (at + 2) f))
      ∙ ap₂ ◌++◌ (sym (take-take (16 * count) (16 * count) (drop (at + 2) f) (omega arith)))
      (drop-drop (16 * count) (at + 2) f ∙ same_drop (at + 2 + 16 * count) (at + (2 + 16 * count)) (omega arith)))
      ∙ sym (append_assoc (two_bytes count) (take (16 * count) (take (16 * count) (drop (at + 2) f))) (drop (at + (2 + 16 * count)) f))
  rows_part false at count e h = same_drop at (at + 0) (omega arith)

  rounds_part : (b : Bool) (at : ℕ) → at + if_stands b 2 ≤ length f →
      drop at f ≡ part b (two_bytes (if_stands b (word (drop at f)))) ++ drop (at + if_stands b 2) f
  rounds_part true at h = word_at at h
  rounds_part false at h = same_drop at (at + 0) (omega arith)

  -- 'A file that is accepted is the file the writer makes of what was read.'
  pub read_written : 0 < length f → length f ≡ end_of f → file (record_of f) (side_rows true f) (side_rows false f) ≡ f
  unfolding file record_of
  read_written some e =
      sym
      (drop-cons f 0 0 some
      ∙ ap (λ (l : List ℕ). get_or f 0 0 ∷ l)
      (claim_at (has 0 f) (omega arith)
      ∙ ap (λ (l : List ℕ). part (has 0 f) (if_stands (has 0 f) (get_or f 1 0) ∷ []) ++ l)
      (sizes_part (has 1 f) (sizes_at f) (omega arith)
      ∙ ap (λ (l : List ℕ). part (has 1 f) (two_bytes (if_stands (has 1 f) (word (drop (sizes_at f) f))) ++ two_bytes
      (if_stands (has 1 f) (word (drop (sizes_at f + 2) f)))) ++ l)
      (rows_part (has 2 f) (universal_at f) (universal_count f) refl (omega arith)
      ∙ ap (λ (l : List ℕ). part (has 2 f) (rows_field (universal_count f) (side_rows true f)) ++ l)
      (rows_part (has 3 f) (existential_at f) (existential_count f) refl (omega arith)
      ∙ ap (λ (l : List ℕ). part (has 3 f) (rows_field (existential_count f) (side_rows false f)) ++ l)
      (rounds_part (has 4 f) (rounds_at f) (omega arith)
      ∙ ap (λ (l : List ℕ). part (has 4 f) (two_bytes (if_stands (has 4 f) (word (drop (rounds_at f) f)))) ++ l)
      (drop_of_length-le f {i = end_of f} (omega arith))
      ∙ append-nil (part (has 4 f) (two_bytes (if_stands (has 4 f) (word (drop (rounds_at f) f))))))))))
      )

-- What stands behind a field, where the field stands at a place of the file.
behind : (f : List ℕ) (b : Bool) (at w : ℕ) (p l : List ℕ) → drop at f ≡ part b p ++ l → length p ≡ w → drop (at + if_stands b w) f ≡ l
behind f true at w p l e h = sym (drop-drop w at f) ∙ ap (drop w) e ∙ drop_at p l w h
behind f false at w p l e h = ap (λ (k : ℕ). drop k f) (zero_behind at) ∙ e
  where
    zero_behind : (n : ℕ) → n + 0 ≡ n
    zero_behind n = omega arith

within : (f : List ℕ) (b : Bool) (at w : ℕ) (p l : List ℕ) → drop at f ≡ part b p ++ l → length p ≡ w → at ≤ length f → at + if_stands b w ≤ length f
within f true at w p l e h k = omega (arith, length-drop at f, ap length e, length-append p l)
within f false at w p l e h k = omega arith

word_there : (f : List ℕ) (b : Bool) (at n : ℕ) (p l : List ℕ) → drop at f ≡ part b (two_bytes n ++ p) ++ l → if_stands b (word (drop at f)) ≡ if_stands b n
word_there f true at n p l e = ap word e ∙ word_back n (p ++ l)
word_there f false at n p l e = refl

second_there : (f : List ℕ) (b : Bool) (at n m : ℕ) (l : List ℕ) → drop at f ≡ part b (two_bytes n ++ two_bytes m) ++ l →
    if_stands b (word (drop (at + 2) f)) ≡ if_stands b m
second_there f true at n m l e = ap word (sym (drop-drop 2 at f) ∙ ap (drop 2) e) ∙ word_back m l
second_there f false at n m l e = refl

-- The rows of a side that stands.
rows_there : (f : List ℕ) (b : Bool) (at n : ℕ) (rows l : List ℕ) → drop at f ≡ part b (rows_field n rows) ++ l → (b ≡ true → 16 * n ≤ length rows)
    → part b (take (16 * if_stands b (word (drop at f))) (drop (at + 2) f)) ≡ part b (take (16 * n) rows)
rows_there f true at n rows l e fits =
    ap₂ (λ (k : ℕ) (t : List ℕ). take (16 * k) t) (word_there f true at n (take (16 * n) rows) l e) (sym (drop-drop 2 at f) ∙ ap (drop 2) e)
    ∙ take_at (take (16 * n) rows) l (16 * n) (length-take-le (16 * n) rows (fits refl))
rows_there f false at n rows l e fits = refl

rows_behind : (f : List ℕ) (b : Bool) (at n : ℕ) (rows l : List ℕ) → drop at f ≡ part b (rows_field n rows) ++ l → (b ≡ true → 16 * n ≤ length rows)
    → drop (at + if_stands b (2 + 16 * if_stands b (word (drop at f)))) f ≡ l
rows_behind f true at n rows l e fits =
    behind f true at (2 + 16 * word (drop at f)) (rows_field n rows) l e
    (ap (λ (k : ℕ). suc (suc k)) (length-take-le (16 * n) rows (fits refl)) ∙ omega (arith, word_there f true at n (take (16 * n) rows) l e))
rows_behind f false at n rows l e fits = behind f false at 0 [] l e refl

rows_within : (f : List ℕ) (b : Bool) (at n : ℕ) (rows l : List ℕ) → drop at f ≡ part b (rows_field n rows) ++ l → (b ≡ true → 16 * n ≤ length rows) →
    at ≤ length f
    → at + if_stands b (2 + 16 * if_stands b (word (drop at f))) ≤ length f
rows_within f true at n rows l e fits k =
    within f true at (2 + 16 * word (drop at f)) (rows_field n rows) l e
    (ap (λ (k : ℕ). suc (suc k)) (length-take-le (16 * n) rows (fits refl)) ∙ omega (arith, word_there f true at n (take (16 * n) rows) l e)) k
rows_within f false at n rows l e fits k = omega arith

-- 'Each record that the writer takes is read again unchanged.'
module _ (r : Record) (U E : List ℕ) (room : ℕ) (fits : Fitting r U E room) where
  pub record Again : Type 0 where
    pub same : record_of (file r U E) ≡ kept r
    pub whole : length (file r U E) ≡ end_of (file r U E)
    pub universal : side_rows true (file r U E) ≡ part (stands 2 r.map) (take (16 * r.universal) U)
    pub existential : side_rows false (file r U E) ≡ part (stands 3 r.map) (take (16 * r.existential) E)

  abbrev F : List ℕ
  F = file r U E

  abbrev L4 : List ℕ
  L4 = part (stands 4 r.map) (two_bytes r.rounds)

  abbrev L3 : List ℕ
  L3 = part (stands 3 r.map) (rows_field r.existential E) ++ L4

  abbrev L2 : List ℕ
  L2 = part (stands 2 r.map) (rows_field r.universal U) ++ L3

  abbrev L1 : List ℕ
  L1 = part (stands 1 r.map) (two_bytes r.unknowns ++ two_bytes r.clauses) ++ L2

  at_1 : drop (sizes_at F) F ≡ L1
  unfolding file
  at_1 = behind F (stands 0 r.map) 1 1 (r.claim ∷ []) L1 refl refl

  at_2 : drop (universal_at F) F ≡ L2
  unfolding file
  at_2 = behind F (stands 1 r.map) (sizes_at F) 4 (two_bytes r.unknowns ++ two_bytes r.clauses) L2 at_1 refl

  at_3 : drop (existential_at F) F ≡ L3
  unfolding file
  at_3 = rows_behind F (stands 2 r.map) (universal_at F) r.universal U L3 at_2 fits.universal_lent

  at_4 : drop (rounds_at F) F ≡ L4
  unfolding file
  at_4 = rows_behind F (stands 3 r.map) (existential_at F) r.existential E L4 at_3 fits.existential_lent

  at_end : drop (end_of F) F ≡ []
  unfolding file
  at_end = behind F (stands 4 r.map) (rounds_at F) 2 (two_bytes r.rounds) [] (at_4 ∙ sym (append-nil L4)) refl

  in_1 : sizes_at F ≤ length F
  unfolding file
  in_1 = within F (stands 0 r.map) 1 1 (r.claim ∷ []) L1 refl refl (omega arith)

  in_2 : universal_at F ≤ length F
  unfolding file
  in_2 = within F (stands 1 r.map) (sizes_at F) 4 (two_bytes r.unknowns ++ two_bytes r.clauses) L2 at_1 refl in_1

  in_3 : existential_at F ≤ length F
  unfolding file
  in_3 = rows_within F (stands 2 r.map) (universal_at F) r.universal U L3 at_2 fits.universal_lent in_2

  in_4 : rounds_at F ≤ length F
  unfolding file
  in_4 = rows_within F (stands 3 r.map) (existential_at F) r.existential E L4 at_3 fits.existential_lent in_3

  in_end : end_of F ≤ length F
  unfolding file
  in_end = within F (stands 4 r.map) (rounds_at F) 2 (two_bytes r.rounds) [] (at_4 ∙ sym (append-nil L4)) refl in_4

  claim_there : (b : Bool) (l : List ℕ) → if_stands b (get_or (r.map ∷ part b (r.claim ∷ []) ++ l) 1 0) ≡ if_stands b r.claim
  claim_there true l = refl
  claim_there false l = refl

  pub written_read : Again
  unfolding file record_of
  written_read =
      record {
        same =
            rw (
              word_there F (stands 4 r.map) (rounds_at F) r.rounds [] [] (at_4 ∙ sym (append-nil L4)),
              word_there F (stands 3 r.map) (existential_at F) r.existential (take (16 * r.existential) E) L4 at_3,
              word_there F (stands 2 r.map) (universal_at F) r.universal (take (16 * r.universal) U) L3 at_2,
              second_there F (stands 1 r.map) (sizes_at F) r.unknowns r.clauses L2 at_1,
              word_there F (stands 1 r.map) (sizes_at F) r.unknowns (two_bytes r.clauses) L2 at_1,
              claim_there (stands 0 r.map) L1,
            ) refl;
        whole = omega (arith, in_end, ap length at_end, length-drop (end_of F) F);
        universal = rows_there F (stands 2 r.map) (universal_at F) r.universal U L3 at_2 fits.universal_lent;
        existential = rows_there F (stands 3 r.map) (existential_at F) r.existential E L4 at_3 fits.existential_lent;
      }

-- A side's rows in an accepted file are as many as it counts.
side_whole : (f : List ℕ) (b : Bool) (at count : ℕ) → at + if_stands b (2 + 16 * count) ≤ length f
    → over_lent b count (part b (take (16 * count) (drop (at + 2) f))) ≡ false
side_whole f true at count room =
    let width = length-take-le (16 * count) (drop (at + 2) f) (omega (arith, length-drop (at + 2) f)) in
    le-ltb (length (take (16 * count) (drop (at + 2) f)) / 16) count (omega (arith, width))
side_whole f false at count room = refl

back : (f : List ℕ) (universal : Bool) → file_cause f ≡ 0 → rows_back f universal ≡ side_rows universal f
unfolding rows_back
back f universal e = stop [] (eq-eqb (file_cause f) 0 e)

-- Tests that stand in a record's file and in the record alike.
alike_claim : (b : Bool) (n : ℕ) → (b && ltb 1 (if_stands b n)) ≡ (b && ltb 1 n)
alike_claim true n = refl
alike_claim false n = refl

alike_count : (b : Bool) (n : ℕ) → bad_count b (if_stands b n) ≡ bad_count b n
alike_count true n = refl
alike_count false n = refl

content_kept : (r : Record) → content_cause (kept r) ≡ content_cause r
content_kept r =
    ap₂ (λ (s t : Bool). cond s 7 (cond t 4 0)) (alike_claim (stands 0 r.map) r.claim)
    (ap₂ ◌||◌ (alike_count (stands 2 r.map) r.universal) (alike_count (stands 3 r.map) r.existential))

written_again : (f out : List ℕ) → Bytes f → file_cause f ≡ 0 → length f ≤ length out → WrittenAgain f out
unfolding write_cause out_after record_of
written_again f out bytes e room =
    let a = accepted f e in
    let u = back f true e in
    let x = back f false e in
    let content = content_passed (record_of f) a.content in
    let lent =
    ap₂ ◌||◌ (side_whole f (has 2 f) (universal_at f) (universal_count f) (omega (arith, a.whole)))
    (side_whole f (has 3 f) (existential_at f) (existential_count f) (omega (arith, a.whole))) in
    let none : write_cause (record_of f) (rows_back f true) (rows_back f false) (length out) ≡ 0 =
    ap₂ (λ (k l : List ℕ). write_cause (record_of f) k l (length out)) u x
    ∙ pass 17 (le-ltb 31 (get_or f 0 0) a.map_fits)
    ∙ pass 18 (le-ltb (length out) (end_of f) (omega (arith, room, a.whole)))
    ∙ pass 7 content.0
    ∙ pass 4 content.1
    ∙ pass 4 lent in
    let again = ap₂ (λ (k l : List ℕ). file (record_of f) k l) u x ∙ read_written f bytes a.some a.whole in
    let taken = eq-eqb (write_cause (record_of f) (rows_back f true) (rows_back f false) (length out)) 0 none in
    record {
      returned = stop _ taken ∙ ap Ok (sym a.whole);
      same = stop out taken ∙ ap₂ (λ (l : List ℕ) (k : ℕ). l ++ drop k out) again (sym a.whole);
    }

map_first : (r : Record) (U E : List ℕ) → r.map ≤ 31 → get_or (file r U E) 0 0 ≤ 31
unfolding file
map_first r U E h = h

read_again : (r : Record) (U E : List ℕ) (room : ℕ) → write_cause r U E room ≡ 0 → ReadAgain r U E
unfolding file_cause
read_again r U E room e =
    let w = write_taken r U E room e in
    let again = written_read r U E room w.fitting in
    let type_size = ap length (sym (fields_file r U E)) ∙ length_fields r U E room w.fitting in
    let none : file_cause (file r U E) ≡ 0 =
    pass 18 (ne_eqb (length (file r U E)) 0 (λ z. omega (arith, type_size)))
    ∙ pass 17 (le-ltb 31 (get_or (file r U E) 0 0) (map_first r U E w.map_fits))
    ∙ stop 18 (eq-eqb (length (file r U E)) (end_of (file r U E)) again.whole)
    ∙ ap content_cause again.same
    ∙ content_kept r
    ∙ w.content in
    record {
      accepted = none;
      whole = type_size;
      same = again.same;
      universal_back = back (file r U E) true none ∙ again.universal;
      existential_back = back (file r U E) false none ∙ again.existential;
    }

pub round_trip : RoundTrip
round_trip = record { read_then_written = written_again; written_then_read = read_again }
