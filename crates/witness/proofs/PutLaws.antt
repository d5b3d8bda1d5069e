-- Parts put one behind the other into a buffer, and a record's fields as such parts.
-- Assumes nothing.
use Prim.Native.Nat.{ℕ, suc, ◌+◌, ◌*◌, ◌≤◌, ◌<◌}
use native.Mathlib.Omega.{arith}
use native.Mathlib.Numerals.{add-one}
use mathlib.Core.Path.{◌≡◌, refl, sym, ap, ap₂, ◌∙◌, subst}
use mathlib.Core.Bool.{Bool, true, false}
use mathlib.Core.List.{List, [], ◌∷◌, ◌++◌, append_assoc}
use lib.ListN.{length, take, drop, set, length-append, take-append-drop}
use lib.Seq.{length-take-le, take_at, drop_at, drop-drop, set_split}
use Rattle.buffer.specs.Buffer.{appended, place_behind}
use Rattle.buffer.proofs.Laws.{appended_fits, behind_fits}
use Rattle.witness.specs.declared.Record.{Record}
use Rattle.witness.specs.File.{stands, part, if_stands, two_bytes, rows_field, file, size}
use Rattle.witness.specs.Private.Steps.{Put, Fitting, head, all_fields}

pub length_part : (there : Bool) (bytes : List ℕ) → length (part there bytes) ≡ if_stands there (length bytes)
length_part true bytes = refl
length_part false bytes = refl

-- A field that stands is put whole, one that doesn't changes nothing.
pub put_there : {before after : List ℕ} {at behind : ℕ} {bytes : List ℕ} (there : Bool) → there ≡ true → Put before after at behind bytes
    → Put before after at behind (part there bytes)
put_there {before} {after} {at} {behind} {bytes} there e h = subst (λ (t : Bool). Put before after at behind (part t bytes)) (sym e) h

pub put_absent : (before : List ℕ) (at : ℕ) (bytes : List ℕ) (there : Bool) → there ≡ false → Put before before at at (part there bytes)
put_absent before at bytes there e =
    subst (λ (t : Bool). Put before before at at (part t bytes)) (sym e) (record { place = omega arith; whole = sym (take-append-drop at before) })

pub put_one : (before : List ℕ) (at value : ℕ) → at < length before → Put before (set before at value) at (at + 1) (value ∷ [])
put_one before at value h =
    record {
      place = refl;
      whole = set_split before at value h ∙ ap (λ (k : ℕ). take at before ++ value ∷ drop k before) (sym (add-one at));
    }

pub put_appended : (before after : List ℕ) (at behind : ℕ) (bytes : List ℕ) → at + length bytes ≤ length before
    → behind ≡ place_behind before at bytes → after ≡ appended before at bytes → Put before after at behind bytes
put_appended before after at behind bytes room p w =
    let place : behind ≡ at + length bytes = p ∙ behind_fits before at bytes room in
    record {
      place = place;
      whole =
          w ∙ appended_fits before at bytes room ∙ append_assoc (take at before) bytes (drop (at + length bytes) before)
          ∙ ap (λ (k : ℕ). take at before ++ (bytes ++ drop k before)) (sym place);
    }

-- Two parts, one behind the other.
module _ (a b c : List ℕ) (at m n : ℕ) (p q : List ℕ) (first : Put a b at m p) (second : Put b c m n q) (room : n ≤ length a) where
  front : length (take at a ++ p) ≡ m
  front = length-append (take at a) p ∙ ap (λ (k : ℕ). k + length p) (length-take-le at a (omega (arith, first.place, second.place))) ∙ sym first.place

  together : b ≡ (take at a ++ p) ++ drop m a
  together = first.whole ∙ sym (append_assoc (take at a) p (drop m a))

  rest : drop n b ≡ drop n a
  rest =
      ap (λ (k : ℕ). drop k b) second.place
      ∙ sym (drop-drop (length q) m b)
      ∙ ap (drop (length q)) (ap (drop m) together ∙ drop_at (take at a ++ p) (drop m a) m front)
      ∙ drop-drop (length q) m a
      ∙ ap (λ (k : ℕ). drop k a) (sym second.place)

  pub put_both : Put a c at n (p ++ q)
  put_both =
      record {
        place = second.place ∙ omega (arith, first.place, length-append p q);
        whole =
            second.whole
            ∙ ap₂ (λ (x y : List ℕ). x ++ (q ++ y)) (ap (take m) together ∙ take_at (take at a ++ p) (drop m a) m front) rest
            ∙ append_assoc (take at a) p (q ++ drop n a)
            ∙ ap (λ (l : List ℕ). take at a ++ l) (sym (append_assoc p q (drop n a)));
      }

pub four : (there : Bool) → if_stands there 4 ≡ if_stands there 2 + if_stands there 2
four true = refl
four false = refl

pub length_rows_field : (there : Bool) (count : ℕ) (rows : List ℕ) → (there ≡ true → 16 * count ≤ length rows)
    → length (part there (rows_field count rows)) ≡ if_stands there (2 + 16 * count)
length_rows_field true count rows fits = ap (λ (k : ℕ). suc (suc k)) (length-take-le (16 * count) rows (fits refl)) ∙ omega arith
length_rows_field false count rows fits = refl

both_numbers : (there : Bool) (n m : ℕ) (l : List ℕ) →
    part there (two_bytes n) ++ (part there (two_bytes m) ++ l) ≡ part there (two_bytes n ++ two_bytes m) ++ l
both_numbers true n m l = refl
both_numbers false n m l = refl

-- The parts that are put make the file.
pub fields_file : (r : Record) (universal existential : List ℕ) → all_fields r universal existential ≡ file r universal existential
unfolding file
fields_file r universal existential =
    let rows = part (stands 2 r.map) (rows_field r.universal universal) ++ (part (stands 3 r.map) (rows_field r.existential existential) ++ part
    (stands 4 r.map) (two_bytes r.rounds)) in
    ap (λ (l : List ℕ). r.map ∷ l)
    (append_assoc (part (stands 0 r.map) (r.claim ∷ [])) _ rows
    ∙ ap (λ (l : List ℕ). part (stands 0 r.map) (r.claim ∷ []) ++ l)
    (append_assoc (part (stands 1 r.map) (two_bytes r.unknowns)) (part (stands 1 r.map) (two_bytes r.clauses)) rows
    ∙ both_numbers (stands 1 r.map) r.unknowns r.clauses rows))

pub length_head : (r : Record) → length (head r) ≡ 1 + if_stands (stands 0 r.map) 1 + if_stands (stands 1 r.map) 4
length_head r =
    omega (
      arith,
      length-append (r.map ∷ []) (part (stands 0 r.map) (r.claim ∷ []) ++ (part (stands 1 r.map) (two_bytes r.unknowns) ++ part (stands 1 r.map)
          (two_bytes r.clauses))),
      length-append (part (stands 0 r.map) (r.claim ∷ [])) (part (stands 1 r.map) (two_bytes r.unknowns) ++ part (stands 1 r.map)
          (two_bytes r.clauses)),
      length-append (part (stands 1 r.map) (two_bytes r.unknowns)) (part (stands 1 r.map) (two_bytes r.clauses)),
      length_part (stands 0 r.map) (r.claim ∷ []),
      length_part (stands 1 r.map) (two_bytes r.unknowns),
      length_part (stands 1 r.map) (two_bytes r.clauses),
      four (stands 1 r.map),
    )

pub length_fields : (r : Record) (universal existential : List ℕ) (room : ℕ) → Fitting r universal existential room
    → length (all_fields r universal existential) ≡ size r
length_fields r universal existential room fits =
    let rounds = part (stands 4 r.map) (two_bytes r.rounds) in
    let rows_2 = part (stands 3 r.map) (rows_field r.existential existential) in
    let rows_1 = part (stands 2 r.map) (rows_field r.universal universal) in
    omega (
      arith,
      length-append (head r) (rows_1 ++ (rows_2 ++ rounds)),
      length-append rows_1 (rows_2 ++ rounds),
      length-append rows_2 rounds,
      length_head r,
      length_rows_field (stands 2 r.map) r.universal universal fits.universal_lent,
      length_rows_field (stands 3 r.map) r.existential existential fits.existential_lent,
      length_part (stands 4 r.map) (two_bytes r.rounds),
    )
