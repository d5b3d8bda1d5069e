-- The causes by what the code tests, and what an accepted file or write has.
-- Assumes nothing.
use Prim.Native.Nat.{ℕ, suc, ◌*◌, ◌/◌, ◌≤◌, ◌<◌}
use native.Mathlib.Omega.{arith}
use mathlib.Core.Path.{◌≡◌, refl, ap, ◌∙◌}
use mathlib.Core.Bool.{Bool, true, false, cond, ◌||◌}
use mathlib.Core.List.{List}
use lib.Dec.{eqb, ltb}
use lib.ListN.{length, get_or}
use borrow.Author.Tests.{ltb-false, eqb-true, eqb-false}
use Rattle.witness.specs.declared.Record.{Record}
use Rattle.witness.specs.File.{stands, end_of, record_of, bad_claim, bad_counts, content_cause, file_cause, size, over_lent, write_cause}
use Rattle.witness.specs.Private.Steps.{Fitting}

-- A choice whose test is known.
pub stop : {A : Type 0} {t : Bool} {x : A} (y : A) → t ≡ true → cond t x y ≡ x
stop {A} {t} {x} y e = ap (λ (b : Bool). cond b x y) e

pub pass : {A : Type 0} {t : Bool} (x : A) {y : A} → t ≡ false → cond t x y ≡ y
pass {A} {t} x {y} e = ap (λ (b : Bool). cond b x y) e

-- A chain of choices that comes to 0 has passed every test for a number above 0.
pub passed : (t : Bool) (n x : ℕ) → cond t (suc n) x ≡ 0 → (t ≡ false) × (x ≡ 0)
passed true n x e = absurd (omega arith)
passed false n x e = (refl, e)

or_false : (a b : Bool) → (a || b) ≡ false → (a ≡ false) × (b ≡ false)
or_false true b e = absurd (let z : ◌≡◌ {A = ℕ} 0 1 = ap (λ (t : Bool). cond t 0 1) e in omega arith)
or_false false b e = (refl, e)

-- What an accepted file has: at least its map, no other bit, exactly its fields, and nothing wrong in them.
pub record Accepted (f : List ℕ) : Type 0 where
  pub some : 0 < length f
  pub map_fits : get_or f 0 0 ≤ 31
  pub whole : length f ≡ end_of f
  pub content : content_cause (record_of f) ≡ 0

-- A record's content, by what the code tests.
pub content_passed : (r : Record) → content_cause r ≡ 0 → (bad_claim r ≡ false) × (bad_counts r ≡ false)
content_passed r e =
    let claim = passed (bad_claim r) 6 (cond (bad_counts r) 4 0) e in
    (claim.0, (passed (bad_counts r) 3 0 claim.1).0)

-- A write is refused for the record's content before the rows lent are counted.
content_first : (a b : Bool) (k : ℕ) → eqb (cond a 7 (cond b 4 0)) 0 ≡ false → cond a 7 (cond b 4 k) ≡ cond a 7 (cond b 4 0)
content_first true b k e = refl
content_first false true k e = refl
content_first false false k e = absurd (let z : ◌≡◌ {A = ℕ} 0 1 = ap (λ (t : Bool). cond t 0 1) e in omega arith)

pub write_content : (r : Record) (universal existential : List ℕ) (room : ℕ) → ltb 31 r.map ≡ false → ltb room (size r) ≡ false
    → eqb (content_cause r) 0 ≡ false → write_cause r universal existential room ≡ content_cause r
unfolding write_cause
write_content r universal existential room map fits wrong =
    pass 17 map ∙ pass 18 fits ∙ content_first (bad_claim r) (bad_counts r)
    (cond (over_lent (stands 2 r.map) r.universal universal || over_lent (stands 3 r.map) r.existential existential) 4 0) wrong

whole_then : (t : Bool) (k : ℕ) → cond t k 18 ≡ 0 → (t ≡ true) × (k ≡ 0)
whole_then true k e = (refl, e)
whole_then false k e = absurd (omega arith)

pub accepted : (f : List ℕ) → file_cause f ≡ 0 → Accepted f
unfolding file_cause
accepted f e =
    let some_passed = passed (eqb (length f) 0) 17 _ e in
    let map_passed = passed (ltb 31 (get_or f 0 0)) 16 _ some_passed.1 in
    let ended = whole_then (eqb (length f) (end_of f)) _ map_passed.1 in
    let more = eqb-false (length f) 0 some_passed.0 in
    record {
      some = omega arith;
      map_fits = ltb-false 31 (get_or f 0 0) map_passed.0;
      whole = eqb-true (length f) (end_of f) ended.0;
      content = ended.1;
    }

-- What a write that is taken has.
pub record Written (r : Record) (universal existential : List ℕ) (room : ℕ) : Type 0 where
  pub map_fits : r.map ≤ 31
  pub fitting : Fitting r universal existential room
  pub content : content_cause r ≡ 0

lent : (there : Bool) (count : ℕ) (rows : List ℕ) → over_lent there count rows ≡ false → there ≡ true → 16 * count ≤ length rows
lent true count rows e t = let enough = ltb-false (length rows / 16) count e in omega arith
lent false count rows e t = absurd (let z : ◌≡◌ {A = ℕ} 0 1 = ap (λ (b : Bool). cond b 1 0) t in omega arith)

pub write_taken : (r : Record) (universal existential : List ℕ) (room : ℕ) → write_cause r universal existential room ≡ 0
    → Written r universal existential room
unfolding write_cause
write_taken r universal existential room e =
    let map_passed = passed (ltb 31 r.map) 16 _ e in
    let size_passed = passed (ltb room (size r)) 17 _ map_passed.1 in
    let claim_passed = passed (bad_claim r) 6 _ size_passed.1 in
    let counts_passed = passed (bad_counts r) 3 _ claim_passed.1 in
    let lent_passed = passed (over_lent (stands 2 r.map) r.universal universal || over_lent (stands 3 r.map) r.existential existential) 3 0
    counts_passed.1 in
    let both = or_false (over_lent (stands 2 r.map) r.universal universal) (over_lent (stands 3 r.map) r.existential existential)
    lent_passed.0 in
    record {
      map_fits = ltb-false 31 r.map map_passed.0;
      fitting =
          record {
            size_fits = ltb-false room (size r) size_passed.0;
            universal_lent = lent (stands 2 r.map) r.universal universal both.0;
            existential_lent = lent (stands 3 r.map) r.existential existential both.1;
          };
      content = pass 7 claim_passed.0 ∙ pass 4 counts_passed.0;
    }
