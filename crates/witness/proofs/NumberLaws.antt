-- The number and the values of what reading and writing return, and what is known of a cause that was asked for.
-- Assumes nothing.
use Prim.Native.Nat.{ℕ}
use Rattle.std.specs.Prelude.{Err, Ok}
use Rattle.std.specs.Result.{is_err}
use Rattle.cause.specs.Cause.{caused, told, unless_cause}
use native.Mathlib.Omega.{arith}
use mathlib.Core.Path.{◌≡◌, refl, ap, ◌∙◌}
use mathlib.Core.Bool.{Bool, true, false, cond, ◌||◌}
use mathlib.Core.List.{List}
use lib.Dec.{eqb, ltb}
use lib.ListN.{length, get_or}
use borrow.Author.Tests.{eqb-true}
use Rattle.witness.specs.declared.Record.{Record}
use Rattle.witness.specs.File.{stands, end_of, record_of, bad_claim, bad_counts, content_cause, file_cause, size, over_lent, write_cause, reading}
use Rattle.witness.specs.File.{reading_number, writing, writing_number, length_written, written_length}

-- Whether a cause applies, by what was answered.
pub no_cause : {A : Type 0} (n : ℕ) (answer : A) → is_err (unless_cause n answer) ≡ false → n ≡ 0
no_cause {A} n answer = by (eqb n 0) refl
  where
    by : (b : Bool) → eqb n 0 ≡ b → is_err {T = A} (cond b (Ok answer) (Err (caused n))) ≡ false → n ≡ 0
    by true t e = eqb-true n 0 t
    by false t e = absurd (let z : ◌≡◌ {A = ℕ} 0 1 = ap (λ (b : Bool). cond b 0 1) e in omega arith)

pub some_cause : {A : Type 0} (n : ℕ) (answer : A) → is_err (unless_cause n answer) ≡ true → eqb n 0 ≡ false
some_cause {A} n answer = by (eqb n 0) refl
  where
    by : (b : Bool) → eqb n 0 ≡ b → is_err {T = A} (cond b (Ok answer) (Err (caused n))) ≡ true → eqb n 0 ≡ false
    by true t e = absurd (let z : ◌≡◌ {A = ℕ} 0 1 = ap (λ (b : Bool). cond b 1 0) e in omega arith)
    by false t e = t

-- Each number here is 0, or that of the cause which it names.
abbrev Told : ℕ → Type 0
Told n = told {A = ℕ} (unless_cause n 0) ≡ n

told_cond : (b : Bool) (n m : ℕ) → Told n → Told m → Told (cond b n m)
told_cond true n m of_n of_m = of_n
told_cond false n m of_n of_m = of_m

told_whatever : {A : Type 0} (n : ℕ) (answer : A) → Told n → told (unless_cause n answer) ≡ n
told_whatever {A} n answer of_n = let same = by (eqb n 0) in same ∙ of_n
  where
    by : (b : Bool) → told {A = A} (cond b (Ok answer) (Err (caused n))) ≡ told {A = ℕ} (cond b (Ok 0) (Err (caused n)))
    by true = refl
    by false = refl

told_content : (r : Record) → Told (content_cause r)
told_content r = told_cond (bad_claim r) 7 _ refl (told_cond (bad_counts r) 4 0 refl refl)

told_file : (f : List ℕ) → Told (file_cause f)
unfolding file_cause
told_file f =
    told_cond (eqb (length f) 0) 18 _ refl
    (told_cond (ltb 31 (get_or f 0 0)) 17 _ refl (told_cond (eqb (length f) (end_of f)) (content_cause (record_of f)) 18 (told_content (record_of f)) refl))

told_write : (r : Record) (universal existential : List ℕ) (room : ℕ) → Told (write_cause r universal existential room)
unfolding write_cause
told_write r universal existential room =
    told_cond (ltb 31 r.map) 17 _ refl
    (told_cond (ltb room (size r)) 18 _ refl
    (told_cond (bad_claim r) 7 _ refl
    (told_cond (bad_counts r) 4 _ refl
    (told_cond (over_lent (stands 2 r.map) r.universal universal || over_lent (stands 3 r.map) r.existential existential) 4 0 refl refl))))

module _ (f : List ℕ) where
  pub reading_numbered : reading_number (reading f) ≡ file_cause f
  reading_numbered = told_whatever (file_cause f) (record_of f) (told_file f)

module _ (r : Record) (universal existential out : List ℕ) where
  abbrev cause : ℕ
  cause = write_cause r universal existential (length out)

  pub writing_numbered : writing_number (writing r universal existential out) ≡ cause
  writing_numbered = told_whatever cause (size r) (told_write r universal existential (length out))

  pub writing_valued : length_written (writing r universal existential out) ≡ written_length r universal existential out
  writing_valued = by (eqb cause 0)
    where
      by : (b : Bool) → length_written (cond b (Ok (size r)) (Err (caused cause))) ≡ cond b (size r) 0
      by true = refl
      by false = refl
