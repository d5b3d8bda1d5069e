-- A word of a clause line: its cause, its entry by name, and what it adds to the free names. Assumes nothing.
use Prim.Native.Nat.{ℕ, ◌≤◌, ◌<◌}
use native.Mathlib.Omega.{arith}
use mathlib.Core.Path.{◌≡◌, refl, sym, ap, ◌∙◌}
use mathlib.Core.Bool.{Bool, true, false, cond, not, ◌||◌, true≢false}
use mathlib.Core.List.{List}
use borrow.Author.Tests.{lt-ltb, le-ltb, ltb-true}
use lib.Dec.{eqb, ltb}
use lib.IntN.{ℤ, pos}
use lib.ListN.{length, get_or}
use Rattle.formula.specs.Formula.{max_unknowns, max_entries}
use Rattle.formula.specs.Meaning.{bit}
use Rattle.lines.specs.Lines.{Bytes}
use Rattle.lines.specs.Numbers.{number, unsigned, negative, is_zero}
use Rattle.named.specs.Named.{among, signed}
use Rattle.named.specs.Closing.{insert, closed_names}
use Rattle.text.specs.Reading.{max_variables, room_cause, literal_cause, entry, free_with}
use Rattle.text.specs.Private.Steps.{Marked, WordRead}
use Rattle.text.proofs.NameLaws.{room_cause_zero}

-- A name without a mark is not placed.
marked_not : {names P : List ℕ} → Marked names P → (v : ℕ) → v ≤ max_variables → eqb (get_or P v 0) 0 ≡ not (among v names)
marked_not {names} {P} m v small = ap (λ (k : ℕ). eqb k 0) (m.right v small) ∙ go (among v names)
  where
    go : (b : Bool) → eqb (bit b) 0 ≡ not b
    go true = refl
    go false = refl

not_back : (a b : Bool) → a ≡ not b → b ≡ not a
not_back true true e = absurd (true≢false e)
not_back true false e = refl
not_back false true e = refl
not_back false false e = e

-- The closing 0.
pub word_zero : (variables : ℕ) (P : List ℕ) (n used : ℕ) (w : Bytes) {cause : ℕ} → is_zero w ≡ true → cause ≡ room_cause used
    → WordRead variables P n used w cause (pos 0) 0 false
unfolding literal_cause entry free_with
word_zero variables P n used w e k =
    record {
      room = λ none. room_cause_zero used (sym k ∙ none);
      place = λ none new. absurd (true≢false (sym new));
      small = omega arith;
      right = λ names l m. rw e k;
      written = λ none. rw e refl;
      free = λ free names m none. rw e refl;
    }

-- A name above V.
pub word_above : (variables : ℕ) (P : List ℕ) (n used : ℕ) (w : Bytes) → is_zero w ≡ false → variables < number (unsigned w)
    → WordRead variables P n used w 11 (pos 0) 0 false
unfolding literal_cause
word_above variables P n used w e above =
    record {
      room = λ none. absurd (omega arith);
      place = λ none new. absurd (omega arith);
      small = omega arith;
      right = λ names l m. rw (e, lt-ltb variables (number (unsigned w)) above) refl;
      written = λ none. absurd (omega arith);
      free = λ free names m none. absurd (omega arith);
    }

-- A literal.
module _ (variables : ℕ) (P : List ℕ) (n used : ℕ) (w : Bytes) {cause : ℕ} {z : ℤ} {v : ℕ} {new : Bool} (some : is_zero w ≡ false) (value : v ≡ number (unsigned w))
    (small : v ≤ variables) (in_range : variables ≤ max_variables) (unmarked : new ≡ eqb (get_or P v 0) 0)
    (found : cause ≡ cond new (cond (ltb n max_unknowns) (room_cause used) 14) (room_cause used)) (literal : z ≡ signed (negative w) v) where
  cause_zero : (b d : Bool) → ltb n max_unknowns ≡ d → cond b (cond d (room_cause used) 14) (room_cause used) ≡ 0 → (used < max_entries) × (b ≡ true → n < max_unknowns)
  cause_zero true true q none = (room_cause_zero used none, λ _. ltb-true n max_unknowns q)
  cause_zero true false q none = absurd (omega arith)
  cause_zero false d q none = (room_cause_zero used none, λ new. absurd (true≢false (sym new)))

  zero_facts : cause ≡ 0 → (used < max_entries) × (new ≡ true → n < max_unknowns)
  zero_facts none = cause_zero new (ltb n max_unknowns) refl (sym found ∙ none)

  placed_not : {names : List ℕ} → Marked names P → among v names ≡ not new
  placed_not {names} m = not_back new (among v names) (unmarked ∙ marked_not m v (omega arith))

  cause_right : (names : List ℕ) → length names ≡ n → Marked names P → cause ≡ literal_cause variables names used w
  unfolding literal_cause
  cause_right names l m = found ∙ rw (some, ← value, le-ltb variables v small, placed_not m, l) (go new)
    where
      go : (b : Bool)
          → cond b (cond (ltb n max_unknowns) (room_cause used) 14) (room_cause used) ≡ cond (not b || ltb n max_unknowns) (room_cause used) 14
      go true = refl
      go false = refl

  free_right : (free names : List ℕ) → Marked (closed_names free names) P → free_with free names w ≡ cond new (insert v free) free
  unfolding free_with
  free_right free names m = rw (some, ← value, placed_not m) (go new)
    where
      go : (b : Bool) → cond (not b) free (insert v free) ≡ cond b (insert v free) free
      go true = refl
      go false = refl

  pub word_literal : WordRead variables P n used w cause z v new
  unfolding entry
  word_literal =
      record {
        room = λ none. (zero_facts none).0;
        place = λ none. (zero_facts none).1;
        small = omega arith;
        right = cause_right;
        written = λ none. rw (some, ← value) literal;
        free = λ free names m none. free_right free names m;
      }
