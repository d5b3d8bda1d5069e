-- The opening in bytes: what is read from the lent tables at the end is the opening of the run. Assumes nothing.
use Prim.Native.Nat.{ℕ, zero, suc, ◌*◌, ◌-◌, ◌≤◌, ◌<◌}
use native.Mathlib.Omega.{arith}
use mathlib.Core.Path.{◌≡◌, refl, sym, ap, ◌∙◌}
use mathlib.Core.Bool.{Bool, false, cond}
use mathlib.Core.List.{List, [], ◌∷◌, ◌++◌}
use lib.IntN.{ℤ}
use lib.ListN.{length, get_or, take, drop, length-map}
use lib.Seq.{ext_get_or, get_or-take}
use borrow.Author.Tests.{ne_eqb}
use Rattle.formula.specs.Formula.{max_unknowns, Kind, existential, universal, prefix}
use Rattle.formula.proofs.Accepted.{accepted}
use Rattle.rows.specs.Row.{row_of, bytes_of}
use Rattle.rows.specs.Table.{row_at, table_of}
use Rattle.rows.proofs.RowLaws.{length_row_of, get_or_row_of, bit_bytes_of}
use Rattle.expansion.specs.Play.{Row}
use Rattle.opening.specs.Start.{equal_from_start, first_bits}
use Rattle.rounds.specs.Run.{Entry, Table, rows, is_false, is_true, spent, no_room_universal, no_room_existential, Outcome as RunOutcome, Answer as RunAnswer}
use Rattle.rounds.specs.Opening.{block, last_row, opening, opening_length, opening_by}
use Rattle.rounds.proofs.Blocks.{block_at_most}
use Rattle.engine.specs.declared.run.Answer.{Answer}
use Rattle.engine.specs.declared.run.End.{End}
use Rattle.engine.specs.declared.run.Outcome.{Outcome}
use Rattle.engine.specs.Outcome.{named, reported, row_bytes}
use Rattle.engine.specs.Private.Growing.{Passes, said, opened_from, opened_by, with_opening}
use Rattle.engine.proofs.run.ByteLaws.{Wide, row_at_table}
use Rattle.engine.proofs.run.ExtendLaws.{few_unknowns}

-- The block by the bytes of the kinds.
block_existential : (kinds : List ℕ) → equal_from_start 0 kinds ≡ block existential (prefix kinds)
block_existential [] = refl
block_existential (zero ∷ kinds) = ap suc (block_existential kinds)
block_existential (suc k ∷ kinds) = ap (λ (b : Bool). cond b (suc (equal_from_start 0 kinds)) 0) (ne_eqb (suc k) 0 (λ e. omega arith))

block_universal : (kinds : List ℕ) → ((k : ℕ) → get_or kinds k 0 ≤ 1) → equal_from_start 1 kinds ≡ block universal (prefix kinds)
block_universal [] known = refl
block_universal (zero ∷ kinds) known = refl
block_universal (suc zero ∷ kinds) known = ap suc (block_universal kinds (λ k. known (suc k)))
block_universal (suc (suc k) ∷ kinds) known = absurd (let high = known zero in omega arith)

-- The first values of a row, by its bytes.
values_of_bytes : (m : ℕ) (row : Row) → m ≤ max_unknowns → length (take m row) ≡ m → row_of m (bytes_of row) ≡ take m row
values_of_bytes m row few whole =
    ext_get_or false (row_of m (bytes_of row)) (take m row) (length_row_of m (bytes_of row) ∙ sym whole) (λ k below.
    let inside : k < m = omega (arith, length_row_of m (bytes_of row)) in
    get_or_row_of m (bytes_of row) k inside ∙ bit_bytes_of row k (omega arith) ∙ sym (get_or-take m row k false inside))

-- The last row of a table: its place, its values, and its bytes.
last_place : (x : Row) (xs : List Row) → get_or (x ∷ xs) (length xs) [] ≡ last_row (x ∷ xs)
last_place x [] = refl
last_place x (y ∷ xs) = last_place y xs

pub length_last_row : (m : ℕ) (x : Entry) (t : Table) → Wide m (rows (x ∷ t)) → length (last_row (rows (x ∷ t))) ≡ m
length_last_row m x t wide = sym (ap length (last_place x.row (rows t))) ∙ wide (length (rows t)) (omega arith)

pub last_row_at : (x : Entry) (t : Table) (found : List ℕ) → row_at (row_bytes (x ∷ t) found) (length (x ∷ t) - 1) ≡ bytes_of (last_row (rows (x ∷ t)))
unfolding row_bytes
last_row_at x t found =
    let all = rows (x ∷ t) in
    let rest = drop (16 * length (x ∷ t)) found in
    let long : length (rows t) ≡ length t = length-map t (λ (y : Entry). y.row) in
    let place : length (x ∷ t) - 1 ≡ length (rows t) = omega arith in
    ap (row_at (table_of all ++ rest)) place ∙ row_at_table all rest (length (rows t)) (omega arith) ∙ ap bytes_of (last_place x.row (rows t))

-- The first bits of the last row that a table's bytes hold. An empty table has no block to open.
last_bits : (t : Table) (found : List ℕ) (m : ℕ) → m ≤ max_unknowns → length (take m (last_row (rows t))) ≡ m
    → first_bits (row_bytes t found) (length t - 1) m ≡ bytes_of (take m (last_row (rows t)))
unfolding first_bits row_of
last_bits [] found zero few whole = refl
last_bits [] found (suc m) few whole = absurd (omega arith)
last_bits (x ∷ t) found m few whole = ap bytes_of (ap (row_of m) (last_row_at x t found) ∙ values_of_bytes m (last_row (rows (x ∷ t))) few whole)

-- The opening that is read from the tables' bytes is that of the outcome which they hold.
module _ (kinds : List ℕ) (literals : List ℤ) (passes : Passes kinds literals) (a_found s_found : List ℕ) (o : RunOutcome)
    (whole : length (opening (prefix kinds) o) ≡ opening_length o.answer (prefix kinds)) where
  abbrev end : RunAnswer → End
  end a = said (named a) o.round (length o.A) (length o.S)

  few : (side : Kind) → block side (prefix kinds) ≤ max_unknowns
  few side = let most = block_at_most side (prefix kinds) in omega (arith, few_unknowns kinds literals passes side)

  abbrev read : RunAnswer → Outcome
  read a = opened_by (named a) (end a) kinds (row_bytes o.A a_found) (row_bytes o.S s_found)

  abbrev opened_so : RunAnswer → Outcome
  opened_so a =
      record {
        answer = named a;
        round = o.round;
        universal = length o.A;
        existential = length o.S;
        opening = bytes_of (opening_by a (prefix kinds) o);
        block = opening_length a (prefix kinds);
      }

  by_answer : (a : RunAnswer) → length (opening_by a (prefix kinds) o) ≡ opening_length a (prefix kinds) → read a ≡ opened_so a
  unfolding bytes_of
  by_answer is_true e = rw (block_existential kinds, last_bits o.S s_found (block existential (prefix kinds)) (few existential) e)
  by_answer is_false e =
      rw (block_universal kinds (accepted kinds literals passes).kinds_known, last_bits o.A a_found (block universal (prefix kinds)) (few universal) e)
  by_answer spent e = refl
  by_answer no_room_universal e = refl
  by_answer no_room_existential e = refl

  pub opening_read : with_opening (end o.answer) kinds (row_bytes o.A a_found) (row_bytes o.S s_found) ≡ reported (prefix kinds) o
  unfolding opening
  opening_read = by_answer o.answer whole

-- What `opened_by` returns, by what it reads.
abbrev outcome : End → List ℕ → ℕ → Outcome
outcome end bits m = record { answer = end.answer; round = end.round; universal = end.universal; existential = end.existential; opening = bits; block = m }

pub opened_read : (end : End) (kinds : List ℕ) (kind : ℕ) (table : List ℕ) (n m place : ℕ) (bits : List ℕ) → m ≡ equal_from_start kind kinds → place ≡ n - 1
    → bits ≡ first_bits table place m → outcome end bits m ≡ opened_from end kinds kind table n
opened_read end kinds kind table n m place bits block_is place_is bits_are =
    let read : bits ≡ first_bits table (n - 1) (equal_from_start kind kinds) =
    bits_are ∙ ap (λ (i : ℕ). first_bits table i m) place_is ∙ ap (first_bits table (n - 1)) block_is in
    λ d. outcome end (read d) (block_is d)

-- What `opened` returns, by the answer that it meets.
pub opened_met : (end : End) (kinds A S : List ℕ) {a : Answer} {r : Outcome} → end.answer ≡ a → r ≡ opened_by a end kinds A S → r ≡ with_opening end kinds A S
opened_met end kinds A S met made = made ∙ sym (ap (λ (b : Answer). opened_by b end kinds A S) met)
