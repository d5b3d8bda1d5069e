-- What the rounds leave one after the other is what they leave at once. Assumes nothing.
use Prim.Native.Nat.{ℕ, zero, suc, ◌*◌, ◌-◌, ◌≤◌, max}
use native.Mathlib.Omega.{arith}
use native.Mathlib.Decide.{dec_le}
use mathlib.Core.Path.{◌≡◌, refl, sym, ap, ◌∙◌}
use mathlib.Core.List.{List, [], ◌∷◌, ◌++◌}
use mathlib.Core.Logic.{by_cases}
use lib.ListN.{length, drop, length-map, length-append}
use Rattle.formula.specs.Formula.{Kind, existential, universal}
use Rattle.rows.specs.Table.{zeroed}
use Rattle.rows.proofs.TableLaws.{length_table_of}
use Rattle.rows.proofs.ZeroedLaws.{length_zeroed, zeroed_again, drop_zeroed, zeroed_over}
use Rattle.rounds.specs.Run.{Entry, rows, Lent, run, highest}
use Rattle.rounds.specs.Claim.{table}
use Rattle.rounds.specs.Counts.{came, counts}
use Rattle.rounds.specs.GivenUp.{Part, of_rows, of_marks, of_counts, width, cells, stored, stored_after, left_after, reached_over, room, GivenUp}
use Rattle.rounds.proofs.RunLaws.{run_extends}
use Rattle.rounds.proofs.Bounds.{count_in_room}

-- ---- one round

-- Zeros below m are not seen behind it.
same_behind : (m n : ℕ) (found : List ℕ) → drop m (zeroed n found) ≡ drop m (zeroed (max n m) found)
same_behind m n found = by_cases (dec_le n m) inside past
  where
    inside : n ≤ m → drop m (zeroed n found) ≡ drop m (zeroed (max n m) found)
    inside h = drop_zeroed n m found h ∙ sym (drop_zeroed (max n m) m found (omega arith))

    past : ¬ (n ≤ m) → drop m (zeroed n found) ≡ drop m (zeroed (max n m) found)
    past h = let same : n ≡ max n m = omega arith in ap (λ (k : ℕ). drop m (zeroed k found)) same

-- Behind the first m cells: the old ones are zero, and so is what was zero before.
given_up_at : (m : ℕ) (old found : List ℕ) (n : ℕ) → length old ≤ n → length old ≤ length found
    → zeroed (length old - m) (drop m (old ++ drop (length old) (zeroed n found))) ≡ drop m (zeroed (max n m) found)
given_up_at zero old found n below fits =
    let all : length old - 0 ≡ length old = omega arith in
    let most : n ≡ max n 0 = omega arith in
    ap (λ (k : ℕ). zeroed k (old ++ drop (length old) (zeroed n found))) all
    ∙ zeroed_over old (zeroed n found) (omega (arith, length_zeroed n found))
    ∙ zeroed_again (length old) n found below
    ∙ ap (λ (k : ℕ). zeroed k found) most
given_up_at (suc m) [] found n below fits =
    let none : 0 - suc m ≡ 0 = omega arith in
    ap (λ (k : ℕ). zeroed k (drop (suc m) (zeroed n found))) none ∙ same_behind (suc m) n found
given_up_at (suc m) (x ∷ old) [] n below fits = absurd (omega arith)
given_up_at (suc m) (x ∷ old) (y ∷ found) zero below fits = absurd (omega arith)
given_up_at (suc m) (x ∷ old) (y ∷ found) (suc n) below fits =
    let less : suc (length old) - suc m ≡ length old - m = omega arith in
    let most : suc (max n m) ≡ max (suc n) (suc m) = omega arith in
    ap (λ (k : ℕ). zeroed k (drop m (old ++ drop (length old) (zeroed n found)))) less
    ∙ given_up_at m old found n (omega arith) (omega arith)
    ∙ ap (λ (k : ℕ). drop (suc m) (zeroed k (y ∷ found))) most

-- ---- all rounds

-- `most r` is the largest number of cells that stood below the count after any of the rounds up to r.
module _ (standing : ℕ → List ℕ) (most : ℕ → ℕ) (first : most 0 ≡ length (standing 0))
    (later : (r : ℕ) → most (suc r) ≡ max (most r) (length (standing (suc r)))) where
  at_most : (r : ℕ) → length (standing r) ≤ most r
  at_most zero = omega (arith, first)
  at_most (suc r) = omega (arith, later r)

  stored_at_once : (r : ℕ) (found : List ℕ) → ((q : ℕ) → length (standing q) ≤ length found)
      → stored_after standing r found ≡ standing r ++ drop (length (standing r)) (zeroed (most r) found)
  unfolding stored_after
  stored_at_once zero found fits =
      let n = length (standing 0) in
      let none : 0 - n ≡ 0 = omega arith in
      ap (λ (k : ℕ). standing 0 ++ zeroed k (drop n found)) none
      ∙ ap (λ (rest : List ℕ). standing 0 ++ rest) (sym (drop_zeroed n n found (omega arith)))
      ∙ ap (λ (k : ℕ). standing 0 ++ drop n (zeroed k found)) (sym first)
  stored_at_once (suc r) found fits =
      let new = standing (suc r) in
      ap (stored new (length (standing r))) (stored_at_once r found fits)
      ∙ ap (λ (rest : List ℕ). new ++ rest) (given_up_at (length new) (standing r) found (most r) (at_most r) (fits r))
      ∙ ap (λ (k : ℕ). new ++ drop (length new) (zeroed k found)) (sym (later r))

-- ---- the cells of a table

pub length_cells : (part : Part) (l : Lent) (side : Kind) (r : ℕ) → length (cells part l side r) ≡ width part * length (table side (run l r))
unfolding counts
length_cells of_rows l side r =
    let t = table side (run l r) in
    omega (arith, length_table_of (rows t), length-map t (λ (x : Entry). x.row))
length_cells of_marks l side r = omega (arith, length-map (table side (run l r)) (λ (x : Entry). x.mark))
length_cells of_counts l side r = omega (arith, length-map (table side (run l r)) (λ (x : Entry). came l side r x.row))

widened : (part : Part) (a b : ℕ) → width part * max a b ≡ max (width part * a) (width part * b)
widened of_rows a b = omega arith
widened of_marks a b = omega arith
widened of_counts a b = omega arith

wider : (part : Part) (a b : ℕ) → a ≤ b → width part * a ≤ width part * b
wider of_rows a b h = omega arith
wider of_marks a b h = omega arith
wider of_counts a b h = omega arith

-- A table's cells never pass what is lent.
in_cells : (l : Lent) (part : Part) (side : Kind) (found : List ℕ) → 1 ≤ room side l → width part * room side l ≤ length found
    → (q : ℕ) → length (cells part l side q) ≤ length found
in_cells l part side found some_room long q =
    let inside = wider part (length (table side (run l q))) (room side l) (count_in_room l q side some_room) in
    omega (arith, length_cells part l side q)

-- The existential table only grows.
longer_s : (l : Lent) (r : ℕ) → length (run l r).S ≤ length (run l (suc r)).S
longer_s l r =
    let grows = run_extends l r (suc r) (omega arith) existential tt in
    rw grows.1 (simp length-append (omega arith))

module _ (l : Lent) (part : Part) where
  -- The most cells that a side's table had.
  abbrev most : Kind → ℕ → ℕ
  most universal r = width part * highest l r
  most existential r = length (cells part l existential r)

  at_first : (side : Kind) → most side 0 ≡ length (cells part l side 0)
  unfolding run highest
  at_first universal = sym (length_cells part l universal 0)
  at_first existential = refl

  further : (side : Kind) (r : ℕ) → most side (suc r) ≡ max (most side r) (length (cells part l side (suc r)))
  unfolding highest
  further universal r =
      widened part (highest l r) (length (run l (suc r)).A)
      ∙ ap (max (width part * highest l r)) (sym (length_cells part l universal (suc r)))
  further existential r =
      let more = wider part (length (run l r).S) (length (run l (suc r)).S) (longer_s l r) in
      omega (arith, length_cells part l existential r, length_cells part l existential (suc r))

  -- Nothing was zeroed behind the existential rows.
  behind : (side : Kind) (r : ℕ) (found : List ℕ)
      → drop (length (cells part l side r)) (zeroed (most side r) found)
      ≡ drop (length (cells part l side r)) (zeroed (width part * reached_over side l r) found)
  behind universal r found = refl
  behind existential r found =
      let n = length (cells part l existential r) in
      drop_zeroed n n found (omega arith) ∙ sym (drop_zeroed (width part * 0) n found (omega arith))

  pub left_at_once : (side : Kind) (r : ℕ) (found : List ℕ) → 1 ≤ room side l → width part * room side l ≤ length found
      → left_after part l side r found
      ≡ cells part l side r ++ drop (width part * length (table side (run l r))) (zeroed (width part * reached_over side l r) found)
  left_at_once side r found some_room long =
      stored_at_once (cells part l side) (most side) (at_first side) (further side) r found (in_cells l part side found some_room long)
      ∙ ap (λ (rest : List ℕ). cells part l side r ++ rest) (behind side r found)
      ∙ ap (λ (n : ℕ). cells part l side r ++ drop n (zeroed (width part * reached_over side l r) found)) (length_cells part l side r)

pub given_up : (l : Lent) (r : ℕ) → GivenUp l r
given_up l r = record { at_once = λ part side. left_at_once l part side r }
