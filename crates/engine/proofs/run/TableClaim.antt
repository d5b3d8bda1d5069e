-- The claim about the run, carried over to the lent bytes. Assumes nothing.
use Prim.Native.Nat.{ℕ, zero, suc, ◌-◌, ◌*◌, ◌≤◌, ◌<◌}
use native.Mathlib.Omega.{arith}
use mathlib.Core.Path.{◌≡◌, refl, sym, ap, subst, ◌∙◌}
use mathlib.Core.List.{List, [], ◌∷◌, ◌++◌, map}
use mathlib.Core.Option.{none-ne-some}
use lib.ListN.{length, get_or, take, drop, length-map}
use lib.Seq.{take_at}
use Rattle.formula.specs.Formula.{max_unknowns, Kind, existential, universal, prefix}
use Rattle.formula.specs.Causes.{count}
use Rattle.rows.specs.Row.{row_of}
use Rattle.rows.specs.Table.{row_at, rows_of, table_of, zeroed}
use Rattle.rounds.specs.Run.{Entry, Table, rows, run, highest}
use Rattle.rounds.specs.Claim.{table, Stands, AllDifferent, NewRow, Claim}
use Rattle.rounds.proofs.Bounds.{row_length}
use Rattle.engine.specs.Outcome.{Given, lent, reached, row_bytes, mark_numbers, after}
use Rattle.engine.specs.Ended.{row_part, NewBytes, TableRight}
use Rattle.engine.specs.Private.Growing.{Passes}
use Rattle.engine.proofs.run.ByteLaws.{Wide, values_at, rows_of_table}
use Rattle.engine.proofs.run.GrowingLaws.{wide_of_sized}
use Rattle.engine.proofs.run.ExtendLaws.{few_unknowns}

-- What stands at a place, by the lists of rows and marks.
pub place_below : (t : Table) (i : ℕ) (x : Entry) → Stands t i x → i < length t
place_below [] i x s = absurd (none-ne-some x s)
place_below (y ∷ t) zero x s = omega arith
place_below (y ∷ t) (suc i) x s = let later = place_below t i x s in omega arith

pub row_there : (t : Table) (i : ℕ) (x : Entry) → Stands t i x → get_or (rows t) i [] ≡ x.row
row_there [] i x s = absurd (none-ne-some x s)
row_there (y ∷ t) zero x s = let e : y ≡ x = cc in rw e
row_there (y ∷ t) (suc i) x s = row_there t i x s

mark_there : (t : Table) (rest : List ℕ) (i : ℕ) (x : Entry) → Stands t i x → get_or (map (λ (e : Entry). e.mark) t ++ rest) i 0 ≡ x.mark
mark_there [] rest i x s = absurd (none-ne-some x s)
mark_there (y ∷ t) rest zero x s = let e : y ≡ x = cc in rw e
mark_there (y ∷ t) rest (suc i) x s = mark_there t rest i x s

stands_below : (t : Table) (i : ℕ) → i < length t → (x : Entry) × Stands t i x
stands_below [] i h = absurd (omega arith)
stands_below (y ∷ t) zero h = (y, refl)
stands_below (y ∷ t) (suc i) h = stands_below t i (omega arith)

length_rows : (t : Table) → length (rows t) ≡ length t
length_rows t = length-map t (λ (x : Entry). x.row)

-- A table of the run in bytes, whatever was found behind it.
module _ (m : ℕ) (few : m ≤ max_unknowns) where
  value_there : (found : List ℕ) (t : Table) → Wide m (rows t) → (i : ℕ) (x : Entry) → Stands t i x → row_of m (row_at (row_bytes t found) i) ≡ x.row
  unfolding row_bytes
  value_there found t wide i x s =
      let below : i < length (rows t) = omega (arith, place_below t i x s, length_rows t) in
      values_at m few (rows t) _ wide i below ∙ row_there t i x s

  -- Equal bytes are equal rows, also of two tables.
  same_row : (found behind : List ℕ) (t u : Table) → Wide m (rows t) → Wide m (rows u) → (i j : ℕ) (x y : Entry) → Stands t i x → Stands u j y
      → row_at (row_bytes t found) i ≡ row_at (row_bytes u behind) j → x.row ≡ y.row
  same_row found behind t u wide_t wide_u i j x y p q e = sym (value_there found t wide_t i x p) ∙ ap (row_of m) e ∙ value_there behind u wide_u j y q

  read_back : (found : List ℕ) (t : Table) → Wide m (rows t) → rows_of m (length t) (row_bytes t found) ≡ rows t
  unfolding row_bytes
  read_back found t wide =
      let rest = drop (16 * length t) found in
      ap (λ (n : ℕ). rows_of m n (table_of (rows t) ++ rest)) (sym (length_rows t)) ∙ rows_of_table m few (rows t) rest wide

  no_twice : (found : List ℕ) (t : Table) → Wide m (rows t) → AllDifferent t → (i j : ℕ) → i < length t → j < length t
      → row_at (row_bytes t found) i ≡ row_at (row_bytes t found) j → i ≡ j
  no_twice found t wide different i j hi hj e =
      let (x, p) = stands_below t i hi in
      let (y, q) = stands_below t j hj in
      different i j x y p q (same_row found found t t wide wide i j x y p q e)

  new_bytes : (r : ℕ) (before after end : Table) (found behind : List ℕ) → Wide m (rows before) → Wide m (rows end) → (marks : List ℕ)
      → NewRow r before after end
      → NewBytes r (row_bytes before found) (length before) (row_bytes end behind) (mark_numbers end marks) (length end)
  unfolding mark_numbers
  new_bytes r before after end found behind wide_b wide_e marks n =
      record {
        place = n.place;
        below = place_below end n.place n.entry n.still;
        marked = mark_there end _ n.place n.entry n.still ∙ n.marked;
        new =
            λ i h e.
            let (x, p) = stands_below before i h in
            n.new i x p (same_row found behind before end wide_b wide_e i n.place x n.entry p n.still e);
      }

marks_back : (t : Table) (found : List ℕ) → take (length t) (mark_numbers t found) ≡ map (λ (x : Entry). x.mark) t
unfolding mark_numbers
marks_back t found = take_at (map (λ (x : Entry). x.mark) t) (drop (length t) found) (length t) (length-map t (λ (x : Entry). x.mark))

-- What a side's rows stand over after round r.
abbrev behind_rows : Kind → Given → ℕ → List ℕ
behind_rows universal g r = zeroed (16 * highest (lent g) r) g.found.universal_rows
behind_rows existential g r = g.found.existential_rows

rows_so : (side : Kind) (g : Given) (r : ℕ) → row_bytes (table side (run (lent g) r)) (behind_rows side g r) ≡ row_part side (after g r)
rows_so universal g r = refl
rows_so existential g r = refl

module _ (g : Given) (passes : Passes g.kinds g.literals) (claim : Claim (lent g) g.limit) (side : Kind) (marks : List ℕ) where
  abbrev end : Table
  end = table side (reached g)

  abbrev left_rows : List ℕ
  left_rows = row_bytes end (behind_rows side g g.limit)

  right_of_end : TableRight g side left_rows (mark_numbers end marks) (length end)
  right_of_end =
      let m = count side (prefix g.kinds) in
      let few = few_unknowns g.kinds g.literals passes side in
      let wide : (r : ℕ) → Wide m (rows (table side (run (lent g) r))) = λ r. wide_of_sized m (rows (table side (run (lent g) r))) (row_length (lent g) r side)
      in
      let here = behind_rows side g g.limit in
      let in_bytes : (r : ℕ) → NewRow r (table side (run (lent g) (r - 1))) (table side (run (lent g) r)) end
      → NewBytes r (row_part side (after g (r - 1))) (length (table side (run (lent g) (r - 1)))) left_rows (mark_numbers end marks) (length end) =
      λ r new.
      subst (λ (b : List ℕ). NewBytes r b (length (table side (run (lent g) (r - 1)))) left_rows (mark_numbers end marks) (length end))
      (rows_so side g (r - 1))
      (new_bytes m few r _ _ end (behind_rows side g (r - 1)) here (wide (r - 1)) (wide g.limit) marks new) in
      record {
        rows_read = read_back m few here end (wide g.limit);
        marks_read = marks_back end marks;
        different = no_twice m few here end (wide g.limit) (claim.different_at_end side);
        new_rows = λ r f kept. in_bytes r (claim.new_rows side r g.limit f f.to_limit (omega arith) kept);
        to_the_end = λ never r f. in_bytes r (claim.to_the_end side r never f);
      }

  pub table_right : (rows_left marks_left : List ℕ) (number : ℕ) → rows_left ≡ row_part side (after g g.limit) → marks_left ≡ mark_numbers end marks
      → number ≡ length end → TableRight g side rows_left marks_left number
  table_right rows_left marks_left number a b c =
      subst (λ (n : ℕ). TableRight g side rows_left marks_left n) (sym c)
      (subst (λ (l : List ℕ). TableRight g side rows_left l (length end)) (sym b)
      (subst (λ (l : List ℕ). TableRight g side l (mark_numbers end marks) (length end)) (rows_so side g g.limit ∙ sym a) right_of_end))
