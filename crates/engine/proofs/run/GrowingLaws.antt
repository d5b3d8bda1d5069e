-- The bytes of a table while rows are added: the loops' results are those of the table grown by the yielded rows. Assumes nothing.
use Prim.Native.Nat.{ℕ, zero, suc, ◌+◌, ◌*◌, ◌≤◌, ◌<◌}
use Rattle.std.specs.Prelude.{None, Option, Some}
use native.Mathlib.Omega.{arith}
use native.Mathlib.Nat.{add-zero}
use mathlib.Core.Path.{◌≡◌, refl, sym, ap, subst, ◌∙◌}
use mathlib.Core.Bool.{Bool, true, false, ◌&&◌, cond, true≢false, false≢true}
use mathlib.Core.List.{List, [], ◌∷◌, ◌++◌, map, append_assoc, append-nil}
use mathlib.Core.Logic.{◌⊎◌, inl, inr, ⊎_elim}
use lib.Dec.{ltb}
use lib.ListN.{length, get_or, take, drop, set, length-append, length-drop, length-map}
use lib.Seq.{take_at, drop_at, drop-drop, take_all, take-suc, drop-cons, set_at, append_snoc}
use borrow.Author.Tests.{lt-ltb}
use Rattle.formula.specs.Formula.{max_unknowns}
use Rattle.rows.specs.Row.{bytes_of, weight}
use Rattle.rows.specs.Table.{table_of, room}
use Rattle.rows.specs.Access.{first_place, placed}
use Rattle.rows.proofs.WriteLaws.{rows_written_inside, marks_written_inside}
use Rattle.rows.proofs.TableLaws.{length_table_of}
use Rattle.expansion.specs.Play.{Row}
use Rattle.expansion.specs.Copies.{fresh}
use Rattle.expansion.proofs.Membership.{In, in_of_place, place_of_in, in_append_cases, in_append_left, fresh_in}
use Rattle.expansion.proofs.FreshLaws.{fresh_old, fresh_new, length_fresh_take}
use Rattle.expansion.proofs.Counting.{Sized}
use Rattle.rounds.specs.Run.{Entry, Table, rows, under_mark, grown}
use Rattle.engine.specs.Outcome.{row_bytes, mark_numbers}
use Rattle.growth.specs.Growth.{is_absent, is_new, count_below, Bytes, bytes, with_row, with_new_row, with_new_rows}
use Rattle.rounds.proofs.TableLaws.{rows_append, rows_grown}
use Rattle.engine.proofs.run.ByteLaws.{Wide, table_of_append, row_at_table, at_in, absent_not_in}

pub wide_of_sized : (m : ℕ) (l : List Row) → Sized m l → Wide m l
wide_of_sized m l sized i h = sized (get_or l i []) (in_of_place l i [] h)

pub sized_of_wide : (m : ℕ) (l : List Row) → Wide m l → Sized m l
sized_of_wide m l wide x h =
    let (i, below, here) = place_of_in x l [] h in
    subst (λ (r : Row). length r ≡ m) here (wide i below)

length_rows : (t : Table) → length (rows t) ≡ length t
length_rows t = length-map t (λ (x : Entry). x.row)

pub length_row_bytes : (t : Table) (found : List ℕ) → length t ≤ room found → length (row_bytes t found) ≡ length found
unfolding row_bytes
length_row_bytes t found h =
    omega (arith, length-append (table_of (rows t)) (drop (16 * length t) found), length_table_of (rows t), length_rows t, length-drop (16 * length t) found)

pub length_mark_numbers : (t : Table) (found : List ℕ) → length t ≤ length found → length (mark_numbers t found) ≡ length found
unfolding mark_numbers
length_mark_numbers t found h =
    omega (arith, length-append (map (λ (x : Entry). x.mark) t) (drop (length t) found), length-map t (λ (x : Entry). x.mark), length-drop (length t) found)

map_append : {A B : Type 0} (f : A → B) (l more : List A) → map f (l ++ more) ≡ map f l ++ map f more
map_append f [] more = refl
map_append f (x ∷ l) more = ap (λ (k : List _). f x ∷ k) (map_append f l more)

-- ---- one row more

module _ (u : Table) (found : List ℕ) where
  take_row_bytes : take (16 * length u) (row_bytes u found) ≡ table_of (rows u)
  unfolding row_bytes
  take_row_bytes = take_at (table_of (rows u)) (drop (16 * length u) found) (16 * length u) (omega (arith, length_table_of (rows u), length_rows u))

  drop_row_bytes : drop (16 * length u + 16) (row_bytes u found) ≡ drop (16 * length u + 16) found
  unfolding row_bytes
  drop_row_bytes =
      sym (drop-drop 16 (16 * length u) (table_of (rows u) ++ drop (16 * length u) found))
      ∙ ap (drop 16) (drop_at (table_of (rows u)) (drop (16 * length u) found) (16 * length u) (omega (arith, length_table_of (rows u), length_rows u)))
      ∙ drop-drop 16 (16 * length u) found

  placed_row : (e : Entry) → placed (row_bytes u found) (length u) (bytes_of e.row) ≡ row_bytes (u ++ (e ∷ [])) found
  unfolding row_bytes
  placed_row e =
      let front : table_of (rows u) ++ bytes_of e.row ≡ table_of (rows (u ++ (e ∷ []))) =
      sym
      (ap table_of (rows_append u (e ∷ []))
      ∙ table_of_append (rows u) (e.row ∷ [])
      ∙ ap (λ (l : List ℕ). table_of (rows u) ++ l) (append-nil (bytes_of e.row))) in
      let place : 16 * length u + 16 ≡ 16 * length (u ++ (e ∷ [])) = omega (arith, length-append u (e ∷ [])) in
      ap (λ (l : List ℕ). (l ++ bytes_of e.row) ++ drop (16 * length u + 16) (row_bytes u found)) take_row_bytes
      ∙ ap (λ (l : List ℕ). (table_of (rows u) ++ bytes_of e.row) ++ l) drop_row_bytes
      ∙ ap (λ (l : List ℕ). l ++ drop (16 * length u + 16) found) front
      ∙ ap (λ (n : ℕ). table_of (rows (u ++ (e ∷ []))) ++ drop n found) place

set_mark : (u : Table) (found : List ℕ) (e : Entry) → length u < length found →
    set (mark_numbers u found) (length u) e.mark ≡ mark_numbers (u ++ (e ∷ [])) found
unfolding mark_numbers
set_mark u found e h =
    let marks = map (λ (x : Entry). x.mark) u in
    let place : suc (length u) ≡ length (u ++ (e ∷ [])) = omega (arith, length-append u (e ∷ [])) in
    ap (λ (l : List ℕ). set (marks ++ l) (length u) e.mark) (drop-cons found (length u) 0 h)
    ∙ set_at marks (get_or found (length u) 0) (drop (suc (length u)) found) e.mark (length u) (length-map u (λ (x : Entry). x.mark))
    ∙ sym (append_snoc marks e.mark (drop (suc (length u)) found))
    ∙ ap (λ (l : List ℕ). l ++ drop (suc (length u)) found) (sym (map_append (λ (x : Entry). x.mark) u (e ∷ [])))
    ∙ ap (λ (n : ℕ). map (λ (x : Entry). x.mark) (u ++ (e ∷ [])) ++ drop n found) place

-- A table as the code holds it.
abbrev pub image : List ℕ → List ℕ → Table → Bytes
image found found_marks u = bytes (row_bytes u found) (mark_numbers u found_marks) (length u)

-- The rows that are yielded stand at the start of the area.
module _ (m : ℕ) (few : m ≤ max_unknowns) (found found_marks : List ℕ) (one_a_row : length found_marks ≡ room found) (new : List Row) (rest : List ℕ)
    (new_sized : Sized m new) where
  abbrev area : List ℕ
  area = table_of new ++ rest

  with_row_image : (u : Table) (r j : ℕ) → length u < room found → j < length new
      → with_row area r j (image found found_marks u) ≡ image found found_marks (u ++ (under_mark r (get_or new j []) ∷ []))
  with_row_image u r j full hj =
      let e = under_mark r (get_or new j []) in
      let long : length u < room (row_bytes u found) = omega (arith, length_row_bytes u found (omega arith)) in
      let marked : length u < length (mark_numbers u found_marks) = omega (arith, length_mark_numbers u found_marks (omega arith)) in
      let from : j < room area = omega (arith, length-append (table_of new) rest, length_table_of new) in
      let on_rows =
      rows_written_inside (row_bytes u found) (mark_numbers u found_marks) (length u) area j long marked from
      ∙ ap (placed (row_bytes u found) (length u)) (row_at_table new rest j hj)
      ∙ placed_row u found e in
      let on_marks =
      marks_written_inside (row_bytes u found) (mark_numbers u found_marks) (length u) area j long marked from r
      ∙ set_mark u found_marks e (omega arith) in
      let counted : length u + 1 ≡ length (u ++ (e ∷ [])) = omega (arith, length-append u (e ∷ [])) in
      λ d. bytes (on_rows d) (on_marks d) (counted d)

  -- What the test of a row says of a table that the bytes hold.
  abbrev NewCase : Table → ℕ → Bool → Type 0
  NewCase u j true = (In (get_or new j []) (rows u) → ⊥) × (In (get_or new j []) (take j new) → ⊥)
  NewCase u j false = In (get_or new j []) (rows u) ⊎ In (get_or new j []) (take j new)

  new_case : (u : Table) → Sized m (rows u) → (j : ℕ) → j < length new → (v : Bool) → is_new (row_bytes u found) (length u) area j ≡ v → NewCase u j v
  unfolding is_new row_bytes
  new_case u sized j hj = by_places (first_place (row_bytes u found) (length u) area j) (first_place area j area j) refl refl
    where
      all : take (length u) (rows u) ≡ rows u
      all = take_all (length u) (rows u) (omega (arith, length_rows u))

      behind : List ℕ
      behind = drop (16 * length u) found

      in_count : length u ≤ length (rows u)
      in_count = omega (arith, length_rows u)

      by_places : (p q : Option ℕ) → first_place (row_bytes u found) (length u) area j ≡ p → first_place area j area j ≡ q
          → (v : Bool) → is_absent p && is_absent q ≡ v → NewCase u j v
      by_places (Some i) q ep eq true e = absurd (false≢true e)
      by_places (Some i) q ep eq false e =
          inl
          (subst (λ (l : List Row). In (get_or new j []) l) all
          (at_in m few (rows u) behind (wide_of_sized m (rows u) sized) new rest (wide_of_sized m new new_sized) (length u) j i in_count hj ep))
      by_places None (Some i) ep eq true e = absurd (false≢true e)
      by_places None (Some i) ep eq false e =
          inr (at_in m few new rest (wide_of_sized m new new_sized) new rest (wide_of_sized m new new_sized) j j i (omega arith) hj eq)
      by_places None None ep eq true e = (
        λ h.
            absent_not_in m few (rows u) behind (wide_of_sized m (rows u) sized) new rest (wide_of_sized m new new_sized) (length u) j in_count hj ep
            (subst (λ (l : List Row). In (get_or new j []) l) (sym all) h),
        absent_not_in m few new rest (wide_of_sized m new new_sized) new rest (wide_of_sized m new new_sized) j j (omega arith) hj eq,
      )
      by_places None None ep eq false e = absurd (true≢false e)

  module _ (t : Table) (sized : Sized m (rows t)) where
    -- The first pass counts the fresh rows.
    pub counted_fresh : (n : ℕ) → n ≤ length new → count_below n (is_new (row_bytes t found) (length t) area) ≡ length (fresh (rows t) (take n new))
    counted_fresh zero h = refl
    counted_fresh (suc n) h =
        ap (λ (k : ℕ). k + weight (is_new (row_bytes t found) (length t) area n)) (counted_fresh n (omega arith))
        ∙ by_test (is_new (row_bytes t found) (length t) area n) refl
        ∙ ap (λ (l : List Row). length (fresh (rows t) l)) (sym (take-suc new n [] h))
      where
        by_test : (v : Bool) → is_new (row_bytes t found) (length t) area n ≡ v
            → length (fresh (rows t) (take n new)) + weight v ≡ length (fresh (rows t) (take n new ++ (get_or new n [] ∷ [])))
        by_test true e =
            let case = new_case t sized n h true e in
            sym (ap length (fresh_new (get_or new n []) (rows t) (take n new) case.0 case.1) ∙ length-append (fresh (rows t) (take n new))
            (get_or new n [] ∷ []))
        by_test false e =
            add-zero (length (fresh (rows t) (take n new)))
            ∙ sym (ap length (fresh_old (get_or new n []) (rows t) (take n new) (new_case t sized n h false e)))

    pub sized_grown : (r n : ℕ) → n ≤ length new → Sized m (rows (grown r t (take n new)))
    sized_grown r n h x in_grown =
        ⊎_elim (sized x) (λ f. new_sized x (in_take n new x (fresh_in x (rows t) (take n new) f)))
        (in_append_cases x (rows t) (fresh (rows t) (take n new)) (subst (λ (l : List Row). In x l) (rows_grown r t (take n new)) in_grown))
      where
        in_take : (n : ℕ) (l : List Row) (x : Row) → In x (take n l) → In x l
        in_take zero l x h = absurd h
        in_take (suc n) [] x h = h
        in_take (suc n) (y ∷ l) x (inl e) = inl e
        in_take (suc n) (y ∷ l) x (inr k) = inr (in_take n l x k)

    -- The second pass adds them.
    module _ (r : ℕ) (fits : length (grown r t new) ≤ room found) where
      length_grown_is : (l : List Row) → length (grown r t l) ≡ length t + length (fresh (rows t) l)
      length_grown_is l = omega (arith, length-append t (map (under_mark r) (fresh (rows t) l)), length-map (fresh (rows t) l) (under_mark r))

      grown_with : (n : ℕ) → n < length new → (v : Bool) → NewCase (grown r t (take n new)) n v
          → grown r t (take (suc n) new) ≡ cond v (grown r t (take n new) ++ (under_mark r (get_or new n []) ∷ [])) (grown r t (take n new))
      grown_with n h true case =
          let x = get_or new n [] in
          let unseen : In x (rows t) → ⊥ =
          λ s. case.0 (subst (λ (l : List Row). In x l) (sym (rows_grown r t (take n new))) (in_append_left x (rows t) (fresh (rows t) (take n new)) s)) in
          ap (grown r t) (take-suc new n [] h)
          ∙ ap (λ (l : List Row). t ++ map (under_mark r) l) (fresh_new x (rows t) (take n new) unseen case.1)
          ∙ ap (λ (l : Table). t ++ l) (map_append (under_mark r) (fresh (rows t) (take n new)) (x ∷ []))
          ∙ sym (append_assoc t (map (under_mark r) (fresh (rows t) (take n new))) (under_mark r x ∷ []))
      grown_with n h false case =
          let x = get_or new n [] in
          let old : In x (rows (grown r t (take n new))) → In x (rows t) ⊎ In x (take n new) =
          λ g.
          ⊎_elim inl (λ f. inr (fresh_in x (rows t) (take n new) f))
          (in_append_cases x (rows t) (fresh (rows t) (take n new)) (subst (λ (l : List Row). In x l) (rows_grown r t (take n new)) g)) in
          ap (grown r t) (take-suc new n [] h)
          ∙ ap (λ (l : List Row). t ++ map (under_mark r) l) (fresh_old x (rows t) (take n new) (⊎_elim old inr case))

      image_next : (n : ℕ) → n < length new → (v : Bool) → is_new (row_bytes (grown r t (take n new)) found) (length (grown r t (take n new))) area n ≡ v
          → with_new_row area r n (image found found_marks (grown r t (take n new))) ≡ image found found_marks (grown r t (take (suc n) new))
      unfolding with_new_row
      image_next n h true e =
          let g : Table = grown r t (take n new) in
          let case = new_case g (sized_grown r n (omega arith)) n h true e in
          let next = grown_with n h true case in
          let more : length (grown r t (take (suc n) new)) ≡ length g + 1 = ap length next ∙ length-append g (under_mark r (get_or new n []) ∷ []) in
          let room_left : length g < room found =
          omega (arith, length_grown_is (take (suc n) new), length_grown_is new, length_fresh_take (rows t) new (suc n)) in
          let place : length g < room (row_bytes g found) = omega (arith, length_row_bytes g found (omega arith)) in
          ap (λ (v : Bool). cond (v && ltb (length g) (room (row_bytes g found))) (with_row area r n (image found found_marks g)) (image found found_marks g)) e
          ∙ ap (λ (v : Bool). cond v (with_row area r n (image found found_marks g)) (image found found_marks g))
          (lt-ltb (length g) (room (row_bytes g found)) place)
          ∙ with_row_image g r n room_left h
          ∙ ap (image found found_marks) (sym next)
      image_next n h false e =
          let g : Table = grown r t (take n new) in
          let case = new_case g (sized_grown r n (omega arith)) n h false e in
          ap (λ (v : Bool). cond (v && ltb (length g) (room (row_bytes g found))) (with_row area r n (image found found_marks g)) (image found found_marks g)) e
          ∙ ap (image found found_marks) (sym (grown_with n h false case))

      pub added_image : (n : ℕ) → n ≤ length new → with_new_rows area r n (image found found_marks t) ≡ image found found_marks (grown r t (take n new))
      added_image zero h = ap (image found found_marks) (sym (append-nil t))
      added_image (suc n) h =
          ap (with_new_row area r n) (added_image n (omega arith))
          ∙ image_next n h (is_new (row_bytes (grown r t (take n new)) found) (length (grown r t (take n new))) area n) refl
