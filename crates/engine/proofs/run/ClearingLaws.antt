-- Clearing the universal table, in bytes: what its rows stand over, and what the step that may clear it leaves. Assumes nothing.
use Prim.Native.Nat.{ℕ, zero, suc, ◌*◌, ◌/◌, ◌%◌, ◌≤◌, max}
use native.Mathlib.Omega.{arith}
use native.Mathlib.Decide.{dec_le}
use mathlib.Core.Path.{◌≡◌, refl, sym, ap, subst, ◌∙◌}
use mathlib.Core.Bool.{Bool, true, false, cond}
use mathlib.Core.List.{List, [], ◌++◌, map}
use mathlib.Core.Logic.{by_cases}
use lib.Dec.{eqb}
use lib.IntN.{ℤ}
use lib.ListN.{length, drop, length-map}
use Rattle.formula.specs.Formula.{work_size, Kind, existential, universal}
use Rattle.rows.specs.Table.{table_of, room, zeroed}
use Rattle.rows.specs.Access.{zeroed_from, places_below, rows_given_up, marks_given_up}
use Rattle.rows.proofs.ZeroedLaws.{length_zeroed, zeroed_again, drop_zeroed, zeroed_over, given_up_behind}
use Rattle.rows.proofs.TableLaws.{length_table_of}
use Rattle.rounds.specs.Run.{Entry, Table, rows, clears}
use Rattle.engine.specs.declared.run.Step.{Step}
use Rattle.engine.specs.declared.run.Step.TheVariants.{Grown as GrownTo}
use Rattle.engine.specs.Outcome.{row_bytes, mark_numbers}
use Rattle.engine.specs.Private.Growing.{Passes, HoldsRows, Holds, Blank, Half, no_model, no_room, grows, half_of, Extended, Extends, ExtendsUniversal}
use Rattle.engine.proofs.run.GrowingLaws.{length_row_bytes, length_mark_numbers}
use Rattle.engine.proofs.run.ExtendLaws.{table_fits_length}

length_rows : (t : Table) → length (rows t) ≡ length t
length_rows t = length-map t (λ (x : Entry). x.row)

length_bytes : (t : Table) → length (table_of (rows t)) ≡ 16 * length t
length_bytes t = omega (arith, length_table_of (rows t), length_rows t)

length_marks : (t : Table) → length (map (λ (x : Entry). x.mark) t) ≡ length t
length_marks t = length-map t (λ (x : Entry). x.mark)

-- ---- which rounds clear

pub never_clears : (k r : ℕ) → k ≡ 0 → false ≡ clears k r
unfolding clears
never_clears k r e = ap (λ (n : ℕ). clears n r) (sym e)

pub clears_divided : (k r : ℕ) → (k ≡ 0 → ⊥) → eqb (r % k) 0 ≡ clears k r
unfolding clears
clears_divided zero r some = absurd (some refl)
clears_divided (suc k) r some = refl

-- ---- what a table's rows stand over

-- Zeros below a table's rows are not seen: those of n places, or of as many as it has rows.
same_behind : (m n : ℕ) (found : List ℕ) → n ≤ m → drop m (zeroed n found) ≡ drop m (zeroed m found)
same_behind m n found h = drop_zeroed n m found h ∙ sym (drop_zeroed m m found (omega arith))

pub rows_over_more : (t : Table) (n : ℕ) (found : List ℕ) → row_bytes t (zeroed (16 * n) found) ≡ row_bytes t (zeroed (16 * max n (length t)) found)
unfolding row_bytes
rows_over_more t n found = by_cases (dec_le (length t) n) inside past
  where
    inside : length t ≤ n → row_bytes t (zeroed (16 * n) found) ≡ row_bytes t (zeroed (16 * max n (length t)) found)
    inside h = let same : n ≡ max n (length t) = omega arith in ap (λ (m : ℕ). row_bytes t (zeroed (16 * m) found)) same

    past : ¬ (length t ≤ n) → row_bytes t (zeroed (16 * n) found) ≡ row_bytes t (zeroed (16 * max n (length t)) found)
    past h =
        let same : length t ≡ max n (length t) = omega arith in
        ap (λ (rest : List ℕ). table_of (rows t) ++ rest) (same_behind (16 * length t) (16 * n) found (omega arith))
        ∙ ap (λ (m : ℕ). row_bytes t (zeroed (16 * m) found)) same

pub marks_over_more : (t : Table) (n : ℕ) (found : List ℕ) → mark_numbers t (zeroed n found) ≡ mark_numbers t (zeroed (max n (length t)) found)
unfolding mark_numbers
marks_over_more t n found = by_cases (dec_le (length t) n) inside past
  where
    inside : length t ≤ n → mark_numbers t (zeroed n found) ≡ mark_numbers t (zeroed (max n (length t)) found)
    inside h = let same : n ≡ max n (length t) = omega arith in ap (λ (m : ℕ). mark_numbers t (zeroed m found)) same

    past : ¬ (length t ≤ n) → mark_numbers t (zeroed n found) ≡ mark_numbers t (zeroed (max n (length t)) found)
    past h =
        let same : length t ≡ max n (length t) = omega arith in
        ap (λ (rest : List ℕ). map (λ (x : Entry). x.mark) t ++ rest)
        (same_behind (length t) n found (omega arith))
        ∙ ap (λ (m : ℕ). mark_numbers t (zeroed m found)) same

-- A table that has reached over no more places than it has rows stands over what was found.
pub rows_if_never : (t : Table) (n : ℕ) (found : List ℕ) → n ≡ length t → row_bytes t (zeroed (16 * n) found) ≡ row_bytes t found
unfolding row_bytes
rows_if_never t n found e = ap (λ (rest : List ℕ). table_of (rows t) ++ rest) (drop_zeroed (16 * n) (16 * length t) found (omega arith))

pub marks_if_never : (t : Table) (n : ℕ) (found : List ℕ) → n ≡ length t → mark_numbers t (zeroed n found) ≡ mark_numbers t found
unfolding mark_numbers
marks_if_never t n found e = ap (λ (rest : List ℕ). map (λ (x : Entry). x.mark) t ++ rest) (drop_zeroed n (length t) found (omega arith))

-- So a table that stands over n zeros stands over as many as it has ever reached over.
pub over_more : (kinds : List ℕ) (side : Kind) (t : Table) (found found_marks : List ℕ) (n : ℕ) (R M : List ℕ)
    → Holds kinds side t (zeroed (16 * n) found) (zeroed n found_marks) R M
    → Holds kinds side t (zeroed (16 * max n (length t)) found) (zeroed (max n (length t)) found_marks) R M
over_more kinds side t found found_marks n R M held =
    let m : ℕ = max n (length t) in
    let same : length (zeroed (16 * n) found) ≡ length (zeroed (16 * m) found) = length_zeroed (16 * n) found ∙ sym (length_zeroed (16 * m) found) in
    record {
      in_rows =
          record {
            fits = sym (table_fits_length (zeroed (16 * n) found) (zeroed (16 * m) found) same) ∙ held.in_rows.fits;
            in_room = subst (λ (b : ℕ). length t ≤ b / 16) same held.in_rows.in_room;
            sized = held.in_rows.sized;
            in_bytes = held.in_rows.in_bytes ∙ rows_over_more t n found;
          };
      one_a_row =
          length_zeroed m found_marks ∙ sym (length_zeroed n found_marks) ∙ held.one_a_row ∙ ap (λ (b : ℕ). b / 16) same;
      in_marks = held.in_marks ∙ marks_over_more t n found_marks;
    }

pub blank_below : (m n : ℕ) (found found_marks : List ℕ) → m ≤ n → Blank m (zeroed (16 * n) found) (zeroed n found_marks)
blank_below m n found found_marks h =
    record { no_rows = zeroed_again (16 * m) (16 * n) found (omega arith); no_marks = zeroed_again m n found_marks h }

-- ---- the step

-- The table that a step goes on from, over what it finds behind it: all of t, or nothing of it, over the bytes as they stand. Below t's rows, had
-- they been zero, is what was found behind t.
record GoingOn (kinds : List ℕ) (t q : Table) (found found_marks R M : List ℕ) : Type 0 where
  behind : List ℕ
  marks_behind : List ℕ
  held : Holds kinds universal q behind marks_behind R M
  same_room : room behind ≡ room found
  zeroed_rows : zeroed (16 * length t) behind ≡ found
  zeroed_marks : zeroed (length t) marks_behind ≡ found_marks

module _ (kinds : List ℕ) (t : Table) (found found_marks R M : List ℕ) (held : Holds kinds universal t found found_marks R M)
    (blank : Blank (length t) found found_marks) where
  same_length : length R ≡ length found
  same_length = ap length held.in_rows.in_bytes ∙ length_row_bytes t found held.in_rows.in_room

  same_room : room R ≡ room found
  same_room = ap (λ (b : ℕ). b / 16) same_length

  marks_length : length M ≡ length found_marks
  marks_length = ap length held.in_marks ∙ length_mark_numbers t found_marks (omega (arith, held.one_a_row, held.in_rows.in_room))

  going_on : (b : Bool) → GoingOn kinds t (cond b [] t) found found_marks R M
  unfolding row_bytes mark_numbers
  going_on false =
      record {
        behind = found;
        marks_behind = found_marks;
        held = held;
        same_room = refl;
        zeroed_rows = blank.no_rows;
        zeroed_marks = blank.no_marks;
      }
  going_on true =
      record {
        behind = R;
        marks_behind = M;
        held =
            record {
              in_rows =
                  record {
                    fits = table_fits_length R found same_length ∙ held.in_rows.fits;
                    in_room = omega arith;
                    sized = λ i h. absurd (omega arith);
                    in_bytes = refl;
                  };
              one_a_row = marks_length ∙ held.one_a_row ∙ sym same_room;
              in_marks = refl;
            };
        same_room = same_room;
        zeroed_rows =
            ap (zeroed (16 * length t)) held.in_rows.in_bytes
            ∙ subst (λ (n : ℕ). zeroed n (table_of (rows t) ++ drop n found) ≡ zeroed n found) (length_bytes t)
            (zeroed_over (table_of (rows t)) found (omega (arith, length_bytes t, held.in_rows.in_room)))
            ∙ blank.no_rows;
        zeroed_marks =
            ap (zeroed (length t)) held.in_marks
            ∙ subst (λ (n : ℕ). zeroed n (map (λ (x : Entry). x.mark) t ++ drop n found_marks) ≡ zeroed n found_marks) (length_marks t)
            (zeroed_over (map (λ (x : Entry). x.mark) t) found_marks (omega (arith, length_marks t, held.one_a_row, held.in_rows.in_room)))
            ∙ blank.no_marks;
      }

  module _ (q : Table) (from : GoingOn kinds t q found found_marks R M) (h : Half) (n : ℕ) (counted : n ≡ length t) (step : Step) (R' M' W : List ℕ)
      (made : Extended kinds universal q h from.behind from.marks_behind step R' M' W) where
    -- Without a model or without room the table is left, and counted as before.
    left_as_it_was : Holds kinds universal q from.behind from.marks_behind R' M' → Holds kinds universal t found found_marks R' M'
    left_as_it_was after =
        let rows_left : R' ≡ R = after.in_rows.in_bytes ∙ sym from.held.in_rows.in_bytes in
        let marks_left : M' ≡ M = after.in_marks ∙ sym from.held.in_marks in
        record {
          in_rows =
              record {
                fits = held.in_rows.fits;
                in_room = held.in_rows.in_room;
                sized = held.in_rows.sized;
                in_bytes = rows_left ∙ held.in_rows.in_bytes;
              };
          one_a_row = held.one_a_row;
          in_marks = marks_left ∙ held.in_marks;
        }

    stopped : ((k : ℕ) → step ≡ GrownTo k → ⊥) → Extended kinds universal t h found found_marks step R' M' W
    stopped stops = go h made
      where
        go : (k : Half) → Extended kinds universal q k from.behind from.marks_behind step R' M' W
            → Extended kinds universal t k found found_marks step R' M' W
        go no_model m = record { ended = m.ended; holds = left_as_it_was m.holds; work_long = m.work_long }
        go no_room m = record { ended = m.ended; holds = left_as_it_was m.holds; work_long = m.work_long }
        go (grows u) m = absurd (stops (length u) m.ended)

    -- With the places given up zero, the table stands over what was found.
    given_up : (u : Table) (to : ℕ) → to ≡ length u → Holds kinds universal u from.behind from.marks_behind R' M'
        → Holds kinds universal u found found_marks (rows_given_up R' M' to n) (marks_given_up R' M' to n)
    unfolding rows_given_up marks_given_up row_bytes mark_numbers
    given_up u to counted_u after =
        let in_room : length u ≤ room found = omega (arith, after.in_rows.in_room, from.same_room) in
        let rows_long : length R' ≡ length from.behind = ap length after.in_rows.in_bytes ∙ length_row_bytes u from.behind
        after.in_rows.in_room in
        let marks_long : length M' ≡ length from.marks_behind =
        ap length after.in_marks ∙ length_mark_numbers u from.marks_behind (omega (arith, after.one_a_row, after.in_rows.in_room)) in
        let all : places_below R' M' n ≡ length t =
        omega (arith, rows_long, marks_long, from.same_room, after.one_a_row, held.in_rows.in_room, counted) in
        record {
          in_rows =
              record {
                fits = held.in_rows.fits;
                in_room = in_room;
                sized = after.in_rows.sized;
                in_bytes =
                    (λ d. zeroed_from (16 * counted_u d) (16 * all d) (after.in_rows.in_bytes d))
                    ∙ subst (λ (m : ℕ). zeroed_from m (16 * length t) (table_of (rows u) ++ drop m from.behind) ≡ table_of (rows u) ++ drop m
                    (zeroed (16 * length t) from.behind)) (length_bytes u)
                    (given_up_behind (table_of (rows u)) from.behind (16 * length t))
                    ∙ ap (row_bytes u) from.zeroed_rows;
              };
          one_a_row = held.one_a_row;
          in_marks =
              (λ d. zeroed_from (counted_u d) (all d) (after.in_marks d))
              ∙ subst (λ (m : ℕ). zeroed_from m (length t) (map (λ (x : Entry). x.mark) u ++ drop m from.marks_behind) ≡ map (λ (x : Entry). x.mark) u ++
              drop m (zeroed (length t) from.marks_behind)) (length_marks u)
              (given_up_behind (map (λ (x : Entry). x.mark) u) from.marks_behind (length t))
              ∙ ap (mark_numbers u) from.zeroed_marks;
        }

    grown : (to : ℕ) → step ≡ GrownTo to → Extended kinds universal t h found found_marks step (rows_given_up R' M' to n) (marks_given_up R' M' to n) W
    grown to goes = go h made
      where
        go : (k : Half) → Extended kinds universal q k from.behind from.marks_behind step R' M' W
            → Extended kinds universal t k found found_marks step (rows_given_up R' M' to n) (marks_given_up R' M' to n) W
        go no_model m = let e = m.ended in cc
        go no_room m = let e = m.ended in cc
        go (grows u) m = record { ended = m.ended; holds = given_up u to (let e = m.ended in cc) m.holds; work_long = m.work_long }

-- What `extend` makes of the rows that the round keeps.
module _ (kinds : List ℕ) (literals : List ℤ) (preferences others : List ℕ) (other_count : ℕ) (R M : List ℕ) (n clear_every r mark : ℕ) (work : List ℕ)
    (kept : ℕ) (kept_is : kept ≡ cond (clears clear_every r) 0 n) (step : Step) (R' M' W : List ℕ)
    (extends : Extends kinds literals preferences others other_count true R M kept mark work step R' M' W) where
  abbrev Result : Step → List ℕ → List ℕ → Type 0
  Result result rows_left marks_left =
      ExtendsUniversal kinds literals preferences others other_count R M n clear_every r mark work result rows_left marks_left W

  counted_kept : (t : Table) → n ≡ length t → (b : Bool) → cond b 0 n ≡ length (cond b [] t)
  counted_kept t counted true = refl
  counted_kept t counted false = counted

  module _ (from t : Table) (from_found found found_marks : List ℕ) (place : ℕ) (passes : Passes kinds literals) (counted_from : other_count ≡ length from)
      (counted : n ≡ length t) (held_from : HoldsRows kinds existential from from_found others) (held : Holds kinds universal t found found_marks R M)
      (blank : Blank (length t) found found_marks) (room_is : room found ≡ place) (long : length work ≡ work_size) where
    abbrev q : Table
    q = cond (clears clear_every r) [] t

    on : GoingOn kinds t q found found_marks R M
    on = going_on kinds t found found_marks R M held blank (clears clear_every r)

    made : Extended kinds universal q (half_of kinds literals preferences universal place mark from q) on.behind on.marks_behind step R' M' W
    made =
        subst (λ (m : ℕ). Extended kinds universal q (half_of kinds literals preferences universal m mark from q) on.behind on.marks_behind step R' M' W)
        (on.same_room ∙ room_is)
        (extends from q from_found on.behind on.marks_behind passes counted_from (kept_is ∙ counted_kept t counted (clears clear_every r)) held_from
        on.held long)

    stopped_so : ((k : ℕ) → step ≡ GrownTo k → ⊥)
        → Extended kinds universal t (half_of kinds literals preferences universal place mark from q) found found_marks step R' M' W
    stopped_so = stopped kinds t found found_marks R M held blank q on _ n counted step R' M' W made

    grown_so : (to : ℕ) → step ≡ GrownTo to
        → Extended kinds universal t (half_of kinds literals preferences universal place mark from q) found found_marks step
        (rows_given_up R' M' to n) (marks_given_up R' M' to n) W
    grown_so = grown kinds t found found_marks R M held blank q on _ n counted step R' M' W made

  pub universal_stopped : ((k : ℕ) → step ≡ GrownTo k → ⊥) → Result step R' M'
  universal_stopped stops from t from_found found found_marks place passes counted_from counted held_from held blank room_is long =
      stopped_so from t from_found found found_marks place passes counted_from counted held_from held blank room_is long stops

  pub universal_grown : (to : ℕ) → step ≡ GrownTo to → (rows_left marks_left : List ℕ) → rows_left ≡ rows_given_up R' M' to n
      → marks_left ≡ marks_given_up R' M' to n → Result step rows_left marks_left
  universal_grown to goes rows_left marks_left on_rows on_marks from t from_found found found_marks place passes counted_from counted held_from held blank
      room_is
      long =
      let made_so = grown_so from t from_found found found_marks place passes counted_from counted held_from held blank room_is long to goes in
      record {
        ended = made_so.ended;
        holds =
            record {
              in_rows =
                  record {
                    fits = made_so.holds.in_rows.fits;
                    in_room = made_so.holds.in_rows.in_room;
                    sized = made_so.holds.in_rows.sized;
                    in_bytes = on_rows ∙ made_so.holds.in_rows.in_bytes;
                  };
              one_a_row = made_so.holds.one_a_row;
              in_marks = on_marks ∙ made_so.holds.in_marks;
            };
        work_long = made_so.work_long;
      }
