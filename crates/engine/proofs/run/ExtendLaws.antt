-- A side's step of a round, from the bytes before it to the bytes after it. Assumes nothing.
use Prim.Native.Nat.{ℕ, zero, suc, ◌+◌, ◌-◌, ◌*◌, ◌/◌, ◌%◌, ◌≤◌, ◌<◌}
use Rattle.std.specs.Prelude.{None, Some, Ok}
use native.Mathlib.Omega.{arith}
use mathlib.Core.Path.{◌≡◌, refl, sym, ap, subst, ◌∙◌}
use mathlib.Core.Bool.{Bool, true, false, ◌&&◌, cond, true≢false, false≢true, and-eq-true_iff}
use mathlib.Core.List.{List, [], ◌∷◌, map}
use mathlib.Core.Option.{Option, none, some}
use lib.Dec.{eqb, leb}
use lib.IntN.{ℤ}
use lib.ListN.{length, take, drop, replicate, length-append, length-map, length-replicate}
use lib.Seq.{take_all}
use borrow.Author.Tests.{le-leb, lt-leb, eq-eqb, le-ltb, leb-true, leb-false}
use Rattle.formula.specs.Formula.{max_unknowns, work_size, Kind, existential, universal, prefix, clauses, max_rows}
use Rattle.formula.specs.Meaning.{matrix}
use Rattle.formula.specs.Causes.{count}
use Rattle.formula.proofs.Accepted.{accepted}
use Rattle.preference.specs.Preference.{prefer}
use Rattle.rows.specs.Table.{table_of, room, table_fits, rows_of}
use Rattle.rows.specs.Stray.{stray_rows}
use Rattle.rows.proofs.TableLaws.{length_table_of}
use Rattle.expansion.specs.OtherSide.{side_of, other}
use Rattle.expansion.specs.Play.{Row}
use Rattle.expansion.specs.Copies.{fresh}
use Rattle.expansion.specs.Model.{search}
use Rattle.expansion.proofs.Progress.{search_answers}
use Rattle.expansion.proofs.Counting.{Sized}
use Rattle.engine.specs.Search.{lent_rows, cause, found as found_rows, answer, left, outcome, work_after}
use Rattle.engine.specs.declared.run.Step.{Step}
use Rattle.engine.specs.declared.run.Step.TheVariants.{NoModel as WithoutModel, NoRoom as WithoutRoom, Grown as GrownTo}
use Rattle.rounds.specs.Run.{Entry, Table, rows, under_mark, grown, if_fits}
use Rattle.engine.specs.Outcome.{row_bytes}
use Rattle.growth.specs.Growth.{is_new, count_below, all_fit, Bytes, bytes, with_new_rows, growth, grown as grown_bytes}
use Rattle.engine.specs.Private.Growing.{Passes, is_found, step_of, HoldsRows, Holds, Half, half, half_fit, half_of, Extended}
use Rattle.rounds.proofs.GrowthLaws.{sized_found}
use Rattle.engine.proofs.run.ByteLaws.{Wide, rows_of_table, no_stray_rows}
use Rattle.engine.proofs.run.GrowingLaws.{wide_of_sized, sized_of_wide, length_row_bytes, image, counted_fresh, added_image, sized_grown}

-- No side has more unknowns than the formula, nor more than a row has bits.
pub count_at_most : (side : Kind) (kinds : List ℕ) → count side (prefix kinds) ≤ length kinds
count_at_most side [] = omega arith
count_at_most existential (zero ∷ kinds) = let later = count_at_most existential kinds in omega arith
count_at_most existential (suc k ∷ kinds) = let later = count_at_most existential kinds in omega arith
count_at_most universal (zero ∷ kinds) = let later = count_at_most universal kinds in omega arith
count_at_most universal (suc k ∷ kinds) = let later = count_at_most universal kinds in omega arith

pub few_unknowns : (kinds : List ℕ) (literals : List ℤ) → Passes kinds literals → (side : Kind) → count side (prefix kinds) ≤ max_unknowns
few_unknowns kinds literals passes side =
    let sized = (accepted kinds literals passes).few_unknowns in
    let at_most = count_at_most side kinds in
    omega arith

-- A table's fitness is one of its length.
pub table_fits_length : (t u : List ℕ) → length t ≡ length u → table_fits t ≡ table_fits u
unfolding table_fits
table_fits_length t u e = ap (λ (n : ℕ). leb 16 n && leb n (max_rows * 16) && eqb (n % 16) 0) e

pub most_bytes : (t : List ℕ) → table_fits t ≡ true → length t ≤ max_rows * 16
unfolding table_fits
most_bytes t e =
    let both = ((and-eq-true_iff (leb 16 (length t) && leb (length t) (max_rows * 16)) (eqb (length t % 16) 0)).0 e).0 in
    leb-true (length t) (max_rows * 16) ((and-eq-true_iff (leb 16 (length t)) (leb (length t) (max_rows * 16))).0 both).1

module _ (kinds : List ℕ) (literals : List ℤ) (preferences others : List ℕ) (n : ℕ) (side? : Bool) (work : List ℕ) (from : Table) (from_found : List ℕ)
    (passes : Passes kinds literals) (counted : n ≡ length from) (holds : HoldsRows kinds (other (side_of side?)) from from_found others)
    (long : length work ≡ work_size) where
  abbrev searched : Option (List Row)
  searched = search (prefer preferences) (side_of side?) (prefix kinds) (matrix (clauses literals)) (rows from)

  m : ℕ
  m = count (other (side_of side?)) (prefix kinds)

  same_length : length others ≡ length from_found
  same_length = ap length holds.in_bytes ∙ length_row_bytes from from_found holds.in_room

  as_rows : n ≡ length (rows from)
  as_rows = counted ∙ sym (length-map from (λ (x : Entry). x.row))

  no_cause : cause kinds literals others n side? work ≡ 0
  unfolding cause m row_bytes
  no_cause =
      let fits : table_fits others ≡ true = table_fits_length others from_found same_length ∙ holds.fits in
      let clean : stray_rows (count (other (side_of side?)) (prefix kinds)) n others ≡ false =
      ap (stray_rows (count (other (side_of side?)) (prefix kinds)) n) holds.in_bytes
      ∙ ap (λ (k : ℕ). stray_rows (count (other (side_of side?)) (prefix kinds)) k (row_bytes from from_found)) as_rows
      ∙ no_stray_rows (count (other (side_of side?)) (prefix kinds)) (few_unknowns kinds literals passes (other (side_of side?))) (rows from)
      (drop (16 * length from) from_found) holds.sized in
      let inside : n ≤ room others = omega (arith, holds.in_room, same_length) in
      rw (passes, fits, eq-eqb (length work) work_size long, le-ltb (room others) n inside, clean)

  pub read_rows : lent_rows kinds others n side? ≡ rows from
  unfolding lent_rows row_bytes
  read_rows =
      let width = count (other (side_of side?)) (prefix kinds) in
      ap (rows_of width n) holds.in_bytes
      ∙ ap (λ (k : ℕ). rows_of width k (row_bytes from from_found)) as_rows
      ∙ rows_of_table width (few_unknowns kinds literals passes (other (side_of side?))) (rows from) (drop (16 * length from) from_found) holds.sized

  found_is : found_rows kinds literals preferences others n side? ≡ searched
  unfolding found_rows
  found_is = ap (search (prefer preferences) (side_of side?) (prefix kinds) (matrix (clauses literals))) read_rows

  outcome_is : outcome kinds literals preferences others n side? work ≡ Ok (answer searched)
  unfolding outcome
  outcome_is = rw no_cause (ap (λ (o : Option (List Row)). Ok (answer o)) found_is)

  pub work_is : work_after kinds literals preferences others n side? work ≡ left searched
  unfolding work_after
  work_is = rw no_cause (ap left found_is)

  module _ (r : ℕ) (R M : List ℕ) (k : ℕ) (t : Table) (found found_marks : List ℕ) (counted_t : k ≡ length t)
      (held : Holds kinds (side_of side?) t found found_marks R M) where
    abbrev halved : Half
    halved = half_of kinds literals preferences (side_of side?) (room found) r from t

    abbrev Result : Step → List ℕ → List ℕ → List ℕ → Type 0
    Result result R' M' work' = Extended kinds (side_of side?) t halved found found_marks result R' M' work'

    -- What the search left, by its answer.
    abbrev Searched : Option (List Row) → Bool → List ℕ → Type 0
    Searched s flag work' = (is_found (Ok (answer s)) ≡ flag) × (work' ≡ left s)

    what_is_left : (flag : Bool) (work' : List ℕ) → flag ≡ is_found (outcome kinds literals preferences others n side? work)
        → work' ≡ work_after kinds literals preferences others n side? work → Searched searched flag work'
    what_is_left flag work' e w = (sym (e ∙ ap is_found outcome_is), w ∙ work_is)

    no_model_of : (s : Option (List Row)) (work' : List ℕ) → Searched s false work'
        → Extended kinds (side_of side?) t (half (room found) r t s) found found_marks WithoutModel R M work'
    no_model_of none work' p =
        record { ended = refl; holds = held; work_long = ap length p.1 ∙ length-replicate {A = ℕ} work_size 0 }
    no_model_of (some new) work' p = absurd (true≢false p.0)

    pub no_model_extended : (flag : Bool) (work' : List ℕ) → flag ≡ is_found (outcome kinds literals preferences others n side? work)
        → work' ≡ work_after kinds literals preferences others n side? work → flag ≡ false → Result WithoutModel R M work'
    no_model_extended flag work' e w off = no_model_of searched work' (what_is_left false work' (sym off ∙ e) w)

    -- With a model: the rows yielded are in the work area.
    module _ (new : List Row) (yielded : searched ≡ some new) (work' : List ℕ) (packed : work' ≡ left (some new)) where
      rest : List ℕ
      rest = replicate (work_size - length (table_of new)) 0

      new_sized : Sized (count (side_of side?) (prefix kinds)) new
      new_sized = sized_found (prefer preferences) (side_of side?) (prefix kinds) (matrix (clauses literals)) (rows from) new yielded

      sized : Sized (count (side_of side?) (prefix kinds)) (rows t)
      sized = sized_of_wide (count (side_of side?) (prefix kinds)) (rows t) held.in_rows.sized

      length_new : length new ≡ n
      length_new =
          let model = search_answers (prefer preferences) (side_of side?) (prefix kinds) (matrix (clauses literals)) (rows from) new yielded in
          ap length model.2 ∙ length-map (rows from) _ ∙ sym as_rows

      few : count (side_of side?) (prefix kinds) ≤ max_unknowns
      few = few_unknowns kinds literals passes (side_of side?)

      work_long' : length work' ≡ work_size
      work_long' =
          let short : n ≤ max_rows = omega (arith, holds.in_room, most_bytes from_found holds.fits) in
          ap length packed
          ∙ omega (
            arith,
            length-append (table_of new) (replicate (work_size - length (table_of new)) 0),
            length-replicate {A = ℕ}
                (work_size - length (table_of new)) 0,
            length_table_of new,
            length_new,
          )

      total_is : k + count_below n (λ j. is_new R k work' j) ≡ length (grown r t new)
      unfolding rest
      total_is =
          let in_place : count_below n (λ j. is_new R k work' j) ≡ length (fresh (rows t) (take n new)) =
          ap (λ (a : List ℕ). count_below n (λ j. is_new a k work' j)) held.in_rows.in_bytes
          ∙ ap (λ (c : ℕ). count_below n (λ j. is_new (row_bytes t found) c work' j)) counted_t
          ∙ ap (λ (w : List ℕ). count_below n (λ j. is_new (row_bytes t found) (length t) w j)) packed
          ∙ counted_fresh (count (side_of side?) (prefix kinds)) few found found_marks held.one_a_row new rest new_sized t sized n
          (omega (arith, length_new)) in
          let all : length (fresh (rows t) (take n new)) ≡ length (fresh (rows t) new) =
          ap (λ (l : List Row). length (fresh (rows t) l)) (take_all n new (omega (arith, length_new))) in
          omega (arith, length-append t (map (under_mark r) (fresh (rows t) new)), length-map (fresh (rows t) new) (under_mark r))

      same_room : room R ≡ room found
      same_room = ap (λ (l : ℕ). l / 16) (ap length held.in_rows.in_bytes ∙ length_row_bytes t found held.in_rows.in_room)

      no_room_of : room R < k + count_below n (λ j. is_new R k work' j)
          → Extended kinds (side_of side?) t (half (room found) r t (some new)) found found_marks WithoutRoom R M work'
      no_room_of full =
          let over : if_fits (room found) (grown r t new) ≡ none =
          ap (λ (b : Bool). cond b (some (grown r t new)) none) (lt-leb (length (grown r t new)) (room found) (omega (arith, same_room, total_is))) in
          subst (λ (o : Option Table). Extended kinds (side_of side?) t (half_fit o) found found_marks WithoutRoom R M work') (sym over)
          (record { ended = refl; holds = held; work_long = work_long' })

      abbrev after : Bytes
      after = with_new_rows work' r n (bytes R M k)

      grown_of : k + count_below n (λ j. is_new R k work' j) ≤ room R
          → Extended kinds (side_of side?) t (half (room found) r t (some new)) found found_marks
          (GrownTo after.number) after.row_part after.mark_part work'
      unfolding rest
      grown_of enough =
          let u : Table = grown r t new in
          let fits : length u ≤ room found = omega (arith, same_room, total_is) in
          let under : if_fits (room found) u ≡ some u =
          ap (λ (b : Bool). cond b (some u) none) (le-leb (length u) (room found) fits) in
          let start : bytes R M k ≡ image found found_marks t = λ d. bytes (held.in_rows.in_bytes d) (held.in_marks d) (counted_t d) in
          let end : with_new_rows work' r n (bytes R M k) ≡ image found found_marks u =
          ap (λ (b : Bytes). with_new_rows work' r n b) start
          ∙ ap (λ (w : List ℕ). with_new_rows w r n (image found found_marks t)) packed
          ∙ added_image (count (side_of side?) (prefix kinds)) few found found_marks held.one_a_row new rest new_sized t sized r fits n
          (omega (arith, length_new))
          ∙ ap (λ (l : List Row). image found found_marks (grown r t l)) (take_all n new (omega (arith, length_new))) in
          let all_new : take (length new) new ≡ new = take_all (length new) new (omega arith) in
          let wide : Wide (count (side_of side?) (prefix kinds)) (rows u) =
          wide_of_sized (count (side_of side?) (prefix kinds)) (rows u)
          (subst (λ (l : List Row). Sized (count (side_of side?) (prefix kinds)) (rows (grown r t l))) all_new
          (sized_grown (count (side_of side?) (prefix kinds)) few found found_marks held.one_a_row new rest new_sized t sized r (length new) (omega arith)))
          in
          subst (λ (o : Option Table). Extended kinds (side_of side?) t (half_fit o) found found_marks (GrownTo after.number)
          after.row_part after.mark_part work') (sym under)
          (record {
            ended = ap (λ (b : Bytes). GrownTo b.number) end;
            holds =
                record {
                  in_rows =
                      record {
                        fits = held.in_rows.fits;
                        in_room = fits;
                        sized = wide;
                        in_bytes = ap (λ (b : Bytes). b.row_part) end;
                      };
                  one_a_row = held.one_a_row;
                  in_marks = ap (λ (b : Bytes). b.mark_part) end;
                };
            work_long = work_long';
          })

      -- Whether all fit or not: what `grow` returns and leaves.
      model_of : Extended kinds (side_of side?) t (half (room found) r t (some new)) found found_marks
          (step_of (growth R M k work' n r)) (grown_bytes R M k work' n r).row_part (grown_bytes R M k work' n r).mark_part work'
      model_of = by_test (all_fit R k work' n) refl
        where
          by_test : (v : Bool) → all_fit R k work' n ≡ v
              → Extended kinds (side_of side?) t (half (room found) r t (some new)) found found_marks
              (step_of (cond v (Some after.number) None)) (cond v after (bytes R M k)).row_part (cond v after (bytes R M k)).mark_part work'
          by_test true e = grown_of (leb-true (k + count_below n (λ j. is_new R k work' j)) (room R) e)
          by_test false e = no_room_of (leb-false (k + count_below n (λ j. is_new R k work' j)) (room R) e)

    by_model : (P : Option (List Row) → Type 0) (work' : List ℕ) → Searched searched true work'
        → ((new : List Row) → searched ≡ some new → work' ≡ left (some new) → P (some new)) → P searched
    by_model P work' p each = go searched refl p
      where
        go : (s : Option (List Row)) → searched ≡ s → Searched s true work' → P s
        go none e q = absurd (false≢true q.0)
        go (some new) e q = each new e q.1

    pub model_extended : (flag : Bool) (work' : List ℕ) → flag ≡ is_found (outcome kinds literals preferences others n side? work)
        → work' ≡ work_after kinds literals preferences others n side? work → flag ≡ true
        → (result : Step) (R' M' : List ℕ) → result ≡ step_of (growth R M k work' n r)
        → R' ≡ (grown_bytes R M k work' n r).row_part → M' ≡ (grown_bytes R M k work' n r).mark_part
        → Result result R' M' work'
    model_extended flag work' e w on result R' M' is er em =
        let made =
        by_model
        (λ s.
        Extended kinds (side_of side?) t (half (room found) r t s) found found_marks
        (step_of (growth R M k work' n r)) (grown_bytes R M k work' n r).row_part (grown_bytes R M k work' n r).mark_part work')
        work'
        (what_is_left true work' (sym on ∙ e) w)
        (λ new yielded packed. model_of new yielded work' packed) in
        record {
          ended = is ∙ made.ended;
          holds =
              record {
                in_rows =
                    record {
                      fits = made.holds.in_rows.fits;
                      in_room = made.holds.in_rows.in_room;
                      sized = made.holds.in_rows.sized;
                      in_bytes = er ∙ made.holds.in_rows.in_bytes;
                    };
                one_a_row = made.holds.one_a_row;
                in_marks = em ∙ made.holds.in_marks;
              };
          work_long = made.work_long;
        }
