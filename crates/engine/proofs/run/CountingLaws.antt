-- Return counts of a side's step: from what the step leaves to what its update of the counts makes of them. Assumes nothing.
use Prim.Native.Nat.{ℕ, suc, ◌+◌, ◌-◌, ◌*◌, ◌^◌, ◌≤◌, ◌<◌}
use Rattle.std.specs.Prelude.{Option as CodeOption, None, Some}
use native.Mathlib.Omega.{arith}
use native.Mathlib.Nat.{add-zero}
use mathlib.Core.Path.{◌≡◌, refl, sym, ap, subst, ◌∙◌}
use mathlib.Core.Bool.{Bool, true, false, cond, false≢true}
use mathlib.Core.List.{List, [], ◌∷◌, ◌++◌, map}
use mathlib.Core.Option.{Option, none, some}
use lib.Dec.{leb}
use lib.IntN.{ℤ}
use lib.ListN.{length, get_or, take, drop, replicate, length-map}
use lib.Seq.{take_all}
use Rattle.formula.specs.Formula.{max_unknowns, work_size, Kind, existential, universal, prefix, clauses}
use Rattle.formula.specs.Meaning.{matrix, bit}
use Rattle.formula.specs.Causes.{count}
use Rattle.preference.specs.Preference.{prefer}
use Rattle.rows.specs.Table.{table_of, room, zeroed}
use Rattle.rows.specs.Access.{first_place}
use Rattle.expansion.specs.OtherSide.{side_of}
use Rattle.expansion.specs.Play.{Row}
use Rattle.expansion.specs.Copies.{among, fresh}
use Rattle.expansion.specs.Model.{search}
use Rattle.expansion.proofs.Progress.{search_answers}
use Rattle.expansion.proofs.Membership.{In, in_among, not_in_among, fresh_in, fresh_unseen}
use Rattle.expansion.proofs.Counting.{Sized}
use Rattle.engine.specs.Search.{left, work_after}
use Rattle.counts.specs.Counts.{is_place, was_yielded, one_more, updated}
use Rattle.counts.proofs.TallyLaws.{updated_standing, updated_grown, updated_cleared}
use Rattle.rounds.specs.Run.{Entry, Table, rows, under_mark, grown, clears}
use Rattle.rounds.specs.Claim.{Stands}
use Rattle.rounds.proofs.GrowthLaws.{sized_found}
use Rattle.rounds.proofs.TableLaws.{rows_under_mark, stands_in, stands_append}
use Rattle.engine.specs.declared.run.Step.{Step}
use Rattle.engine.specs.declared.run.Step.TheVariants.{NoModel as WithoutModel, NoRoom as WithoutRoom, Grown as GrownTo}
use Rattle.engine.specs.Outcome.{row_bytes}
use Rattle.engine.specs.Private.Growing.{HoldsRows, Half, no_model, no_room, grows, half, half_fit, half_table, half_end, Extended, Extends}
use Rattle.engine.specs.Private.Growing.{ExtendsUniversal}
use Rattle.engine.specs.Private.Counting.{Packed, Packs, tallied, Counted, half_came, Tallies, TalliesUniversal}
use Rattle.engine.proofs.run.ByteLaws.{Wide, at_in, absent_not_in}
use Rattle.engine.proofs.run.GrowingLaws.{wide_of_sized}
use Rattle.engine.proofs.run.ExtendLaws.{few_unknowns, work_is}
use Rattle.engine.proofs.run.TableClaim.{place_below, row_there}

-- How many rows stood when a step's search was counted, and how many stand after it: without room as many as there were.
abbrev stood : Step → ℕ → ℕ → ℕ
stood WithoutModel kept count = count
stood WithoutRoom kept count = count
stood (GrownTo end) kept count = kept

abbrev rows_after : Step → ℕ → ℕ
rows_after WithoutModel count = count
rows_after WithoutRoom count = count
rows_after (GrownTo end) count = end

length_rows : (t : Table) → length (rows t) ≡ length t
length_rows [] = refl
length_rows (x ∷ t) = ap suc (length_rows t)

-- ---- the rows of a table that are among the yielded ones

module _ (m : ℕ) (few : m ≤ max_unknowns) (new : List Row) (rest : List ℕ) (new_wide : Wide m new) (u : Table) (u_wide : Wide m (rows u)) (found : List ℕ) where
  -- A look through the yielded rows says whether a row of the table is among them.
  yielded_there : (i : ℕ) (x : Entry) → Stands u i x → was_yielded (row_bytes u found) (table_of new ++ rest) (length new) i ≡ among x.row new
  unfolding was_yielded row_bytes
  yielded_there i x s = by_place (first_place (table_of new ++ rest) (length new) (row_bytes u found) i) refl
    where
      here : get_or (rows u) i [] ≡ x.row
      here = row_there u i x s

      below : i < length (rows u)
      below = omega (arith, place_below u i x s, length_rows u)

      all : take (length new) new ≡ new
      all = take_all (length new) new (omega arith)

      by_place : (f : CodeOption ℕ) → first_place (table_of new ++ rest) (length new) (row_bytes u found) i ≡ f → is_place f ≡ among x.row new
      by_place (Some p) e =
          sym (in_among x.row new
          (subst (λ (l : List Row). In x.row l) all
          (subst (λ (r : Row). In r (take (length new) new)) here
          (at_in m few new rest new_wide (rows u) (drop (16 * length u) found) u_wide (length new) i p (omega arith) below e))))
      by_place None e =
          sym (not_in_among x.row new (λ h.
          absent_not_in m few new rest new_wide (rows u) (drop (16 * length u) found) u_wide (length new) i (omega arith) below e
          (subst (λ (r : Row). In r (take (length new) new)) (sym here) (subst (λ (l : List Row). In x.row l) (sym all) h))))

-- ---- one more

once_more : (b : Bool) (n : ℕ) → n + 1 < 2 ^ 32 → one_more b n ≡ n + bit b
once_more true n h = omega arith
once_more false n h = sym (add-zero n)

-- What stands behind a table in its grown one is fresh.
stands_fresh : (r : ℕ) (l : List Row) (i : ℕ) (x : Entry) → Stands (map (under_mark r) l) i x → In x.row l
stands_fresh r l i x s = subst (λ (q : List Row). In x.row q) (rows_under_mark r l) (stands_in (map (under_mark r) l) i x s)

came_once : (x : Row) (new : List Row) (n : ℕ) → n ≡ 0 → In x new → n + bit (among x new) ≡ 1
came_once x new n e h = let one : bit (among x new) ≡ 1 = ap bit (in_among x new h) in omega arith

module _ (t : Table) (came : Row → ℕ) (base counts : List ℕ) (counted : Counted t came base counts) where
  -- A search without a model counts for none.
  pub tally_none : (cleared : Bool) → counts ≡ tallied (half_came cleared no_model none came) t base
  tally_none cleared =
      let same : (x : Row) → came x ≡ half_came cleared no_model none came x = λ x. sym (add-zero (came x)) in
      counted.in_counts ∙ (λ d. tallied (λ x. same x d) t base)

  module _ (m : ℕ) (few : m ≤ max_unknowns) (new : List Row) (new_wide : Wide m new) (rest : List ℕ) where
    abbrev yields : List ℕ → ℕ → Bool
    yields R = was_yielded R (table_of new ++ rest) (length new)

    -- A row that stands, in a table that may have grown behind it.
    counted_there : (u : Table) → Wide m (rows u) → (R found : List ℕ) → R ≡ row_bytes u found
        → (i : ℕ) (x : Entry) → Stands u i x → one_more (yields R i) (came x.row) ≡ came x.row + bit (among x.row new)
    counted_there u wide R found is i x s =
        ap (λ (v : Bool). one_more v (came x.row))
        (ap (λ (q : List ℕ). yields q i) is ∙ yielded_there m few new rest new_wide u wide found i x s)
        ∙ once_more (among x.row new) (came x.row) (counted.far x.row)

    -- A search that has no room counts for the rows that stand.
    tally_full : (cleared : Bool) (R found : List ℕ) → Wide m (rows t) → R ≡ row_bytes t found
        → updated (yields R) (length t) (length t) (length t) counts ≡ tallied (half_came cleared no_room (some new) came) t base
    tally_full cleared R found wide is =
        ap (updated (yields R) (length t) (length t) (length t)) counted.in_counts
        ∙ updated_standing (λ (x : Entry). half_came cleared no_room (some new) came x.row) (yields R) (λ (x : Entry). came x.row) t base
        (counted_there t wide R found is)

    -- One whose rows are added: the rows that stood go on, the added ones came bit.
    tally_grown : (r : ℕ) (R found : List ℕ) → Wide m (rows (grown r t new)) → R ≡ row_bytes (grown r t new) found → length (grown r t new) ≤ length base
        → updated (yields R) (length t) (length (grown r t new)) (length t) counts
        ≡ tallied (half_came false (grows (grown r t new)) (some new) came) (grown r t new) base
    tally_grown r R found wide is fits =
        let more = map (under_mark r) (fresh (rows t) new) in
        ap (updated (yields R) (length t) (length (grown r t new)) (length t)) counted.in_counts
        ∙ updated_grown (λ (x : Entry). half_came false (grows (grown r t new)) (some new) came x.row) (yields R) (λ (x : Entry). came x.row) t base more
        fits
        (λ i x s. counted_there (grown r t new) wide R found is i x (stands_append t more i x s))
        (λ i x s.
        let h = stands_fresh r (fresh (rows t) new) i x s in
        came_once x.row new (came x.row) (counted.absent x.row (fresh_unseen x.row (rows t) new h)) (fresh_in x.row (rows t) new h))

    -- And one whose rows are all that is left: each came bit.
    tally_cleared : (r : ℕ) (R : List ℕ) → length t ≤ length base → zeroed (length t) base ≡ base → length (grown r [] new) ≤ length base
        → updated (yields R) 0 (length (grown r [] new)) (length t) counts
        ≡ tallied (half_came true (grows (grown r [] new)) (some new) came) (grown r [] new) base
    tally_cleared r R long blank fits =
        ap (updated (yields R) 0 (length (grown r [] new)) (length t)) counted.in_counts
        ∙ updated_cleared (λ (x : Entry). half_came true (grows (grown r [] new)) (some new) came x.row) (yields R) (λ (x : Entry). came x.row) t base
        (grown r [] new)
        fits long blank
        (λ i x s. came_once x.row new 0 refl (fresh_in x.row [] new (stands_fresh r (fresh [] new) i x s)))

  -- ---- a step

  -- A step of round r from the part of t that it keeps, all or nothing of it.
  module _ (kinds : List ℕ) (side : Kind) (few : count side (prefix kinds) ≤ max_unknowns) (place r : ℕ) (cleared : Bool) (found found_marks : List ℕ)
      (one_a_row : length base ≡ room found) (in_room : length t ≤ room found) (blank : cleared ≡ true → zeroed (length t) base ≡ base)
      (result : Step) (R M W : List ℕ) where
    abbrev Made : Option (List Row) → Type 0
    Made s = Extended kinds side t (half place r (cond cleared [] t) s) found found_marks result R M W

    abbrev Tallied : Option (List Row) → List ℕ → Type 0
    Tallied s left = left ≡ tallied (half_came cleared (half place r (cond cleared [] t) s) s came) (half_table t (half place r (cond cleared [] t) s)) base

    pub stopped_tallied : (s : Option (List Row)) → Made s → result ≡ WithoutModel → Tallied s counts
    stopped_tallied none made e = tally_none cleared
    stopped_tallied (some new) made e = go (leb (length (grown r (cond cleared [] t) new)) place) made.ended
      where
        go : (v : Bool) → result ≡ half_end (half_fit (cond v (some (grown r (cond cleared [] t) new)) none)) → Tallied (some new) counts
        go true f = cc
        go false f = cc

    module _ (new : List Row) (sized : Sized (count side (prefix kinds)) new) (packed : Packed (some new) W) where
      abbrev m : ℕ
      m = count side (prefix kinds)

      abbrev after : ℕ → ℕ → List ℕ
      after stand end = updated (was_yielded R W (length new)) stand end (length t) counts

      by_packed : (stand end : ℕ) → after stand end ≡ updated (was_yielded R (table_of new ++ packed.0) (length new)) stand end (length t) counts
      by_packed stand end = ap (λ (w : List ℕ). updated (was_yielded R w (length new)) stand end (length t) counts) packed.1

      new_wide : Wide m new
      new_wide = wide_of_sized m new sized

      full : Extended kinds side t no_room found found_marks result R M W
          → after (stood result (length (cond cleared [] t)) (length t)) (rows_after result (length t)) ≡ tallied (half_came cleared no_room (some new) came) t
          base
      full made =
          ap (λ (s : Step). after (stood s (length (cond cleared [] t)) (length t)) (rows_after s (length t))) made.ended
          ∙ by_packed (length t) (length t)
          ∙ tally_full m few new new_wide packed.0 cleared R found made.holds.in_rows.sized made.holds.in_rows.in_bytes

      grew : (b : Bool) → cleared ≡ b → Extended kinds side t (grows (grown r (cond b [] t) new)) found found_marks result R M W
          → after (stood result (length (cond b [] t)) (length t)) (rows_after result (length t))
          ≡ tallied (half_came b (grows (grown r (cond b [] t) new)) (some new) came) (grown r (cond b [] t) new) base
      grew b is made =
          ap (λ (s : Step). after (stood s (length (cond b [] t)) (length t)) (rows_after s (length t))) made.ended
          ∙ by_packed (length (cond b [] t)) (length (grown r (cond b [] t) new))
          ∙ go b is made.holds.in_rows
        where
          go : (b : Bool) → cleared ≡ b → HoldsRows kinds side (grown r (cond b [] t) new) found R
              → updated (was_yielded R (table_of new ++ packed.0) (length new)) (length (cond b [] t)) (length (grown r (cond b [] t) new)) (length t) counts
              ≡ tallied (half_came b (grows (grown r (cond b [] t) new)) (some new) came) (grown r (cond b [] t) new) base
          go true is held =
              tally_cleared m few new new_wide packed.0 r R (omega arith) (blank is) (omega (arith, held.in_room))
          go false is held =
              tally_grown m few new new_wide packed.0 r R found held.sized held.in_bytes (omega (arith, held.in_room))

      abbrev halved : Bool → Half
      halved v = half_fit (cond v (some (grown r (cond cleared [] t) new)) none)

      found_tallied : Made (some new) → Tallied (some new) (after (stood result (length (cond cleared [] t)) (length t)) (rows_after result (length t)))
      found_tallied = go (leb (length (grown r (cond cleared [] t) new)) place)
        where
          go : (v : Bool) → Extended kinds side t (halved v) found found_marks result R M W
              → after (stood result (length (cond cleared [] t)) (length t)) (rows_after result (length t))
              ≡ tallied (half_came cleared (halved v) (some new) came) (half_table t (halved v)) base
          go true made = grew cleared refl made
          go false made = full made

    pub search_tallied : (s : Option (List Row)) (n : ℕ) → ((new : List Row) → s ≡ some new → Sized (count side (prefix kinds)) new × (n ≡ length new))
        → Packed s W → Made s → (result ≡ WithoutModel → ⊥)
        → Tallied s (updated (was_yielded R W n) (stood result (length (cond cleared [] t)) (length t)) (rows_after result (length t)) (length t) counts)
    search_tallied none n yields packed made found_one = absurd (found_one made.ended)
    search_tallied (some new) n yields packed made found_one =
        ap (λ (k : ℕ). updated (was_yielded R W k) (stood result (length (cond cleared [] t)) (length t)) (rows_after result (length t)) (length t) counts)
        (yields new refl).1
        ∙ found_tallied new (yields new refl).0 packed made

-- ---- the two sides' steps

-- What a search leaves in the work area.
pub packs : (kinds : List ℕ) (literals : List ℤ) (preferences others : List ℕ) (n : ℕ) (side? : Bool) (work work' : List ℕ)
    → work' ≡ work_after kinds literals preferences others n side? work → Packs kinds literals preferences others n side? work work'
packs kinds literals preferences others n side? work work' e from from_found passes counted held long =
    go (search (prefer preferences) (side_of side?) (prefix kinds) (matrix (clauses literals)) (rows from))
    (e ∙ work_is kinds literals preferences others n side? work from from_found passes counted held long)
  where
    go : (s : Option (List Row)) → work' ≡ left s → Packed s work'
    go none is = tt
    go (some new) is = (replicate (work_size - length (table_of new)) 0, is)

-- What a search over the rows of a table yields: rows of the side's width, as many as the table has.
yielded_rows : (kinds : List ℕ) (literals : List ℤ) (preferences : List ℕ) (side : Kind) (from : Table) (n : ℕ) → n ≡ length from → (new : List Row)
    → search (prefer preferences) side (prefix kinds) (matrix (clauses literals)) (rows from) ≡ some new → Sized (count side (prefix kinds)) new ×
    (n ≡ length new)
yielded_rows kinds literals preferences side from n counted new e =
    let model = search_answers (prefer preferences) side (prefix kinds) (matrix (clauses literals)) (rows from) new e in (
      sized_found (prefer preferences) side (prefix kinds) (matrix (clauses literals)) (rows from) new e,
      counted ∙ sym (length_rows from) ∙ sym (ap length model.2 ∙ length-map (rows from) _),
    )

stood_all : (s : Step) (n : ℕ) → n ≡ stood s n n
stood_all WithoutModel n = refl
stood_all WithoutRoom n = refl
stood_all (GrownTo k) n = refl

length_kept : (b : Bool) (t : Table) → cond b 0 (length t) ≡ length (cond b [] t)
length_kept true t = refl
length_kept false t = refl

module _ (kinds : List ℕ) (literals : List ℤ) (preferences others : List ℕ) (other_count : ℕ) (R M : List ℕ) (n mark : ℕ) (W C : List ℕ) (step : Step)
    (R' M' W' : List ℕ) where
  abbrev yielded_by : Kind → Table → Option (List Row)
  yielded_by side from = search (prefer preferences) side (prefix kinds) (matrix (clauses literals)) (rows from)

  abbrev update_to : ℕ → ℕ → List ℕ
  update_to stand end = updated (was_yielded R' W' other_count) stand end n C

  module _ (extends : Extends kinds literals preferences others other_count false R M n mark W step R' M' W') where
    pub existential_uncounted : step ≡ WithoutModel → Tallies kinds literals preferences others other_count R M n mark W C C
    existential_uncounted e from t from_found found found_marks base came passes counted counted_t held held_t long one_a_row counts =
        stopped_tallied t came base C counts kinds existential (few_unknowns kinds literals passes existential) (room found) mark false found found_marks
        one_a_row
        held_t.in_rows.in_room (λ f. absurd (false≢true f)) step R' M' W' (yielded_by existential from)
        (extends from t from_found found found_marks passes counted counted_t held held_t long) e

    existential_counted : Packs kinds literals preferences others other_count false W W' → (step ≡ WithoutModel → ⊥) → (C' : List ℕ)
        → C' ≡ update_to n (rows_after step n) → Tallies kinds literals preferences others other_count R M n mark W C C'
    existential_counted packs found_one C' is from t from_found found found_marks base came passes counted counted_t held held_t long one_a_row counts =
        is
        ∙ (λ d. updated (was_yielded R' W' other_count) (counted_t d) (rows_after step (counted_t d)) (counted_t d) C)
        ∙ ap (λ (k : ℕ). updated (was_yielded R' W' other_count) k (rows_after step (length t)) (length t) C) (stood_all step (length t))
        ∙ search_tallied t came base C counts kinds existential (few_unknowns kinds literals passes existential) (room found) mark false found found_marks
        one_a_row
        held_t.in_rows.in_room (λ f. absurd (false≢true f)) step R' M' W' (yielded_by existential from) other_count
        (yielded_rows kinds literals preferences existential from other_count counted)
        (packs from from_found passes counted held long) (extends from t from_found found found_marks passes counted counted_t held held_t long) found_one

    -- Without room all rows stand, and none is added.
    pub existential_full : Packs kinds literals preferences others other_count false W W' → step ≡ WithoutRoom → (C' : List ℕ) → C' ≡ update_to n n
        → Tallies kinds literals preferences others other_count R M n mark W C C'
    existential_full packs is C' e = existential_counted packs (λ f. cc) C' (e ∙ ap (λ (s : Step). update_to n (rows_after s n)) (sym is))

    pub existential_grown : Packs kinds literals preferences others other_count false W W' → (k : ℕ) → step ≡ GrownTo k → (C' : List ℕ)
        → C' ≡ update_to n k → Tallies kinds literals preferences others other_count R M n mark W C C'
    existential_grown packs k is C' e = existential_counted packs (λ f. cc) C' (e ∙ ap (λ (s : Step). update_to n (rows_after s n)) (sym is))

  module _ (clear_every r : ℕ) (extends : ExtendsUniversal kinds literals preferences others other_count R M n clear_every r mark W step R' M' W') where
    pub universal_uncounted : step ≡ WithoutModel → TalliesUniversal kinds literals preferences others other_count R M n clear_every r mark W C C
    universal_uncounted e from t from_found found found_marks base place came passes counted counted_t held held_t blank same long one_a_row base_blank counts =
        stopped_tallied t came base C counts kinds universal (few_unknowns kinds literals passes universal) place mark (clears clear_every r) found found_marks
        one_a_row
        held_t.in_rows.in_room (λ _. base_blank) step R' M' W' (yielded_by universal from) (extends from t from_found found found_marks place passes counted
        counted_t held held_t blank same long) e

    universal_counted : Packs kinds literals preferences others other_count true W W' → (step ≡ WithoutModel → ⊥) → (C' : List ℕ)
        → C' ≡ update_to (stood step (cond (clears clear_every r) 0 n) n) (rows_after step n)
        → TalliesUniversal kinds literals preferences others other_count R M n clear_every r mark W C C'
    universal_counted packs found_one C' is from t from_found found found_marks base place came passes counted counted_t held held_t blank same
        long one_a_row base_blank counts =
        is
        ∙ (λ d. updated (was_yielded R' W' other_count) (stood step (cond (clears clear_every r) 0 (counted_t d)) (counted_t d)) (rows_after step (counted_t d))
        (counted_t d) C)
        ∙ ap (λ (k : ℕ). updated (was_yielded R' W' other_count) (stood step k (length t)) (rows_after step (length t)) (length t) C)
        (length_kept (clears clear_every r) t)
        ∙ search_tallied t came base C counts kinds universal (few_unknowns kinds literals passes universal) place mark (clears clear_every r) found found_marks
        one_a_row
        held_t.in_rows.in_room (λ _. base_blank) step R' M' W' (yielded_by universal from) other_count
        (yielded_rows kinds literals preferences universal from other_count counted)
        (packs from from_found passes counted held long) (extends from t from_found found found_marks place passes counted counted_t held held_t blank same
        long) found_one

    -- Without room all rows stand, and none is added. Else those stand that the round keeps.
    pub universal_full : Packs kinds literals preferences others other_count true W W' → step ≡ WithoutRoom → (C' : List ℕ) → C' ≡ update_to n n
        → TalliesUniversal kinds literals preferences others other_count R M n clear_every r mark W C C'
    universal_full packs is C' e =
        universal_counted packs (λ f. cc) C'
        (e ∙ ap (λ (s : Step). update_to (stood s (cond (clears clear_every r) 0 n) n) (rows_after s n)) (sym is))

    pub universal_grown : Packs kinds literals preferences others other_count true W W' → (k : ℕ) → step ≡ GrownTo k → (stand : ℕ)
        → stand ≡ cond (clears clear_every r) 0 n → (C' : List ℕ) → C' ≡ update_to stand k
        → TalliesUniversal kinds literals preferences others other_count R M n clear_every r mark W C C'
    universal_grown packs k is stand stands C' e =
        universal_counted packs (λ f. cc) C'
        (e ∙ ap (λ (m : ℕ). update_to m k) stands
        ∙ ap (λ (s : Step). update_to (stood s (cond (clears clear_every r) 0 n) n) (rows_after s n)) (sym is))
