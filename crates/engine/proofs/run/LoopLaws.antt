-- The loop over the rounds: what holds before each, and what the run is when it ends. Assumes nothing.
use Prim.Native.Nat.{ℕ, suc, ◌+◌, ◌*◌, ◌/◌, ◌%◌, ◌≤◌, ◌<◌}
use native.Mathlib.Omega.{arith}
use native.Mathlib.Numerals.{add-one}
use mathlib.Core.Path.{◌≡◌, refl, sym, ap, subst, ◌∙◌}
use mathlib.Core.Bool.{Bool, true, false, ◌&&◌, true≢false, false≢true, and-eq-true_iff}
use mathlib.Core.List.{List, ◌∷◌, ◌++◌, append-nil}
use lib.Dec.{eqb, leb}
use lib.ListN.{length, drop, replicate}
use lib.Seq.{set_split}
use borrow.Author.Tests.{leb-true, eqb-true}
use Rattle.formula.specs.Formula.{work_size, existential, universal, prefix, max_rows}
use Rattle.formula.specs.Causes.{count}
use Rattle.formula.specs.Progress.{fresh}
use Rattle.formula.specs.declared.Progress.{Progress}
use Rattle.preference.specs.Preference.{prefer}
use Rattle.rows.specs.Row.{values, bytes_of}
use Rattle.rows.specs.Table.{room, table_fits, one_a_row, zeroed}
use Rattle.rows.specs.Access.{rows_written, marks_written}
use Rattle.rows.proofs.WriteLaws.{rows_written_inside, marks_written_inside}
use Rattle.rows.proofs.RowLaws.{length_bytes_of}
use Rattle.rows.proofs.ZeroedLaws.{length_zeroed}
use Rattle.engine.specs.declared.run.Answer.{Answer}
use Rattle.engine.specs.declared.run.Answer.TheVariants.{False, True, Spent, NoRoomUniversal, NoRoomExistential, Refused}
use Rattle.engine.specs.declared.run.End.{End}
use Rattle.engine.specs.declared.run.Step.{Step}
use Rattle.engine.specs.declared.run.Step.TheVariants.{NoModel as WithoutModel, NoRoom as WithoutRoom, Grown as GrownTo}
use Rattle.rounds.specs.Run.{Table, rows, Lent, kept, highest, is_false, is_true, spent, no_room_universal, no_room_existential, round_of, run}
use Rattle.rounds.specs.Run.{Outcome as RunOutcome, Answer as RunAnswer}
use Rattle.engine.specs.Outcome.{Given, lent, named, side_fits, tables_fit, row_bytes, mark_numbers}
use Rattle.growth.specs.Growth.{with_preferred}
use Rattle.engine.specs.Private.Growing.{Half, no_model, no_room, grows, half_end}
use Rattle.engine.specs.Private.Growing.{Passes, Holds, half_table, half_of, Extended, Extends, ExtendsUniversal, said, existential_stop, universal_stop}
use Rattle.engine.specs.Private.Growing.{HoldsBoth, Shows, ShowsRun, Ready}
use Rattle.rounds.proofs.RoundLaws.{Over}
use Rattle.rounds.proofs.RunLaws.{run_goes_on, run_reached, run_stays}
use Rattle.rounds.proofs.Bounds.{row_length, next_round_in_room}
use Rattle.rounds.proofs.Highest.{count_at_most_highest, highest_stays}
use Rattle.engine.proofs.run.GrowingLaws.{wide_of_sized}
use Rattle.engine.proofs.run.ExtendLaws.{most_bytes}
use Rattle.growth.proofs.PreferredLaws.{row_whole, preferred_bytes}
use Rattle.engine.proofs.run.ClearingLaws.{blank_below, over_more}
use Rattle.engine.proofs.run.HalfLaws.{existential_stopped, universal_stopped, round_finished}

-- ---- the tables that are lent

pub least_bytes : (t : List ℕ) → table_fits t ≡ true → 16 ≤ length t
unfolding table_fits
least_bytes t e =
    let both = ((and-eq-true_iff (leb 16 (length t) && leb (length t) (max_rows * 16)) (eqb (length t % 16) 0)).0 e).0 in
    leb-true 16 (length t) ((and-eq-true_iff (leb 16 (length t)) (leb (length t) (max_rows * 16))).0 both).0

side_fitting : (t marks : List ℕ) → side_fits t marks ≡ true → (table_fits t ≡ true) × (length marks ≡ room t)
unfolding side_fits
side_fitting t marks e =
    let both = (and-eq-true_iff (table_fits t) (one_a_row t marks)).0 e in
    (both.0, eqb-true (length marks) (room t) both.1)

pub tables_fitting : (A a_marks S s_marks : List ℕ) → tables_fit A a_marks S s_marks ≡ true
    → ((table_fits A ≡ true) × (length a_marks ≡ room A)) × ((table_fits S ≡ true) × (length s_marks ≡ room S))
unfolding tables_fit
tables_fitting A a_marks S s_marks e =
    let both = (and-eq-true_iff (side_fits A a_marks) (side_fits S s_marks)).0 e in
    (side_fitting A a_marks both.0, side_fitting S s_marks both.1)

-- ---- the answers

-- The run goes on.
goes_on : Answer → Bool
goes_on False = false
goes_on True = false
goes_on Spent = true
goes_on NoRoomUniversal = false
goes_on NoRoomExistential = false
goes_on (Refused n) = false

existential_stops : (s : Step) → ((k : ℕ) → s ≡ GrownTo k → ⊥) → goes_on (existential_stop s) ≡ false
unfolding goes_on
existential_stops WithoutModel stops = refl
existential_stops WithoutRoom stops = refl
existential_stops (GrownTo k) stops = absurd (stops k refl)

universal_stops : (s : Step) → ((k : ℕ) → s ≡ GrownTo k → ⊥) → goes_on (universal_stop s) ≡ false
unfolding goes_on
universal_stops WithoutModel stops = refl
universal_stops WithoutRoom stops = refl
universal_stops (GrownTo k) stops = absurd (stops k refl)

-- The rows of a table that a step has grown.
pub grown_to : (t : Table) (h : Half) (s : Step) (k : ℕ) → s ≡ GrownTo k → s ≡ half_end h → k ≡ length (half_table t h)
grown_to t no_model s k goes e = cc
grown_to t no_room s k goes e = cc
grown_to t (grows u) s k goes e = cc

goes_on_spent : (a : RunAnswer) → goes_on (named a) ≡ true → a ≡ spent
unfolding goes_on
goes_on_spent is_false e = absurd (false≢true e)
goes_on_spent is_true e = absurd (false≢true e)
goes_on_spent spent e = refl
goes_on_spent no_room_universal e = absurd (false≢true e)
goes_on_spent no_room_existential e = absurd (false≢true e)

goes_on_over : (a : RunAnswer) → goes_on (named a) ≡ false → Over a
unfolding goes_on
goes_on_over is_false e = tt
goes_on_over is_true e = tt
goes_on_over spent e = absurd (true≢false e)
goes_on_over no_room_universal e = tt
goes_on_over no_room_existential e = tt

-- ---- the loop

-- What the universal table of the run stands over, where it has reached over n places: what was found, zero up to there.
abbrev pub row_base : Given → ℕ → List ℕ
row_base g n = zeroed (16 * n) g.found.universal_rows

abbrev pub mark_base : Given → ℕ → List ℕ
mark_base g n = zeroed n g.found.universal_marks

-- After `made` finished rounds, none past the limit, the lent tables hold those of the run.
pub record Going (g : Given) (made u x : ℕ) (AR AM SR SM W : List ℕ) : Type 0 where
  pub passes : Passes g.kinds g.literals
  pub going : (run (lent g) made).answer ≡ spent
  pub to_limit : made ≤ g.limit
  pub counted_a : u ≡ length (run (lent g) made).A
  pub counted_s : x ≡ length (run (lent g) made).S
  pub both : HoldsBoth g.kinds (row_base g (highest (lent g) made)) (mark_base g (highest (lent g) made)) g.found.existential_rows
      g.found.existential_marks (run (lent g) made) AR AM SR SM
  pub work_long : length W ≡ work_size

module _ (g : Given) where
  abbrev l : Lent
  l = lent g

  abbrev a_found : List ℕ
  a_found = g.found.universal_rows

  abbrev a_marks_found : List ℕ
  a_marks_found = g.found.universal_marks

  abbrev s_found : List ℕ
  s_found = g.found.existential_rows

  abbrev s_marks_found : List ℕ
  s_marks_found = g.found.existential_marks

  abbrev a_counts_found : List ℕ
  a_counts_found = g.found.universal_counts

  abbrev s_counts_found : List ℕ
  s_counts_found = g.found.existential_counts

  start_going : (universals : ℕ) (AR AM W : List ℕ) →
      Ready g.kinds g.literals a_found a_marks_found a_counts_found s_found s_marks_found s_counts_found W universals
      → AR ≡ rows_written a_found a_marks_found 0 (with_preferred (prefer g.preferences) universals (replicate 16 0)) 0
      → AM ≡ marks_written a_found a_marks_found 0 (with_preferred (prefer g.preferences) universals (replicate 16 0)) 0 0
      → Going g 0 1 0 AR AM s_found s_marks_found W
  unfolding run highest row_bytes mark_numbers
  start_going universals AR AM W ready on_rows on_marks =
      let m : ℕ = count universal (prefix g.kinds) in
      let first : List Bool = values m (prefer g.preferences) in
      let fit = tables_fitting a_found a_marks_found s_found s_marks_found ready.tables in
      let row_is : with_preferred (prefer g.preferences) universals (replicate 16 0) ≡ bytes_of first =
      ap (λ (n : ℕ). with_preferred (prefer g.preferences) n (replicate 16 0)) ready.counted
      ∙ preferred_bytes (prefer g.preferences) m in
      let some_a : 16 ≤ length a_found = least_bytes a_found fit.0.0 in
      let place : 0 < room a_found = omega arith in
      let marked : 0 < length a_marks_found = omega (arith, fit.0.1) in
      let whole : 0 < room (bytes_of first) = omega (arith, length_bytes_of first) in
      let in_a : AR ≡ bytes_of first ++ drop 16 a_found =
      on_rows
      ∙ ap (λ (row : List ℕ). rows_written a_found a_marks_found 0 row 0) row_is
      ∙ rows_written_inside a_found a_marks_found 0 (bytes_of first) 0 place marked whole
      ∙ ap (λ (row : List ℕ). row ++ drop 16 a_found) (row_whole (bytes_of first) (length_bytes_of first)) in
      let in_a_marks : AM ≡ 0 ∷ drop 1 a_marks_found =
      on_marks
      ∙ ap (λ (row : List ℕ). marks_written a_found a_marks_found 0 row 0 0) row_is
      ∙ marks_written_inside a_found a_marks_found 0 (bytes_of first) 0 place marked whole 0
      ∙ set_split a_marks_found 0 0 marked in
      let holds_a : Holds g.kinds universal (run l 0).A a_found a_marks_found AR AM =
      record {
        in_rows =
            record {
              fits = fit.0.0;
              in_room = place;
              sized = wide_of_sized m (rows (run l 0).A) (row_length l 0 universal);
              in_bytes = in_a ∙ ap (λ (row : List ℕ). row ++ drop 16 a_found) (sym (append-nil (bytes_of first)));
            };
        one_a_row = fit.0.1;
        in_marks = in_a_marks;
      } in
      record {
        passes = ready.passes;
        going = refl;
        to_limit = omega arith;
        counted_a = refl;
        counted_s = refl;
        both =
            record {
              holds_a = over_more g.kinds universal (run l 0).A a_found a_marks_found 0 AR AM holds_a;
              holds_s =
                  record {
                    in_rows = record { fits = fit.1.0; in_room = omega arith; sized = λ i h. absurd (omega arith); in_bytes = refl };
                    one_a_row = fit.1.1;
                    in_marks = refl;
                  };
            };
        work_long = ready.work_long;
      }

  pub fresh_going : (p : Progress) (universals : ℕ) (AR AM W : List ℕ) → p ≡ fresh
      → Ready g.kinds g.literals a_found a_marks_found a_counts_found s_found s_marks_found s_counts_found W universals
      → AR ≡ rows_written a_found a_marks_found 0 (with_preferred (prefer g.preferences) universals (replicate 16 0)) 0
      → AM ≡ marks_written a_found a_marks_found 0 (with_preferred (prefer g.preferences) universals (replicate 16 0)) 0 0
      → Going g p.round p.universal p.existential AR AM s_found s_marks_found W
  fresh_going p universals AR AM W e ready on_rows on_marks =
      subst (λ (q : Progress). Going g q.round q.universal q.existential AR AM s_found s_marks_found W) (sym e)
      (start_going universals AR AM W ready on_rows on_marks)

  -- The lent tables show an outcome, the universal one over n places.
  abbrev Made : ℕ → RunOutcome → End → List ℕ → List ℕ → List ℕ → List ℕ → List ℕ → Type 0
  Made n o = Shows g.kinds (row_base g n) (mark_base g n) s_found s_marks_found o

  module _ (made u x : ℕ) (AR AM SR SM W : List ℕ) (now_going : Going g made u x AR AM SR SM W) where
    abbrev n : ℕ
    n = highest l made

    -- The next round's number is a mark.
    pub number_in_marks : made + 1 < 65536
    number_in_marks =
        let hS = now_going.both.holds_s in
        let most_s = most_bytes s_found hS.in_rows.fits in
        let least_s = least_bytes s_found hS.in_rows.fits in
        let in_marks = next_round_in_room l made (omega arith) now_going.going in
        omega arith

    module _ (next : End) (AR' AM' SR' SM' W' : List ℕ) (shows : Made n (round_of l (made + 1) (run l made).A (run l made).S) next AR' AM' SR' SM' W') where
      shows_next : Made (highest l (suc made)) (run l (suc made)) next AR' AM' SR' SM' W'
      unfolding highest
      shows_next =
          let o = run l (suc made) in
          let here : Made n o next AR' AM' SR' SM' W' =
          subst (λ (o : RunOutcome). Made n o next AR' AM' SR' SM' W')
          (ap (λ (r : ℕ). round_of l r (run l made).A (run l made).S) (add-one made) ∙ sym (run_goes_on l made now_going.going))
          shows in
          record {
            as_returned = here.as_returned;
            both =
                record {
                  holds_a = over_more g.kinds universal o.A a_found a_marks_found n AR' AM' here.both.holds_a;
                  holds_s = here.both.holds_s;
                };
            work_long = here.work_long;
          }

      goes_further : made < g.limit → goes_on next.answer ≡ true → Going g next.round next.universal next.existential AR' AM' SR' SM' W'
      goes_further below e =
          let o = run l (suc made) in
          let ended : o.answer ≡ spent = goes_on_spent o.answer (sym (ap (λ (q : End). goes_on q.answer) shows_next.as_returned) ∙ e) in
          let reached : next.round ≡ suc made = ap (λ (q : End). q.round) shows_next.as_returned ∙ (run_reached l (suc made)).at_limit ended in
          subst (λ (r : ℕ). Going g r next.universal next.existential AR' AM' SR' SM' W') (sym reached)
          (record {
            passes = now_going.passes;
            going = ended;
            to_limit = below;
            counted_a = ap (λ (q : End). q.universal) shows_next.as_returned;
            counted_s = ap (λ (q : End). q.existential) shows_next.as_returned;
            both = shows_next.both;
            work_long = shows_next.work_long;
          })

      run_ended : made < g.limit → goes_on next.answer ≡ false → ShowsRun g next AR' AM' SR' SM' W'
      run_ended below e =
          let o = run l (suc made) in
          let ended : Over o.answer = goes_on_over o.answer (sym (ap (λ (q : End). goes_on q.answer) shows_next.as_returned) ∙ e) in
          subst (λ (m : ℕ). Made m (run l g.limit) next AR' AM' SR' SM' W') (sym (highest_stays l (suc made) g.limit below ended))
          (subst (λ (q : RunOutcome). Made (highest l (suc made)) q next AR' AM' SR' SM' W') (sym (run_stays l (suc made) g.limit below ended))
          shows_next)

    -- One round more, by its two steps.
    module _ (step : Step) (SR' SM' W' : List ℕ)
        (extends : Extends g.kinds g.literals g.preferences AR u false SR SM x (made + 1) W step SR' SM' W') (below : made < g.limit) where
      abbrev A : Table
      A = (run l made).A

      abbrev S : Table
      S = (run l made).S

      pub first : Extended g.kinds existential S (half_of g.kinds g.literals g.preferences existential (room s_found) (made + 1) A S) s_found
          s_marks_found step SR' SM' W'
      first =
          extends A S (row_base g n) s_found s_marks_found now_going.passes now_going.counted_a now_going.counted_s now_going.both.holds_a.in_rows
          now_going.both.holds_s
          now_going.work_long

      pub run_stopped : (s : Step) → step ≡ s → ((k : ℕ) → s ≡ GrownTo k → ⊥) → (result : End) → result ≡ said (existential_stop s) (made + 1) u x
          → ShowsRun g result AR AM SR' SM' W'
      run_stopped s is stops result told =
          let told_so : result ≡ said (existential_stop step) (made + 1) u x = told ∙ ap (λ (q : Step). said (existential_stop q) (made + 1) u x) (sym is) in
          run_ended result AR AM SR' SM' W'
          (existential_stopped g (row_base g n) (mark_base g n) A S (made + 1) u x now_going.counted_a now_going.counted_s
          AR AM SR' SM' W' step now_going.both.holds_a first (λ k e. stops k (sym is ∙ e)) result told_so)
          below
          (ap (λ (o : End). goes_on o.answer) told ∙ existential_stops s stops)

      module _ (k : ℕ) (goes : step ≡ GrownTo k) (back : Step) (AR' AM' W'' : List ℕ)
          (extends_back : ExtendsUniversal g.kinds g.literals g.preferences SR' k AR AM u g.clear_every (made + 1) (made + 1) W' back
          AR' AM' W'') where
        abbrev S' : Table
        S' = half_table S (half_of g.kinds g.literals g.preferences existential (room s_found) (made + 1) A S)

        pub second : Extended g.kinds universal A (half_of g.kinds g.literals g.preferences universal (room a_found) (made + 1) S'
            (kept l (made + 1) A))
            (row_base g n) (mark_base g n) back AR' AM' W''
        second =
            extends_back S' A s_found (row_base g n) (mark_base g n) (room a_found) now_going.passes
            (grown_to S (half_of g.kinds g.literals g.preferences existential (room s_found) (made + 1) A S) step k goes first.ended) now_going.counted_a
            first.holds.in_rows
            now_going.both.holds_a (blank_below (length A) n a_found a_marks_found (count_at_most_highest l made))
            (ap (λ (b : ℕ). b / 16) (length_zeroed (16 * n) a_found)) first.work_long

        pub run_stopped_back : (s : Step) → back ≡ s → ((j : ℕ) → s ≡ GrownTo j → ⊥) → (result : End) → result ≡ said (universal_stop s) (made + 1) u k
            → ShowsRun g result AR' AM' SR' SM' W''
        run_stopped_back s is stops result told =
            let told_so : result ≡ said (universal_stop back) (made + 1) u k = told ∙ ap (λ (q : Step). said (universal_stop q) (made + 1) u k) (sym is) in
            run_ended result AR' AM' SR' SM' W''
            (universal_stopped g (row_base g n) (mark_base g n) A S (made + 1) u x now_going.counted_a now_going.counted_s
            AR AM SR' SM' W' step now_going.both.holds_a first k goes AR' AM' W'' back second (λ j e. stops j (sym is ∙ e)) result told_so)
            below
            (ap (λ (o : End). goes_on o.answer) told ∙ universal_stops s stops)

        pub round_made : (j : ℕ) → back ≡ GrownTo j → Going g (made + 1) j k AR' AM' SR' SM' W''
        unfolding goes_on
        round_made j goes_back =
            goes_further (said Spent (made + 1) j k) AR' AM' SR' SM' W''
            (round_finished g (row_base g n) (mark_base g n) A S (made + 1) u x now_going.counted_a now_going.counted_s
            AR AM SR' SM' W' step now_going.both.holds_a first k goes AR' AM' W'' back second j goes_back)
            below refl

    pub run_spent : g.limit ≤ made → (result : End) → result ≡ said Spent made u x → ShowsRun g result AR AM SR SM W
    run_spent past result told =
        let end : made ≡ g.limit = omega (arith, now_going.to_limit) in
        let answered : Spent ≡ named (run l made).answer = ap named (sym now_going.going) in
        let reached : made ≡ (run l made).round = sym ((run_reached l made).at_limit now_going.going) in
        subst (λ (m : ℕ). Made (highest l m) (run l m) result AR AM SR SM W) end
        (record {
          as_returned = told ∙ (λ d. said (answered d) (reached d) (now_going.counted_a d) (now_going.counted_s d));
          both = now_going.both;
          work_long = now_going.work_long;
        })
