-- Return counts over the rounds: from the counts after some rounds and those that the two steps leave to the counts after one round more, and to
-- those of the whole run. Assumes nothing.
use Prim.Native.Nat.{ℕ, suc, ◌+◌, ◌*◌, ◌/◌, ◌^◌, ◌≤◌, ◌<◌, max}
use native.Mathlib.Omega.{arith}
use native.Mathlib.Decide.{dec_le}
use native.Mathlib.Numerals.{add-one}
use native.Mathlib.Nat.{add-zero}
use mathlib.Core.Path.{◌≡◌, refl, sym, ap, subst, ◌∙◌}
use mathlib.Core.Bool.{Bool, true, false, ◌&&◌, cond, and-eq-true_iff}
use mathlib.Core.List.{List, [], ◌∷◌, ◌++◌, map}
use mathlib.Core.Logic.{by_cases}
use mathlib.Core.Option.{Option}
use lib.ListN.{length, drop}
use borrow.Author.Tests.{eqb-true}
use Rattle.formula.specs.Meaning.{bit}
use Rattle.formula.specs.Formula.{Kind, existential, universal}
use Rattle.formula.specs.Progress.{fresh}
use Rattle.formula.specs.declared.Progress.{Progress}
use Rattle.rows.specs.Table.{room, zeroed, one_a_row}
use Rattle.rows.proofs.ZeroedLaws.{length_zeroed, zeroed_again, drop_zeroed}
use Rattle.expansion.specs.Play.{Row}
use Rattle.expansion.specs.Copies.{among}
use Rattle.expansion.specs.Model.{search}
use Rattle.counts.specs.Counts.{filled}
use Rattle.rounds.specs.Run.{Entry, Table, rows, clears, kept, Answer, is_false, is_true, spent, no_room_universal, no_room_existential, Outcome, Lent}
use Rattle.rounds.specs.Run.{round_of, run, highest}
use Rattle.rounds.specs.Counts.{rows_found, is_spent, came, counts}
use Rattle.rounds.proofs.RoundLaws.{Over}
use Rattle.rounds.proofs.RunLaws.{run_goes_on, run_reached, run_stays}
use Rattle.rounds.proofs.Highest.{count_at_most_highest, highest_stays}
use Rattle.rounds.proofs.CountsLaws.{second_search, searched_s, searched_a, came_next, came_stays, came_at_most, absent_zero}
use Rattle.engine.specs.declared.run.Step.{Step}
use Rattle.engine.specs.declared.run.Step.TheVariants.{Grown as GrownTo}
use Rattle.engine.specs.Outcome.{Given, lent, tables_counted}
use Rattle.engine.specs.Private.Growing.{Half, no_model, no_room, grows, half, half_table, half_end, half_of, Extended, Extends, ExtendsUniversal, Ready}
use Rattle.engine.specs.Private.Counting.{tallied, Counted, half_since, half_came, Tallies, TalliesUniversal, counts_after, CountsShow}
use Rattle.engine.proofs.run.ClearingLaws.{blank_below}
use Rattle.engine.proofs.run.HalfLaws.{after_first, after_second, end_1}
use Rattle.engine.proofs.run.LoopLaws.{least_bytes, tables_fitting, row_base, mark_base, Going, number_in_marks, first, second, grown_to}

-- ---- the tables that are lent

pub counts_fitting : (A a_counts S s_counts : List ℕ) → tables_counted A a_counts S s_counts ≡ true → (length a_counts ≡ room A) × (length s_counts ≡ room S)
unfolding tables_counted
counts_fitting A a_counts S s_counts e =
    let both = (and-eq-true_iff (one_a_row A a_counts) (one_a_row S s_counts)).0 e in
    (eqb-true (length a_counts) (room A) both.0, eqb-true (length s_counts) (room S) both.1)

-- ---- the start

first_zero : (found : List ℕ) → 1 ≤ length found → filled 0 1 0 found ≡ 0 ∷ drop 1 (zeroed 1 found)
first_zero [] h = absurd (omega arith)
first_zero (x ∷ found) h = refl

abbrev IsReady : Given → List ℕ → ℕ → Type 0
IsReady g =
    Ready g.kinds g.literals g.found.universal_rows g.found.universal_marks g.found.universal_counts g.found.existential_rows
    g.found.existential_marks g.found.existential_counts

start_counts : (g : Given) → 1 ≤ length g.found.universal_counts → (CA : List ℕ) → CA ≡ filled 0 1 0 g.found.universal_counts
    → CountsShow g 0 CA g.found.existential_counts
unfolding counts came run highest
start_counts g some_row CA is = record { counts_a = is ∙ first_zero g.found.universal_counts some_row; counts_s = refl }

pub fresh_counts : (g : Given) (p : Progress) (universals : ℕ) (W : List ℕ) → p ≡ fresh → IsReady g W universals → (CA : List ℕ)
    → CA ≡ filled 0 1 0 g.found.universal_counts → CountsShow g p.round CA g.found.existential_counts
fresh_counts g p universals W e ready CA is =
    let A = g.found.universal_rows in
    let fit = (counts_fitting A g.found.universal_counts g.found.existential_rows g.found.existential_counts ready.counts).0 in
    let least = least_bytes A (tables_fitting A g.found.universal_marks g.found.existential_rows g.found.existential_marks ready.tables).0.0 in
    let some_row : 1 ≤ length g.found.universal_counts = omega arith in
    subst (λ (q : Progress). CountsShow g q.round CA g.found.existential_counts) (sym e) (start_counts g some_row CA is)

-- ---- a round by its steps

module _ (l : Lent) (r : ℕ) (A S : Table) where
  existential_table : (h : Half) → (after_first l r A S h).S ≡ half_table S h
  unfolding after_first after_second
  existential_table no_model = refl
  existential_table no_room = refl
  existential_table (grows S') = go (half l.room_a r (kept l r A) (search l.prefer universal l.ks l.phi (rows S')))
    where
      go : (h : Half) → (after_second r A S' h).S ≡ S'
      go no_model = refl
      go no_room = refl
      go (grows A') = refl

since_none : (h : Half) (n : ℕ) → half_since false h n ≡ n
since_none no_model n = refl
since_none no_room n = refl
since_none (grows t) n = refl

-- What a table reaches over is not seen behind it.
behind_more : (m n : ℕ) (found : List ℕ) → drop m (zeroed n found) ≡ drop m (zeroed (max n m) found)
behind_more m n found = by_cases (dec_le m n) inside past
  where
    inside : m ≤ n → drop m (zeroed n found) ≡ drop m (zeroed (max n m) found)
    inside h = let same : n ≡ max n m = omega arith in ap (λ (k : ℕ). drop m (zeroed k found)) same

    past : ¬ (m ≤ n) → drop m (zeroed n found) ≡ drop m (zeroed (max n m) found)
    past h =
        let same : m ≡ max n m = omega arith in
        drop_zeroed n m found (omega arith) ∙ sym (drop_zeroed m m found (omega arith)) ∙ ap (λ (k : ℕ). drop m (zeroed k found)) same

module _ (g : Given) (made : ℕ) (going : (run (lent g) made).answer ≡ spent) where
  abbrev l : Lent
  l = lent g

  abbrev o : Outcome
  o = run l (suc made)

  abbrev A : Table
  A = (run l made).A

  abbrev S : Table
  S = (run l made).S

  -- The existential counts after the round.
  next_s : (h : Half) → o.S ≡ half_table S h → (C : List ℕ)
      → C ≡ tallied (half_came false h (search l.prefer existential l.ks l.phi (rows A)) (came l existential made)) (half_table S h)
      g.found.existential_counts
      → C ≡ counts_after existential g (suc made)
  unfolding counts
  next_s h is C e =
      let s = search l.prefer existential l.ks l.phi (rows A) in
      let same : (x : Row) → half_came false h s (came l existential made) x ≡ came l existential (suc made) x =
      λ x.
      ap (λ (n : ℕ). n + bit (among x (rows_found s))) (since_none h (came l existential made x))
      ∙ sym (came_next l existential made (rows_found s) (searched_s l made going) x) in
      e ∙ (λ d. tallied (λ x. same x d) (sym is d) g.found.existential_counts)

  -- The universal counts after it, by its answer, its universal table, what its search yielded and what it keeps of the counts.
  next_a : (a : Answer) → o.answer ≡ a → (A' : Table) → o.A ≡ A' → (ys : List Row) → second_search l a o ≡ ys
      → (since : ℕ → ℕ) → ((n : ℕ) → cond (is_spent a && clears l.clear_every (suc made)) 0 n ≡ since n) → (C : List ℕ)
      → C ≡ tallied (λ x. since (came l universal made x) + bit (among x ys)) A' (zeroed (highest l made) g.found.universal_counts)
      → C ≡ counts_after universal g (suc made)
  unfolding counts highest
  next_a a answered A' is ys yields since since_so C e =
      let same : (x : Row) → since (came l universal made x) + bit (among x ys) ≡ came l universal (suc made) x =
      λ x.
      sym
      (came_next l universal made ys (searched_a l made a going answered ∙ yields) x
      ∙ ap (λ (b : Answer). cond (is_spent b && clears l.clear_every (suc made)) 0 (came l universal made x) + bit (among x ys)) answered
      ∙ ap (λ (n : ℕ). n + bit (among x ys)) (since_so (came l universal made x))) in
      e
      ∙ (λ d. tallied (λ x. same x d) (sym is d) (zeroed (highest l made) g.found.universal_counts))
      ∙ ap (λ (rest : List ℕ). map (λ (x : Entry). came l universal (suc made) x.row) o.A ++ rest)
      (behind_more (length o.A) (highest l made) g.found.universal_counts)

  -- A round that ends before step 3 leaves them.
  untouched_a : (a : Answer) → o.answer ≡ a → o.A ≡ A → second_search l a o ≡ [] → is_spent a ≡ false → (C : List ℕ) → C ≡ counts_after universal g made
      → C ≡ counts_after universal g (suc made)
  unfolding counts
  untouched_a a answered is none over C e =
      next_a a answered A is [] none (λ n. n) (λ n. ap (λ (b : Bool). cond (b && clears l.clear_every (suc made)) 0 n) over) C
      (e ∙ (λ d. tallied (λ x. sym (add-zero (came l universal made x)) d) A (zeroed (highest l made) g.found.universal_counts)))

  stopped_a : (h : Half) → o ≡ after_first l (made + 1) A S h → ((k : ℕ) → half_end h ≡ GrownTo k → ⊥) → (C : List ℕ) → C ≡ counts_after universal g made
      → (C ≡ counts_after universal g (suc made)) × Over o.answer
  unfolding after_first
  stopped_a no_model is stops C e =
      let answered : o.answer ≡ is_false = ap (λ (q : Outcome). q.answer) is in
      (untouched_a is_false answered (ap (λ (q : Outcome). q.A) is) refl refl C e, subst Over (sym answered) tt)
  stopped_a no_room is stops C e =
      let answered : o.answer ≡ no_room_existential = ap (λ (q : Outcome). q.answer) is in
      (untouched_a no_room_existential answered (ap (λ (q : Outcome). q.A) is) refl refl C e, subst Over (sym answered) tt)
  stopped_a (grows S') is stops C e = absurd (stops (length S') refl)

  -- A round that reaches it.
  module _ (S' : Table) where
    abbrev yielded : Option (List Row)
    yielded = search l.prefer universal l.ks l.phi (rows S')

    abbrev base : List ℕ
    base = zeroed (highest l made) g.found.universal_counts

    abbrev ByHalf : Half → List ℕ → Type 0
    ByHalf h C = C ≡ tallied (half_came (clears l.clear_every (made + 1)) h yielded (came l universal made)) (half_table A h) base

    second_a : (h : Half) → o ≡ after_second (made + 1) A S' h → (C : List ℕ) → ByHalf h C → C ≡ counts_after universal g (suc made)
    unfolding after_second
    second_a no_model is C e =
        next_a is_true (ap (λ (q : Outcome). q.answer) is) A (ap (λ (q : Outcome). q.A) is) (rows_found yielded)
        (ap (λ (q : Outcome). rows_found (search l.prefer universal l.ks l.phi (rows q.S))) is) (λ n. n) (λ n. refl) C e
    second_a no_room is C e =
        next_a no_room_universal (ap (λ (q : Outcome). q.answer) is) A (ap (λ (q : Outcome). q.A) is) (rows_found yielded)
        (ap (λ (q : Outcome). rows_found (search l.prefer universal l.ks l.phi (rows q.S))) is) (λ n. n) (λ n. refl) C e
    second_a (grows A') is C e =
        next_a spent (ap (λ (q : Outcome). q.answer) is) A' (ap (λ (q : Outcome). q.A) is) (rows_found yielded)
        (ap (λ (q : Outcome). rows_found (search l.prefer universal l.ks l.phi (rows q.S))) is)
        (λ n. cond (clears l.clear_every (made + 1)) 0 n) (λ n. ap (λ (r : ℕ). cond (clears l.clear_every r) 0 n) (sym (add-one made))) C e

    stopped_over : (h : Half) → o ≡ after_second (made + 1) A S' h → ((k : ℕ) → half_end h ≡ GrownTo k → ⊥) → Over o.answer
    unfolding after_second
    stopped_over no_model is stops = subst Over (sym (ap (λ (q : Outcome). q.answer) is)) tt
    stopped_over no_room is stops = subst Over (sym (ap (λ (q : Outcome). q.answer) is)) tt
    stopped_over (grows A') is stops = absurd (stops (length A') refl)

  -- The round by its first step.
  by_first : o ≡ after_first l (made + 1) A S (half l.room_s (made + 1) S (search l.prefer existential l.ks l.phi (rows A)))
  unfolding round_of
  by_first =
      run_goes_on l made going
      ∙ ap (λ (r : ℕ). round_of l r A S) (sym (add-one made))
      ∙ end_1 l (made + 1) A S (search l.prefer existential l.ks l.phi (rows A))

-- ---- the run

-- A run that is over counts no more.
counts_stay : (g : Given) (r : ℕ) → r ≤ g.limit → Over (run (lent g) r).answer → (side : Kind) → counts_after side g r ≡ counts_after side g g.limit
unfolding counts
counts_stay g r h over existential =
    λ d.
    tallied (λ x. sym (came_stays (lent g) existential r g.limit h over x) d) (sym (run_stays (lent g) r g.limit h over) d).S
    g.found.existential_counts
counts_stay g r h over universal =
    λ d.
    tallied (λ x. sym (came_stays (lent g) universal r g.limit h over x) d) (sym (run_stays (lent g) r g.limit h over) d).A
    (zeroed (sym (highest_stays (lent g) r g.limit h over) d) g.found.universal_counts)

module _ (g : Given) (made u x : ℕ) (AR AM SR SM W : List ℕ) (now_going : Going g made u x AR AM SR SM W) (CA CS : List ℕ)
    (now_counts : CountsShow g made CA CS)
    {W₀ : List ℕ} {universals : ℕ} (ready : IsReady g W₀ universals) where
  fit : (length g.found.universal_counts ≡ room g.found.universal_rows) × (length g.found.existential_counts ≡ room g.found.existential_rows)
  fit = counts_fitting g.found.universal_rows g.found.universal_counts g.found.existential_rows g.found.existential_counts ready.counts

  -- One more of each is a 32-bit number, since there are no more than the rounds.
  few : (side : Kind) (y : Row) → came (lent g) side made y + 1 < 2 ^ 32
  few side y =
      let most = came_at_most (lent g) side made y in
      let reached = (run_reached (lent g) made).at_limit now_going.going in
      let low = number_in_marks g made u x AR AM SR SM W now_going in
      omega arith

  counted_a : Counted (run (lent g) made).A (came (lent g) universal made) (zeroed (highest (lent g) made) g.found.universal_counts) CA
  unfolding counts
  counted_a = record { in_counts = now_counts.counts_a; far = few universal; absent = λ y. absent_zero (lent g) universal made y now_going.going }

  counted_s : Counted (run (lent g) made).S (came (lent g) existential made) g.found.existential_counts CS
  unfolding counts
  counted_s = record { in_counts = now_counts.counts_s; far = few existential; absent = λ y. absent_zero (lent g) existential made y now_going.going }

  module _ (step : Step) (SR' SM' W' CS' : List ℕ) (extends : Extends g.kinds g.literals g.preferences AR u false SR SM x (made + 1) W step SR' SM' W')
      (tallies : Tallies g.kinds g.literals g.preferences AR u SR SM x (made + 1) W CS CS') (below : made < g.limit) where
    abbrev first_half : Half
    first_half = half_of g.kinds g.literals g.preferences existential (room g.found.existential_rows) (made + 1) (run (lent g) made).A
        (run (lent g) made).S

    first_made : Extended g.kinds existential (run (lent g) made).S first_half g.found.existential_rows g.found.existential_marks step SR' SM' W'
    first_made = first g made u x AR AM SR SM W now_going step SR' SM' W' extends below

    counts_s : CS' ≡ counts_after existential g (suc made)
    counts_s =
        next_s g made now_going.going first_half
        (ap (λ (q : Outcome). q.S) (by_first g made now_going.going) ∙ existential_table (lent g) (made + 1) (run (lent g) made).A (run (lent g) made).S
        first_half) CS'
        (tallies (run (lent g) made).A (run (lent g) made).S (row_base g (highest (lent g) made)) g.found.existential_rows g.found.existential_marks
        g.found.existential_counts (came (lent g) existential made) now_going.passes now_going.counted_a now_going.counted_s
        now_going.both.holds_a.in_rows now_going.both.holds_s now_going.work_long fit.1 counted_s)

    ended_here : Over (run (lent g) (suc made)).answer → (C : List ℕ) → C ≡ counts_after universal g (suc made) → CountsShow g g.limit C CS'
    ended_here over C e =
        record {
          counts_a = e ∙ counts_stay g (suc made) below over universal;
          counts_s = counts_s ∙ counts_stay g (suc made) below over existential;
        }

    pub counts_stopped : ((k : ℕ) → step ≡ GrownTo k → ⊥) → CountsShow g g.limit CA CS'
    counts_stopped stops =
        let left =
        stopped_a g made now_going.going first_half (by_first g made now_going.going) (λ k e. stops k (first_made.ended ∙ e)) CA now_counts.counts_a in
        ended_here left.1 CA left.0

    module _ (k : ℕ) (goes : step ≡ GrownTo k) (back : Step) (AR' AM' W'' CA' : List ℕ)
        (extends_back : ExtendsUniversal g.kinds g.literals g.preferences SR' k AR AM u g.clear_every (made + 1) (made + 1) W' back AR'
        AM' W'')
        (tallies_back : TalliesUniversal g.kinds g.literals g.preferences SR' k AR AM u g.clear_every (made + 1) (made + 1) W' CA CA')
      where
        abbrev S' : Table
        S' = half_table (run (lent g) made).S first_half

        abbrev second_half : Table → Half
        second_half T =
            half_of g.kinds g.literals g.preferences universal (room g.found.universal_rows) (made + 1) T
            (kept (lent g) (made + 1) (run (lent g) made).A)

        second_made : Extended g.kinds universal (run (lent g) made).A (second_half S') (row_base g (highest (lent g) made))
            (mark_base g (highest (lent g) made)) back AR' AM' W''
        second_made = second g made u x AR AM SR SM W now_going step SR' SM' W' extends below k goes back AR' AM' W'' extends_back

        tallied_a : ByHalf g made now_going.going S' (second_half S') CA'
        tallied_a =
            let n = highest (lent g) made in
            let A = (run (lent g) made).A in
            let same : room (row_base g n) ≡ room g.found.universal_rows = ap (λ (b : ℕ). b / 16) (length_zeroed (16 * n) g.found.universal_rows) in
            tallies_back S' A g.found.existential_rows (row_base g n) (mark_base g n) (zeroed n g.found.universal_counts)
            (room g.found.universal_rows)
            (came (lent g) universal made) now_going.passes (grown_to (run (lent g) made).S first_half step k goes first_made.ended) now_going.counted_a
            first_made.holds.in_rows
            now_going.both.holds_a
            (blank_below (length A) n g.found.universal_rows g.found.universal_marks (count_at_most_highest (lent g) made)) same first_made.work_long
            (length_zeroed n g.found.universal_counts ∙ fit.0 ∙ sym same)
            (zeroed_again (length A) n g.found.universal_counts (count_at_most_highest (lent g) made)) counted_a

        -- The first step has grown the existential table.
        by_second : run (lent g) (suc made) ≡ after_second (made + 1) (run (lent g) made).A S' (second_half S')
        unfolding after_first
        by_second = go first_half (by_first g made now_going.going) (sym first_made.ended ∙ goes)
          where
            go : (h : Half) → run (lent g) (suc made) ≡ after_first (lent g) (made + 1) (run (lent g) made).A (run (lent g) made).S h → half_end h ≡ GrownTo k
                → run (lent g) (suc made) ≡ after_second (made + 1) (run (lent g) made).A (half_table (run (lent g) made).S h)
                (second_half (half_table (run (lent g) made).S h))
            go no_model is e = cc
            go no_room is e = cc
            go (grows T) is e = is

        counts_a : CA' ≡ counts_after universal g (suc made)
        counts_a = second_a g made now_going.going S' (second_half S') by_second CA' tallied_a

        pub counts_stopped_back : ((j : ℕ) → back ≡ GrownTo j → ⊥) → CountsShow g g.limit CA' CS'
        counts_stopped_back stops =
            ended_here (stopped_over g made now_going.going S' (second_half S') by_second (λ j e. stops j (second_made.ended ∙ e))) CA' counts_a

        pub counts_made : CountsShow g (made + 1) CA' CS'
        counts_made = subst (λ (r : ℕ). CountsShow g r CA' CS') (sym (add-one made)) (record { counts_a = counts_a; counts_s = counts_s })

  pub counts_spent : g.limit ≤ made → CountsShow g g.limit CA CS
  counts_spent past = let end : made ≡ g.limit = omega (arith, now_going.to_limit) in subst (λ (r : ℕ). CountsShow g r CA CS) end now_counts
