-- A round is its two sides' steps: what each of its ends returns and leaves. Assumes nothing.
use Prim.Native.Nat.{ℕ}
use mathlib.Core.Path.{◌≡◌, refl, sym, ap, subst, ◌∙◌}
use mathlib.Core.List.{List}
use mathlib.Core.Option.{Option, none, some}
use lib.ListN.{length}
use Rattle.formula.specs.Formula.{work_size, existential, universal, prefix, clauses}
use Rattle.formula.specs.Meaning.{matrix}
use Rattle.preference.specs.Preference.{prefer}
use Rattle.rows.specs.Table.{room}
use Rattle.expansion.specs.Play.{Row}
use Rattle.expansion.specs.Model.{search}
use Rattle.engine.specs.declared.run.Answer.TheVariants.{Spent}
use Rattle.engine.specs.declared.run.End.{End}
use Rattle.engine.specs.declared.run.Step.{Step}
use Rattle.engine.specs.declared.run.Step.TheVariants.{NoModel as WithoutModel, NoRoom as WithoutRoom, Grown as GrownTo}
use Rattle.rounds.specs.Run.{Table, rows, grown, if_fits, Lent, kept, outcome, is_false, is_true, spent, no_room_universal, no_room_existential, step_1, step_2}
use Rattle.rounds.specs.Run.{step_3, step_4, round_of, Outcome as RunOutcome, Answer as RunAnswer}
use Rattle.engine.specs.Outcome.{Given, lent, named}
use Rattle.engine.specs.Private.Growing.{Holds, Half, no_model, no_room, grows, half, half_fit, half_table, half_of, Extended, said, existential_stop}
use Rattle.engine.specs.Private.Growing.{universal_stop, Shows}

-- The outcome of round r by its steps' ends.
unfoldable pub after_second : ℕ → Table → Table → Half → RunOutcome
after_second r A S no_model = outcome is_true r A S
after_second r A S no_room = outcome no_room_universal r A S
after_second r A S (grows A') = outcome spent r A' S

unfoldable pub after_first : Lent → ℕ → Table → Table → Half → RunOutcome
after_first l r A S no_model = outcome is_false r A S
after_first l r A S no_room = outcome no_room_existential r A S
after_first l r A S (grows S') = after_second r A S' (half l.room_a r (kept l r A) (search l.prefer universal l.ks l.phi (rows S')))

module _ (l : Lent) (r : ℕ) (A : Table) where
  end_4 : (S : Table) (o : Option Table) → step_4 r A S o ≡ after_second r A S (half_fit o)
  unfolding after_second
  end_4 S none = refl
  end_4 S (some u) = refl

  end_3 : (S : Table) (s : Option (List Row)) → step_3 l r A S s ≡ after_second r A S (half l.room_a r (kept l r A) s)
  unfolding after_second
  end_3 S none = refl
  end_3 S (some yielded) = end_4 S (if_fits l.room_a (grown r (kept l r A) yielded))

  end_2 : (S : Table) (o : Option Table) → step_2 l r A S o ≡ after_first l r A S (half_fit o)
  unfolding after_first
  end_2 S none = refl
  end_2 S (some S') = end_3 S' (search l.prefer universal l.ks l.phi (rows S'))

  pub end_1 : (S : Table) (s : Option (List Row)) → step_1 l r A S s ≡ after_first l r A S (half l.room_s r S s)
  unfolding after_first
  end_1 S none = refl
  end_1 S (some yielded) = end_2 S (if_fits l.room_s (grown r S yielded))

-- A round over what is lent, the universal table standing over some bases.
module _ (g : Given) (a_base a_marks_base : List ℕ) (A S : Table) (r u x : ℕ) (counted_a : u ≡ length A) (counted_s : x ≡ length S) where
  abbrev l : Lent
  l = lent g

  abbrev kinds : List ℕ
  kinds = g.kinds

  abbrev s_found : List ℕ
  s_found = g.found.existential_rows

  abbrev s_marks_found : List ℕ
  s_marks_found = g.found.existential_marks

  abbrev first : Half
  first = half_of kinds g.literals g.preferences existential (room s_found) r A S

  abbrev second : Table → Half
  second S' = half_of kinds g.literals g.preferences universal (room g.found.universal_rows) r S' (kept l r A)

  abbrev Made : RunOutcome → End → List ℕ → List ℕ → List ℕ → List ℕ → List ℕ → Type 0
  Made o = Shows kinds a_base a_marks_base s_found s_marks_found o

  ends : round_of l r A S ≡ after_first l r A S first
  unfolding round_of
  ends = end_1 l r A S (search (prefer g.preferences) existential (prefix kinds) (matrix (clauses g.literals)) (rows A))

  shown : (o : RunOutcome) (a : RunAnswer) (A' S' : Table) (n k : ℕ) (AR AM SR SM W : List ℕ) (result : End) → o ≡ outcome a r A' S'
      → result ≡ said (named a) r n k → n ≡ length A' → k ≡ length S'
      → Holds kinds universal A' a_base a_marks_base AR AM → Holds kinds existential S' s_found s_marks_found SR SM → length W ≡ work_size
      → Made o result AR AM SR SM W
  shown o a A' S' n k AR AM SR SM W result is told en ek hA hS long =
      subst (λ (q : RunOutcome). Made q result AR AM SR SM W) (sym is)
      (record { as_returned = told ∙ (λ d. said (named a) r (en d) (ek d)); both = record { holds_a = hA; holds_s = hS }; work_long = long })

  module _ (AR AM SR SM W : List ℕ) (step : Step) (held_a : Holds kinds universal A a_base a_marks_base AR AM)
      (made : Extended kinds existential S first s_found s_marks_found step SR SM W) where
    pub existential_stopped : ((k : ℕ) → step ≡ GrownTo k → ⊥) → (result : End) → result ≡ said (existential_stop step) r u x
        → Made (round_of l r A S) result AR AM SR SM W
    unfolding after_first
    existential_stopped stops result told = go first ends made
      where
        by_end : (s : Step) → step ≡ s → result ≡ said (existential_stop s) r u x
        by_end s e = told ∙ ap (λ (q : Step). said (existential_stop q) r u x) e

        go : (h : Half) → round_of l r A S ≡ after_first l r A S h → Extended kinds existential S h s_found s_marks_found step SR SM W
            → Made (round_of l r A S) result AR AM SR SM W
        go no_model is m = shown (round_of l r A S) is_false A S u x AR AM SR SM W result is (by_end WithoutModel m.ended) counted_a counted_s held_a m.holds
            m.work_long
        go no_room is m = shown (round_of l r A S) no_room_existential A S u x AR AM SR SM W result is (by_end WithoutRoom m.ended) counted_a counted_s held_a
            m.holds m.work_long
        go (grows t) is m = absurd (stops (length t) m.ended)

    -- The first step has grown the existential table; what follows is the second one.
    module _ (k : ℕ) (goes : step ≡ GrownTo k) (AR' AM' W' : List ℕ) (back : Step)
        (made_back : Extended kinds universal A (second (half_table S first)) a_base a_marks_base back AR' AM' W') where
      later : (result : End)
          → ((S' : Table) (h : Half) → round_of l r A S ≡ after_second r A S' h → k ≡ length S'
          → Holds kinds existential S' s_found s_marks_found SR SM
          → Extended kinds universal A h a_base a_marks_base back AR' AM' W' → Made (round_of l r A S) result AR' AM' SR SM W')
          → Made (round_of l r A S) result AR' AM' SR SM W'
      unfolding after_first
      later result each = go first ends made made_back
        where
          go : (h : Half) → round_of l r A S ≡ after_first l r A S h → Extended kinds existential S h s_found s_marks_found step SR SM W
              → Extended kinds universal A (second (half_table S h)) a_base a_marks_base back AR' AM' W' → Made (round_of l r A S) result AR' AM' SR SM W'
          go no_model is m b = let e = m.ended in cc
          go no_room is m b = let e = m.ended in cc
          go (grows S') is m b = each S' (second S') is (let e = m.ended in cc) m.holds b

      pub universal_stopped : ((j : ℕ) → back ≡ GrownTo j → ⊥) → (result : End) → result ≡ said (universal_stop back) r u k
          → Made (round_of l r A S) result AR' AM' SR SM W'
      unfolding after_second
      universal_stopped stops result told = later result go
        where
          by_end : (s : Step) → back ≡ s → result ≡ said (universal_stop s) r u k
          by_end s e = told ∙ ap (λ (q : Step). said (universal_stop q) r u k) e

          go : (S' : Table) (h : Half) → round_of l r A S ≡ after_second r A S' h → k ≡ length S' →
              Holds kinds existential S' s_found s_marks_found SR SM
              → Extended kinds universal A h a_base a_marks_base back AR' AM' W' → Made (round_of l r A S) result AR' AM' SR SM W'
          go S' no_model is n hS b =
              shown (round_of l r A S) is_true A S' u k AR' AM' SR SM W' result is (by_end WithoutModel b.ended) counted_a n b.holds hS b.work_long
          go S' no_room is n hS b =
              shown (round_of l r A S) no_room_universal A S' u k AR' AM' SR SM W' result is (by_end WithoutRoom b.ended) counted_a n b.holds hS
              b.work_long
          go S' (grows t) is n hS b = absurd (stops (length t) b.ended)

      pub round_finished : (j : ℕ) → back ≡ GrownTo j → Made (round_of l r A S) (said Spent r j k) AR' AM' SR SM W'
      unfolding after_second
      round_finished j goes_back = later (said Spent r j k) go
        where
          go : (S' : Table) (h : Half) → round_of l r A S ≡ after_second r A S' h → k ≡ length S' →
              Holds kinds existential S' s_found s_marks_found SR SM
              → Extended kinds universal A h a_base a_marks_base back AR' AM' W' → Made (round_of l r A S) (said Spent r j k) AR' AM' SR SM W'
          go S' no_model is n hS b = let e = b.ended in cc
          go S' no_room is n hS b = let e = b.ended in cc
          go S' (grows A') is n hS b =
              shown (round_of l r A S) spent A' S' j k AR' AM' SR SM W' (said Spent r j k) is refl (let e = b.ended in cc)
              n b.holds hS b.work_long
