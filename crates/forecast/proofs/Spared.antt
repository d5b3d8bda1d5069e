-- Where the free existential rows number at least the count of A, no round ends without room for existential rows: step 2 yields as many rows as A has.
-- Assumes nothing.
use Prim.Native.Nat.{ℕ, ◌+◌, ◌≤◌}
use native.Mathlib.Omega.{arith}
use mathlib.Core.Path.{◌≡◌, refl, sym, ap, ◌∙◌}
use mathlib.Core.Bool.{Bool, true, false, true≢false}
use mathlib.Core.List.{List, map}
use mathlib.Core.Logic.{◌≢◌}
use mathlib.Core.Option.{Option, none, some}
use lib.ListN.{length, length-map, length-append}
use borrow.Author.Tests.{leb-true}
use Rattle.formula.specs.Formula.{existential, universal}
use Rattle.rows.specs.Table.{room}
use Rattle.rows.proofs.TableLaws.{length_rows_of}
use Rattle.expansion.specs.Play.{Row}
use Rattle.expansion.specs.Copies.{fresh}
use Rattle.expansion.specs.Model.{search}
use Rattle.expansion.proofs.Progress.{search_answers}
use Rattle.expansion.proofs.FreshLaws.{length_fresh}
use Rattle.rounds.specs.Run.{Entry, Table, rows, under_mark, grown, if_fits, Answer, is_false, is_true, spent, no_room_universal, no_room_existential, number}
use Rattle.rounds.specs.Run.{Lent, step_1, step_2, step_3, step_4, round_of}
use Rattle.rounds.proofs.GrowthLaws.{Fitted, fitted}
use Rattle.forecast.specs.Outcome.{Given, width, fits}
use Rattle.forecast.specs.Forecast.{Spared}

length_rows : (t : Table) → length (rows t) ≡ length t
length_rows t = length-map t (λ (x : Entry). x.row)

-- Whether an answer is that of step 2 without room.
abbrev is_full : Answer → Bool
is_full no_room_existential = true
is_full is_false = false
is_full is_true = false
is_full spent = false
is_full no_room_universal = false

module _ (l : Lent) (r : ℕ) (A S : Table) (enough : length S + length A ≤ l.room_s) where
  -- Steps 3 to 5 have other answers.
  answers_4 : (S' : Table) (m : Option Table) → is_full (step_4 r A S' m).answer ≡ false
  answers_4 S' none = refl
  answers_4 S' (some A') = refl

  answers_3 : (S' : Table) (m : Option (List Row)) → is_full (step_3 l r A S' m).answer ≡ false
  answers_3 S' none = refl
  answers_3 S' (some new) = rw answers_4

  answers_2 : (new : List Row) → length new ≡ length A → (m : Option Table) → Fitted l.room_s (grown r S new) m →
      (step_2 l r A S m).answer ≢ no_room_existential
  answers_2 new n none full e =
      let few = length_fresh (rows S) new in
      omega (arith, length-append S (map (under_mark r) (fresh (rows S) new)), length-map (fresh (rows S) new) (under_mark r))
  answers_2 new n (some S') fit e = true≢false (sym (ap is_full e) ∙ answers_3 S' (search l.prefer universal l.ks l.phi (rows S')))

  answers_1 : (m : Option (List Row)) → search l.prefer existential l.ks l.phi (rows A) ≡ m → (step_1 l r A S m).answer ≢ no_room_existential
  answers_1 none f e = omega (arith, ap number e)
  answers_1 (some new) f e =
      let model = search_answers l.prefer existential l.ks l.phi (rows A) new f in
      let n : length new ≡ length A = ap length model.2 ∙ length-map (rows A) _ ∙ length_rows A in
      answers_2 new n (if_fits l.room_s (grown r S new)) (fitted l.room_s (grown r S new)) e

  room_in_step_2 : (round_of l r A S).answer ≢ no_room_existential
  unfolding round_of
  room_in_step_2 = answers_1 (search l.prefer existential l.ks l.phi (rows A)) refl

pub spared : (g : Given) → g.existentials ≤ room g.existential_rows → Spared g
unfolding fits
spared g counted fit l over r A S holds =
    let free = leb-true g.universals _ fit in
    room_in_step_2 l r A S
    (omega (
      arith,
      over.of_room,
      sym (length_rows A) ∙ ap length holds.of_a ∙ length_rows_of (width universal g.kinds) g.universals
          g.universal_rows,
      sym (length_rows S) ∙ ap length holds.of_s ∙ length_rows_of (width existential g.kinds) g.existentials
          g.existential_rows,
    ))
