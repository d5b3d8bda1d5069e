-- The rows that settle a run: true comes where no universal model over the existential rows exists, false where no existential one over the universal
-- rows does. So the judge's definition accepts them. Assumes nothing.
use Prim.Native.Nat.{ℕ, zero, suc, ◌≤◌}
use native.Mathlib.Omega.{arith}
use mathlib.Core.Path.{◌≡◌, refl, sym, ap, subst, ◌∙◌}
use mathlib.Core.Bool.{Bool, true, false, true≢false}
use mathlib.Core.List.{List, [], ◌∷◌}
use mathlib.Core.Option.{Option, none, some}
use lib.ListN.{length}
use Rattle.formula.specs.Formula.{Kind, existential, universal}
use Rattle.expansion.specs.Play.{Row}
use Rattle.expansion.specs.Model.{search}
use Rattle.expansion.specs.Judge.{is_none, accepted}
use Rattle.expansion.proofs.Right.{judge_right}
use Rattle.judge.proofs.Preferences.{is_none_any_preferences}
use Rattle.rounds.specs.Run.{Table, rows, Answer, is_false, is_true, spent, no_room_universal, no_room_existential, Outcome, if_fits, grown, kept, Lent, step_1, step_2, step_3, step_4, round_of, next, run}

-- What an answer says of the rows.
abbrev By : Answer → Lent → Outcome → Type 0
By is_true l o = search l.prefer universal l.ks l.phi (rows o.S) ≡ none
By is_false l o = search l.prefer existential l.ks l.phi (rows o.A) ≡ none
By spent l o = Unit {0}
By no_room_universal l o = Unit {0}
By no_room_existential l o = Unit {0}

abbrev Settled : Lent → Outcome → Type 0
Settled l o = By o.answer l o

module _ (l : Lent) (r : ℕ) where
  fourth : (A S : Table) (larger : Option Table) → Settled l (step_4 r A S larger)
  fourth A S none = tt
  fourth A S (some more) = tt

  third : (A S : Table) (found : Option (List Row)) → search l.prefer universal l.ks l.phi (rows S) ≡ found → Settled l (step_3 l r A S found)
  third A S none e = e
  third A S (some yielded) e = fourth A S (if_fits l.room_a (grown r (kept l r A) yielded))

  second : (A S : Table) (larger : Option Table) → Settled l (step_2 l r A S larger)
  second A S none = tt
  second A S (some more) = third A more (search l.prefer universal l.ks l.phi (rows more)) refl

  first : (A S : Table) (found : Option (List Row)) → search l.prefer existential l.ks l.phi (rows A) ≡ found → Settled l (step_1 l r A S found)
  first A S none e = e
  first A S (some yielded) e = second A S (if_fits l.room_s (grown r S yielded))

  round_settled : (A S : Table) → Settled l (round_of l r A S)
  unfolding round_of
  round_settled A S = first A S (search l.prefer existential l.ks l.phi (rows A)) refl

  next_settled : (o : Outcome) (a : Answer) → Settled l o → Settled l (next l r a o)
  next_settled o spent s = round_settled o.A o.S
  next_settled o is_false s = s
  next_settled o is_true s = s
  next_settled o no_room_universal s = s
  next_settled o no_room_existential s = s

run_settled : (l : Lent) (limit : ℕ) → Settled l (run l limit)
unfolding run
run_settled l zero = tt
run_settled l (suc r) = next_settled l (suc r) (run l r) (run l r).answer (run_settled l r)

-- The rows of the side that settled it.
abbrev pub side_rows : Bool → Outcome → List Row
side_rows true o = rows o.S
side_rows false o = rows o.A

abbrev pub settles : Bool → Answer
settles true = is_true
settles false = is_false

pub rows_accepted : (l : Lent) (limit : ℕ) (claim : Bool) → (run l limit).answer ≡ settles claim
    → accepted claim l.ks l.phi (side_rows claim (run l limit)) ≡ true
unfolding accepted
rows_accepted l limit true e =
    is_none_any_preferences (λ i. false) l.prefer universal l.ks l.phi (rows (run l limit).S)
    ∙ ap is_none (subst (λ (a : Answer). By a l (run l limit)) e (run_settled l limit))
rows_accepted l limit false e =
    is_none_any_preferences (λ i. false) l.prefer existential l.ks l.phi (rows (run l limit).A)
    ∙ ap is_none (subst (λ (a : Answer). By a l (run l limit)) e (run_settled l limit))

-- Rows that are accepted are at least one.
pub some_row : (claim : Bool) (ks : List Kind) (phi : List Bool → Bool) (xs : List Row) → accepted claim ks phi xs ≡ true → 1 ≤ length xs
some_row claim ks phi [] e = absurd (true≢false (sym e ∙ (judge_right claim ks phi []).zero_rows))
some_row claim ks phi (x ∷ xs) e = omega arith
