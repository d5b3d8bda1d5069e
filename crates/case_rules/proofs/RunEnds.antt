-- Any run of rounds answers where no unknown is left, with one row a side and one round: in its first round, before the universal table could be
-- cleared. Assumes nothing.
use Prim.Native.Nat.{ℕ, zero, suc, ◌≤◌}
use native.Mathlib.Omega.{arith}
use mathlib.Core.Path.{◌≡◌, refl, sym, subst}
use mathlib.Core.Bool.{Bool, true, false}
use mathlib.Core.List.{List, []}
use mathlib.Core.Option.{Option, none, some, none-ne-some}
use Rattle.formula.specs.Formula.{existential, universal}
use Rattle.formula.specs.Meaning.{meaning}
use Rattle.expansion.specs.Play.{Row}
use Rattle.expansion.specs.Model.{search}
use Rattle.rounds.specs.Run.{Table, rows, Answer, is_false, is_true, spent, no_room_universal, no_room_existential, Outcome, if_fits, grown, kept}
use Rattle.rounds.specs.Run.{Lent, start, step_1, step_2, step_3, step_4, round_of, next, run}
use Rattle.rounds.specs.Claim.{answer_of}
use Rattle.rounds.proofs.Claim.{claim}
use Rattle.case_rules.specs.RunStudy.{answer_as, lent_at, RunEnds}

-- An answer that is true or false.
abbrev Settles : Answer → Type 0
Settles is_false = Unit {0}
Settles is_true = Unit {0}
Settles spent = ⊥
Settles no_room_universal = ⊥
Settles no_room_existential = ⊥

settles_verdict : (v : Bool) → Settles (answer_of v)
settles_verdict true = tt
settles_verdict false = tt

settles_told : (a : Answer) → Settles a → answer_as a ≡ none → ⊥
settles_told is_false s e = none-ne-some false (sym e)
settles_told is_true s e = none-ne-some true (sym e)
settles_told spent s e = s
settles_told no_room_universal s e = s
settles_told no_room_existential s e = s

module _ (phi : List Bool → Bool) (prefer : ℕ → Bool) (room_a room_s clear_every : ℕ) where
  -- Without unknowns, with the universal table cleared and without.
  abbrev lent : ℕ → Lent
  lent k = record { ks = []; phi = phi; prefer = prefer; room_a = room_a; room_s = room_s; clear_every = k }

  -- Step 4, where the two differ, settles nothing.
  fourth : (r : ℕ) (A S : Table) (larger : Option Table) → Settles (step_4 r A S larger).answer → ⊥
  fourth r A S none s = s
  fourth r A S (some more) s = s

  third : (r : ℕ) (A S : Table) (found : Option (List Row)) → Settles (step_3 (lent 0) r A S found).answer
      → Settles (step_3 (lent clear_every) r A S found).answer
  third r A S none s = tt
  third r A S (some yielded) s = absurd (fourth r A S (if_fits room_a (grown r (kept (lent 0) r A) yielded)) s)

  second : (r : ℕ) (A S : Table) (larger : Option Table) → Settles (step_2 (lent 0) r A S larger).answer
      → Settles (step_2 (lent clear_every) r A S larger).answer
  second r A S none s = s
  second r A S (some more) s = third r A more (search prefer universal [] phi (rows more)) s

  first : (r : ℕ) (A S : Table) (found : Option (List Row)) → Settles (step_1 (lent 0) r A S found).answer
      → Settles (step_1 (lent clear_every) r A S found).answer
  first r A S none s = tt
  first r A S (some yielded) s = second r A S (if_fits room_s (grown r S yielded)) s

  module _ (some_a : 1 ≤ room_a) (some_s : 1 ≤ room_s) where
    settled_uncleared : Settles (run (lent 0) 1).answer
    settled_uncleared =
        subst Settles (sym ((claim (lent 0) 1 (omega arith)).decided (omega arith) (omega arith) (omega arith))) (settles_verdict (meaning [] phi))

    settled_first : Settles (run (lent clear_every) 1).answer
    unfolding run round_of
    settled_first =
        let A = (start (lent 0)).A in
        first 1 A [] (search prefer existential [] phi (rows A)) settled_uncleared

    stays : (r : ℕ) (o : Outcome) (a : Answer) → o.answer ≡ a → Settles a → Settles (next (lent clear_every) r a o).answer
    stays r o is_false e s = subst Settles (sym e) tt
    stays r o is_true e s = subst Settles (sym e) tt
    stays r o spent e s = absurd s
    stays r o no_room_universal e s = absurd s
    stays r o no_room_existential e s = absurd s

    pub settled : (limit : ℕ) → 1 ≤ limit → Settles (run (lent clear_every) limit).answer
    unfolding run
    settled zero h = absurd (omega arith)
    settled (suc zero) h = settled_first
    settled (suc (suc r)) h =
        let before = run (lent clear_every) (suc r) in
        stays (suc (suc r)) before before.answer refl (settled (suc r) (omega arith))

module _ (prefer : List Bool → ℕ → Bool) (room_a room_s clear_every limit : List Bool → ℕ) where
  pub run_ends : RunEnds prefer room_a room_s clear_every limit
  run_ends lends path literals accepted e =
      let l = lent_at prefer room_a room_s clear_every limit path [] literals in
      let h = lends path in
      settles_told (run l (limit path)).answer
      (settled l.phi l.prefer l.room_a l.room_s l.clear_every h.0 h.1.0 (limit path) h.1.1) e
