-- Laws of the run over its limit: where it goes on, where it stays, and what holds at every limit. Assumes nothing.
use Prim.Native.Nat.{ℕ, zero, suc, ◌≤◌, ◌<◌}
use native.Mathlib.Omega.{arith}
use native.Mathlib.Decide.{le_ind}
use mathlib.Core.Path.{◌≡◌, refl, sym, ap, subst, ◌∙◌}
use mathlib.Core.Logic.{◌⊎◌, inl, inr, ⊎_elim}
use mathlib.Core.Bool.{false}
use mathlib.Core.Option.{none-ne-some}
use lib.ListN.{length}
use Rattle.formula.specs.Formula.{Kind, existential, universal}
use Rattle.expansion.specs.Side.{flags, goal}
use Rattle.expansion.specs.Private.Memory.{LeadsModels}
use Rattle.expansion.proofs.Memory.{more_led}
use Rattle.rounds.specs.Run.{Entry, clears, Table, rows, start, Answer, is_false, is_true, spent, no_room_universal, no_room_existential, Outcome, Lent}
use Rattle.rounds.specs.Run.{round_of, next, run}
use Rattle.rounds.specs.Claim.{table, Stands, Finished, Uncleared}
use Rattle.rounds.specs.Opening.{last_row}
use Rattle.rounds.proofs.TableLaws.{Extends, extends_itself, extends_further, extends_rows}
use Rattle.rounds.proofs.RoundLaws.{Keeps, Reached, Made, Over, over_not_spent, round_made, start_reached}

-- Where the run is spent, one round more is made; else it stays as it is.
pub run_goes_on : (l : Lent) (r : ℕ) → (run l r).answer ≡ spent → run l (suc r) ≡ round_of l (suc r) (run l r).A (run l r).S
unfolding run
run_goes_on l r e = ap (λ (a : Answer). next l (suc r) a (run l r)) e

next_over : (l : Lent) (r : ℕ) (a : Answer) (o : Outcome) → Over a → next l r a o ≡ o
next_over l r is_false o over = refl
next_over l r is_true o over = refl
next_over l r spent o over = absurd over
next_over l r no_room_universal o over = refl
next_over l r no_room_existential o over = refl

run_over : (l : Lent) (r : ℕ) → Over (run l r).answer → run l (suc r) ≡ run l r
unfolding run
run_over l r over = next_over l (suc r) (run l r).answer (run l r) over

pub spent_or_over : (a : Answer) → (a ≡ spent) ⊎ Over a
spent_or_over is_false = inr tt
spent_or_over is_true = inr tt
spent_or_over spent = inl refl
spent_or_over no_room_universal = inr tt
spent_or_over no_room_existential = inr tt

-- What holds at a limit holds at the next.
later : (l : Lent) (r : ℕ) (o : Outcome) → Over o.answer → Reached l r o → Reached l (suc r) o
later l r o over before =
    record {
      held = before.held;
      to_limit = omega arith;
      round_a = before.round_a;
      round_s = before.round_s;
      right = before.right;
      opened = before.opened;
      at_limit = λ e. absurd (over_not_spent o.answer over e);
      ongoing = λ e. absurd (over_not_spent o.answer over e);
    }

pub run_reached : (l : Lent) (r : ℕ) → Reached l r (run l r)
unfolding run
run_reached l zero = start_reached l
run_reached l (suc r) =
    ⊎_elim
    (λ e.
    subst (Reached l (suc r)) (sym (run_goes_on l r e)) (round_made l r (run l r) (run_reached l r) ((run_reached l r).ongoing e)).reached)
    (λ over. subst (Reached l (suc r)) (sym (run_over l r over)) (later l r (run l r) over (run_reached l r)))
    (spent_or_over (run l r).answer)

pub run_made : (l : Lent) (r : ℕ) → (run l r).answer ≡ spent → Made l (suc r) (run l r) (run l (suc r))
run_made l r e =
    subst (Made l (suc r) (run l r)) (sym (run_goes_on l r e)) (round_made l r (run l r) (run_reached l r) ((run_reached l r).ongoing e))

-- Where the run goes on, a side's last row leads its models over the other's rows: the existential one's if the last round has not cleared the
-- universal table, the universal one's over whatever the existential table grows to.
pub existential_led : (l : Lent) (r : ℕ) → (run l r).answer ≡ spent → clears l.clear_every r ≡ false → 0 < length (run l r).S
    → LeadsModels l.prefer (flags existential l.ks) (goal existential l.phi) (rows (run l r).A) (last_row (rows (run l r).S))
existential_led l r e = ((run_reached l r).ongoing e).led_s

pub universal_led : (l : Lent) (r : ℕ) → (run l r).answer ≡ spent → (S : Table) → Extends (run l r).S S
    → LeadsModels l.prefer (flags universal l.ks) (goal universal l.phi) (rows S) (last_row (rows (run l r).A))
universal_led l r e S p =
    more_led l.prefer (flags universal l.ks) (goal universal l.phi) (rows (run l r).S) (rows S) (last_row (rows (run l r).A))
    (extends_rows (run l r).S S p) ((run_reached l r).ongoing e).led_a

-- Tables only grow, and at their end, but where a finished round clears.
run_grows : (l : Lent) (r : ℕ) (side : Kind) → ((run l (suc r)).answer ≡ spent → Keeps side l (suc r))
    → Extends (table side (run l r)) (table side (run l (suc r)))
run_grows l r side keeps =
    ⊎_elim
    (λ e. (run_made l r e).extends side keeps)
    (λ over. subst (λ (o : Outcome). Extends (table side (run l r)) (table side o)) (sym (run_over l r over)) (extends_itself _))
    (spent_or_over (run l r).answer)

pub finished_if_spent : (l : Lent) (limit r : ℕ) → 1 ≤ r → r ≤ limit → (run l r).answer ≡ spent → Finished l limit r
finished_if_spent l limit r from_one to_limit e =
    record { from_one = from_one; to_limit = to_limit; reached = (run_reached l r).at_limit e; passed = e }

uncleared_before : (side : Kind) (l : Lent) (r m : ℕ) → Uncleared side l r (suc m) → Uncleared side l r m
uncleared_before existential l r m u = tt
uncleared_before universal l r m u = λ p above f. u p above (finished_if_spent l (suc m) p f.from_one (omega (arith, f.to_limit)) f.passed)

uncleared_keeps : (side : Kind) (l : Lent) (r m : ℕ) → r ≤ m → Uncleared side l r (suc m) → (run l (suc m)).answer ≡ spent → Keeps side l (suc m)
uncleared_keeps existential l r m h u e = tt
uncleared_keeps universal l r m h u e = u (suc m) (omega arith) (finished_if_spent l (suc m) (suc m) (omega arith) (omega arith) e)

pub run_extends : (l : Lent) (r limit : ℕ) → r ≤ limit → (side : Kind) → Uncleared side l r limit
    → Extends (table side (run l r)) (table side (run l limit))
run_extends l r limit h side =
    le_ind
    (λ (m : ℕ). Uncleared side l r m → Extends (table side (run l r)) (table side (run l m)))
    (λ _. extends_itself (table side (run l r)))
    (λ m below p u.
    extends_further (table side (run l r)) (table side (run l m)) (table side (run l (suc m)))
    (p (uncleared_before side l r m u)) (run_grows l m side (uncleared_keeps side l r m below u)))
    limit
    h

-- A run that is over stays as it is with every larger limit; so a run that is spent was spent with every smaller one.
pub run_stays : (l : Lent) (r limit : ℕ) → r ≤ limit → Over (run l r).answer → run l limit ≡ run l r
run_stays l r limit h over =
    le_ind
    (λ (m : ℕ). run l m ≡ run l r)
    refl
    (λ m _ e. run_over l m (subst (λ (o : Outcome). Over o.answer) (sym e) over) ∙ e)
    limit
    h

pub spent_before : (l : Lent) (r limit : ℕ) → r ≤ limit → (run l limit).answer ≡ spent → (run l r).answer ≡ spent
spent_before l r limit h e =
    ⊎_elim
    (λ s. s)
    (λ over. absurd (over_not_spent (run l r).answer over (ap (λ (o : Outcome). o.answer) (sym (run_stays l r limit h over)) ∙ e)))
    (spent_or_over (run l r).answer)

-- No mark is past the limit.
start_mark : (l : Lent) (side : Kind) (i : ℕ) (x : Entry) → Stands (table side (start l)) i x → x.mark ≤ 0
start_mark l universal zero x s = let e : x.mark ≡ 0 = cc in omega arith
start_mark l universal (suc i) x s = absurd (none-ne-some x s)
start_mark l existential i x s = absurd (none-ne-some x s)

pub run_marks : (l : Lent) (r : ℕ) (side : Kind) (i : ℕ) (x : Entry) → Stands (table side (run l r)) i x → x.mark ≤ r
unfolding run
run_marks l zero side i x s = start_mark l side i x s
run_marks l (suc r) side i x s =
    ⊎_elim
    (λ e.
    ⊎_elim
    (λ old. let before = run_marks l r side i x old in omega arith)
    (λ new. let marked = ap (λ (y : Entry). y.mark) new in omega arith)
    ((run_made l r e).marks side i x s))
    (λ over.
    let before = run_marks l r side i x (subst (λ (o : Outcome). Stands (table side o) i x) (run_over l r over) s) in
    omega arith)
    (spent_or_over (run l r).answer)

-- The last round of a run, p + 1: p rounds are finished, and the outcome is that of this round.
pub record Last (l : Lent) (limit : ℕ) : Type 0 where
  pub p : ℕ
  pub below : p < limit
  pub finished : (run l p).answer ≡ spent
  pub same : run l limit ≡ run l (suc p)

pub last_round : (l : Lent) (limit : ℕ) → 1 ≤ limit → Last l limit
unfolding run
last_round l zero h = absurd (omega arith)
last_round l (suc zero) h = record { p = zero; below = omega arith; finished = refl; same = refl }
last_round l (suc (suc r)) h =
    ⊎_elim
    (λ e. record { p = suc r; below = omega arith; finished = e; same = refl })
    (λ over.
    let before = last_round l (suc r) (omega arith) in
    record { p = before.p; below = omega (arith, before.below); finished = before.finished; same = run_over l (suc r) over ∙ before.same })
    (spent_or_over (run l (suc r)).answer)
