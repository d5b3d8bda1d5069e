-- What holds before and after a round. Assumes nothing.
use Prim.Native.Nat.{ℕ, zero, suc, ◌^◌, ◌≤◌, ◌<◌}
use native.Mathlib.Omega.{arith}
use mathlib.Core.Path.{◌≡◌, refl, sym, ap, subst, ◌∙◌}
use mathlib.Core.Bool.{Bool, true, false, not, cond, not-not}
use mathlib.Core.List.{List, [], ◌∷◌}
use mathlib.Core.Logic.{◌≢◌, ◌⊎◌, inl, inr, ⊎_elim}
use mathlib.Core.Option.{Option, none, some, none-ne-some}
use lib.ListN.{length, drop}
use Rattle.formula.specs.Formula.{Kind, existential, universal}
use Rattle.formula.specs.Causes.{count}
use Rattle.formula.specs.Meaning.{meaning}
use Rattle.rows.proofs.ValueLaws.{length_values, get_or_values}
use Rattle.expansion.specs.Side.{flags, goal}
use Rattle.expansion.specs.Play.{Row, Strategy, play}
use Rattle.expansion.specs.Model.{search}
use Rattle.expansion.specs.Private.Memory.{LeadsModels}
use Rattle.expansion.proofs.Booleans.{never_both}
use Rattle.expansion.proofs.Membership.{In}
use Rattle.expansion.proofs.Verdict.{none_is_verdict}
use Rattle.expansion.proofs.Progress.{Answers}
use Rattle.expansion.proofs.Counting.{Sized}
use Rattle.expansion.proofs.Memory.{counted_in_block, more_led}
use Rattle.rounds.specs.Run.{Entry, clears, kept, Table, rows, under_mark, Answer, is_false, is_true, spent, no_room_universal, no_room_existential}
use Rattle.rounds.specs.Run.{number, Outcome, outcome, grown, if_fits, Lent, start, step_1, step_2, step_3, step_4, round_of}
use Rattle.rounds.specs.Claim.{table, no_room, Stands, NewRow}
use Rattle.rounds.specs.Opening.{block, last_row, first_values, opening, set_to, Opens}
use Rattle.rounds.proofs.Blocks.{begins, begins_take, block_before, length_first_values, set_not_reached}
use Rattle.rounds.proofs.TableLaws.{Extends, extends_itself, extends_rows}
use Rattle.rounds.proofs.GrowthLaws.{Held, Fitted, fitted, Growth, growth, room_below_all_rows}

-- What an answer says: the verdict, or that there are more rows than the table has room for.
abbrev pub Right : Lent → Answer → Type 0
Right l is_false = meaning l.ks l.phi ≡ false
Right l is_true = meaning l.ks l.phi ≡ true
Right l spent = Unit {0}
Right l no_room_universal = l.room_a < 2 ^ count universal l.ks
Right l no_room_existential = l.room_s < 2 ^ count existential l.ks

-- The answers that end a run before its limit.
abbrev pub Over : Answer → Type 0
Over is_false = Unit {0}
Over is_true = Unit {0}
Over spent = ⊥
Over no_room_universal = Unit {0}
Over no_room_existential = Unit {0}

pub over_not_spent : (a : Answer) → Over a → a ≢ spent
over_not_spent a over e = subst Over e over

-- A finished round leaves what stood in a side's table: the existential one always, the universal one if the round does not clear.
abbrev pub Keeps : Kind → Lent → ℕ → Type 0
Keeps existential l r = Unit {0}
Keeps universal l r = clears l.clear_every r ≡ false

-- After r finished rounds S has grown r times, and so has A if it is never cleared; a universal strategy that wins over S has all that it yields in
-- A. At the start S is empty, and any strategy does. An existential strategy wins over the rows of A that begin otherwise than the last one.
-- A side's last row leads its models over the other's table, that of S if the last round has not cleared A.
pub record Ongoing (l : Lent) (r : ℕ) (o : Outcome) : Type 0 where
  pub some_a : 1 ≤ length o.A
  pub count_a : l.clear_every ≡ 0 → suc r ≤ length o.A
  pub count_s : r ≤ length o.S
  pub ρ : Strategy
  pub answers : Answers universal l.ks l.phi ρ (λ s. In s (rows o.S)) (λ u. In u (rows o.A))
  pub σ : Strategy
  pub apart : (x : Row) → In x (rows o.A) → begins (first_values universal l.ks (rows o.A)) x ≡ false
      → goal existential l.phi (play (flags existential l.ks) σ x) ≡ true
  pub led_s : clears l.clear_every r ≡ false → 0 < length o.S
      → LeadsModels l.prefer (flags existential l.ks) (goal existential l.phi) (rows o.A) (last_row (rows o.S))
  pub led_a : LeadsModels l.prefer (flags universal l.ks) (goal universal l.phi) (rows o.S) (last_row (rows o.A))

-- What holds of the outcome of a run with the limit.
pub record Reached (l : Lent) (limit : ℕ) (o : Outcome) : Type 0 where
  pub held : (side : Kind) → Held l side (table side o)
  pub to_limit : o.round ≤ limit
  pub round_a : l.clear_every ≡ 0 → o.round ≤ length o.A
  pub round_s : o.round ≤ suc (length o.S)
  pub right : Right l o.answer
  pub opened : Opens l o
  pub at_limit : o.answer ≡ spent → o.round ≡ limit
  pub ongoing : o.answer ≡ spent → Ongoing l limit o

-- What holds of the outcome of round r over the tables of b.
pub record Made (l : Lent) (r : ℕ) (b o : Outcome) : Type 0 where
  pub reached : Reached l r o
  pub in_round : o.round ≡ r
  pub extends : (side : Kind) → (o.answer ≡ spent → Keeps side l r) → Extends (table side b) (table side o)
  pub new_row : o.answer ≡ spent → (side : Kind) (end : Table) → Extends (table side o) end → NewRow r (table side b) (table side o) end
  pub none_added : (side : Kind) → o.answer ≡ no_room side → table side o ≡ table side b
  pub marks : (side : Kind) (i : ℕ) (x : Entry) → Stands (table side o) i x → Stands (table side b) i x ⊎ (x ≡ under_mark r x.row)
  pub all_marked : o.answer ≡ spent → clears l.clear_every r ≡ true → (i : ℕ) (x : Entry) → Stands o.A i x → x.mark ≡ r
  pub latest : o.answer ≢ is_false → o.answer ≢ no_room_existential → NewRow r b.S o.S o.S

-- What holds of A and of S holds of each table.
each : (P : Kind → Type 0) → P universal → P existential → (side : Kind) → P side
each P u e universal = u
each P u e existential = e

pub start_reached : (l : Lent) → Reached l zero (start l)
unfolding opening
start_reached l =
    record {
      held =
          each (λ side. Held l side (table side (start l)))
          (record { distinct = (λ h. h, tt); sized = only; fits = λ h. h })
          (record { distinct = tt; sized = λ x h. absurd h; fits = λ h. omega arith });
      to_limit = omega arith;
      round_a = λ _. omega arith;
      round_s = omega arith;
      right = tt;
      opened = record { whole = refl; same_verdict = refl };
      at_limit = λ _. refl;
      ongoing =
          λ _.
          record {
            some_a = omega arith;
            count_a = λ _. omega arith;
            count_s = omega arith;
            ρ = λ k r. true;
            answers = record { wins = λ x h. absurd h; within = λ x h. absurd h };
            σ = λ k r. true;
            apart = alone;
            led_s = λ _ some_s. absurd (omega arith);
            led_a = λ σ w k own _. inr (get_or_values (count universal l.ks) l.prefer k (counted_in_block universal l.ks k own));
          };
    }
  where
    alone : (x : Row) → In x (rows (start l).A) → begins (first_values universal l.ks (rows (start l).A)) x ≡ false
        → goal existential l.phi (play (flags existential l.ks) (λ k r. true) x) ≡ true
    alone x (inl e) otherwise =
        absurd
        (never_both
        (subst (λ (r : Row). begins (first_values universal l.ks (rows (start l).A)) r ≡ true) (sym e)
        (begins_take (block universal l.ks) (last_row (rows (start l).A))))
        otherwise)
    alone x (inr h) otherwise = absurd h

    only : Sized (count universal l.ks) (rows (start l).A)
    only x (inl e) = rw e (length_values (count universal l.ks) _)
    only x (inr h) = absurd h

some_row : (n : ℕ) (t : Table) → suc n ≤ length t → (x : Row) × In x (rows t)
some_row n [] h = absurd (omega arith)
some_row n (x ∷ t) h = (x.row, inl refl)

-- What step 4 keeps of A: all, or nothing.
pub never_clears : (l : Lent) (r : ℕ) → l.clear_every ≡ 0 → clears l.clear_every r ≡ false
unfolding clears
never_clears l r never = ap (λ (k : ℕ). clears k r) never

pub kept_all : (l : Lent) (r : ℕ) (A : Table) → clears l.clear_every r ≡ false → kept l r A ≡ A
kept_all l r A e = rw e refl

pub kept_none : (l : Lent) (r : ℕ) (A : Table) → clears l.clear_every r ≡ true → kept l r A ≡ []
kept_none l r A e = rw e refl

kept_part : (l : Lent) (r : ℕ) (A : Table) (x : Row) → In x (rows (kept l r A)) → In x (rows A)
kept_part l r A x = go (clears l.clear_every r)
  where
    go : (c : Bool) → In x (rows (cond c [] A)) → In x (rows A)
    go true h = absurd h
    go false h = h

kept_stands : (l : Lent) (r : ℕ) (A : Table) (i : ℕ) (x : Entry) → Stands (kept l r A) i x → Stands A i x
kept_stands l r A i x = go (clears l.clear_every r)
  where
    go : (c : Bool) → Stands (cond c [] A) i x → Stands A i x
    go true s = absurd (none-ne-some x s)
    go false s = s

kept_held : (l : Lent) (r : ℕ) (A : Table) → Held l universal A → Held l universal (kept l r A)
kept_held l r A held = go (clears l.clear_every r)
  where
    go : (c : Bool) → Held l universal (cond c [] A)
    go true = record { distinct = tt; sized = λ x h. absurd h; fits = λ h. omega arith }
    go false = held

-- Round r + 1 over the tables of b, which r rounds have made.
module _ (l : Lent) (r : ℕ) (b : Outcome) (before : Reached l r b) (ongoing : Ongoing l r b) where
  -- A round that ends the run, with S or what step 2 has made of it.
  over : (a : Answer) (S : Table) → Over a → Right l a → Opens l (outcome a (suc r) b.A S) → Held l existential S → Extends b.S S → r ≤ length S
      → (a ≡ no_room_existential → S ≡ b.S) → ((i : ℕ) (x : Entry) → Stands S i x → Stands b.S i x ⊎ (x ≡ under_mark (suc r) x.row))
      → (a ≢ is_false → a ≢ no_room_existential → NewRow (suc r) b.S S S) → Made l (suc r) b (outcome a (suc r) b.A S)
  over a S ends right opened held extends count_s unchanged marks latest =
      let o = outcome a (suc r) b.A S in
      record {
        reached =
            record {
              held = each (λ side. Held l side (table side o)) (before.held universal) held;
              to_limit = omega arith;
              round_a = ongoing.count_a;
              round_s = omega arith;
              right = right;
              opened = opened;
              at_limit = λ e. absurd (over_not_spent a ends e);
              ongoing = λ e. absurd (over_not_spent a ends e);
            };
        in_round = refl;
        extends =
            each (λ side. (a ≡ spent → Keeps side l (suc r)) → Extends (table side b) (table side o)) (λ _. extends_itself b.A) (λ _. extends);
        new_row = λ e. absurd (over_not_spent a ends e);
        none_added = each (λ side. a ≡ no_room side → table side o ≡ table side b) (λ _. refl) unchanged;
        marks = each (λ side. (i : ℕ) (x : Entry) → Stands (table side o) i x → Stands (table side b) i x ⊎ (x ≡ under_mark (suc r) x.row)) (λ i x s. inl s)
            marks;
        all_marked = λ e. absurd (over_not_spent a ends e);
        latest = latest;
      }

  finished : (A S : Table) → Growth l existential (suc r) (rows b.A) b.S b.S S → Growth l universal (suc r) (rows S) b.A (kept l (suc r) b.A) A
      → Made l (suc r) b (outcome spent (suc r) A S)
  unfolding opening
  finished A S grown_s grown_a =
      let o = outcome spent (suc r) A S in
      let count_a : l.clear_every ≡ 0 → suc (suc r) ≤ length A =
      λ never. omega (arith, ongoing.count_a never, grown_a.more, ap length (kept_all l (suc r) b.A (never_clears l (suc r) never))) in
      let count_s : suc r ≤ length S = omega (arith, ongoing.count_s, grown_s.more) in
      record {
        reached =
            record {
              held = each (λ side. Held l side (table side o)) grown_a.held grown_s.held;
              to_limit = omega arith;
              round_a = λ never. omega (arith, count_a never);
              round_s = omega arith;
              right = tt;
              opened = record { whole = refl; same_verdict = refl };
              at_limit = λ _. refl;
              ongoing =
                  λ _.
                  record {
                    some_a = omega (arith, grown_a.more);
                    count_a = count_a;
                    count_s = count_s;
                    ρ = grown_a.σ;
                    answers = grown_a.answers;
                    σ = grown_s.σ;
                    apart = λ x h otherwise. grown_s.answers.wins x (kept_part l (suc r) b.A x (grown_a.apart x h otherwise));
                    led_s = λ keeps _.
                        more_led l.prefer (flags existential l.ks) (goal existential l.phi) (rows b.A) (rows A) (last_row (rows S))
                        (extends_rows b.A A (subst (λ (q : Table). Extends q A) (kept_all l (suc r) b.A keeps) grown_a.extends)) grown_s.led;
                    led_a = grown_a.led;
                  };
            };
        in_round = refl;
        extends =
            each (λ side. (spent ≡ spent → Keeps side l (suc r)) → Extends (table side b) (table side o))
            (λ keeps. subst (λ (q : Table). Extends q A) (kept_all l (suc r) b.A (keeps refl)) grown_a.extends)
            (λ _. grown_s.extends);
        new_row =
            λ _.
            each (λ side. (end : Table) → Extends (table side o) end → NewRow (suc r) (table side b) (table side o) end)
            grown_a.new_row
            grown_s.new_row;
        none_added =
            each (λ side. spent ≡ no_room side → table side o ≡ table side b)
            (λ e. absurd (omega (arith, ap number e)))
            (λ e. absurd (omega (arith, ap number e)));
        marks =
            each (λ side. (i : ℕ) (x : Entry) → Stands (table side o) i x → Stands (table side b) i x ⊎ (x ≡ under_mark (suc r) x.row))
            (λ i x s. ⊎_elim (λ old. inl (kept_stands l (suc r) b.A i x old)) inr (grown_a.marks i x s))
            grown_s.marks;
        all_marked =
            λ _ clearing i x s.
            ⊎_elim
            (λ old. absurd (none-ne-some x (subst (λ (q : Table). Stands q i x) (kept_none l (suc r) b.A clearing) old)))
            (λ e. ap (λ (y : Entry). y.mark) e)
            (grown_a.marks i x s);
        latest = λ _ _. grown_s.new_row S (extends_itself S);
      }

  -- A round that ends the run after step 2.
  over_later : (a : Answer) (S : Table) → Over a → a ≢ no_room_existential → Right l a → Opens l (outcome a (suc r) b.A S)
      → Growth l existential (suc r) (rows b.A) b.S b.S S → Made l (suc r) b (outcome a (suc r) b.A S)
  over_later a S ends other_answer right opened grown_s =
      over a S ends right opened grown_s.held grown_s.extends (omega (arith, ongoing.count_s, grown_s.more)) (λ e. absurd (other_answer e))
      grown_s.marks (λ _ _. grown_s.new_row S (extends_itself S))

  -- What steps 3 and 4 answer is right.
  right_4 : (S : Table) (new : List Row) → search l.prefer universal l.ks l.phi (rows S) ≡ some new
      → (m : Option Table) → Fitted l.room_a (grown (suc r) (kept l (suc r) b.A) new) m → Right l (step_4 (suc r) b.A S m).answer
  right_4 S new found none full =
      room_below_all_rows l universal (suc r) (rows S) (kept l (suc r) b.A) (kept_held l (suc r) b.A (before.held universal)) new found full
  right_4 S new found (some A) fits = tt

  right_3 : (S : Table) (m : Option (List Row)) → search l.prefer universal l.ks l.phi (rows S) ≡ m → Right l (step_3 l (suc r) b.A S m).answer
  right_3 S none e = sym (not-not (meaning l.ks l.phi)) ∙ ap not (none_is_verdict l.prefer universal l.ks l.phi (rows S) e)
  right_3 S (some new) e =
      right_4 S new e
      (if_fits l.room_a (grown (suc r) (kept l (suc r) b.A) new))
      (fitted l.room_a (grown (suc r) (kept l (suc r) b.A) new))

  -- The steps, each by what it looks at.
  made_4 : (S : Table) (new : List Row) → Growth l existential (suc r) (rows b.A) b.S b.S S →
      search l.prefer universal l.ks l.phi (rows S) ≡ some new
      → (m : Option Table) → Fitted l.room_a (grown (suc r) (kept l (suc r) b.A) new) m → Made l (suc r) b (step_4 (suc r) b.A S m)
  unfolding opening
  made_4 S new grown_s found none full =
      over_later no_room_universal S tt (λ e. omega (arith, ap number e))
      (right_4 S new found none full)
      (record { whole = refl; same_verdict = refl })
      grown_s
  made_4 S new grown_s found (some A) fits =
      let x = some_row (length b.S) S grown_s.more in
      finished A S grown_s
      (subst (λ (u : Table). Growth l universal (suc r) (rows S) b.A (kept l (suc r) b.A) u) fits.0
      (growth l universal (suc r) (rows S) (kept l (suc r) b.A) (kept_held l (suc r) b.A (before.held universal)) new found
      b.A (kept_part l (suc r) b.A) grown_s.σ grown_s.answers x.0 x.1 fits.1))

  -- True: over the rows of S that begin otherwise than the last one, which stood before the round, the universal side had a model.
  opened_true : (S : Table) → Growth l existential (suc r) (rows b.A) b.S b.S S → meaning l.ks l.phi ≡ true
      → search l.prefer universal l.ks l.phi (rows S) ≡ none → Opens l (outcome is_true (suc r) b.A S)
  unfolding opening
  opened_true S grown_s right none_found =
      let vs = first_values existential l.ks (rows S) in
      let x = some_row (length b.S) S grown_s.more in
      let whole : length vs ≡ block existential l.ks = length_first_values existential l.ks (rows S) x.0 x.1 grown_s.held.sized in
      let not_reached =
      set_not_reached l.prefer universal l.ks l.phi (rows S) ongoing.ρ vs (block_before existential l.ks (last_row (rows S)))
      (λ x h otherwise. ongoing.answers.wins x (grown_s.apart x h otherwise)) none_found in
      record {
        whole = whole;
        same_verdict =
            subst (λ (m : ℕ). meaning (drop m l.ks) (set_to vs l.phi) ≡ meaning l.ks l.phi) whole
            (sym (not-not (meaning (drop (length vs) l.ks) (set_to vs l.phi))) ∙ ap not not_reached ∙ sym right);
      }

  -- False: over the rows of A that begin otherwise than the last one the existential side had a model.
  opened_false : meaning l.ks l.phi ≡ false → search l.prefer existential l.ks l.phi (rows b.A) ≡ none
      → Opens l (outcome is_false (suc r) b.A b.S)
  unfolding opening
  opened_false right none_found =
      let vs = first_values universal l.ks (rows b.A) in
      let x = some_row zero b.A ongoing.some_a in
      let whole : length vs ≡ block universal l.ks = length_first_values universal l.ks (rows b.A) x.0 x.1 (before.held universal).sized in
      let not_reached =
      set_not_reached l.prefer existential l.ks l.phi (rows b.A) ongoing.σ vs (block_before universal l.ks (last_row (rows b.A)))
      ongoing.apart none_found in
      record {
        whole = whole;
        same_verdict =
            subst (λ (m : ℕ). meaning (drop m l.ks) (set_to vs l.phi) ≡ meaning l.ks l.phi) whole (not_reached ∙ sym right);
      }

  made_3 : (S : Table) → Growth l existential (suc r) (rows b.A) b.S b.S S
      → (m : Option (List Row)) → search l.prefer universal l.ks l.phi (rows S) ≡ m → Made l (suc r) b (step_3 l (suc r) b.A S m)
  made_3 S grown_s none e =
      let right = right_3 S none e in
      over_later is_true S tt (λ q. omega (arith, ap number q)) right (opened_true S grown_s right e) grown_s
  made_3 S grown_s (some new) e = made_4 S new grown_s e (if_fits l.room_a (grown (suc r) (kept l (suc r) b.A) new))
      (fitted l.room_a (grown (suc r) (kept l (suc r) b.A) new))

  made_2 : (new : List Row) → search l.prefer existential l.ks l.phi (rows b.A) ≡ some new
      → (m : Option Table) → Fitted l.room_s (grown (suc r) b.S new) m → Made l (suc r) b (step_2 l (suc r) b.A b.S m)
  unfolding opening
  made_2 new found none full =
      over no_room_existential b.S tt
      (room_below_all_rows l existential (suc r) (rows b.A) b.S (before.held existential) new found full)
      (record { whole = refl; same_verdict = refl })
      (before.held existential) (extends_itself b.S) ongoing.count_s (λ _. refl) (λ i x s. inl s) (λ _ n. absurd (n refl))
  made_2 new found (some S) fits =
      let x = some_row zero b.A ongoing.some_a in
      made_3 S
      (subst (λ (u : Table). Growth l existential (suc r) (rows b.A) b.S b.S u) fits.0
      (growth l existential (suc r) (rows b.A) b.S (before.held existential) new found
      b.S (λ y h. h) ongoing.ρ ongoing.answers x.0 x.1 fits.1))
      (search l.prefer universal l.ks l.phi (rows S)) refl

  made_1 : (m : Option (List Row)) → search l.prefer existential l.ks l.phi (rows b.A) ≡ m
      → Made l (suc r) b (step_1 l (suc r) b.A b.S m)
  made_1 none e =
      let right = none_is_verdict l.prefer existential l.ks l.phi (rows b.A) e in
      over is_false b.S tt right (opened_false right e)
      (before.held existential) (extends_itself b.S) ongoing.count_s (λ _. refl) (λ i x s. inl s) (λ n _. absurd (n refl))
  made_1 (some new) e = made_2 new e (if_fits l.room_s (grown (suc r) b.S new)) (fitted l.room_s (grown (suc r) b.S new))

  pub round_made : Made l (suc r) b (round_of l (suc r) b.A b.S)
  unfolding round_of
  round_made = made_1 (search l.prefer existential l.ks l.phi (rows b.A)) refl
