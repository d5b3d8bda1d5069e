-- How often a row came back: no more than there were rounds; and after finished rounds a row that does not stand in the table has not come since
-- the last clearing, so that one that is added has come bit. Assumes nothing.
use Prim.Native.Nat.{ℕ, zero, suc, ◌+◌, ◌-◌, ◌≤◌}
use native.Mathlib.Omega.{arith}
use native.Mathlib.Decide.{le_ind}
use native.Mathlib.Nat.{add-zero}
use mathlib.Core.Path.{◌≡◌, refl, sym, ap, subst, ◌∙◌}
use mathlib.Core.Bool.{Bool, true, false, ◌&&◌, cond}
use mathlib.Core.List.{List, [], ◌∷◌}
use mathlib.Core.Logic.{inl, inr, ⊎_elim, ◌≢◌}
use mathlib.Core.Option.{Option, none, some}
use Rattle.formula.specs.Meaning.{bit}
use Rattle.formula.specs.Formula.{Kind, existential, universal}
use Rattle.expansion.specs.Play.{Row}
use Rattle.expansion.specs.Copies.{among, fresh}
use Rattle.expansion.specs.Model.{search}
use Rattle.expansion.proofs.Membership.{In, in_among, not_in_among, in_append_cases, in_append_left, in_append_right, in_or_not, in_fresh, fresh_in}
use Rattle.rounds.specs.Run.{Entry, Table, rows, grown, if_fits, clears, kept, Answer, is_false, is_true, spent, no_room_universal, no_room_existential}
use Rattle.rounds.specs.Run.{number, Outcome, Lent, step_1, step_2, step_3, step_4, round_of, run}
use Rattle.rounds.specs.Claim.{table, Stands, Finished}
use Rattle.rounds.specs.Counts.{rows_found, is_spent, came_to_3, searched, since, came, CountsRight}
use Rattle.rounds.proofs.TableLaws.{rows_grown, stands_in}
use Rattle.rounds.proofs.GrowthLaws.{Fitted, fitted}
use Rattle.rounds.proofs.RoundLaws.{Over}
use Rattle.rounds.proofs.RunLaws.{run_goes_on, run_reached, run_made, run_stays, spent_before, spent_or_over}

-- ---- a finished round, taken apart

-- What its two searches yielded, and what it made of the tables.
pub record Passed (l : Lent) (r : ℕ) (A S : Table) (o : Outcome) : Type 0 where
  pub new_s : List Row
  pub found_s : search l.prefer existential l.ks l.phi (rows A) ≡ some new_s
  pub s_is : o.S ≡ grown r S new_s
  pub new_a : List Row
  pub found_a : search l.prefer universal l.ks l.phi (rows o.S) ≡ some new_a
  pub a_is : o.A ≡ grown r (kept l r A) new_a

module _ (l : Lent) (r : ℕ) (A S : Table) where
  passed_4 : (S' : Table) (new_s : List Row) → search l.prefer existential l.ks l.phi (rows A) ≡ some new_s → S' ≡ grown r S new_s
      → (new_a : List Row) → search l.prefer universal l.ks l.phi (rows S') ≡ some new_a
      → (m : Option Table) → Fitted l.room_a (grown r (kept l r A) new_a) m → (step_4 r A S' m).answer ≡ spent → Passed l r A S (step_4 r A S' m)
  passed_4 S' new_s e s new_a f none full n = absurd (omega (arith, ap number n))
  passed_4 S' new_s e s new_a f (some A') fits n =
      record { new_s = new_s; found_s = e; s_is = s; new_a = new_a; found_a = f; a_is = sym fits.0 }

  passed_3 : (S' : Table) (new_s : List Row) → search l.prefer existential l.ks l.phi (rows A) ≡ some new_s → S' ≡ grown r S new_s
      → (m : Option (List Row)) → search l.prefer universal l.ks l.phi (rows S') ≡ m → (step_3 l r A S' m).answer ≡ spent
      → Passed l r A S (step_3 l r A S' m)
  passed_3 S' new_s e s none f n = absurd (omega (arith, ap number n))
  passed_3 S' new_s e s (some new_a) f n =
      passed_4 S' new_s e s new_a f (if_fits l.room_a (grown r (kept l r A) new_a)) (fitted l.room_a (grown r (kept l r A) new_a)) n

  passed_2 : (new_s : List Row) → search l.prefer existential l.ks l.phi (rows A) ≡ some new_s
      → (m : Option Table) → Fitted l.room_s (grown r S new_s) m → (step_2 l r A S m).answer ≡ spent → Passed l r A S (step_2 l r A S m)
  passed_2 new_s e none full n = absurd (omega (arith, ap number n))
  passed_2 new_s e (some S') fits n = passed_3 S' new_s e (sym fits.0) (search l.prefer universal l.ks l.phi (rows S')) refl n

  passed_1 : (m : Option (List Row)) → search l.prefer existential l.ks l.phi (rows A) ≡ m → (step_1 l r A S m).answer ≡ spent
      → Passed l r A S (step_1 l r A S m)
  passed_1 none e n = absurd (omega (arith, ap number n))
  passed_1 (some new_s) e n = passed_2 new_s e (if_fits l.room_s (grown r S new_s)) (fitted l.room_s (grown r S new_s)) n

  passed : (round_of l r A S).answer ≡ spent → Passed l r A S (round_of l r A S)
  unfolding round_of
  passed n = passed_1 (search l.prefer existential l.ks l.phi (rows A)) refl n

pub run_passed : (l : Lent) (r : ℕ) → (run l (suc r)).answer ≡ spent → Passed l (suc r) (run l r).A (run l r).S (run l (suc r))
run_passed l r e =
    let goes = run_goes_on l r (spent_before l r (suc r) (omega arith) e) in
    subst (Passed l (suc r) (run l r).A (run l r).S) (sym goes)
    (passed l (suc r) (run l r).A (run l r).S (ap (λ (o : Outcome). o.answer) (sym goes) ∙ e))

-- ---- the rows that stand

module _ (r : ℕ) (t : Table) (new : List Row) (x : Row) where
  old_in_grown : In x (rows t) → In x (rows (grown r t new))
  old_in_grown h = subst (λ (l : List Row). In x l) (sym (rows_grown r t new)) (in_append_left x (rows t) (fresh (rows t) new) h)

  new_in_grown : In x new → In x (rows (grown r t new))
  new_in_grown h =
      ⊎_elim old_in_grown
      (λ n. subst (λ (l : List Row). In x l) (sym (rows_grown r t new)) (in_append_right x (rows t) (fresh (rows t) new) (in_fresh x (rows t) new h n)))
      (in_or_not x (rows t))

  -- What did not stand is new.
  grown_is_new : In x (rows (grown r t new)) → (In x (rows t) → ⊥) → In x new
  grown_is_new h out =
      ⊎_elim (λ o. absurd (out o)) (fresh_in x (rows t) new)
      (in_append_cases x (rows t) (fresh (rows t) new) (subst (λ (l : List Row). In x l) (rows_grown r t new) h))

-- ---- one round more

yielded_once : (x : Row) (ys : List Row) → In x ys → bit (among x ys) ≡ 1
yielded_once x ys h = ap bit (in_among x ys h)

yielded_not : (x : Row) (ys : List Row) → (In x ys → ⊥) → bit (among x ys) ≡ 0
yielded_not x ys h = ap bit (not_in_among x ys h)

-- The existential side's search of a round that is made.
pub searched_s : (l : Lent) (r : ℕ) → (run l r).answer ≡ spent
    → searched l existential r ≡ rows_found (search l.prefer existential l.ks l.phi (rows (run l r).A))
unfolding searched
searched_s l r e = ap (λ (a : Answer). cond (is_spent a) (rows_found (search l.prefer existential l.ks l.phi (rows (run l r).A))) []) e

-- What the universal side's search over an outcome's S yielded, if the round came to it.
abbrev pub second_search : Lent → Answer → Outcome → List Row
second_search l a o = cond (came_to_3 a) (rows_found (search l.prefer universal l.ks l.phi (rows o.S))) []

-- The universal side's, by the round's answer.
pub searched_a : (l : Lent) (r : ℕ) (a : Answer) → (run l r).answer ≡ spent → (run l (suc r)).answer ≡ a →
    searched l universal r ≡ second_search l a (run l (suc r))
unfolding searched
searched_a l r a e f =
    ap (λ (b : Answer). cond (is_spent b && came_to_3 (run l (suc r)).answer)
    (rows_found (search l.prefer universal l.ks l.phi (rows (run l (suc r)).S))) []) e
    ∙ ap (λ (b : Answer). second_search l b (run l (suc r))) f

searched_over : (l : Lent) (side : Kind) (r : ℕ) → Over (run l r).answer → searched l side r ≡ []
unfolding searched
searched_over l existential r = go (run l r).answer
  where
    go : (a : Answer) → Over a → cond (is_spent a) (rows_found (search l.prefer existential l.ks l.phi (rows (run l r).A))) [] ≡ []
    go is_false over = refl
    go is_true over = refl
    go spent over = absurd over
    go no_room_universal over = refl
    go no_room_existential over = refl
searched_over l universal r = go (run l r).answer
  where
    go : (a : Answer) → Over a →
        cond (is_spent a && came_to_3 (run l (suc r)).answer) (rows_found (search l.prefer universal l.ks l.phi (rows (run l (suc r)).S))) [] ≡ []
    go is_false over = refl
    go is_true over = refl
    go spent over = absurd over
    go no_room_universal over = refl
    go no_room_existential over = refl

since_over : (l : Lent) (side : Kind) (r n : ℕ) → Over (run l r).answer → since l side r n ≡ n
since_over l existential r n over = refl
since_over l universal r n over = go (run l r).answer over
  where
    go : (a : Answer) → Over a → cond (is_spent a && clears l.clear_every r) 0 n ≡ n
    go is_false over = refl
    go is_true over = refl
    go spent over = absurd over
    go no_room_universal over = refl
    go no_room_existential over = refl

-- What a round adds, by its search; `since` is left as it stands.
pub came_next : (l : Lent) (side : Kind) (r : ℕ) (ys : List Row) → searched l side r ≡ ys → (x : Row)
    → came l side (suc r) x ≡ since l side (suc r) (came l side r x) + bit (among x ys)
unfolding came
came_next l side r ys e x = ap (λ (zs : List Row). since l side (suc r) (came l side r x) + bit (among x zs)) e

-- A run that is over counts no more.
came_over : (l : Lent) (side : Kind) (r : ℕ) → Over (run l r).answer → (x : Row) → came l side (suc r) x ≡ came l side r x
came_over l side r over x =
    let still : Over (run l (suc r)).answer = subst (λ (o : Outcome). Over o.answer) (sym (run_stays l r (suc r) (omega arith) over)) over in
    came_next l side r [] (searched_over l side r over) x ∙ add-zero _ ∙ since_over l side (suc r) (came l side r x) still

pub came_stays : (l : Lent) (side : Kind) (r limit : ℕ) → r ≤ limit → Over (run l r).answer → (x : Row) → came l side limit x ≡ came l side r x
came_stays l side r limit h over x =
    le_ind
    (λ (m : ℕ). came l side m x ≡ came l side r x)
    refl
    (λ m below e. came_over l side m (subst (λ (o : Outcome). Over o.answer) (sym (run_stays l r m below over)) over) x ∙ e)
    limit
    h

-- ---- at most the rounds

once_at_most : (b : Bool) → bit b ≤ 1
once_at_most true = omega arith
once_at_most false = omega arith

since_at_most : (l : Lent) (side : Kind) (r n : ℕ) → since l side r n ≤ n
since_at_most l existential r n = omega arith
since_at_most l universal r n = go (is_spent (run l r).answer && clears l.clear_every r)
  where
    go : (b : Bool) → cond b 0 n ≤ n
    go true = omega arith
    go false = omega arith

pub came_at_most : (l : Lent) (side : Kind) (r : ℕ) (x : Row) → came l side r x ≤ (run l r).round
unfolding came
came_at_most l side zero x = omega arith
came_at_most l side (suc r) x = ⊎_elim (made (came_at_most l side r x)) (over (came_at_most l side r x)) (spent_or_over (run l r).answer)
  where
    made : came l side r x ≤ (run l r).round → (run l r).answer ≡ spent → came l side (suc r) x ≤ (run l (suc r)).round
    made before e =
        let was = (run_reached l r).at_limit e in
        let is = (run_made l r e).in_round in
        let kept_so = since_at_most l side (suc r) (came l side r x) in
        let one = once_at_most (among x (searched l side r)) in
        omega arith

    over : came l side r x ≤ (run l r).round → Over (run l r).answer → came l side (suc r) x ≤ (run l (suc r)).round
    over before o =
        let stays = ap (λ (q : Outcome). q.round) (run_stays l r (suc r) (omega arith) o) in
        let same = came_over l side r o x in
        omega arith

-- ---- what does not stand has not come

-- The searches of a finished round.
passed_s : (l : Lent) (r : ℕ) (e : (run l (suc r)).answer ≡ spent) → searched l existential r ≡ (run_passed l r e).new_s
passed_s l r e = searched_s l r (spent_before l r (suc r) (omega arith) e) ∙ ap rows_found (run_passed l r e).found_s

passed_a : (l : Lent) (r : ℕ) (e : (run l (suc r)).answer ≡ spent) → searched l universal r ≡ (run_passed l r e).new_a
passed_a l r e = searched_a l r spent (spent_before l r (suc r) (omega arith) e) e ∙ ap rows_found (run_passed l r e).found_a

-- What a finished round that does not clear leaves of what stood.
kept_in : (l : Lent) (r : ℕ) (A : Table) (x : Row) → clears l.clear_every r ≡ false → In x (rows A) → In x (rows (kept l r A))
kept_in l r A x e h = subst (λ (b : Bool). In x (rows (cond b [] A))) (sym e) h

since_finished : (l : Lent) (r n : ℕ) → (run l r).answer ≡ spent → since l universal r n ≡ cond (clears l.clear_every r) 0 n
since_finished l r n e = ap (λ (a : Answer). cond (is_spent a && clears l.clear_every r) 0 n) e

pub absent_zero : (l : Lent) (side : Kind) (r : ℕ) (x : Row) → (run l r).answer ≡ spent → (In x (rows (table side (run l r))) → ⊥) → came l side r x ≡ 0
unfolding came
absent_zero l side zero x e out = refl
absent_zero l existential (suc r) x e out =
    let p = run_passed l r e in
    let stands : In x (rows (grown (suc r) (run l r).S p.new_s)) → ⊥ = λ h. out (subst (λ (t : Table). In x (rows t)) (sym p.s_is) h) in
    let was : came l existential r x ≡ 0 =
    absent_zero l existential r x (spent_before l r (suc r) (omega arith) e) (λ h. stands (old_in_grown (suc r) (run l r).S p.new_s x h)) in
    let not_now : bit (among x (searched l existential r)) ≡ 0 =
    yielded_not x (searched l existential r)
    (λ h. stands (new_in_grown (suc r) (run l r).S p.new_s x (subst (λ (ys : List Row). In x ys) (passed_s l r e) h))) in
    omega arith
absent_zero l universal (suc r) x e out =
    let p = run_passed l r e in
    let not_now : bit (among x (searched l universal r)) ≡ 0 =
    yielded_not x (searched l universal r)
    (λ h. stands (new_in_grown (suc r) (kept l (suc r) (run l r).A) p.new_a x (subst (λ (ys : List Row). In x ys) (passed_a l r e) h))) in
    let was : since l universal (suc r) (came l universal r x) ≡ 0 =
    since_finished l (suc r) (came l universal r x) e
    ∙ go (clears l.clear_every (suc r)) refl (absent_zero l universal r x (spent_before l r (suc r) (omega arith) e)) in
    omega arith
  where
    stands : In x (rows (grown (suc r) (kept l (suc r) (run l r).A) (run_passed l r e).new_a)) → ⊥
    stands h = out (subst (λ (t : Table). In x (rows t)) (sym (run_passed l r e).a_is) h)

    go : (b : Bool) → clears l.clear_every (suc r) ≡ b → ((In x (rows (run l r).A) → ⊥) → came l universal r x ≡ 0)
        → cond b 0 (came l universal r x) ≡ 0
    go true f before = refl
    go false f before =
        before (λ h. stands (old_in_grown (suc r) (kept l (suc r) (run l r).A) (run_passed l r e).new_a x (kept_in l (suc r) (run l r).A x f h)))

-- ---- so an added row came bit

one : {m n : ℕ} → m ≡ 0 → n ≡ 1 → m + n ≡ 1
one a b = omega arith

-- Of a finished round: a row that stands and was not kept came bit.
module _ (l : Lent) (r : ℕ) (e : (run l (suc r)).answer ≡ spent) (x : Row) where
  once_s : In x (rows (run l (suc r)).S) → (In x (rows (run l r).S) → ⊥) → came l existential (suc r) x ≡ 1
  once_s h out =
      let p = run_passed l r e in
      let now_so : In x p.new_s = grown_is_new (suc r) (run l r).S p.new_s x (subst (λ (t : Table). In x (rows t)) p.s_is h) out in
      let was = absent_zero l existential r x (spent_before l r (suc r) (omega arith) e) out in
      came_next l existential r p.new_s (passed_s l r e) x ∙ one was (yielded_once x p.new_s now_so)

  once_a : In x (rows (run l (suc r)).A) → (In x (rows (kept l (suc r) (run l r).A)) → ⊥) → since l universal (suc r) (came l universal r x) ≡ 0
      → came l universal (suc r) x ≡ 1
  once_a h out was =
      let p = run_passed l r e in
      let now_so : In x p.new_a =
      grown_is_new (suc r) (kept l (suc r) (run l r).A) p.new_a x (subst (λ (t : Table). In x (rows t)) p.a_is h) out in
      came_next l universal r p.new_a (passed_a l r e) x ∙ one was (yielded_once x p.new_a now_so)

  cleared_once : clears l.clear_every (suc r) ≡ true → In x (rows (run l (suc r)).A) → came l universal (suc r) x ≡ 1
  cleared_once f h =
      once_a h (λ k. subst (λ (b : Bool). In x (rows (cond b [] (run l r).A))) f k)
      (since_finished l (suc r) (came l universal r x) e ∙ ap (λ (b : Bool). cond b 0 (came l universal r x)) f)

  added_to : (side : Kind) → In x (rows (table side (run l (suc r)))) → (In x (rows (table side (run l r))) → ⊥) → came l side (suc r) x ≡ 1
  added_to existential h out = once_s h out
  added_to universal h out = go (clears l.clear_every (suc r)) refl
    where
      go : (b : Bool) → clears l.clear_every (suc r) ≡ b → came l universal (suc r) x ≡ 1
      go true f = cleared_once f h
      go false f =
          once_a h (λ k. out (subst (λ (b : Bool). In x (rows (cond b [] (run l r).A))) f k))
          (since_finished l (suc r) (came l universal r x) e
          ∙ ap (λ (b : Bool). cond b 0 (came l universal r x)) f
          ∙ absent_zero l universal r x (spent_before l r (suc r) (omega arith) e) out)

-- A row that stands has a place.
place_of : (x : Row) (t : Table) → In x (rows t) → (i : ℕ) × (y : Entry) × Stands t i y × (y.row ≡ x)
place_of x [] h = absurd h
place_of x (y ∷ t) (inl e) = (zero, y, refl, sym e)
place_of x (y ∷ t) (inr h) =
    let (i, z, s, same) = place_of x t h in
    (suc i, z, s, same)

pub counts_right : (l : Lent) (limit : ℕ) → CountsRight l limit
counts_right l limit = record { at_most = λ side x. came_at_most l side limit x; added_once = added; restarted = again }
  where
    added : (side : Kind) (r : ℕ) → Finished l limit r → (i : ℕ) (x : Entry) → Stands (table side (run l r)) i x
        → ((j : ℕ) (y : Entry) → Stands (table side (run l (r - 1))) j y → y.row ≢ x.row) → came l side r x.row ≡ 1
    added side zero f i x s none_before = absurd (omega (arith, f.from_one))
    added side (suc r) f i x s none_before =
        added_to l r f.passed x.row side (stands_in (table side (run l (suc r))) i x s)
        (λ h.
        let before : r ≡ suc r - 1 = omega arith in
        let (j, y, p, same) = place_of x.row (table side (run l (suc r - 1))) (subst (λ (q : ℕ). In x.row (rows (table side (run l q)))) before h) in
        none_before j y p same)

    again : (r : ℕ) → Finished l limit r → clears l.clear_every r ≡ true → (i : ℕ) (x : Entry) → Stands (run l r).A i x
        → came l universal r x.row ≡ 1
    again zero f e i x s = absurd (omega (arith, f.from_one))
    again (suc r) f e i x s = cleared_once l r f.passed x.row e (stands_in (run l (suc r)).A i x s)
