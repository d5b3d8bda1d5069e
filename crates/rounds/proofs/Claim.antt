-- The claim about the whole run holds. Assumes nothing.
use Prim.Native.Nat.{ℕ, zero, suc, ◌+◌, ◌-◌, ◌^◌, ◌≤◌, ◌<◌}
use native.Mathlib.Omega.{arith}
use native.Mathlib.Decide.{dec_le}
use mathlib.Core.Path.{◌≡◌, refl, sym, ap, subst, ◌∙◌}
use mathlib.Core.Bool.{true}
use mathlib.Core.Logic.{◌↔◌, ◌≢◌, by_cases}
use Rattle.formula.specs.Formula.{Kind, existential, universal}
use Rattle.formula.specs.Causes.{count}
use Rattle.formula.specs.Meaning.{meaning}
use Rattle.rounds.specs.Run.{Entry, clears, Answer, is_false, is_true, spent, no_room_universal, no_room_existential, Outcome, Lent, round_of, run}
use Rattle.rounds.specs.Claim.{table, no_room, Stands, Finished, NewRow, most_with, most_rounds, Uncleared, answer_of, Claim}
use Rattle.rounds.proofs.TableLaws.{all_different, stands_extends}
use Rattle.rounds.proofs.RoundLaws.{Right, Made, never_clears}
use Rattle.rounds.proofs.Bounds.{count_most}
use Rattle.rounds.proofs.RunLaws.{run_marks, run_goes_on, run_reached, run_made, finished_if_spent, run_extends, spent_before, Last, last_round}

new_row : (l : Lent) (limit : ℕ) (side : Kind) (r q : ℕ) → Finished l limit r → r ≤ q → q ≤ limit → Uncleared side l r q
    → NewRow r (table side (run l (r - 1))) (table side (run l r)) (table side (run l q))
new_row l limit side zero q f above below u = absurd (omega (arith, f.from_one))
new_row l limit side (suc p) q f above below u =
    let back : suc p - 1 ≡ p = omega arith in
    let made = run_made l p (spent_before l p (suc p) (omega arith) f.passed) in
    rw back (made.new_row f.passed side (table side (run l q)) (run_extends l (suc p) q above side u))

uncleared_if_never : (side : Kind) (l : Lent) (r q : ℕ) → (side ≡ universal → l.clear_every ≡ 0) → Uncleared side l r q
uncleared_if_never existential l r q never = tt
uncleared_if_never universal l r q never = λ p _ _. never_clears l p (never refl)

all_cleared : (l : Lent) (limit r : ℕ) → Finished l limit r → clears l.clear_every r ≡ true → (i : ℕ) (x : Entry) → Stands (run l r).A i x
    → x.mark ≡ r
all_cleared l limit zero f clearing = absurd (omega (arith, f.from_one))
all_cleared l limit (suc p) f clearing = (run_made l p (spent_before l p (suc p) (omega arith) f.passed)).all_marked f.passed clearing

-- A bound on the rounds, by whether the table is ever cleared.
at_most : (l : Lent) (n : ℕ) → n ≤ 2 ^ count existential l.ks + 1 → (l.clear_every ≡ 0 → n ≤ 2 ^ count universal l.ks) → n ≤ most_rounds l
at_most l n by_s by_a = go l.clear_every by_a
  where
    go : (k : ℕ) → (k ≡ 0 → n ≤ 2 ^ count universal l.ks) → n ≤ most_with k l
    go zero h = omega (arith, h refl)
    go (suc k) h = omega (arith, by_s)

-- With room for all rows and most-rounds rounds, only the verdict is left.
decided : (l : Lent) (limit : ℕ) → 2 ^ count universal l.ks ≤ l.room_a → 2 ^ count existential l.ks ≤ l.room_s → most_rounds l ≤ limit
    → (run l limit).answer ≡ answer_of (meaning l.ks l.phi)
decided l limit room_a room_s enough = by_answer (run l limit).answer refl (run_reached l limit).right
  where
    by_answer : (a : Answer) → (run l limit).answer ≡ a → Right l a → a ≡ answer_of (meaning l.ks l.phi)
    by_answer is_false e right = rw right
    by_answer is_true e right = rw right
    by_answer spent e right =
        let most_a = count_most l limit universal in
        let most_s = count_most l limit existential in
        let ongoing = (run_reached l limit).ongoing e in
        let most : suc limit ≤ most_rounds l =
        at_most l (suc limit) (omega (arith, ongoing.count_s)) (λ never. omega (arith, ongoing.count_a never)) in
        absurd (omega arith)
    by_answer no_room_universal e right = absurd (omega arith)
    by_answer no_room_existential e right = absurd (omega arith)

module _ (l : Lent) (limit : ℕ) (from_one : 1 ≤ limit) where
  last : Last l limit
  last = last_round l limit from_one

  made : Made l (suc last.p) (run l last.p) (run l (suc last.p))
  made = run_made l last.p last.finished

  round_is : (run l limit).round ≡ suc last.p
  round_is = ap (λ (o : Outcome). o.round) last.same ∙ made.in_round

  round_before : last.p ≡ (run l limit).round - 1
  round_before = omega (arith, round_is)

  came : run l limit ≡ round_of l (run l limit).round (run l ((run l limit).round - 1)).A (run l ((run l limit).round - 1)).S
  came =
      subst (λ (q : ℕ). run l limit ≡ round_of l (run l limit).round (run l q).A (run l q).S) round_before
      (subst (λ (r : ℕ). run l limit ≡ round_of l r (run l last.p).A (run l last.p).S) (sym round_is)
      (last.same ∙ run_goes_on l last.p last.finished))

  before : (r : ℕ) → 1 ≤ r → r < (run l limit).round → Finished l limit r
  before r h below =
      finished_if_spent l limit r h (omega (arith, (run_reached l limit).to_limit))
      (spent_before l r last.p (omega (arith, round_is)) last.finished)

  itself : Finished l limit (run l limit).round ↔ ((run l limit).answer ≡ spent)
  itself = (
    λ f. subst (λ (o : Outcome). o.answer ≡ spent) (ap (run l) round_is ∙ sym last.same) f.passed,
    λ e.
        let at_limit = (run_reached l limit).at_limit e in
        finished_if_spent l limit (run l limit).round (omega (arith, round_is)) (omega arith) (ap (λ (r : ℕ). (run l r).answer) at_limit ∙ e),
  )

  none_later : (r : ℕ) → Finished l limit r → r ≤ (run l limit).round
  none_later r f = by_cases (dec_le r (run l limit).round) (λ h. h) past
    where
      past : ¬ (r ≤ (run l limit).round) → r ≤ (run l limit).round
      past h =
          let spent_last = spent_before l (suc last.p) r (omega (arith, round_is)) f.passed in
          let at_limit = (run_reached l limit).at_limit (ap (λ (o : Outcome). o.answer) last.same ∙ spent_last) in
          omega (arith, f.to_limit)

  none_added : (side : Kind) → (run l limit).answer ≡ no_room side → table side (run l limit) ≡ table side (run l ((run l limit).round - 1))
  none_added side e =
      ap (table side) last.same
      ∙ made.none_added side (ap (λ (o : Outcome). o.answer) (sym last.same) ∙ e)
      ∙ ap (λ (q : ℕ). table side (run l q)) round_before

  marks_made : (side : Kind) (i : ℕ) (x : Entry) → Stands (table side (run l limit)) i x → x.mark ≤ (run l limit).round
  marks_made side i x s =
      let below = run_marks l (suc last.p) side i x (subst (λ (o : Outcome). Stands (table side o) i x) last.same s) in
      omega (arith, round_is)

  last_mark : (run l limit).answer ≢ is_false → (run l limit).answer ≢ no_room_existential
      → NewRow (run l limit).round (run l ((run l limit).round - 1)).S (run l limit).S (run l limit).S
  last_mark one two =
      let answer_is = ap (λ (o : Outcome). o.answer) last.same in
      let latest = made.latest (λ e. one (answer_is ∙ e)) (λ e. two (answer_is ∙ e)) in
      subst (λ (q : ℕ). NewRow (run l limit).round (run l q).S (run l limit).S (run l limit).S) round_before
      (subst (λ (r : ℕ). NewRow r (run l last.p).S (run l limit).S (run l limit).S) (sym round_is)
      (subst (λ (o : Outcome). NewRow (suc last.p) (run l last.p).S o.S o.S) (sym last.same) latest))

  pub claim : Claim l limit
  claim =
      record {
        round_from_one = omega (arith, round_is);
        round_to_limit = (run_reached l limit).to_limit;
        came = came;
        before = before;
        itself = itself;
        none_later = none_later;
        spent_at_limit = (run_reached l limit).at_limit;
        new_rows = new_row l limit;
        keeps = λ side r q h u i x. stands_extends (table side (run l r)) (table side (run l q)) i x (run_extends l r q h side u);
        to_the_end = λ side r never f. new_row l limit side r limit f f.to_limit (omega arith) (uncleared_if_never side l r limit never);
        cleared = all_cleared l limit;
        different_after = λ side r f. all_different (table side (run l r)) ((run_reached l r).held side).distinct;
        different_at_end = λ side. all_different (table side (run l limit)) ((run_reached l limit).held side).distinct;
        marks_made = marks_made;
        last_mark = last_mark;
        none_added = none_added;
        most =
            let reached = run_reached l limit in
            let most_a = count_most l limit universal in
            let most_s = count_most l limit existential in
            at_most l (run l limit).round (omega (arith, reached.round_s)) (λ never. omega (arith, reached.round_a never));
        decided = decided l limit;
      }
