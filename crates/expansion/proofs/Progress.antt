-- Progress: two models never keep within each other's rows, so each round of a run adds rows to both tables.
-- Assumes nothing.
use mathlib.Core.Path.{◌≡◌, refl, sym}
use mathlib.Core.Bool.{Bool, true, and-eq-true_iff}
use mathlib.Core.List.{List, [], ◌∷◌, map}
use mathlib.Core.Logic.{inl, inr, ⊎_elim}
use mathlib.Core.Option.{Option, none, some, none-ne-some}
use Prim.Native.Nat.{ℕ, zero}
use Rattle.formula.specs.Formula.{Kind, existential, universal}
use Rattle.formula.specs.Meaning.{after}
use Rattle.expansion.specs.Side.{flags, goal}
use Rattle.expansion.specs.OtherSide.{other}
use Rattle.expansion.specs.Play.{Row, Strategy, past_own, past_row, play, yield}
use Rattle.expansion.specs.Copies.{fresh}
use Rattle.expansion.specs.Model.{wins, strategy_of, first_model, yielded, search}
use Rattle.expansion.proofs.Booleans.{never_unlike}
use Rattle.expansion.proofs.Membership.{In, in_map, in_or_not, in_fresh}
use Rattle.expansion.proofs.FirstModel.{first_some}

-- Over the rows in P the strategy of a side reaches its goal, and what they yield is in Q.
pub record Answers (side : Kind) (ks : List Kind) (phi : List Bool → Bool) (σ : Strategy) (P Q : Row → Type 0) : Type 0 where
  pub wins : (r : Row) → P r → goal side phi (play (flags side ks) σ r) ≡ true
  pub within : (r : Row) → P r → Q (yield (flags side ks) σ r)

-- If there is a universal row, the two strategies don't keep within each other's rows. By recursion over the prefix: at an existential
-- unknown the existential strategy's value v stands in front of all that it yields, so the existential rows that begin with v are left;
-- dually at a universal one. At the end the matrix would be both true and false.
pub no_closed_pair : (ks : List Kind) (phi : List Bool → Bool) (σ ρ : Strategy) (A S : Row → Type 0) (a : Row) → A a
    → Answers existential ks phi σ A S → Answers universal ks phi ρ S A → ⊥
no_closed_pair [] phi σ ρ A S a in_a e u = never_unlike (phi []) true (sym (e.wins a in_a)) (sym (u.wins [] (e.within a in_a)))
no_closed_pair (existential ∷ ks) phi σ ρ A S a in_a e u =
    let v = σ zero [] in
    no_closed_pair ks (after v phi) (past_own σ) (past_row v ρ) A (λ s. S (v ∷ s)) a in_a
    (record { wins = λ r. e.wins r; within = λ r. e.within r })
    (record { wins = λ r. u.wins (v ∷ r); within = λ r. u.within (v ∷ r) })
no_closed_pair (universal ∷ ks) phi σ ρ A S a in_a e u =
    let v = ρ zero [] in
    no_closed_pair ks (after v phi) (past_row v σ) (past_own ρ) (λ r. A (v ∷ r)) S _ (u.within _ (e.within a in_a))
    (record { wins = λ r. e.wins (v ∷ r); within = λ r. e.within (v ∷ r) })
    (record { wins = λ r. u.wins r; within = λ r. u.within r })

-- The same from either side.
pub no_closed_pair_of : (side : Kind) (ks : List Kind) (phi : List Bool → Bool) (σ ρ : Strategy) (P Q : Row → Type 0) (r : Row) → P r
    → Answers side ks phi σ P Q → Answers (other side) ks phi ρ Q P → ⊥
no_closed_pair_of existential ks phi σ ρ P Q r in_p s o = no_closed_pair ks phi σ ρ P Q r in_p s o
no_closed_pair_of universal ks phi σ ρ P Q r in_p s o = no_closed_pair ks phi ρ σ Q P _ (s.within r in_p) o s

-- A strategy that wins over a list wins over each of its rows.
pub wins_each : (ts : List Bool) (psi : List Bool → Bool) (σ : Strategy) (rows : List Row) → wins ts psi σ rows ≡ true
    → (r : Row) → In r rows → psi (play ts σ r) ≡ true
wins_each ts psi σ [] w r h = absurd h
wins_each ts psi σ (x ∷ rows) w r (inl e) = rw e ((and-eq-true_iff (psi (play ts σ x)) (wins ts psi σ rows)).0 w).0
wins_each ts psi σ (x ∷ rows) w r (inr h) = wins_each ts psi σ rows ((and-eq-true_iff (psi (play ts σ x)) (wins ts psi σ rows)).0 w).1 r h

-- What a search yields: the yields of a strategy that wins over the rows.
pub search_answers : (prefer : ℕ → Bool) (side : Kind) (ks : List Kind) (phi : List Bool → Bool) (rows new : List Row)
    → search prefer side ks phi rows ≡ some new
    → (σ : Strategy) × Answers side ks phi σ (λ r. In r rows) (λ r. In r new) × (new ≡ map (yield (flags side ks) σ) rows)
unfolding search
search_answers prefer side ks phi rows new found = of_model (first_model prefer (flags side ks) (goal side phi) rows) refl found
  where
    of_model : (m : Option (List Bool)) → first_model prefer (flags side ks) (goal side phi) rows ≡ m → yielded (flags side ks) rows m ≡ some new
        → (σ : Strategy) × Answers side ks phi σ (λ r. In r rows) (λ r. In r new) × (new ≡ map (yield (flags side ks) σ) rows)
    of_model none e f = absurd (none-ne-some new f)
    of_model (some vs) e f =
        let σ = strategy_of (flags side ks) rows vs in
        let is : new ≡ map (yield (flags side ks) σ) rows = cc in
        (σ, record { wins = wins_each (flags side ks) (goal side phi) σ rows (first_some prefer (flags side ks) (goal side phi) rows vs e); within = λ r h. rw is (in_map _ r rows h) }, is)

-- If a strategy of the other side that wins over `old` keeps within the rows, a search over the rows yields a row that is not in `old`.
pub yields_fresh : (prefer : ℕ → Bool) (side : Kind) (ks : List Kind) (phi : List Bool → Bool) (rows old new : List Row) (ρ : Strategy) (r : Row)
    → In r rows → search prefer side ks phi rows ≡ some new → Answers (other side) ks phi ρ (λ x. In x old) (λ x. In x rows)
    → fresh old new ≡ [] → ⊥
yields_fresh prefer side ks phi rows old new ρ r in_rows found answers nothing =
    let model = search_answers prefer side ks phi rows new found in
    no_closed_pair_of side ks phi model.0 ρ (λ x. In x rows) (λ x. In x old) r in_rows
    (record { wins = model.1.wins; within = λ x h. all_old _ (model.1.within x h) })
    answers
  where
    all_old : (x : Row) → In x new → In x old
    all_old x h = ⊎_elim (λ o. o) (λ n. absurd (rw nothing at (in_fresh x old new h n))) (in_or_not x old)
