-- Rows that the judge accepts are accepted again behind an unknown: behind one of the winner's for one of its values, behind another for both. Assumes nothing.
use Prim.Native.Nat.{zero, suc, ◌≤◌}
use native.Mathlib.Omega.{arith}
use mathlib.Core.Path.{◌≡◌, refl, sym, ap, ◌∙◌}
use mathlib.Core.Bool.{Bool, true, false, cond, beq, ◌&&◌, and-eq-true_iff, true≢false, false≢true}
use mathlib.Core.List.{List, [], ◌∷◌}
use lib.ListN.{length}
use Rattle.formula.specs.Formula.{Kind, existential, universal}
use Rattle.formula.specs.Meaning.{after}
use Rattle.expansion.specs.Side.{flags, goal}
use Rattle.expansion.specs.OtherSide.{side_of}
use Rattle.expansion.specs.Play.{Row, first_value, later_values, Strategy, play}
use Rattle.expansion.specs.Model.{wins}
use Rattle.expansion.specs.Judge.{accepted}
use Rattle.expansion.proofs.Booleans.{never_both, false_if_not_true}
use Rattle.expansion.proofs.Judged.{accepted_exactly}
use Rattle.case_rules.specs.Casebook.{offered}
use Rattle.reply_rules.specs.Position.{beginning, rows_behind}

-- Behind an unknown of the rows': one strategy against the rows that begin with true, another against the rest.
abbrev by_first : Strategy → Strategy → Strategy
by_first σ τ zero r = false
by_first σ τ (suc k) [] = false
by_first σ τ (suc k) (true ∷ r) = σ k r
by_first σ τ (suc k) (false ∷ r) = τ k r

-- Behind an own unknown: its value first.
abbrev with_first : Bool → Strategy → Strategy
with_first v σ zero r = v
with_first v σ (suc k) r = σ k r

both : (a b : Bool) → a ≡ true → b ≡ true → a && b ≡ true
both a b e f = (and-eq-true_iff a b).1 (e, f)

module _ (ts : List Bool) (psi : List Bool → Bool) where
  wins_by_first : (σ τ : Strategy) (rows : List Row) → wins ts (after true psi) σ (beginning true rows) ≡ true
      → wins ts (after false psi) τ (beginning false rows) ≡ true → wins (false ∷ ts) psi (by_first σ τ) rows ≡ true
  wins_by_first σ τ [] h g = refl
  wins_by_first σ τ ([] ∷ rows) h g =
      let parts = (and-eq-true_iff (psi (false ∷ play ts τ [])) (wins ts (after false psi) τ (beginning false rows))).0 g in
      both (psi (false ∷ play ts τ [])) (wins (false ∷ ts) psi (by_first σ τ) rows) parts.0 (wins_by_first σ τ rows h parts.1)
  wins_by_first σ τ ((true ∷ q) ∷ rows) h g =
      let parts = (and-eq-true_iff (psi (true ∷ play ts σ q)) (wins ts (after true psi) σ (beginning true rows))).0 h in
      both (psi (true ∷ play ts σ q)) (wins (false ∷ ts) psi (by_first σ τ) rows) parts.0 (wins_by_first σ τ rows parts.1 g)
  wins_by_first σ τ ((false ∷ q) ∷ rows) h g =
      let parts = (and-eq-true_iff (psi (false ∷ play ts τ q)) (wins ts (after false psi) τ (beginning false rows))).0 g in
      both (psi (false ∷ play ts τ q)) (wins (false ∷ ts) psi (by_first σ τ) rows) parts.0 (wins_by_first σ τ rows h parts.1)

  wins_with_first : (v : Bool) (σ : Strategy) (rows : List Row) → wins (true ∷ ts) psi (with_first v σ) rows ≡ wins ts (after v psi) σ rows
  wins_with_first v σ [] = refl
  wins_with_first v σ (r ∷ rows) = ap (λ (b : Bool). psi (v ∷ play ts σ r) && b) (wins_with_first v σ rows)

-- ---- the winner's own unknown: if the judge does not accept the rows that begin with true, it accepts those that begin with false

module _ (claim : Bool) (ks : List Kind) (phi : List Bool → Bool) (rows : List Row) where
  abbrev Apart : Type 0
  Apart = (σ τ : Strategy) → wins (flags (side_of claim) ks) (goal (side_of claim) (after true phi)) σ (beginning true rows) ≡ true
      → wins (flags (side_of claim) ks) (goal (side_of claim) (after false phi)) τ (beginning false rows) ≡ true → ⊥

  apart_false : Apart → accepted claim ks (after true phi) (beginning true rows) ≡ false → accepted claim ks (after false phi) (beginning false rows) ≡ true
  apart_false apart refused =
      (accepted_exactly claim ks (after false phi) (beginning false rows)).1
      (λ τ. false_if_not_true _ (λ wf.
      true≢false
      (sym ((accepted_exactly claim ks (after true phi) (beginning true rows)).1 (λ σ. false_if_not_true _ (λ wt. apart σ τ wt wf))) ∙ refused)))

pub other_value : (claim : Bool) (k : Kind) (ks : List Kind) (phi : List Bool → Bool) (rows : List Row) → offered claim k ≡ true
    → accepted claim (k ∷ ks) phi rows ≡ true → accepted claim ks (after true phi) (beginning true rows) ≡ false
    → accepted claim ks (after false phi) (beginning false rows) ≡ true
other_value true existential ks phi rows o e =
    apart_false true ks phi rows (λ σ τ h g.
    never_both (wins_by_first (flags universal ks) (goal universal phi) σ τ rows h g) ((accepted_exactly true (existential ∷ ks) phi rows).0 e (by_first σ τ)))
other_value false universal ks phi rows o e =
    apart_false false ks phi rows (λ σ τ h g.
    never_both (wins_by_first (flags existential ks) (goal existential phi) σ τ rows h g) ((accepted_exactly false (universal ∷ ks) phi rows).0 e (by_first σ τ)))
other_value true universal ks phi rows o e = absurd (false≢true o)
other_value false existential ks phi rows o e = absurd (false≢true o)

-- ---- the other side's unknown: each value of it is as good as the other

pub any_value : (claim : Bool) (k : Kind) (ks : List Kind) (phi : List Bool → Bool) (rows : List Row) (v : Bool) → offered claim k ≡ false
    → accepted claim (k ∷ ks) phi rows ≡ true → accepted claim ks (after v phi) rows ≡ true
any_value true universal ks phi rows v o e =
    (accepted_exactly true ks (after v phi) rows).1
    (λ σ. sym (wins_with_first (flags universal ks) (goal universal phi) v σ rows) ∙ (accepted_exactly true (universal ∷ ks) phi rows).0 e (with_first v σ))
any_value false existential ks phi rows v o e =
    (accepted_exactly false ks (after v phi) rows).1
    (λ σ.
    sym (wins_with_first (flags existential ks) (goal existential phi) v σ rows) ∙ (accepted_exactly false (existential ∷ ks) phi rows).0 e (with_first v σ))
any_value true existential ks phi rows v o e = absurd (true≢false o)
any_value false universal ks phi rows v o e = absurd (true≢false o)

-- ---- rows never grow

few_beginning : (v : Bool) (rows : List Row) → length (beginning v rows) ≤ length rows
few_beginning v [] = omega arith
few_beginning v (r ∷ rows) = let h = few_beginning v rows in go (beq v (first_value r)) h
  where
    go : (b : Bool) → length (beginning v rows) ≤ length rows → length (cond b (later_values r ∷ beginning v rows) (beginning v rows)) ≤ suc (length rows)
    go true h = omega arith
    go false h = omega arith

pub few_behind : (own v : Bool) (rows : List Row) → length (rows_behind own v rows) ≤ length rows
few_behind true v rows = few_beginning v rows
few_behind false v rows = omega arith
