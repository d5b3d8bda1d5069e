-- Soundness of the expansion: a side that wins its game has one strategy, made from the prefix and the goal alone, that wins over every row.
-- So if no strategy wins over some rows, the side does not reach what it wants.
-- Assumes nothing.
use Prim.Native.Nat.{zero, suc}
use mathlib.Core.Path.{◌≡◌, refl, ◌∙◌}
use mathlib.Core.Bool.{Bool, true, false, ◌&&◌, ◌||◌, and-eq-true_iff}
use mathlib.Core.List.{List, [], ◌∷◌}
use Rattle.formula.specs.Formula.{Kind}
use Rattle.formula.specs.Meaning.{after}
use Rattle.expansion.specs.Side.{flags, goal}
use Rattle.expansion.specs.Play.{Row, Strategy, play, first_value, later_values}
use Rattle.expansion.specs.Model.{wins}
use Rattle.expansion.proofs.Booleans.{never_both, false_if_not_true}
use Rattle.expansion.proofs.Game.{game, reaches, game_of_side}

-- At an own unknown the value true if it keeps the game won, else false.
abbrev winning : List Bool → (List Bool → Bool) → Strategy
winning [] psi k r = false
winning (true ∷ ts) psi zero r = game ts (after true psi)
winning (true ∷ ts) psi (suc k) r = winning ts (after (game ts (after true psi)) psi) k r
winning (false ∷ ts) psi zero r = false
winning (false ∷ ts) psi (suc k) [] = false
winning (false ∷ ts) psi (suc k) (b ∷ r) = winning ts (after b psi) k r

chosen_wins : (f : Bool → Bool) → f true || f false ≡ true → f (f true) ≡ true
chosen_wins f h = go (f true) refl h
  where
    go : (v : Bool) → f true ≡ v → v || f false ≡ true → f v ≡ true
    go true e h = e
    go false e h = h

each_wins : (f : Bool → Bool) → f true && f false ≡ true → (b : Bool) → f b ≡ true
each_wins f h true = ((and-eq-true_iff (f true) (f false)).0 h).0
each_wins f h false = ((and-eq-true_iff (f true) (f false)).0 h).1

winning_wins : (ts : List Bool) (psi : List Bool → Bool) → game ts psi ≡ true → (row : Row) → psi (play ts (winning ts psi) row) ≡ true
winning_wins [] psi h row = h
winning_wins (true ∷ ts) psi h row =
    let v = game ts (after true psi) in
    winning_wins ts (after v psi) (chosen_wins (λ b. game ts (after b psi)) h) row
winning_wins (false ∷ ts) psi h row =
    let b = first_value row in
    winning_wins ts (after b psi) (each_wins (λ b. game ts (after b psi)) h b) (later_values row)

wins_everywhere : (ts : List Bool) (psi : List Bool → Bool) (σ : Strategy) → ((row : Row) → psi (play ts σ row) ≡ true) → (rows : List Row)
    → wins ts psi σ rows ≡ true
wins_everywhere ts psi σ h [] = refl
wins_everywhere ts psi σ h (row ∷ rows) = (and-eq-true_iff (psi (play ts σ row)) (wins ts psi σ rows)).1 (h row, wins_everywhere ts psi σ h rows)

-- One strategy wins over every list of rows.
pub sound : (ts : List Bool) (psi : List Bool → Bool) → game ts psi ≡ true → (σ : Strategy) × ((rows : List Row) → wins ts psi σ rows ≡ true)
sound ts psi h = (winning ts psi, wins_everywhere ts psi (winning ts psi) (winning_wins ts psi h))

-- A side that no strategy helps over some rows does not reach what it wants.
pub no_strategy_no_meaning : (side : Kind) (ks : List Kind) (phi : List Bool → Bool) (rows : List Row)
    → ((σ : Strategy) → wins (flags side ks) (goal side phi) σ rows ≡ false) → reaches side ks phi ≡ false
no_strategy_no_meaning side ks phi rows loses = false_if_not_true (reaches side ks phi) (λ h. not_won (game_of_side side ks phi ∙ h))
  where
    not_won : game (flags side ks) (goal side phi) ≡ true → ⊥
    not_won won =
        let s = sound (flags side ks) (goal side phi) won in
        never_both (s.1 rows) (loses s.0)
