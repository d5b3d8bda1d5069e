-- Plays that lead along every row are those of the first model.
-- Assumes nothing.
use Prim.Native.Nat.{ℕ, zero, suc, ◌<◌}
use native.Mathlib.Omega.{arith}
use mathlib.Core.Path.{◌≡◌, refl, ap, ap₂, subst, ◌∙◌}
use mathlib.Core.Bool.{Bool, true, false, cond, and-eq-true_iff}
use mathlib.Core.List.{List, [], ◌∷◌, map}
use mathlib.Core.Logic.{inl, inr, ⊎_elim}
use mathlib.Core.Option.{Option, none, some}
use lib.ListN.{length, get_or, length-map}
use Rattle.expansion.specs.Play.{Row, restriction, Strategy, play, part, yield}
use Rattle.expansion.specs.Copies.{same, copies}
use Rattle.expansion.specs.Model.{wins, strategy_of, is_model, first_model, yielded}
use Rattle.expansion.specs.Order.{PartsAt, IsFirst}
use Rattle.expansion.proofs.Booleans.{true_or_false, never_both}
use Rattle.expansion.proofs.Membership.{In, place_of_in, same_refl, same_eq}
use Rattle.expansion.proofs.CopyLaws.{Own}
use Rattle.expansion.proofs.FirstModel.{values_of, play_of_values, is_model_of_values, first_is_first, first_none}
use Rattle.expansion.proofs.Leading.{wanted, LeadsAt, Playing, Leading}
use Rattle.expansion.proofs.LeadingPath.{play_at_own, fits_is_play, plays_agree_below}
use Rattle.expansion.proofs.LeadingCopies.{map_in, values_of_value_of, distinct_copies, LeadsAlong, never_parts}

-- A strategy wins exactly if it reaches the goal in each row.
pub wins_each : (ts : List Bool) (psi : List Bool → Bool) (σ : Strategy) (rows : List Row) → wins ts psi σ rows ≡ true
    → (row : Row) → In row rows → psi (play ts σ row) ≡ true
wins_each ts psi σ [] w row h = absurd h
wins_each ts psi σ (x ∷ rows) w row h =
    let both = (and-eq-true_iff (psi (play ts σ x)) (wins ts psi σ rows)).0 w in
    ⊎_elim (λ (e : row ≡ x). rw e both.0) (wins_each ts psi σ rows both.1 row) h

pub wins_all : (ts : List Bool) (psi : List Bool → Bool) (σ : Strategy) (rows : List Row) → ((row : Row) → In row rows → psi (play ts σ row) ≡ true)
    → wins ts psi σ rows ≡ true
wins_all ts psi σ [] h = refl
wins_all ts psi σ (x ∷ rows) h = rw (h x (inl refl)) (wins_all ts psi σ rows (λ row l. h row (inr l)))

-- A strategy that wins and leads along every row every other one that wins is the first model.
module _ (prefer : ℕ → Bool) (ts : List Bool) (psi : List Bool → Bool) (rows : List Row) (σ : Strategy) (win : wins ts psi σ rows ≡ true)
    (leads : (τ : Strategy) → wins ts psi τ rows ≡ true
    → (row : Row) → In row rows → LeadsAt (wanted prefer ts rows) ts row (play ts σ row) (play ts τ row)) where
  leads_along : (τ : Strategy) → wins ts psi τ rows ≡ true → (row : Row) → In row rows → LeadsAlong (wanted prefer ts rows) ts row σ τ
  leads_along τ w row h k own agree =
      let led = leads τ w row h k own (plays_agree_below ts σ τ row k own agree) in
      rw (← play_at_own ts σ row k own, ← play_at_own ts τ row k own) led

  first_is_values : (vs : List Bool) → IsFirst prefer (length (copies ts rows)) (is_model ts psi rows) vs → vs ≡ values_of ts rows σ
  unfolding is_model
  first_is_values vs first =
      let τ = strategy_of ts rows vs in
      let values = values_of ts rows σ in
      let back : values_of ts rows τ ≡ vs = values_of_value_of (copies ts rows) vs (distinct_copies ts rows) first.sized in
      let never : (i : ℕ) → PartsAt prefer vs values i → ⊥ =
      subst (λ (ws : List Bool). (i : ℕ) → PartsAt prefer ws values i → ⊥) back (never_parts prefer ts rows σ τ (leads_along τ first.passes)) in
      ⊎_elim (λ e. e) (λ p. absurd (never p.0 p.1))
      (first.leads values (length-map (copies ts rows) _) (is_model_of_values ts psi rows σ ∙ win))

  yielded_first : (o : Option (List Bool)) → first_model prefer ts psi rows ≡ o → yielded ts rows o ≡ some (map (yield ts σ) rows)
  yielded_first none e = absurd (never_both win (first_none prefer ts psi rows e σ))
  yielded_first (some vs) e =
      let values = values_of ts rows σ in
      let alike = map_in (yield ts (strategy_of ts rows values)) (yield ts σ) rows (λ row h. ap (part ts) (play_of_values ts rows σ row h)) in
      rw (first_is_values vs (first_is_first prefer ts psi rows vs e)) (ap {B = Option (List Row)} some alike)

  pub leading_strategy_is_first : yielded ts rows (first_model prefer ts psi rows) ≡ some (map (yield ts σ) rows)
  leading_strategy_is_first = yielded_first (first_model prefer ts psi rows) refl

-- The strategy of uniform plays: at a copy the value in the first play whose row has the restriction.
abbrev pub played : List Bool → List Row → List (List Bool) → Strategy
played ts [] plays k r = false
played ts (row ∷ rows) [] k r = false
played ts (row ∷ rows) (P ∷ plays) k r =
    let later = played ts rows plays k r in
    cond (same (restriction ts k row) r) (get_or P k false) later

-- Its value is that of a play whose row has the restriction, if there is such a row.
abbrev PlayedAt : List Bool → List Row → List (List Bool) → ℕ → Row → Type 0
PlayedAt ts rows plays k r = (j : ℕ)
    × (j < length rows) × (restriction ts k (get_or rows j []) ≡ r) × (played ts rows plays k r ≡ get_or (get_or plays j []) k false)

played_at : (ts : List Bool) (rows : List Row) (plays : List (List Bool)) (k : ℕ) (r : Row) (i : ℕ) → length plays ≡ length rows
    → i < length rows → restriction ts k (get_or rows i []) ≡ r → PlayedAt ts rows plays k r
played_at ts [] plays k r i size l e = absurd (omega arith)
played_at ts (row ∷ rows) [] k r i size l e = absurd (omega arith)
played_at ts (row ∷ rows) (P ∷ plays) k r zero size l e = (zero, omega arith, e, rw (e, same_refl r))
played_at ts (row ∷ rows) (P ∷ plays) k r (suc i) size l e =
    let p = played_at ts rows plays k r i (omega arith) (omega arith) e in
    ⊎_elim
    (λ (s : same (restriction ts k row) r ≡ true). (zero, omega arith, same_eq (restriction ts k row) r s, rw s))
    (λ (s : same (restriction ts k row) r ≡ false). (suc p.0, omega (arith, p.1), p.2, rw s p.3))
    (true_or_false (same (restriction ts k row) r))

each_by_place : (P : Row → Type 0) (rows : List Row) → ((i : ℕ) → i < length rows → P (get_or rows i [])) → (row : Row) → In row rows → P row
each_by_place P rows h row l =
    let p = place_of_in row rows [] l in
    subst P p.2 (h p.0 p.1)

map_by_place : (f g : List Bool → Row) (rows plays : List Row) → length plays ≡ length rows
    → ((i : ℕ) → i < length rows → f (get_or rows i []) ≡ g (get_or plays i [])) → map f rows ≡ map g plays
map_by_place f g [] [] size h = refl
map_by_place f g [] (P ∷ plays) size h = absurd (omega arith)
map_by_place f g (row ∷ rows) [] size h = absurd (omega arith)
map_by_place f g (row ∷ rows) (P ∷ plays) size h =
    let later = map_by_place f g rows plays (omega arith) (λ i l. h (suc i) (omega arith)) in
    ap₂ {C = List Row} (λ x xs. x ∷ xs) (h zero (omega arith)) later

module _ {ts : List Bool} {rows : List Row} {plays : List (List Bool)} (G : Playing ts rows plays) where
  pub play_of_played : (i : ℕ) → i < length rows → play ts (played ts rows plays) (get_or rows i []) ≡ get_or plays i []
  play_of_played i l = fits_is_play ts (played ts rows plays) (get_or rows i []) (get_or plays i []) (G.fits i l) own_values
    where
      own_values : (k : ℕ) → Own ts k → played ts rows plays k (restriction ts k (get_or rows i [])) ≡ get_or (get_or plays i []) k false
      own_values k own =
          let p = played_at ts rows plays k (restriction ts k (get_or rows i [])) i G.one_each l refl in
          p.3 ∙ G.uniform p.0 i k p.1 l own p.2

  -- It wins if the plays reach the goal.
  pub played_wins : (psi : List Bool → Bool) → ((i : ℕ) → i < length rows → psi (get_or plays i []) ≡ true) → wins ts psi (played ts rows plays) rows ≡ true
  played_wins psi reach =
      wins_all ts psi (played ts rows plays) rows
      (each_by_place (λ (row : Row). psi (play ts (played ts rows plays) row) ≡ true) rows (λ i l. rw (play_of_played i l) (reach i l)))

module _ {prefer : ℕ → Bool} {ts : List Bool} {psi : List Bool → Bool} {rows : List Row} {plays : List (List Bool)}
    (L : Leading prefer ts psi rows plays) where
  played_leads : (τ : Strategy) → wins ts psi τ rows ≡ true → (row : Row) → In row rows
      → LeadsAt (wanted prefer ts rows) ts row (play ts (played ts rows plays) row) (play ts τ row)
  played_leads τ w =
      each_by_place (λ (row : Row). LeadsAt (wanted prefer ts rows) ts row (play ts (played ts rows plays) row) (play ts τ row)) rows
      (λ i l. rw (play_of_played L.playing i l) (L.lead τ w i l))

  pub leading_is_first : yielded ts rows (first_model prefer ts psi rows) ≡ some (map (part ts) plays)
  leading_is_first =
      let σ = played ts rows plays in
      let parts = map_by_place (yield ts σ) (part ts) rows plays L.playing.one_each (λ i l. ap (part ts) (play_of_played L.playing i l)) in
      leading_strategy_is_first prefer ts psi rows σ (played_wins L.playing psi L.reach) played_leads ∙ ap {B = Option (List Row)} some parts
