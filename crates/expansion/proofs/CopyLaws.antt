-- Copies: over given rows each own unknown has one for each row's restriction, and the values that a strategy gives to copies, looked up by copy,
-- are the strategy's.
-- Assumes nothing.
use Prim.Native.Nat.{ℕ, zero, suc, ◌+◌}
use native.Mathlib.Omega.{arith}
use mathlib.Core.Path.{◌≡◌, refl, ap, ap₂}
use mathlib.Core.Bool.{Bool, true, false, ◌&&◌, and-eq-true_iff, false≢true}
use mathlib.Core.List.{List, [], ◌∷◌, map}
use mathlib.Core.Logic.{⊎_elim}
use lib.Dec.{eqb}
use lib.ListN.{get_or}
use borrow.Author.Tests.{eqb-true, eq-eqb}
use Rattle.expansion.specs.Play.{Row, Strategy, play, restriction, past_own, past_row, first_value, later_values}
use Rattle.expansion.specs.Copies.{same, fresh, Copy, copy_at, copies_at, copies_from, copies, value_of}
use Rattle.expansion.proofs.Booleans.{true_or_false, never_both}
use Rattle.expansion.proofs.Membership.{In, in_append_left, in_append_right, in_map, in_fresh, same_refl, same_eq}

-- The unknown at position k is an own one.
abbrev pub Own : List Bool → ℕ → Type 0
Own ts k = get_or ts k false ≡ true

-- An own unknown's copy for the restriction of a row is among the copies.
in_copies_at : (ts : List Bool) (rows : List Row) (row : Row) (k : ℕ) → In row rows → In (copy_at k (restriction ts k row)) (copies_at ts rows k)
in_copies_at ts rows row k h =
    let restrictions = map (restriction ts k) rows in
    let r = restriction ts k row in
    in_map (copy_at k) r (fresh [] restrictions) (in_fresh r [] restrictions (in_map (restriction ts k) row rows h) (λ none. none))

-- Of the positions that are left k is the first, and the own one is the j-th of them, at position p.
in_copies_from : (ts : List Bool) (rows : List Row) (row : Row) → In row rows → (left : List Bool) (k j p : ℕ) → k + j ≡ p → Own left j
    → In (copy_at p (restriction ts p row)) (copies_from ts rows k left)
in_copies_from ts rows row h [] k j p e o = absurd (false≢true o)
in_copies_from ts rows row h (true ∷ left) k zero p e o =
    let here : k ≡ p = omega arith in
    let c = copy_at p (restriction ts p row) in
    in_append_left c (copies_at ts rows k) (copies_from ts rows (suc k) left) (rw here (in_copies_at ts rows row p h))
in_copies_from ts rows row h (false ∷ left) k zero p e o = absurd (false≢true o)
in_copies_from ts rows row h (true ∷ left) k (suc j) p e o =
    let c = copy_at p (restriction ts p row) in
    let later : suc k + j ≡ p = omega arith in
    in_append_right c (copies_at ts rows k) (copies_from ts rows (suc k) left) (in_copies_from ts rows row h left (suc k) j p later o)
in_copies_from ts rows row h (false ∷ left) k (suc j) p e o =
    let later : suc k + j ≡ p = omega arith in
    in_copies_from ts rows row h left (suc k) j p later o

pub in_copies : (ts : List Bool) (rows : List Row) (row : Row) (k : ℕ) → In row rows → Own ts k
    → In (copy_at k (restriction ts k row)) (copies ts rows)
unfolding copies
in_copies ts rows row k h o = in_copies_from ts rows row h ts zero k k (omega arith) o

-- The values that a strategy gives to copies, by number.
abbrev pub values_at : List Copy → Strategy → List Bool
values_at cs σ = map (λ c. σ c.position c.restricted) cs

-- The test by which a copy is looked up.
pub copy_eq : (c : Copy) (k : ℕ) (r : Row) → eqb c.position k && same c.restricted r ≡ true → c ≡ copy_at k r
copy_eq c k r p =
    let both = (and-eq-true_iff (eqb c.position k) (same c.restricted r)).0 p in
    ap₂ copy_at (eqb-true c.position k both.0) (same_eq c.restricted r both.1)

pub copy_found : (k : ℕ) (r : Row) → eqb k k && same r r ≡ true
copy_found k r = rw (eq-eqb k k refl) (same_refl r)

-- A copy's value among a strategy's values is the strategy's, whichever of equal copies is found.
pub value_of_values : (cs : List Copy) (σ : Strategy) (k : ℕ) (r : Row) → In (copy_at k r) cs → value_of cs (values_at cs σ) k r ≡ σ k r
value_of_values [] σ k r h = absurd h
value_of_values (c ∷ cs) σ k r h =
    let test = eqb c.position k && same c.restricted r in
    let not_first : test ≡ false → copy_at k r ≡ c → ⊥ = λ p e. never_both (copy_found k r) (rw (← e) at p) in
    let later : test ≡ false → value_of cs (values_at cs σ) k r ≡ σ k r = λ p. ⊎_elim (λ e. absurd (not_first p e)) (value_of_values cs σ k r) h in
    ⊎_elim
    (λ (p : test ≡ true). rw p (ap (λ c. σ c.position c.restricted) (copy_eq c k r p)))
    (λ (p : test ≡ false). rw p (later p))
    (true_or_false test)

-- What is played depends on the strategy only at the own unknowns, and there only at the row's own restrictions.
pub play_agree : (ts : List Bool) (σ τ : Strategy) (row : Row)
    → ((k : ℕ) → Own ts k → σ k (restriction ts k row) ≡ τ k (restriction ts k row)) → play ts σ row ≡ play ts τ row
play_agree [] σ τ row h = refl
play_agree (true ∷ ts) σ τ row h =
    let behind = play_agree ts (past_own σ) (past_own τ) row (λ k o. h (suc k) o) in
    ap₂ {C = List Bool} (λ v vs. v ∷ vs) (h zero refl) behind
play_agree (false ∷ ts) σ τ row h =
    let b = first_value row in
    let behind = play_agree ts (past_row b σ) (past_row b τ) (later_values row) (λ k o. h (suc k) o) in
    ap {B = List Bool} (λ vs. b ∷ vs) behind
