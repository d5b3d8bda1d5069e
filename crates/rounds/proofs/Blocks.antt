-- The first block of a prefix: a side that has no model over some rows, and has one over those of them that begin otherwise than vs, does not
-- reach what it wants where the block is set to vs. Assumes nothing.
use Prim.Native.Nat.{ℕ, zero, suc, ◌≤◌}
use native.Mathlib.Omega.{arith}
use mathlib.Core.Path.{◌≡◌, refl, sym, ap, subst, ◌∙◌}
use mathlib.Core.Bool.{Bool, true, false, ◌&&◌, beq, and-eq-true_iff, false≢true}
use mathlib.Core.List.{List, [], ◌∷◌, ◌++◌}
use mathlib.Core.Logic.{inl, inr}
use mathlib.Core.Option.{none}
use lib.ListN.{length, take, drop}
use Rattle.formula.specs.Formula.{Kind, existential, universal}
use Rattle.formula.specs.Causes.{count}
use Rattle.formula.specs.Meaning.{after}
use Rattle.expansion.specs.Side.{flags, goal}
use Rattle.expansion.specs.OtherSide.{other}
use Rattle.expansion.specs.Play.{Row, Strategy, first_value, later_values, past_own, past_row, play, yield}
use Rattle.expansion.specs.Model.{wins, search}
use Rattle.expansion.proofs.Booleans.{never_both, false_if_not_true}
use Rattle.expansion.proofs.Membership.{In}
use Rattle.expansion.proofs.Game.{game, reaches, game_of_side}
use Rattle.expansion.proofs.Soundness.{sound}
use Rattle.expansion.proofs.Progress.{wins_each}
use Rattle.expansion.proofs.Verdict.{search_none}
use Rattle.expansion.proofs.Counting.{Sized}
use Rattle.rounds.specs.Opening.{block, last_row, first_values, set_to}

-- A row begins with some values.
abbrev pub begins : List Bool → Row → Bool
begins [] r = true
begins (v ∷ vs) r = beq v (first_value r) && begins vs (later_values r)

-- The first unknowns, one for each of some values, are the other side's.
abbrev pub Before : List Bool → List Bool → Type 0
Before [] ts = Unit {0}
Before (v ∷ vs) [] = ⊥
Before (v ∷ vs) (true ∷ ts) = ⊥
Before (v ∷ vs) (false ∷ ts) = Before vs ts

-- Behind a front unknown of the other side: τ against rows that begin with v, σ against the others.
abbrev joined : Bool → Strategy → Strategy → Strategy
joined v τ σ zero r = σ zero r
joined v τ σ (suc k) [] = σ (suc k) []
joined true τ σ (suc k) (true ∷ r) = τ k r
joined true τ σ (suc k) (false ∷ r) = σ (suc k) (false ∷ r)
joined false τ σ (suc k) (true ∷ r) = σ (suc k) (true ∷ r)
joined false τ σ (suc k) (false ∷ r) = τ k r

and_false_right : (a b : Bool) → b ≡ false → a && b ≡ false
and_false_right true b e = e
and_false_right false b e = refl

and_false_left : (a b : Bool) → a ≡ false → a && b ≡ false
and_false_left true b e = absurd (false≢true (sym e))
and_false_left false b e = refl

each_row : (v : Bool) (ts : List Bool) (psi : List Bool → Bool) (τ σ : Strategy) (r : Row)
    → (first_value r ≡ v → psi (v ∷ play ts τ (later_values r)) ≡ true) → (beq v (first_value r) ≡ false → psi (play (false ∷ ts) σ r) ≡ true)
    → psi (play (false ∷ ts) (joined v τ σ) r) ≡ true
each_row v ts psi τ σ r inside outside = go v (first_value r) inside outside
  where
    go : (v c : Bool) → (c ≡ v → psi (v ∷ play ts τ (later_values r)) ≡ true) →
        (beq v c ≡ false → psi (c ∷ play ts (past_row c σ) (later_values r)) ≡ true)
        → psi (c ∷ play ts (past_row c (joined v τ σ)) (later_values r)) ≡ true
    go true true i o = i refl
    go true false i o = o refl
    go false true i o = o refl
    go false false i o = i refl

-- A strategy wins over the rows in P that begin otherwise, and the game behind the block is won: so one wins over all rows in P.
won_apart : (vs ts : List Bool) (psi : List Bool → Bool) (P : Row → Type 0) (σ : Strategy) → Before vs ts
    → game (drop (length vs) ts) (set_to vs psi) ≡ true → ((r : Row) → P r → begins vs r ≡ false → psi (play ts σ r) ≡ true)
    → (τ : Strategy) × ((r : Row) → P r → psi (play ts τ r) ≡ true)
won_apart [] ts psi P σ b won apart =
    let s = sound ts psi won in
    (s.0, λ r h. wins_each ts psi s.0 (r ∷ []) (s.1 (r ∷ [])) r (inl refl))
won_apart (v ∷ vs) [] psi P σ b won apart = absurd b
won_apart (v ∷ vs) (true ∷ ts) psi P σ b won apart = absurd b
won_apart (v ∷ vs) (false ∷ ts) psi P σ b won apart =
    let behind = won_apart vs ts (after v psi) (λ q. (r : Row) × P r × (first_value r ≡ v) × (later_values r ≡ q)) (past_row v σ) b won outside in (
      joined v behind.0 σ,
      λ r h. each_row v ts psi behind.0 σ r (λ p. behind.1 (later_values r) (r, h, p, refl))
          (λ n. apart r h (and_false_left (beq v (first_value r)) (begins vs (later_values r)) n)),
    )
  where
    outside : (q : Row) → ((r : Row) × P r × (first_value r ≡ v) × (later_values r ≡ q)) → begins vs q ≡ false → psi (v ∷ play ts (past_row v σ) q) ≡ true
    outside q (r, h, p, e) n =
        subst (λ (l : Row). psi (v ∷ play ts (past_row v σ) l) ≡ true) e
        (subst (λ (c : Bool). psi (c ∷ play ts (past_row c σ) (later_values r)) ≡ true) p
        (apart r h (and_false_right (beq v (first_value r)) (begins vs (later_values r)) (subst (λ (l : Row). begins vs l ≡ false) (sym e) n))))

-- The flags behind the block are those of the prefix behind it.
drop_flags : (side : Kind) (m : ℕ) (ks : List Kind) → drop m (flags side ks) ≡ flags side (drop m ks)
drop_flags side zero ks = refl
drop_flags side (suc m) [] = refl
drop_flags side (suc m) (k ∷ ks) = drop_flags side m ks

-- The goal over a matrix with values set is the goal with them set.
goal_set : (side : Kind) (vs : List Bool) (phi : List Bool → Bool) → set_to vs (goal side phi) ≡ goal side (set_to vs phi)
goal_set existential vs phi = refl
goal_set universal vs phi = refl

wins_all : (ts : List Bool) (psi : List Bool → Bool) (σ : Strategy) (rows : List Row) → ((r : Row) → In r rows → psi (play ts σ r) ≡ true) →
    wins ts psi σ rows ≡ true
wins_all ts psi σ [] h = refl
wins_all ts psi σ (x ∷ rows) h = (and-eq-true_iff (psi (play ts σ x)) (wins ts psi σ rows)).1 (h x (inl refl), wins_all ts psi σ rows (λ r l. h r (inr l)))

-- So the side does not reach what it wants where the block is set to vs.
pub set_not_reached : (prefer : ℕ → Bool) (side : Kind) (ks : List Kind) (phi : List Bool → Bool) (rows : List Row) (σ : Strategy) (vs : List Bool)
    → Before vs (flags side ks) → ((r : Row) → In r rows → begins vs r ≡ false → goal side phi (play (flags side ks) σ r) ≡ true)
    → search prefer side ks phi rows ≡ none → reaches side (drop (length vs) ks) (set_to vs phi) ≡ false
set_not_reached prefer side ks phi rows σ vs b apart none_found = false_if_not_true (reaches side (drop (length vs) ks) (set_to vs phi)) not_reached
  where
    not_reached : reaches side (drop (length vs) ks) (set_to vs phi) ≡ true → ⊥
    not_reached won =
        let game_won : game (drop (length vs) (flags side ks)) (set_to vs (goal side phi)) ≡ true =
        ap (λ (ts : List Bool). game ts (set_to vs (goal side phi))) (drop_flags side (length vs) ks)
        ∙ ap (game (flags side (drop (length vs) ks))) (goal_set side vs phi)
        ∙ game_of_side side (drop (length vs) ks) (set_to vs phi)
        ∙ won in
        let τ = won_apart vs (flags side ks) (goal side phi) (λ r. In r rows) σ b game_won apart in
        never_both (wins_all (flags side ks) (goal side phi) τ.0 rows τ.1) ((search_none prefer side ks phi rows).0 none_found τ.0)

-- What a strategy yields begins with the same values, whatever the row: the block's copies depend on nothing.
pub same_start : (side : Kind) (ks : List Kind) (σ : Strategy) (r s : Row) →
    take (block side ks) (yield (flags side ks) σ r) ≡ take (block side ks) (yield (flags side ks) σ s)
same_start side [] σ r s = refl
same_start existential (existential ∷ ks) σ r s = ap (λ (vs : List Bool). σ zero [] ∷ vs) (same_start existential ks (past_own σ) r s)
same_start existential (universal ∷ ks) σ r s = refl
same_start universal (existential ∷ ks) σ r s = refl
same_start universal (universal ∷ ks) σ r s = ap (λ (vs : List Bool). σ zero [] ∷ vs) (same_start universal ks (past_own σ) r s)

-- The block's unknowns are the other side's for the other side.
pub block_before : (side : Kind) (ks : List Kind) (row : Row) → Before (take (block side ks) row) (flags (other side) ks)
block_before side [] row = tt
block_before existential (existential ∷ ks) [] = tt
block_before existential (existential ∷ ks) (b ∷ row) = block_before existential ks row
block_before existential (universal ∷ ks) row = tt
block_before universal (existential ∷ ks) row = tt
block_before universal (universal ∷ ks) [] = tt
block_before universal (universal ∷ ks) (b ∷ row) = block_before universal ks row

beq_refl : (b : Bool) → beq b b ≡ true
beq_refl true = refl
beq_refl false = refl

-- A row begins with its own first values.
pub begins_take : (m : ℕ) (row : Row) → begins (take m row) row ≡ true
begins_take zero row = refl
begins_take (suc m) [] = refl
begins_take (suc m) (b ∷ row) = (and-eq-true_iff (beq b b) (begins (take m row) row)).1 (beq_refl b, begins_take m row)

last_append : (xs : List Row) (y : Row) (ys : List Row) → last_row (xs ++ (y ∷ ys)) ≡ last_row (y ∷ ys)
last_append [] y ys = refl
last_append (x ∷ []) y ys = refl
last_append (x ∷ z ∷ xs) y ys = last_append (z ∷ xs) y ys

last_in : (x : Row) (xs : List Row) → In (last_row (x ∷ xs)) (x ∷ xs)
last_in x [] = inl refl
last_in x (y ∷ xs) = inr (last_in y xs)

-- The last row of a list with more behind it is one of those.
pub last_behind : (xs ys : List Row) → (ys ≡ [] → ⊥) → In (last_row (xs ++ ys)) ys
last_behind xs [] some = absurd (some refl)
last_behind xs (y ∷ ys) some = subst (λ (r : Row). In r (y ∷ ys)) (sym (last_append xs y ys)) (last_in y ys)

-- A block's unknowns are of its side.
pub block_at_most : (side : Kind) (ks : List Kind) → block side ks ≤ count side ks
block_at_most side [] = omega arith
block_at_most existential (existential ∷ ks) = let later = block_at_most existential ks in omega arith
block_at_most existential (universal ∷ ks) = omega arith
block_at_most universal (existential ∷ ks) = omega arith
block_at_most universal (universal ∷ ks) = let later = block_at_most universal ks in omega arith

length_take : (m : ℕ) (row : Row) → m ≤ length row → length (take m row) ≡ m
length_take zero row h = refl
length_take (suc m) [] h = absurd (omega arith)
length_take (suc m) (b ∷ row) h = ap suc (length_take m row (omega arith))

-- The first values are those of the whole block.
pub length_first_values : (side : Kind) (ks : List Kind) (xs : List Row) (y : Row) → In y xs → Sized (count side ks) xs
    → length (first_values side ks xs) ≡ block side ks
length_first_values side ks [] y h sized = absurd h
length_first_values side ks (x ∷ xs) y h sized =
    let most = block_at_most side ks in
    length_take (block side ks) (last_row (x ∷ xs)) (omega (arith, sized (last_row (x ∷ xs)) (last_in x xs)))
