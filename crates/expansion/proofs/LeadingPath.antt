-- One row: a play by index has the strategy's values at the own positions and the row's at the others.
-- Assumes nothing.
use Prim.Native.Nat.{ℕ, zero, suc, ◌<◌}
use native.Mathlib.Omega.{arith}
use mathlib.Core.Path.{◌≡◌, refl, sym, ap, subst, ◌∙◌}
use mathlib.Core.Bool.{Bool, true, false, false≢true, true≢false}
use mathlib.Core.List.{List, [], ◌∷◌}
use mathlib.Core.Logic.{⊎_elim}
use lib.ListN.{length, get_or}
use lib.Seq.{ext_get_or}
use Rattle.expansion.specs.Play.{Row, first_value, later_values, restriction, Strategy, past_own, past_row, play}
use Rattle.expansion.proofs.Booleans.{true_or_false}
use Rattle.expansion.proofs.CopyLaws.{Own}
use Rattle.expansion.specs.Cells.{others_before}
use Rattle.expansion.proofs.Leading.{Fits}

-- A list's values by index are its first one and the later ones by index.
pub first_at : (P : List Bool) → get_or P zero false ≡ first_value P
first_at [] = refl
first_at (p ∷ P) = refl

pub later_at : (P : List Bool) (k : ℕ) → get_or P (suc k) false ≡ get_or (later_values P) k false
later_at [] k = refl
later_at (p ∷ P) k = refl

-- A play by index.
length_play : (ts : List Bool) (σ : Strategy) (row : Row) → length (play ts σ row) ≡ length ts
length_play [] σ row = refl
length_play (true ∷ ts) σ row = ap suc (length_play ts (past_own σ) row)
length_play (false ∷ ts) σ row = ap suc (length_play ts (past_row (first_value row) σ) (later_values row))

pub play_at_own : (ts : List Bool) (σ : Strategy) (row : Row) (k : ℕ) → Own ts k → get_or (play ts σ row) k false ≡ σ k (restriction ts k row)
play_at_own [] σ row k o = absurd (false≢true o)
play_at_own (true ∷ ts) σ row zero o = refl
play_at_own (true ∷ ts) σ row (suc k) o = play_at_own ts (past_own σ) row k o
play_at_own (false ∷ ts) σ row zero o = absurd (false≢true o)
play_at_own (false ∷ ts) σ row (suc k) o = play_at_own ts (past_row (first_value row) σ) (later_values row) k o

pub play_at_other : (ts : List Bool) (σ : Strategy) (row : Row) (k : ℕ) → k < length ts → get_or ts k false ≡ false
    → get_or (play ts σ row) k false ≡ get_or row (others_before ts k) false
play_at_other [] σ row k l o = absurd (omega arith)
play_at_other (true ∷ ts) σ row zero l o = absurd (true≢false o)
play_at_other (true ∷ ts) σ row (suc k) l o = play_at_other ts (past_own σ) row k (omega arith) o
play_at_other (false ∷ ts) σ row zero l o = sym (first_at row)
play_at_other (false ∷ ts) σ row (suc k) l o =
    play_at_other ts (past_row (first_value row) σ) (later_values row) k (omega arith) o ∙ sym (later_at row (others_before ts k))

-- What fits a row is the play of every strategy that has its own values along the row.
pub fits_is_play : (ts : List Bool) (σ : Strategy) (row : Row) (P : List Bool) → Fits ts row P
    → ((k : ℕ) → Own ts k → σ k (restriction ts k row) ≡ get_or P k false) → play ts σ row ≡ P
fits_is_play ts σ row P fits own = ext_get_or false (play ts σ row) P (length_play ts σ row ∙ sym fits.whole) alike
  where
    alike : (k : ℕ) → k < length (play ts σ row) → get_or (play ts σ row) k false ≡ get_or P k false
    alike k l =
        let m : k < length ts = subst (λ (n : ℕ). k < n) (length_play ts σ row) l in
        ⊎_elim
        (λ (o : Own ts k). play_at_own ts σ row k o ∙ own k o)
        (λ (o : get_or ts k false ≡ false). play_at_other ts σ row k m o ∙ sym (fits.row_values k m o))
        (true_or_false (get_or ts k false))

pub own_within : (ts : List Bool) (k : ℕ) → Own ts k → k < length ts
own_within [] k o = absurd (false≢true o)
own_within (t ∷ ts) zero o = omega arith
own_within (t ∷ ts) (suc k) o = let l = own_within ts k o in omega arith

-- Before an own position two plays agree if their strategies agree along the row.
pub plays_agree_below : (ts : List Bool) (σ τ : Strategy) (row : Row) (k : ℕ) → Own ts k
    → ((j : ℕ) → j < k → Own ts j → σ j (restriction ts j row) ≡ τ j (restriction ts j row))
    → (j : ℕ) → j < k → get_or (play ts σ row) j false ≡ get_or (play ts τ row) j false
plays_agree_below ts σ τ row k own agree j l =
    let m : j < length ts = omega (arith, own_within ts k own) in
    ⊎_elim
    (λ (o : Own ts j). play_at_own ts σ row j o ∙ agree j l o ∙ sym (play_at_own ts τ row j o))
    (λ (o : get_or ts j false ≡ false). play_at_other ts σ row j m o ∙ sym (play_at_other ts τ row j m o))
    (true_or_false (get_or ts j false))
