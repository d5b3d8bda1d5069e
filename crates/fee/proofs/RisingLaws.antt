-- Whether first rounds rise, as a loop over neighbours finds it. Assumes nothing.
use Prim.Native.Nat.{ℕ, ◌-◌, ◌≤◌}
use native.Mathlib.Omega.{arith}
use mathlib.Core.Path.{◌≡◌, refl, sym, ◌∙◌}
use mathlib.Core.Bool.{Bool, true, ◌&&◌, and-true}
use mathlib.Core.List.{List, [], ◌∷◌}
use lib.ListN.{length, drop, length-drop}
use Rattle.fee.specs.Bands.{rises}

module _ (fs : List ℕ) where
  -- `rising` says whether those up to the one before place i rise.
  module _ (rising : Bool) (i : ℕ) (seen : rises fs ≡ (rising && rises (drop (i - 1) fs))) where
    pub all_seen : length fs ≤ i → rising ≡ rises fs
    all_seen past = sym (seen ∙ rw (short (drop (i - 1) fs) (simp length-drop (omega arith))) (and-true rising))
      where
        short : (l : List ℕ) → length l ≤ 1 → rises l ≡ true
        short [] h = refl
        short (f ∷ []) h = refl
        short (f ∷ g ∷ gs) h = absurd (omega arith)
