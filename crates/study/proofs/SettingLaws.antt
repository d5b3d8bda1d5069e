-- A table of settings and the list that it stands for, place by place. Assumes nothing.
use Prim.Native.Nat.{ℕ, zero, suc, ◌+◌, ◌*◌, ◌/◌, ◌≤◌, ◌<◌}
use native.Mathlib.Omega.{arith}
use mathlib.Core.Path.{◌≡◌, refl, sym, ap, subst, ◌∙◌}
use mathlib.Core.Bool.{Bool, true, false, ◌||◌}
use mathlib.Core.List.{List, [], ◌∷◌}
use mathlib.Core.Logic.{inl, inr}
use mathlib.Core.Option.{some}
use lib.ListN.{length, get_or, drop, get_elem?, length-drop}
use lib.Seq.{get_or-drop, drop-drop}
use Rattle.formula.specs.Causes.{any}
use Rattle.study.specs.declared.Setting.{Setting}
use Rattle.study.specs.Study.{setting_from, settings_of}
use Rattle.study.specs.Private.Turns.{setting_at, Tells}

first_setting : (l : List ℕ) → 4 ≤ length l → settings_of l ≡ setting_from l ∷ settings_of (drop 4 l)
unfolding settings_of
first_setting [] h = absurd (omega arith)
first_setting (t ∷ []) h = absurd (omega arith)
first_setting (t ∷ p ∷ []) h = absurd (omega arith)
first_setting (t ∷ p ∷ k ∷ []) h = absurd (omega arith)
first_setting (t ∷ p ∷ k ∷ n ∷ rest) h = refl

none_left : (l : List ℕ) → length l < 4 → settings_of l ≡ []
unfolding settings_of
none_left [] h = refl
none_left (t ∷ []) h = refl
none_left (t ∷ p ∷ []) h = refl
none_left (t ∷ p ∷ k ∷ []) h = refl
none_left (t ∷ p ∷ k ∷ n ∷ rest) h = absurd (omega arith)

pub length_settings : (l : List ℕ) → length (settings_of l) ≡ length l / 4
unfolding settings_of
length_settings [] = refl
length_settings (t ∷ []) = refl
length_settings (t ∷ p ∷ []) = refl
length_settings (t ∷ p ∷ k ∷ []) = refl
length_settings (t ∷ p ∷ k ∷ n ∷ rest) = let later = length_settings rest in omega arith

module _ (l : List ℕ) (i : ℕ) where
  pub next_setting : i < length l / 4 → settings_of (drop (4 * i) l) ≡ setting_at l i ∷ settings_of (drop (4 * (i + 1)) l)
  next_setting h =
      let four : 4 ≤ length (drop (4 * i) l) = omega (arith, length-drop (4 * i) l) in
      let next : 4 * i + 4 ≡ 4 * (i + 1) = omega arith in
      first_setting (drop (4 * i) l) four
      ∙ ap (λ (m : List ℕ). setting_at l i ∷ settings_of m) (drop-drop 4 (4 * i) l ∙ ap (λ (k : ℕ). drop k l) next)

  past_settings : length l / 4 ≤ i → settings_of (drop (4 * i) l) ≡ []
  past_settings h = none_left (drop (4 * i) l) (omega (arith, length-drop (4 * i) l))

  -- The four numbers, read from the table.
  pub read_setting : (s : Setting) → s.trim ≡ get_or l (4 * i) 0 → s.preference ≡ get_or l (4 * i + 1) 0 → s.clearing ≡ get_or l (4 * i + 2) 0
      → s.limit ≡ get_or l (4 * i + 3) 0 → s ≡ setting_at l i
  read_setting s on_trim on_preference on_clearing on_limit =
      let first : 4 * i ≡ 4 * i + 0 = omega arith in
      let to_trim = on_trim ∙ ap (λ (k : ℕ). get_or l k 0) first ∙ sym (get_or-drop (4 * i) l 0 0) in
      let to_preference = on_preference ∙ sym (get_or-drop (4 * i) l 1 0) in
      let to_clearing = on_clearing ∙ sym (get_or-drop (4 * i) l 2 0) in
      let to_limit = on_limit ∙ sym (get_or-drop (4 * i) l 3 0) in
      λ d. record { trim = to_trim d; preference = to_preference d; clearing = to_clearing d; limit = to_limit d }

  -- What a test tells of the settings from a place on.
  module _ (told : Setting → Bool → Type 0) where
    pub told_here : i < length l / 4 → (s : Setting) → s ≡ setting_at l i → told s true → Tells told (settings_of (drop (4 * i) l)) true
    unfolding Tells
    told_here h s read passes = subst (λ (ss : List Setting). Tells told ss true) (sym (next_setting h))
        (inl (subst (λ (t : Setting). told t true) read passes, refl))

    pub told_next : i < length l / 4 → (s : Setting) → s ≡ setting_at l i → told s false → (r : Bool) → Tells told (settings_of (drop (4 * (i + 1)) l)) r
        → Tells told (settings_of (drop (4 * i) l)) r
    unfolding Tells
    told_next h s read fails r later = subst (λ (ss : List Setting). Tells told ss r) (sym (next_setting h))
        (inr (subst (λ (t : Setting). told t false) read fails, later))

    pub told_past : length l / 4 ≤ i → Tells told (settings_of (drop (4 * i) l)) false
    unfolding Tells
    told_past h = subst (λ (ss : List Setting). Tells told ss false) (sym (past_settings h)) refl

-- What is told of a test that says of each setting what the definition says.
pub any_told : (told : Setting → Bool → Type 0) (test : Setting → Bool) → ((s : Setting) (b : Bool) → told s b → b ≡ test s) → (ss : List Setting) (r : Bool)
    → Tells told ss r → any test ss ≡ r
unfolding Tells
any_told told test so [] r e = sym e
any_told told test so (s ∷ ss) r (inl here) = ap (λ (b : Bool). b || any test ss) (sym (so s true here.0)) ∙ sym here.1
any_told told test so (s ∷ ss) r (inr later) = ap (λ (b : Bool). b || any test ss) (sym (so s false later.0)) ∙ any_told told test so ss r later.1

pub setting_there : (l : List ℕ) (i : ℕ) → i < length l / 4 → get_elem? (settings_of l) i ≡ some (setting_at l i)
setting_there l zero h = ap (λ (ss : List Setting). get_elem? ss zero) (first_setting l (omega arith))
setting_there l (suc i) h =
    let four : 4 ≤ length l = omega arith in
    let next : 4 + 4 * i ≡ 4 * suc i = omega arith in
    ap (λ (ss : List Setting). get_elem? ss (suc i)) (first_setting l four)
    ∙ setting_there (drop 4 l) i (omega (arith, length-drop 4 l))
    ∙ ap (λ (m : List ℕ). some (setting_from m)) (drop-drop (4 * i) 4 l ∙ ap (λ (k : ℕ). drop k l) next)
