-- Records are equal if their fields are.
-- Assumes nothing.
use Prim.Native.Nat.{ℕ}
use mathlib.Core.Path.{◌≡◌, ap, ap₂, ◌∙◌}
use Rattle.witness.specs.File.{made}

pub same_record : {a a' b b' c c' d d' e e' f f' g g' : ℕ} → a ≡ a' → b ≡ b' → c ≡ c' → d ≡ d' → e ≡ e' → f ≡ f' → g ≡ g'
    → made a b c d e f g ≡ made a' b' c' d' e' f' g'
same_record {a} {a'} {b} {b'} {c} {c'} {d} {d'} {e} {e'} {f} {f'} {g} {g'} p q r s t u v =
    ap₂ (λ (x y : ℕ). made x y c d e f g) p q
    ∙ ap₂ (λ (x y : ℕ). made a' b' x y e f g) r s
    ∙ ap₂ (λ (x y : ℕ). made a' b' c' d' x y g) t u
    ∙ ap (λ (x : ℕ). made a' b' c' d' e' f' x) v
