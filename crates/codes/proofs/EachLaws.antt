-- Codes written entry by entry: those of the first i literals, and what was there behind them.
-- Assumes nothing.
use Prim.Native.Nat.{ℕ, ◌+◌, ◌≤◌, ◌<◌}
use native.Mathlib.Omega.{arith}
use native.Mathlib.Numerals.{add-one}
use mathlib.Core.Path.{◌≡◌, refl, sym, ◌∙◌, ap}
use mathlib.Core.List.{List, [], ◌∷◌, ◌++◌, map}
use lib.IntN.{ℤ, pos}
use lib.ListN.{length, get_or, take, drop, set, length-map}
use lib.Seq.{take-suc, length-take-le, append_snoc, set_at}
use Rattle.formula.proofs.Places.{drop_front}
use Rattle.codes.specs.Codes.{code_of}

abbrev pub Each : List ℤ → List ℕ → ℕ → List ℕ → Type 0
Each literals codes₀ i codes = codes ≡ map code_of (take i literals) ++ drop i codes₀

module _ (literals : List ℤ) (codes₀ : List ℕ) (room : length literals ≤ length codes₀) where
  map_one : (zs : List ℤ) (z : ℤ) → map code_of (zs ++ (z ∷ [])) ≡ map code_of zs ++ (code_of z ∷ [])
  map_one [] z = refl
  map_one (y ∷ zs) z = ap (λ (l : List ℕ). code_of y ∷ l) (map_one zs z)

  pub each_more : (i : ℕ) (codes : List ℕ) (v : ℕ) → i < length literals → Each literals codes₀ i codes → v ≡ code_of (get_or literals i (pos 0)) →
      Each literals codes₀ (i + 1) (set codes i v)
  each_more i codes v inside e by =
      ap (λ (l : List ℕ). set l i v) (e ∙ ap (λ (l : List ℕ). map code_of (take i literals) ++ l) (drop_front codes₀ i 0 (omega arith)))
      ∙ set_at (map code_of (take i literals)) (get_or codes₀ i 0) (drop (i + 1) codes₀) v i (length-map (take i literals) code_of ∙ length-take-le i literals
      (omega arith))
      ∙ ap (λ (x : ℕ). map code_of (take i literals) ++ (x ∷ drop (i + 1) codes₀)) by
      ∙ sym (append_snoc (map code_of (take i literals)) (code_of (get_or literals i (pos 0))) (drop (i + 1) codes₀))
      ∙ ap (λ (l : List ℕ). l ++ drop (i + 1) codes₀)
      (sym
      (ap (λ (n : ℕ). map code_of (take n literals)) (add-one i)
      ∙ ap (map code_of) (take-suc literals i (pos 0) inside)
      ∙ map_one (take i literals) (get_or literals i (pos 0))))
