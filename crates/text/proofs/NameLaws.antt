-- The words of prefix and clause lines, taken from the left into tables. Assumes nothing.
use Prim.Native.Nat.{ℕ, zero, suc, ◌+◌, ◌≤◌, ◌<◌}
use mathlib.Core.Path.{◌≡◌, refl, ◌∙◌}
use mathlib.Core.Bool.{Bool, true, false, cond}
use mathlib.Core.List.{List, ◌∷◌}
use native.Mathlib.Numerals.{add-one}
use native.Mathlib.Omega.{arith}
use borrow.Author.Tests.{ne_eqb, ltb-true, ltb-false}
use lib.Dec.{ltb}
use lib.ListN.{length, take, set}
use lib.Seq.{take-suc-set}
use Rattle.formula.specs.Formula.{max_unknowns, max_entries}
use Rattle.lines.specs.Lines.{Bytes}
use Rattle.lines.specs.Numbers.{number, unsigned, is_zero}
use Rattle.named.specs.Named.{among}
use Rattle.text.specs.Reading.{State, Step, unless, name_cause, with_prefix, bind, bind_all, room_cause, has_place, literal_cause}

pub refused_alike : (cause : ℕ) → (cause ≡ 0 → ⊥) → (t u : Step) → unless cause t ≡ unless cause u
refused_alike zero h t u = absurd (h refl)
refused_alike (suc c) h t u = refl

-- A name with no cause is at most V and not bound, and there is room for it.
pub name_cause_zero : (variables : ℕ) (names : List ℕ) (v : ℕ) → name_cause variables names v ≡ 0 → (v ≤ variables) × (length names < max_unknowns) × (among v names ≡ false)
unfolding name_cause
name_cause_zero variables names v h = go (ltb variables v) (among v names) (ltb (length names) max_unknowns) refl refl refl h
  where
    go : (a b c : Bool) → ltb variables v ≡ a → among v names ≡ b → ltb (length names) max_unknowns ≡ c → ◌≡◌ {A = ℕ} (cond a 11 (cond b 12 (cond c 0 14))) 0
        → (v ≤ variables) × (length names < max_unknowns) × (among v names ≡ false)
    go true b c p e q h = absurd (omega arith)
    go false true c p e q h = absurd (omega arith)
    go false false true p e q h = (ltb-false variables v p, ltb-true (length names) max_unknowns q, e)
    go false false false p e q h = absurd (omega arith)

pub room_cause_zero : (used : ℕ) → room_cause used ≡ 0 → used < max_entries
room_cause_zero used h = go (ltb used max_entries) refl h
  where
    go : (t : Bool) → ltb used max_entries ≡ t → ◌≡◌ {A = ℕ} (cond t 0 14) 0 → used < max_entries
    go true q h = ltb-true used max_entries q
    go false q h = absurd (omega arith)

pub literal_cause_zero : (variables : ℕ) (names : List ℕ) (used : ℕ) (w : Bytes) → literal_cause variables names used w ≡ 0 → used < max_entries
unfolding literal_cause
literal_cause_zero variables names used w h = go (is_zero w) (ltb variables (number (unsigned w))) (has_place names (number (unsigned w))) h
  where
    go : (a b c : Bool) → ◌≡◌ {A = ℕ} (cond a (room_cause used) (cond b 11 (cond c (room_cause used) 14))) 0 → used < max_entries
    go true b c h = room_cause_zero used h
    go false true c h = absurd (omega arith)
    go false false true h = room_cause_zero used h
    go false false false h = absurd (omega arith)

module _ (kind count v : ℕ) (K N : List ℕ) (w : Bytes) (ws : List Bytes) (value : v ≡ number w) (s : State) where
  module _ (variables cause : ℕ) (same : s.variables ≡ variables) (found : cause ≡ name_cause variables (take count N) v) (some : v ≡ 0 → ⊥) where
    bind_step : bind_all kind (with_prefix s (take count K) (take count N)) (w ∷ ws)
        ≡ unless cause (bind_all kind (bind kind (with_prefix s (take count K) (take count N)) v) ws)
    bind_step = rw (← value, ne_eqb v 0 some, found, ← same) refl

    pub bind_taken : cause ≡ 0 → count < length K → count < length N
        → bind_all kind (with_prefix s (take count K) (take count N)) (w ∷ ws)
        ≡ bind_all kind (with_prefix s (take (count + 1) (set K count kind)) (take (count + 1) (set N count v))) ws
    bind_taken h k n = bind_step ∙ rw (h, add-one, take-suc-set K count kind k, take-suc-set N count v n) refl
