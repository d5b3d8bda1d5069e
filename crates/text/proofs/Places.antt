-- The table by name, as names are placed. Assumes nothing.
use Prim.Native.Nat.{ℕ, ◌+◌, ◌≤◌, ◌<◌}
use mathlib.Core.Path.{◌≡◌, refl, sym, ◌∙◌}
use mathlib.Core.Bool.{Bool, true, false, ◌||◌}
use mathlib.Core.List.{List, []}
use native.Mathlib.Numerals.{add-one}
use native.Mathlib.Omega.{arith}
use borrow.Author.Tests.{eqb-true, eqb-false}
use lib.Dec.{eqb}
use lib.ListN.{length, get_or, take, set, replicate, length-set, length-replicate, get_or-replicate}
use lib.Seq.{get_or-set_same, get_or-set_other, take-suc-set}
use Rattle.formula.specs.Meaning.{bit}
use Rattle.named.specs.Named.{max_places, among}
use Rattle.named.proofs.NameLaws.{among_behind}
use Rattle.text.specs.Reading.{max_variables}
use Rattle.text.specs.Private.Steps.{Marked}

-- Nothing is placed.
pub marked_none : (n : ℕ) → n ≡ max_places → Marked [] (replicate n 0)
marked_none n e = record { size = length-replicate n 0 ∙ e; right = λ v h. get_or-replicate n v 0 0 (omega arith) }

-- What a mark says.
pub mark_none : {names P : List ℕ} → Marked names P → (v : ℕ) → v ≤ max_variables → get_or P v 0 ≡ 0 → among v names ≡ false
mark_none {names} {P} m v small none = go (among v names) (m.right v small)
  where
    go : (b : Bool) → get_or P v 0 ≡ bit b → b ≡ false
    go true e = absurd (omega arith)
    go false e = refl

pub mark_some : {names P : List ℕ} → Marked names P → (v : ℕ) → v ≤ max_variables → (get_or P v 0 ≡ 0 → ⊥) → among v names ≡ true
mark_some {names} {P} m v small there = go (among v names) (m.right v small)
  where
    go : (b : Bool) → get_or P v 0 ≡ bit b → b ≡ true
    go true e = refl
    go false e = absurd (there e)

-- A name is placed.
pub marked_with : {names more P : List ℕ} → Marked names P → (v : ℕ) → v ≤ max_variables → ((w : ℕ) → among w more ≡ (eqb v w || among w names)) → Marked more (set P v 1)
marked_with {names} {more} {P} m v small has = record { size = simp length-set m.size; right = λ w h. go w h (eqb v w) refl (has w) }
  where
    go : (w : ℕ) → w ≤ max_variables → (t : Bool) → eqb v w ≡ t → among w more ≡ (eqb v w || among w names) → get_or (set P v 1) w 0 ≡ bit (among w more)
    go w h true e a = rw (a, e, ← eqb-true v w e) (get_or-set_same P v 1 0 (omega (arith, m.size)))
    go w h false e a = rw (a, e) (get_or-set_other P v w 1 0 (λ d. eqb-false v w e (sym d)) ∙ m.right w h)

pub marked_more : (N : List ℕ) {P : List ℕ} (n v : ℕ) → Marked (take n N) P → n < length N → v ≤ max_variables → Marked (take (n + 1) (set N n v)) (set P v 1)
marked_more N n v m h small =
    rw (add-one n, take-suc-set N n v h) (marked_with m v small (λ w. among_behind w v (take n N)))
