-- A walk that marks one clause of a table: at its end the entries before are kept, and the clause is marked.
-- Assumes nothing.
use Prim.Native.Nat.{ℕ, ◌+◌, ◌≤◌, ◌<◌}
use native.Mathlib.Numerals.{add-one}
use mathlib.Core.Path.{◌≡◌, sym, ◌∙◌, ap}
use mathlib.Core.Bool.{Bool, true, cond, ◌||◌}
use mathlib.Core.List.{List, [], ◌∷◌, ◌++◌}
use lib.ListN.{length, get_or, take, drop, set}
use lib.Seq.{set_split}
use Rattle.formula.proofs.Places.{drop_front}
use Rattle.trimming_marks.specs.Marks.{ends, marked, mark_clause}

module _ (t : List ℕ) (i : ℕ) (inside : i < length t) where
  front : drop i t ≡ get_or t i 0 ∷ drop (i + 1) t
  front = drop_front t i 0 inside

  -- the entry is rewritten
  module _ (low high v : ℕ) (by : v ≡ marked low high (get_or t i 0)) where
    pub mark_end : ends (get_or t i 0) ≡ true → set t i v ≡ take i t ++ mark_clause low high (drop i t)
    mark_end e =
        set_split t i v inside
        ∙ ap (λ (n : ℕ). take i t ++ (v ∷ drop n t)) (sym (add-one i))
        ∙ ap (λ (x : ℕ). take i t ++ (x ∷ drop (i + 1) t)) by
        ∙ sym (ap (λ (l : List ℕ). take i t ++ mark_clause low high l) front ∙ ap
        (λ (b : Bool). take i t ++ (marked low high (get_or t i 0) ∷ cond b (drop (i + 1) t) (mark_clause low high (drop (i + 1) t)))) e)
