-- Steps of a search follow one another: propagated after propagated, and the pieces of which a search of a group is made.
-- Assumes nothing.
use Prim.Native.Nat.{ℕ, ◌≤◌, ◌<◌}
use mathlib.Core.Path.{◌≡◌, refl, sym, ◌∙◌, ap, subst}
use mathlib.Core.Bool.{Bool, true, false, cond}
use mathlib.Core.List.{List}
use native.Mathlib.Omega.{arith}
use native.Mathlib.Decide.{ℕ_discrete, dec_lt}
use borrow.Author.Tests.{lt-ltb, le-ltb}
use Rattle.formula.specs.Formula.{max_unknowns}
use Rattle.expansion.proofs.Booleans.{never_both}
use Rattle.expansion.proofs.Cuts.{Mask, Problem}
use Rattle.expansion.proofs.Node.{Node, MasksWithin, grown_refl, grown_trans}
use Rattle.expansion.proofs.Steps.{node_same}
use Rattle.search_cells.specs.Cells.{cells}
use Rattle.search_cells.specs.Private.Changes.{SameWants}
use Rattle.search_sets.specs.Private.Masks.{set_at, masks, SetGrown, SetsKept}
use Rattle.engine.specs.Private.Steps.{Propagated, Propagates}

-- ---- masks

pub masks_below : (s : List ℕ) (p : ℕ) → p < max_unknowns → masks s p ≡ set_at s p
unfolding masks
masks_below s p lt = ap (λ (b : Bool). cond {A = Mask} b (set_at s p) (λ l. false)) (lt-ltb p max_unknowns lt)

masks_behind : (s : List ℕ) (p : ℕ) → max_unknowns ≤ p → masks s p ≡ (λ (l : ℕ). false)
unfolding masks
masks_behind s p le = ap (λ (b : Bool). cond {A = Mask} b (set_at s p) (λ l. false)) (le-ltb p max_unknowns le)

-- what no set of a position loses, no mask loses
pub masks_within : (k : ℕ) (s t : List ℕ) → ((p : ℕ) → p < max_unknowns → (l : ℕ) → l < k → set_at s p l ≡ true → set_at t p l ≡ true) →
    MasksWithin k (masks s) (masks t)
masks_within k s t keeps p l lk h = go (dec_lt p max_unknowns)
  where
    go : Dec (p < max_unknowns) → masks t p l ≡ true
    go (yes lt) = ap (λ (m : Mask). m l) (masks_below t p lt) ∙ keeps p lt l lk (sym (ap (λ (m : Mask). m l) (masks_below s p lt)) ∙ h)
    go (no n) = absurd (never_both h (ap (λ (m : Mask). m l) (masks_behind s p (omega arith))))

pub within_refl : (k : ℕ) (M : ℕ → Mask) → MasksWithin k M M
within_refl k M p l lk h = h

pub within_trans : (k : ℕ) (L M N : ℕ → Mask) → MasksWithin k L M → MasksWithin k M N → MasksWithin k L N
within_trans k L M N a b p l lk h = b p l lk (a p l lk h)

pub within_shorter : (k j : ℕ) (M N : ℕ → Mask) → k ≤ j → MasksWithin j M N → MasksWithin k M N
within_shorter k j M N le a p l lk h = a p l (omega arith) h

pub masks_grown : (k to : ℕ) (s t : List ℕ) → SetGrown to s t → MasksWithin k (masks s) (masks t)
masks_grown k to s t g = masks_within k s t (λ p lt l lk h. go p l h (ℕ_discrete p to))
  where
    go : (p l : ℕ) → set_at s p l ≡ true → Dec (p ≡ to) → set_at t p l ≡ true
    go p l h (yes e) = subst (λ (q : ℕ). set_at t q l ≡ true) (sym e) (g.keeps l (subst (λ (q : ℕ). set_at s q l ≡ true) e h))
    go p l h (no n) = g.others p n l ∙ h

pub masks_kept : (k : ℕ) (s t : List ℕ) → SetsKept s t → MasksWithin k (masks s) (masks t)
masks_kept k s t g = masks_within k s t (λ p lt l lk h. g.same p lt l ∙ h)

pub wants_trans : (w u x : List ℕ) → SameWants w u → SameWants u x → SameWants w x
wants_trans w u x a b i k = b i k ∙ a i k

-- ---- propagated after propagated

pub propagated_refl : (P : Problem) (k lo hi : ℕ) (v : ℕ → Bool) (level : ℕ) (w s t : List ℕ) → Node P k lo hi v (cells w) (masks s) →
    MasksWithin k (masks s) (masks t) → Propagated P k lo hi v level w w s t true
propagated_refl P k lo hi v level w s t A m = record {
  grown = grown_refl level lo hi (cells w);
  wanted = λ i j. refl;
  masked = m;
  kept = λ e. node_same P k lo hi v (cells w) (cells w) (masks s) (masks t) (λ i j p q. (refl, λ h. refl)) m A;
  failed = λ e. absurd (never_both refl e);
}

pub propagated_then : (P : Problem) (k lo hi : ℕ) (v : ℕ → Bool) (level : ℕ) (w u x s t y : List ℕ) (r : Bool) → 0 < level → Propagated P k lo hi v level w
    u s t true →
    (Node P k lo hi v (cells u) (masks t) → Propagated P k lo hi v level u x t y r) → Propagated P k lo hi v level w x s y r
propagated_then P k lo hi v level w u x s t y r pos a b =
    let c : Propagated P k lo hi v level u x t y r = b (a.kept refl) in
    record {
      grown = grown_trans level lo hi (cells w) (cells u) (cells x) pos a.grown c.grown;
      wanted = wants_trans w u x a.wanted c.wanted;
      masked = within_trans k (masks s) (masks t) (masks y) a.masked c.masked;
      kept = c.kept;
      failed = c.failed;
    }

-- the same of steps over every problem
pub propagates_refl : (side : ℕ) (differences codes : List ℕ) (lo hi level : ℕ) (w s t : List ℕ) → ((k : ℕ) → MasksWithin k (masks s) (masks t)) →
    Propagates side differences codes lo hi level w w s t true
propagates_refl side differences codes lo hi level w s t m P kinds k v F A pos le = propagated_refl P k lo hi v level w s t A (m k)

pub propagates_then : (side : ℕ) (differences codes : List ℕ) (lo hi level : ℕ) (w u x s t y : List ℕ) (r : Bool) → Propagates side differences codes lo hi
    level w u s t true →
    Propagates side differences codes lo hi level u x t y r → Propagates side differences codes lo hi level w x s y r
propagates_then side differences codes lo hi level w u x s t y r a b P kinds k v F A pos le =
    propagated_then P k lo hi v level w u x s t y r pos (a P kinds k v F A pos le) (λ N. b P kinds k v F N pos le)
