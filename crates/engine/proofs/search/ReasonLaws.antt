-- A conflict whose set is that of a shorter reason: the reason refutes the row in every group that has it. Assumes nothing.
use Prim.Native.Nat.{ℕ, ◌-◌, ◌≤◌, ◌<◌}
use mathlib.Core.Path.{◌≡◌, refl, sym, ◌∙◌, ap, ap₂}
use mathlib.Core.Logic.{inl, inr, ⊎_elim}
use mathlib.Core.Bool.{Bool, true, false, cond}
use mathlib.Core.List.{List}
use native.Mathlib.Omega.{arith}
use native.Mathlib.Decide.{dec_lt}
use borrow.Author.Tests.{lt-ltb, le-ltb}
use lib.Dec.{ltb}
use lib.ListN.{length}
use Rattle.formula.specs.Formula.{max_unknowns}
use Rattle.expansion.specs.Cells.{Values}
use Rattle.expansion.proofs.Booleans.{never_both}
use Rattle.expansion.proofs.Cuts.{Mask, Problem, Model, Refuted, refuted_row}
use Rattle.expansion.proofs.Node.{Node}
use Rattle.codes.specs.Private.Clauses.{Coded}
use Rattle.search_cells.specs.Cells.{cells}
use Rattle.search_sets.specs.Sets.{sets_size, emptied, united_words}
use Rattle.search_sets.specs.Private.Masks.{words, set_at, masks, conflict, SetsKept}
use Rattle.search_sets.proofs.MaskLaws.{words_none, kept_trans, kept_grown}
use Rattle.engine.specs.Private.Reasons.{Fixed, IsReason, Shorter}
use Rattle.engine.specs.Private.Held.{Same}
use Rattle.engine.proofs.search.HeldSteps.{same_trans, same_kept}
use Rattle.engine.specs.Private.Steps.{Fits, Propagates, Shortened}
use Rattle.engine.proofs.search.CallLaws.{empties, unites_words}
use Rattle.engine.proofs.search.StepLaws.{masks_below, masks_kept, within_trans}
use Rattle.engine.proofs.search.PropagationLaws.{goal_matrix, conflict_is}

module _ (P : Problem) (kinds differences codes : List ℕ) (F : Fits P kinds differences codes 0) (coded : Coded max_unknowns codes) (k lo hi : ℕ) (v : ℕ → Bool)
    (w s : List ℕ) (A : Node P k lo hi v (cells w) (masks s))
    (i : ℕ) (il : lo ≤ i) (ih : i < hi) where
  -- a model's values of the row, and the table's behind the unknowns
  of_model : (ℕ → Bool) → ℕ → Bool
  of_model m j = cond (ltb j P.n) (m j) ((cells w).value i j)

  below_is : (m : ℕ → Bool) (j : ℕ) → j < P.n → of_model m j ≡ m j
  unfolding of_model
  below_is m j lt = ap (λ (b : Bool). cond b (m j) ((cells w).value i j)) (lt-ltb j P.n lt)

  behind_is : (m : ℕ → Bool) (j : ℕ) → P.n ≤ j → of_model m j ≡ (cells w).value i j
  unfolding of_model
  behind_is m j le = ap (λ (b : Bool). cond b (m j) ((cells w).value i j)) (le-ltb j P.n le)

  -- what is reached by no decision is so in every model
  fixed_is : (u : List ℕ) → SetsKept s u → (m : Values) → Model P m → (j : ℕ) → j < max_unknowns → Fixed w u i j → of_model (m i) j ≡ (cells w).value i j
  fixed_is u kept m M j small fixed = go (dec_lt j P.n)
    where
      empty : (l : ℕ) → set_at s j l ≡ false
      empty l = sym (kept.same j small l) ∙ ap₂ (λ (a b : ℕ). words a b l) fixed.low fixed.high ∙ words_none l

      go : Dec (j < P.n) → of_model (m i) j ≡ (cells w).value i j
      go (yes lt) =
          below_is (m i) j lt
          ∙ A.implied i j il ih lt fixed.set m M (λ l lk h. absurd (never_both (sym (ap (λ (x : Mask). x l) (masks_below s j small)) ∙ h) (empty l)))
      go (no n) = behind_is (m i) j (omega arith)

  reason_refutes : (u : List ℕ) (b : ℕ) (D : Mask) → SetsKept s u → b ≤ k → IsReason codes w u i b D → Refuted P k v D i
  reason_refutes u b D kept le reason m M heeds =
      never_both
      (sym (goal_matrix P kinds differences codes F (of_model (m i))) ∙ F.sound.goal_of_values (m i) (of_model (m i)) (λ j lt. sym (below_is (m i) j lt))
      (M.reaches i below))
      (reason.denies (of_model (m i)) (fixed_is u kept m M) there)
    where
      below : i < P.count
      below = let r : hi ≤ P.count = A.rows in omega arith

      there : (l : ℕ) → l < b → D l ≡ true → of_model (m i) l ≡ (cells w).value i l
      there l lt d =
          let deep : k ≤ P.n = A.depth in
          below_is (m i) l (omega arith) ∙ heeds l (omega arith) d ∙ sym (A.past i l il ih (omega arith)).1

-- After a conflict that has its set, a shorter reason may take its place.
pub propagates_shortened : (differences codes : List ℕ) → Coded max_unknowns codes → (lo hi level : ℕ) (w s s1 t : List ℕ) (i : ℕ) → lo ≤ i → i < hi →
    SetsKept s s1
    → Propagates 0 differences codes lo hi level w w s s1 false → Shortened codes w i level s1 t → Propagates 0 differences codes lo hi level w w s t false
propagates_shortened differences codes coded lo hi level w s s1 t i il ih kept propagates shortened P kinds k v F A pos most =
    let before = propagates P kinds k v F A pos most in
    record {
      grown = before.grown;
      wanted = before.wanted;
      masked = within_trans k (masks s) (masks s1) (masks t) before.masked (masks_kept k s1 t shortened.kept);
      kept = λ e. absurd (never_both e refl);
      failed = λ e. ⊎_elim (λ same m M heeds. before.failed refl m M (λ l lk d. heeds l lk (same l ∙ d))) (λ new. refuted new.0 new.1 (new.2 coded))
          shortened.reason;
    }
  where
    some : lo < hi
    some = A.some

    refuted : (u : List ℕ) → SetsKept s1 u → IsReason codes w u i (level - 1) (conflict t) → Refuted P k v (conflict t) lo
    refuted u same reason =
        let rows : hi ≤ P.count = A.rows in
        refuted_row P i lo k v (conflict t) (omega arith) (omega arith) A.depth (A.agree i lo il ih (omega arith) (omega arith))
        (reason_refutes P kinds differences codes F coded k lo hi v w s A i il ih u (level - 1) (conflict t) (kept_trans kept same) (omega arith) reason)

-- ---- what a look for a reason leaves

conflict_at : (t : List ℕ) (l : ℕ) → conflict t l ≡ set_at t max_unknowns l
conflict_at t l = ap (λ (m : Mask). m l) (conflict_is t)

pub shortened_none : (codes w : List ℕ) (i level : ℕ) (s t : List ℕ) → Same s t → Shortened codes w i level s t
shortened_none codes w i level s t same = record {
  kept = same_kept same;
  reason = inl (λ l. conflict_at t l ∙ same.same max_unknowns (omega arith) l ∙ sym (conflict_at s l));
}

pub shortened_new : (codes w : List ℕ) (i level k low high : ℕ) (found : Bool) (s s1 s2 s3 t : List ℕ) → Same s s1 → Same s1 s2 → length s2 ≡ sets_size →
    length s3 ≡ sets_size
    → k ≡ level - 1 → Shorter codes w s1 i k found low high → found ≡ true → s3 ≡ emptied s2 max_unknowns → t ≡ united_words s3 max_unknowns low high →
    Shortened
    codes w i level s t
shortened_new codes w i level k low high found s s1 s2 s3 t first second size size' ek shorter is_found ee eu =
    let united = unites_words s3 size' max_unknowns low high (omega arith) eu in
    record {
      kept = kept_trans (same_kept (same_trans first second)) (kept_trans (empties s2 size max_unknowns (omega arith) (omega arith) ee)
          (kept_grown (omega arith) united.grown));
      reason = inr (
        s1,
        same_kept first,
        λ coded. record {
          denies = λ f keeps heeds. (shorter.reason coded is_found).denies f keeps (λ l lt d. heeds l (omega arith) (conflict_at t l ∙ united.takes l d));
        },
      );
    }
