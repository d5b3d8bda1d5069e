-- Positions that stand: from position k to `at` every cell of the group is set already, and its rows agree. The node passes to `at`, and what
-- a search from there gives passes back to k. Assumes nothing.
use Prim.Native.Nat.{ℕ, ◌+◌, ◌≤◌, ◌<◌}
use mathlib.Core.Path.{◌≡◌, sym, ◌∙◌}
use mathlib.Core.Logic.{◌⊎◌, inl, inr, ⊎_elim}
use mathlib.Core.Bool.{Bool, true}
use native.Mathlib.Omega.{arith}
use native.Mathlib.Decide.{dec_lt}
use Rattle.expansion.proofs.Booleans.{true_or_false}
use Rattle.expansion.specs.Cells.{Values, Cells}
use Rattle.expansion.proofs.Cuts.{Mask, Problem, Agree, Model, Refuted, Within, SameBelow, agree_shorter, implied_later, heeds_smaller}
use Rattle.expansion.proofs.Node.{Node, Won, Grown, grown_keeps}
use Rattle.expansion.proofs.Success.{past_kept}

below_or_not : (j k : ℕ) → (j < k) ⊎ (k ≤ j)
below_or_not j k = go (dec_lt j k)
  where
    go : Dec (j < k) → (j < k) ⊎ (k ≤ j)
    go (yes p) = inl p
    go (no n) = inr (omega arith)

module _ (P : Problem) (k at lo hi : ℕ) (v : ℕ → Bool) (T : Cells) (M : ℕ → Mask) (A : Node P k lo hi v T M) (ka : k ≤ at) (an : at ≤ P.n)
    (agree : (i h : ℕ) → lo ≤ i → i < hi → lo ≤ h → h < hi → Agree P i h at) (stands : (i j : ℕ) → lo ≤ i → i < hi → k ≤ j → j < at → 0 < T.level i j) where
  -- the group's rows have one value at each position that stands
  stand_value : (i j : ℕ) → lo ≤ i → i < hi → k ≤ j → j < at → T.value i j ≡ T.value lo j
  stand_value i j p q kj ja =
      ⊎_elim
      (λ o. (A.alike lo i j (omega arith) (omega arith) p q (omega arith) o
      (agree_shorter P lo i at j (omega arith) (agree lo i (omega arith) (omega arith) p q)) (stands lo j (omega arith) (omega arith) kj ja)).1)
      (λ o. (A.given i j p q (omega arith) o).1 ∙ agree i lo p q (omega arith) (omega arith) j ja o ∙ sym
      (A.given lo j (omega arith) (omega arith) (omega arith) o).1)
      (true_or_false (P.own j))

  stand_same : SameBelow k v (T.value lo)
  stand_same l lt = sym (A.past lo l (omega arith) (omega arith) lt).1

  pub node_stand : Node P at lo hi (T.value lo) T M
  node_stand = record {
    some = A.some;
    rows = A.rows;
    depth = an;
    agree = agree;
    past = λ i j p q ja.
        ⊎_elim
        (λ jk. ((A.past i j p q jk).0, (A.past i j p q jk).1 ∙ stand_same j jk))
        (λ kj. (stands i j p q kj ja, stand_value i j p q kj ja))
        (below_or_not j k);
    given = A.given;
    alike = A.alike;
    implied = λ i j p q jn z. implied_later P k at v (T.value lo) (M j) i j (T.value i j) ka stand_same (A.implied i j p q jn z);
    levels = λ i j p q. let z : T.level i j ≤ k + 1 = A.levels i j p q in omega arith;
  }

  pub won_stand : (b a e : ℕ) (U : Cells) → Grown b a e T U → Won P at lo hi U → Won P k lo hi U
  won_stand b a e U g W = record {
    complete = W.complete;
    given = W.given;
    alike = W.alike;
    reaches = W.reaches;
    leads = λ m Mm i j p q kj jn o below. ⊎_elim (λ ja. inl (forced m Mm i j p q kj ja below)) (λ aj. W.leads m Mm i j p q aj jn o below) (below_or_not j at);
  }
    where
      forced : (m : Values) → Model P m → (i j : ℕ) → lo ≤ i → i < hi → k ≤ j → j < at → SameBelow j (m i) (U.value i) → m i j ≡ U.value i j
      forced m Mm i j p q kj ja below =
          A.implied i j p q (omega arith) (stands i j p q kj ja) m Mm (λ l lk d. below l (omega arith) ∙ past_kept P k lo hi b a e v T U M A g i l p q lk)
          ∙ sym (grown_keeps b a e T U g i j (stands i j p q kj ja)).1

  -- a failure that rests on a position that stands rests on what that position rests on
  pub refuted_stand : (D F : Mask) → Within k D F → ((l : ℕ) → k ≤ l → l < at → D l ≡ true → Within k (M l) F) → Refuted P at (T.value lo) D lo →
      Refuted P k v F lo
  refuted_stand D F inF why refuted m Mm heeds = refuted m Mm (λ l la d. ⊎_elim (λ lk. heeds l lk (inF l lk d) ∙ stand_same l lk) (λ kl. forced l kl la d)
      (below_or_not l k))
    where
      forced : (l : ℕ) → k ≤ l → l < at → D l ≡ true → m lo l ≡ T.value lo l
      forced l kl la d = A.implied lo l (omega arith) (omega arith) (omega arith) (stands lo l (omega arith) (omega arith) kl la) m Mm
          (heeds_smaller P m lo k v (M l) F (why l kl la d) heeds)
