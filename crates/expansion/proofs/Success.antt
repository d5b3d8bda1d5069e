-- Successes of a node's parts make a success of the node. Assumes nothing.
use Prim.Native.Nat.{ℕ, ◌+◌, ◌≤◌, ◌<◌}
use mathlib.Core.Path.{◌≡◌, sym, ◌∙◌, ap, subst}
use mathlib.Core.Logic.{◌⊎◌, inl, inr, ⊎_elim}
use mathlib.Core.Bool.{Bool, true, false, not}
use native.Mathlib.Omega.{arith}
use native.Mathlib.Nat.{eq-or-lt_of_le}
use native.Mathlib.Decide.{dec_lt}
use Rattle.expansion.proofs.Booleans.{never_both}
use Rattle.expansion.specs.Cells.{Values, Cells}
use Rattle.expansion.proofs.Cuts.{Mask, Problem, Agree, Sound, Model, Refuted, SameBelow, other_value, below_or_last, agree_sym}
use Rattle.expansion.proofs.Node.{Node, Won, Grown, positive, grown_keeps}

module _ (P : Problem) where
  -- the values of a node's rows before its position, also after the table has grown
  pub past_kept : (k lo hi b a e : ℕ) (v : ℕ → Bool) (T U : Cells) (M : ℕ → Mask) → Node P k lo hi v T M → Grown b a e T U → (i j : ℕ) → lo ≤ i → i < hi →
      j < k → U.value i j ≡ v j
  past_kept k lo hi b a e v T U M A g i j p q lt = (grown_keeps b a e T U g i j (A.past i j p q lt).0).1 ∙ (A.past i j p q lt).1

  -- past the last position: the goal of the first row's values is the goal of all
  pub won_leaf : (lo hi : ℕ) (v : ℕ → Bool) (T : Cells) (M : ℕ → Mask) → Sound P → Node P P.n lo hi v T M → P.goal (T.value lo) ≡ true →
      Won P P.n lo hi T
  won_leaf lo hi v T M S A win =
      record {
        complete = λ i j p q lt. (A.past i j p q lt).0;
        given = λ i j p q lt o. (A.given i j p q lt o).1;
        alike = λ i h j p q r s lt o ag. (A.alike i h j p q r s lt o ag (A.past i j p q lt).0).1;
        reaches = λ i p q. S.goal_of_values (T.value lo) (T.value i) (λ j lt. (A.past lo j (omega arith) (let z : lo < hi = A.some in omega arith) lt).1 ∙
            sym (A.past i j p q lt).1) win;
        leads = λ m Mm i j p q kj lt o same. absurd (omega arith);
      }

  -- past a position at which the rows have the wanted value
  pub won_wanted : (k lo hi : ℕ) (U : Cells) → ((i : ℕ) → lo ≤ i → i < hi → U.value i k ≡ P.wanted i k) → Won P (k + 1) lo hi U → Won P k lo hi U
  won_wanted k lo hi U wants W =
      record {
        complete = W.complete;
        given = W.given;
        alike = W.alike;
        reaches = W.reaches;
        leads = λ m Mm i j p q kj lt o same.
            ⊎_elim
            (λ eq. inr (subst (λ (x : ℕ). U.value i x ≡ P.wanted i x) eq (wants i p q)))
            (λ later. W.leads m Mm i j p q (omega arith) lt o same)
            (eq-or-lt_of_le kj);
      }

  -- past a position at which the rows have the other value, the first being refuted
  pub won_other : (k lo hi : ℕ) (v w : ℕ → Bool) (D : Mask) (U : Cells) → k < P.n → ((i : ℕ) → lo ≤ i → i < hi → Refuted P (k + 1) w D i) → SameBelow k v w →
      ((i j : ℕ) → lo ≤ i → i < hi → j < k → U.value i j ≡ v j) → ((i : ℕ) → lo ≤ i → i < hi → U.value i k ≡ not (w k)) → Won P (k + 1) lo hi U →
      Won P k lo hi U
  won_other k lo hi v w D U kn refuted same past other W =
      record {
        complete = W.complete;
        given = W.given;
        alike = W.alike;
        reaches = W.reaches;
        leads = λ m Mm i j p q kj lt o below. ⊎_elim (λ eq. inl (at_k m Mm i j p q below (sym eq))) (λ later. W.leads m Mm i j p q (omega arith) lt o below)
            (eq-or-lt_of_le kj);
      }
    where
      at_k : (m : Values) → Model P m → (i j : ℕ) → lo ≤ i → i < hi → SameBelow j (m i) (U.value i) → j ≡ k → m i j ≡ U.value i j
      at_k m Mm i j p q below e =
          subst (λ (x : ℕ). m i x ≡ U.value i x) (sym e)
          (other_value (m i k) (w k) (λ eq. refuted i p q m Mm (λ l lt d.
          ⊎_elim
          (λ lk. below l (omega arith) ∙ past i l p q lk ∙ same l lk)
          (λ lk. subst (λ (x : ℕ). m i x ≡ w x) (sym lk) eq)
          (below_or_last l k lt)))
          ∙ sym (other i p q))

  -- past a position of the rows: the rows that differ there share no copy behind it
  pub won_parts : (k lo mid hi : ℕ) (v : ℕ → Bool) (U : Cells) → k < P.n → P.own k ≡ false → ((i j : ℕ) → lo ≤ i → i < hi → j < k → U.value i j ≡ v j) →
      ((i h : ℕ) → lo ≤ i → i < mid → mid ≤ h → h < hi → P.given i k ≡ P.given h k → ⊥) → Won P (k + 1) lo mid U → Won P (k + 1) mid hi U → Won P k lo hi U
  won_parts k lo mid hi v U kn ko past differ A B =
      record {
        complete = λ i j p q lt. ⊎_elim (λ c. A.complete i j p c lt) (λ c. B.complete i j c q lt) (side i);
        given = λ i j p q lt o. ⊎_elim (λ c. A.given i j p c lt o) (λ c. B.given i j c q lt o) (side i);
        alike = λ i h j p q r s lt o ag.
            ⊎_elim
            (λ c. ⊎_elim (λ d. A.alike i h j p c r d lt o ag) (λ d. sym (apart h i j r s p q d c o (agree_sym P i h j ag))) (side h))
            (λ c. ⊎_elim (λ d. apart i h j p q r s c d o ag) (λ d. B.alike i h j c q d s lt o ag) (side h))
            (side i);
        reaches = λ i p q. ⊎_elim (λ c. A.reaches i p c) (λ c. B.reaches i c q) (side i);
        leads = λ m Mm i j p q kj lt o below.
            ⊎_elim
            (λ eq. absurd (never_both o (ap P.own (sym eq) ∙ ko)))
            (λ later. ⊎_elim (λ c. A.leads m Mm i j p c (omega arith) lt o below) (λ c. B.leads m Mm i j c q (omega arith) lt o below) (side i))
            (eq-or-lt_of_le kj);
      }
    where
      side : (i : ℕ) → (i < mid) ⊎ (mid ≤ i)
      side i = go (dec_lt i mid)
        where
          go : Dec (i < mid) → (i < mid) ⊎ (mid ≤ i)
          go (yes p) = inl p
          go (no n) = inr (omega arith)

      -- rows of the two parts share a copy only before position k
      apart : (i h j : ℕ) → lo ≤ i → i < hi → lo ≤ h → h < hi → mid ≤ i → h < mid → P.own j ≡ true → Agree P i h j → U.value h j ≡ U.value i j
      apart i h j p q r s c d o ag = go (dec_lt j k)
        where
          go : Dec (j < k) → U.value h j ≡ U.value i j
          go (yes lt) = past h j r s lt ∙ sym (past i j p q lt)
          go (no n) =
              ⊎_elim
              (λ eq. absurd (never_both o (ap P.own (sym eq) ∙ ko)))
              (λ lt. absurd (differ h i r d c q (sym (ag k lt ko))))
              (eq-or-lt_of_le (let z : k ≤ j = omega arith in z))

  -- a success stays while the group's cells stay
  pub won_kept : (k lo hi b a e : ℕ) (T U : Cells) → Grown b a e T U → Won P k lo hi T → Sound P → Won P k lo hi U
  won_kept k lo hi b a e T U g W S =
      record {
        complete = λ i j p q lt. positive (U.level i j) (T.level i j) (keeps i j p q lt).0 (W.complete i j p q lt);
        given = λ i j p q lt o. (keeps i j p q lt).1 ∙ W.given i j p q lt o;
        alike = λ i h j p q r s lt o ag. (keeps h j r s lt).1 ∙ W.alike i h j p q r s lt o ag ∙ sym (keeps i j p q lt).1;
        reaches = λ i p q. S.goal_of_values (T.value i) (U.value i) (λ j lt. sym (keeps i j p q lt).1) (W.reaches i p q);
        leads = λ m Mm i j p q kj lt o below.
            ⊎_elim
            (λ x. inl (x ∙ sym (keeps i j p q lt).1))
            (λ x. inr ((keeps i j p q lt).1 ∙ x))
            (W.leads m Mm i j p q kj lt o (λ l lj. below l lj ∙ (keeps i l p q (omega arith)).1));
      }
    where
      keeps : (i j : ℕ) → lo ≤ i → i < hi → j < P.n → (U.level i j ≡ T.level i j) × (U.value i j ≡ T.value i j)
      keeps i j p q lt = grown_keeps b a e T U g i j (W.complete i j p q lt)
