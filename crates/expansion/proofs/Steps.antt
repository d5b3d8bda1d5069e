-- The steps of the tree search keep a node's record, and successes of its parts make a success of the node. Assumes nothing.
use Prim.Native.Nat.{ℕ, ◌+◌, ◌≤◌, ◌<◌}
use mathlib.Core.Path.{◌≡◌, sym, ◌∙◌, ap, subst}
use mathlib.Core.Logic.{◌⊎◌, inl, inr, ⊎_elim}
use mathlib.Core.Bool.{Bool, true, false}
use native.Mathlib.Omega.{arith}
use native.Mathlib.Decide.{ℕ_discrete, dec_le, dec_lt}
use Rattle.expansion.proofs.Booleans.{never_both}
use Rattle.expansion.proofs.Cuts.{Mask, Problem, Agree, Implied, SameBelow, below_or_last, agree_sym, agree_own, implied_larger, implied_later}
use Rattle.expansion.specs.Cells.{Cells}
use Rattle.expansion.proofs.Node.{Node, SameCell, Stored, MasksWithin, positive}

module _ (P : Problem) where
  -- ---- nodes

  -- a part of a group is a node of its own
  pub node_part : (k lo hi a e : ℕ) (v : ℕ → Bool) (T : Cells) (M : ℕ → Mask) → lo ≤ a → a < e → e ≤ hi → Node P k lo hi v T M → Node P k a e v T M
  node_part k lo hi a e v T M la ae eh N =
      record {
        some = ae;
        rows = let r : hi ≤ P.count = N.rows in omega arith;
        depth = N.depth;
        agree = λ i h p q r s. N.agree i h (omega arith) (omega arith) (omega arith) (omega arith);
        past = λ i j p q. N.past i j (omega arith) (omega arith);
        given = λ i j p q. N.given i j (omega arith) (omega arith);
        alike = λ i h j p q r s. N.alike i h j (omega arith) (omega arith) (omega arith) (omega arith);
        implied = λ i j p q. N.implied i j (omega arith) (omega arith);
        levels = λ i j p q. N.levels i j (omega arith) (omega arith);
      }

  -- the same cells in the group and larger masks: the same node
  pub node_same : (k lo hi : ℕ) (v : ℕ → Bool) (T U : Cells) (M N : ℕ → Mask) → ((i j : ℕ) → lo ≤ i → i < hi → SameCell T U i j) → MasksWithin k M N →
      Node P k lo hi v T M → Node P k lo hi v U N
  node_same k lo hi v T U M N same larger A =
      record {
        some = A.some;
        rows = A.rows;
        depth = A.depth;
        agree = A.agree;
        past = λ i j p q lt. let a : (0 < T.level i j) × (T.value i j ≡ v j) = A.past i j p q lt in (forth i j p q a.0, (same i j p q).1 a.0 ∙ a.1);
        given = λ i j p q lt o. let a : (0 < T.level i j) × (T.value i j ≡ P.given i j) = A.given i j p q lt o in
            (forth i j p q a.0, (same i j p q).1 a.0 ∙ a.1);
        alike = λ i h j p q r s lt o ag z.
            let a : (0 < T.level h j) × (T.value h j ≡ T.value i j) = A.alike i h j p q r s lt o ag (back i j p q z) in
            (forth h j r s a.0, (same h j r s).1 a.0 ∙ a.1 ∙ sym ((same i j p q).1 (back i j p q z)));
        implied = λ i j p q lt z.
            subst (λ (y : Bool). Implied P k v (N j) i j y) (sym ((same i j p q).1 (back i j p q z)))
            (implied_larger P k v (M j) (N j) i j (T.value i j) (larger j) (A.implied i j p q lt (back i j p q z)));
        levels = λ i j p q. subst (λ (x : ℕ). x ≤ k + 1) (sym (same i j p q).0) (A.levels i j p q);
      }
    where
      back : (i j : ℕ) → lo ≤ i → i < hi → 0 < U.level i j → 0 < T.level i j
      back i j p q z = let e : U.level i j ≡ T.level i j = (same i j p q).0 in omega arith

      forth : (i j : ℕ) → lo ≤ i → i < hi → 0 < T.level i j → 0 < U.level i j
      forth i j p q z = let e : U.level i j ≡ T.level i j = (same i j p q).0 in omega arith

  -- past a position that is set in all rows of the group, at which they have one value
  pub node_next : (k lo hi : ℕ) (v w : ℕ → Bool) (T : Cells) (M : ℕ → Mask) → k < P.n → SameBelow k v w →
      ((i : ℕ) → lo ≤ i → i < hi → (0 < T.level i k) × (T.value i k ≡ w k)) → ((i h : ℕ) → lo ≤ i → i < hi → lo ≤ h → h < hi → Agree P i h (k + 1)) →
      Node P k lo hi v T M → Node P (k + 1) lo hi w T M
  node_next k lo hi v w T M kn same at_k ag A =
      record {
        some = A.some;
        rows = A.rows;
        depth = omega arith;
        agree = ag;
        past = λ i j p q lt.
            ⊎_elim
            (λ b. let a : (0 < T.level i j) × (T.value i j ≡ v j) = A.past i j p q b in (a.0, a.1 ∙ same j b))
            (λ e. subst (λ (x : ℕ). (0 < T.level i x) × (T.value i x ≡ w x)) (sym e) (at_k i p q))
            (below_or_last j k lt);
        given = A.given;
        alike = A.alike;
        implied = λ i j p q lt z. implied_later P k (k + 1) v w (M j) i j (T.value i j) (omega arith) same (A.implied i j p q lt z);
        levels = λ i j p q. let z : T.level i j ≤ k + 1 = A.levels i j p q in omega arith;
      }

  -- a store of a whole copy leaves rows that share a copy alike, and the rows' own values
  module _ (k lo hi : ℕ) (v : ℕ → Bool) (T U : Cells) (M : ℕ → Mask) (s e p b : ℕ) (y : Bool) (A : Node P k lo hi v T M) (st : Stored s e p b y T U)
      (pn : p < P.n) (po : P.own p ≡ true) (pos : 0 < b)
      (closed : (i h : ℕ) → lo ≤ i → i < hi → lo ≤ h → h < hi → Agree P i h p → s ≤ i → i < e → (s ≤ h) × (h < e)) where
    stored_or_kept : (i j : ℕ) → ((s ≤ i) × (i < e) × (j ≡ p)) ⊎ ((s ≤ i) × (i < e) × (j ≡ p) → ⊥)
    stored_or_kept i j = go (dec_le s i) (dec_lt i e) (ℕ_discrete j p)
      where
        go : Dec (s ≤ i) → Dec (i < e) → Dec (j ≡ p) → ((s ≤ i) × (i < e) × (j ≡ p)) ⊎ ((s ≤ i) × (i < e) × (j ≡ p) → ⊥)
        go (yes a) (yes c) (yes d) = inl (a, c, d)
        go (yes a) (yes c) (no d) = inr (λ t. d t.2)
        go (yes a) (no c) d = inr (λ t. c t.1)
        go (no a) c d = inr (λ t. a t.0)

    stored_at : (i j : ℕ) → (s ≤ i) × (i < e) × (j ≡ p) → (U.level i j ≡ b) × (U.value i j ≡ y)
    stored_at i j t = subst (λ (x : ℕ). (U.level i x ≡ b) × (U.value i x ≡ y)) (sym t.2) (st.there i t.0 t.1)

    pub stored_given : (i j : ℕ) → lo ≤ i → i < hi → j < P.n → P.own j ≡ false → (0 < U.level i j) × (U.value i j ≡ P.given i j)
    stored_given i j q r lt o =
        let kept : (U.level i j ≡ T.level i j) × (U.value i j ≡ T.value i j) =
        st.elsewhere i j (λ t. never_both (ap P.own t.2 ∙ po) o) in
        (positive (U.level i j) (T.level i j) kept.0 (A.given i j q r lt o).0, kept.1 ∙ (A.given i j q r lt o).1)

    pub stored_alike : (i h j : ℕ) → lo ≤ i → i < hi → lo ≤ h → h < hi → j < P.n → P.own j ≡ true → Agree P i h j → 0 < U.level i j → (0 < U.level h j) ×
        (U.value h j ≡ U.value i j)
    stored_alike i h j q r q' r' lt o ag z = ⊎_elim new old (stored_or_kept i j)
      where
        new : (s ≤ i) × (i < e) × (j ≡ p) → (0 < U.level h j) × (U.value h j ≡ U.value i j)
        new t =
            let c : (s ≤ h) × (h < e) = closed i h q r q' r' (subst (λ (x : ℕ). Agree P i h x) t.2 ag) t.0 t.1 in
            let x : (U.level h j ≡ b) × (U.value h j ≡ y) = stored_at h j (c.0, c.1, t.2) in
            (positive (U.level h j) b x.0 pos, x.1 ∙ sym (stored_at i j t).1)

        old : ((s ≤ i) × (i < e) × (j ≡ p) → ⊥) → (0 < U.level h j) × (U.value h j ≡ U.value i j)
        old n =
            let kept : (U.level i j ≡ T.level i j) × (U.value i j ≡ T.value i j) = st.elsewhere i j n in
            let other : (U.level h j ≡ T.level h j) × (U.value h j ≡ T.value h j) =
            st.elsewhere h j (λ t. let c : (s ≤ i) × (i < e) = closed h i q' r' q r (subst (λ (x : ℕ). Agree P h i x) t.2 (agree_sym P i h j ag)) t.0
            t.1 in n (c.0, c.1, t.2)) in
            let a : (0 < T.level h j) × (T.value h j ≡ T.value i j) = A.alike i h j q r q' r' lt o ag
            (positive (T.level i j) (U.level i j) (sym kept.0) z) in
            (positive (U.level h j) (T.level h j) other.0 a.0, other.1 ∙ a.1 ∙ sym kept.1)

    -- a forced value, stored in all rows of its copy
    pub node_store : (N : ℕ → Mask) → MasksWithin k M N → b ≤ k + 1 → k ≤ p → ((i : ℕ) → lo ≤ i → i < hi → s ≤ i → i < e → Implied P k v (N p) i p y) →
        Node P k lo hi v U N
    node_store N larger bk kp forced =
        record {
          some = A.some;
          rows = A.rows;
          depth = A.depth;
          agree = A.agree;
          past = λ i j q r lt.
              let kept : (U.level i j ≡ T.level i j) × (U.value i j ≡ T.value i j) = st.elsewhere i j (λ t. let z : j ≡ p = t.2 in omega arith) in
              (positive (U.level i j) (T.level i j) kept.0 (A.past i j q r lt).0, kept.1 ∙ (A.past i j q r lt).1);
          given = stored_given;
          alike = stored_alike;
          implied = λ i j q r lt z. ⊎_elim (λ t. new i j q r t) (λ n. old i j q r lt z n) (stored_or_kept i j);
          levels = λ i j q r.
              ⊎_elim
              (λ t. let x : U.level i j ≡ b = (stored_at i j t).0 in omega arith)
              (λ n. let x : U.level i j ≡ T.level i j = (st.elsewhere i j n).0 in let w : T.level i j ≤ k + 1 = A.levels i j q r in omega arith)
              (stored_or_kept i j);
        }
      where
        new : (i j : ℕ) → lo ≤ i → i < hi → (s ≤ i) × (i < e) × (j ≡ p) → Implied P k v (N j) i j (U.value i j)
        new i j q r t =
            subst (λ (x : Bool). Implied P k v (N j) i j x) (sym (stored_at i j t).1)
            (subst (λ (x : ℕ). Implied P k v (N x) i x y) (sym t.2) (forced i q r t.0 t.1))

        old : (i j : ℕ) → lo ≤ i → i < hi → j < P.n → 0 < U.level i j → ((s ≤ i) × (i < e) × (j ≡ p) → ⊥) → Implied P k v (N j) i j (U.value i j)
        old i j q r lt z n =
            let kept : (U.level i j ≡ T.level i j) × (U.value i j ≡ T.value i j) = st.elsewhere i j n in
            subst (λ (x : Bool). Implied P k v (N j) i j x) (sym kept.1)
            (implied_larger P k v (M j) (N j) i j (T.value i j) (larger j) (A.implied i j q r lt (positive (T.level i j) (U.level i j) (sym kept.0) z)))

  -- a choice at position k: the value y in all rows of the group, resting on k itself
  pub node_decide : (k lo hi b : ℕ) (v w : ℕ → Bool) (y : Bool) (T U : Cells) (M N : ℕ → Mask) → Node P k lo hi v T M → k < P.n → P.own k ≡ true → 0 < b →
      b ≤ k + 2 → Stored lo hi k b y T U → SameBelow k v w → w k ≡ y → MasksWithin k M N → N k k ≡ true → Node P (k + 1) lo hi w U N
  node_decide k lo hi b v w y T U M N A kn ko pos bk st same wk larger names =
      record {
        some = A.some;
        rows = A.rows;
        depth = omega arith;
        agree = λ i h p q r s. agree_own P i h k ko (A.agree i h p q r s);
        past = λ i j p q lt. ⊎_elim (λ lk. early i j p q lk) (λ e. subst (λ (x : ℕ). (0 < U.level i x) × (U.value i x ≡ w x)) (sym e) (chosen i p q))
            (below_or_last j k lt);
        given = stored_given k lo hi v T U M lo hi k b y A st kn ko pos (λ i h p q r s ag a c. (r, s));
        alike = stored_alike k lo hi v T U M lo hi k b y A st kn ko pos (λ i h p q r s ag a c. (r, s));
        implied = λ i j p q lt z. implied_at i j p q lt z (ℕ_discrete j k);
        levels = λ i j p q. levels_at i j p q (ℕ_discrete j k);
      }
    where
      kept : (i j : ℕ) → (j ≡ k → ⊥) → (U.level i j ≡ T.level i j) × (U.value i j ≡ T.value i j)
      kept i j n = st.elsewhere i j (λ t. n t.2)

      early : (i j : ℕ) → lo ≤ i → i < hi → j < k → (0 < U.level i j) × (U.value i j ≡ w j)
      early i j p q lk =
          let same_cell : (U.level i j ≡ T.level i j) × (U.value i j ≡ T.value i j) = kept i j (λ e. omega arith) in
          (positive (U.level i j) (T.level i j) same_cell.0 (A.past i j p q lk).0, same_cell.1 ∙ (A.past i j p q lk).1 ∙ same j lk)

      chosen : (i : ℕ) → lo ≤ i → i < hi → (0 < U.level i k) × (U.value i k ≡ w k)
      chosen i p q = (positive (U.level i k) b (st.there i p q).0 pos, (st.there i p q).1 ∙ sym wk)

      implied_at : (i j : ℕ) → lo ≤ i → i < hi → j < P.n → 0 < U.level i j → Dec (j ≡ k) → Implied P (k + 1) w (N j) i j (U.value i j)
      implied_at i j p q lt z (yes e) =
          subst (λ (x : ℕ). Implied P (k + 1) w (N x) i x (U.value i x)) (sym e)
          (λ m M' heeds. heeds k (omega arith) names ∙ wk ∙ sym (st.there i p q).1)
      implied_at i j p q lt z (no n) =
          subst (λ (x : Bool). Implied P (k + 1) w (N j) i j x) (sym (kept i j n).1)
          (implied_later P k (k + 1) v w (N j) i j (T.value i j) (omega arith) same
          (implied_larger P k v (M j) (N j) i j (T.value i j) (larger j)
          (A.implied i j p q lt (positive (T.level i j) (U.level i j) (sym (kept i j n).0) z))))

      levels_at : (i j : ℕ) → lo ≤ i → i < hi → Dec (j ≡ k) → U.level i j ≤ k + 1 + 1
      levels_at i j p q (yes e) = let x : U.level i j ≡ b = ap (U.level i) e ∙ (st.there i p q).0 in omega arith
      levels_at i j p q (no n) = let x : U.level i j ≡ T.level i j = (kept i j n).0 in let z : T.level i j ≤ k + 1 = A.levels i j p q in omega arith
