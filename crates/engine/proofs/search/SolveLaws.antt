-- The pieces of a search of a group: a trial of one value, a decision between two, a split, the end, and the positions that stand.
-- Assumes nothing.
use Prim.Native.Nat.{ℕ, zero, suc, ◌+◌, ◌≤◌, ◌<◌}
use mathlib.Core.Path.{◌≡◌, refl, sym, ◌∙◌, ap, subst}
use mathlib.Core.Logic.{◌⊎◌, inl, inr, ⊎_elim}
use mathlib.Core.Bool.{Bool, true, false, not, cond}
use mathlib.Core.List.{List}
use native.Mathlib.Omega.{arith}
use native.Mathlib.Decide.{ℕ_discrete, dec_lt}
use borrow.Author.Tests.{eq-eqb, ne_eqb}
use lib.ListN.{length, get_or}
use Rattle.formula.specs.Formula.{max_unknowns}
use Rattle.expansion.proofs.Booleans.{true_or_false, never_both}
use Rattle.expansion.proofs.Cuts.{Mask, Problem, Agree, Refuted, Within, SameBelow, agree_own, agree_given, agree_shorter, refuted_without, refuted_both}
use Rattle.expansion.proofs.Cuts.{refuted_row, refuted_given}
use Rattle.expansion.proofs.Node.{Node, Won, SameCell, Grown, MasksWithin, grown_outside, grown_refl, grown_trans, grown_wider, grown_stored, grown_keeps}
use Rattle.expansion.proofs.Node.{cleared_back}
use Rattle.expansion.proofs.Steps.{node_part, node_same, node_next, node_decide}
use Rattle.expansion.proofs.Success.{past_kept, won_leaf, won_wanted, won_other, won_parts, won_kept}
use Rattle.expansion.proofs.Stand.{node_stand, won_stand, refuted_stand}
use Rattle.search_cells.specs.Cells.{cells, wants}
use Rattle.search_cells.specs.Private.Changes.{SameWants, CellsSet, CellsOpened}
use Rattle.search_sets.specs.Private.Masks.{set_at, masks, conflict, SetGrown, Trimmed, Resolved}
use Rattle.engine.specs.Private.Steps.{Fits, Propagated, Searched, with_value, Tried, Reached}
use Rattle.search_groups.specs.Private.Parts.{SplitRow, SplitPosition, FirstOpen}
use Rattle.engine.proofs.search.Rows.{agree_group, parted_apart}
use Rattle.engine.proofs.search.StepLaws.{masks_below, masks_within, within_refl, within_trans, within_shorter, masks_grown, wants_trans}

with_same : (k : ℕ) (y : Bool) (v : ℕ → Bool) → SameBelow k v (with_value k y v)
unfolding with_value
with_same k y v l lt = sym (ap (λ (b : Bool). cond b y (v l)) (ne_eqb l k (λ e. omega arith)))

pub with_at : (k : ℕ) (y : Bool) (v : ℕ → Bool) → with_value k y v k ≡ y
unfolding with_value
with_at k y v = ap (λ (b : Bool). cond b y (v k)) (eq-eqb k k refl)

module _ (kinds differences codes : List ℕ) (side k lo hi : ℕ) (k_short : k < max_unknowns) where
  -- ---- a trial of one value

  -- the group's cells at k are all open
  all_open : (P : Problem) (v : ℕ → Bool) (w s : List ℕ) → Node P k lo hi v (cells w) (masks s) → k < P.n → P.own k ≡ true → (cells w).level lo k ≡ 0 →
      (i : ℕ) → lo ≤ i → i < hi → (cells w).level i k ≡ 0
  all_open P v w s A kn o z i p q = go ((cells w).level i k) refl
    where
      some : lo < hi
      some = A.some

      go : (n : ℕ) → (cells w).level i k ≡ n → (cells w).level i k ≡ 0
      go zero e = e
      go (suc n) e =
          absurd
          (let set : 0 < (cells w).level lo k = (A.alike i lo k p q (omega arith) (omega arith) kn o (A.agree i lo p q (omega arith) (omega arith))
          (omega arith)).0 in
          omega arith)

  module _ (y : Bool) (w w1 w2 s s1 s2 : List ℕ) (added : SetGrown k s s1) (named : set_at s1 k k ≡ true) (stored : CellsSet k lo hi (k + 2) y w w1)
      (P : Problem) (v : ℕ → Bool) (F : Fits P kinds differences codes side) (W : (i j : ℕ) → i < P.count → j < P.n → P.own j ≡ true →
      wants w i j ≡ P.wanted i j) (A : Node P k lo hi v (cells w) (masks s))
      (kn : k < P.n) (o : P.own k ≡ true) (z : (cells w).level lo k ≡ 0) where
    pub tried_node : Node P (k + 1) lo hi (with_value k y v) (cells w1) (masks s1)
    tried_node =
        node_decide P k lo hi (k + 2) v (with_value k y v) y (cells w) (cells w1) (masks s) (masks s1) A kn o (omega arith) (omega arith) stored.stored
        (with_same k y v) (with_at k y v) (masks_grown k k s s1 added)
        (ap (λ (m : Mask). m k) (masks_below s1 k k_short) ∙ named)

    tried_grown : Grown (k + 2) lo hi (cells w) (cells w1)
    tried_grown = grown_stored (k + 2) lo hi lo hi k y (cells w) (cells w1) (omega arith) (omega arith) (all_open P v w s A kn o z) stored.stored

    -- refuted by its consequences
    pub tried_refuted : Propagated P (k + 1) lo hi (with_value k y v) (k + 2) w1 w2 s1 s2 false → Tried P k lo hi v y w w2 s s2 false
    tried_refuted propagated = record {
      grown = grown_trans (k + 2) lo hi (cells w) (cells w1) (cells w2) (omega arith) tried_grown propagated.grown;
      wanted = wants_trans w w1 w2 stored.wanted propagated.wanted;
      masked = within_trans k (masks s) (masks s1) (masks s2) (masks_grown k k s s1 added) (within_shorter k (k + 1) (masks s1) (masks s2) (omega arith)
          propagated.masked);
      valued = λ e. absurd (never_both e refl);
      won = λ e. absurd (never_both e refl);
      failed = propagated.failed;
    }

    -- searched further on
    pub tried_searched : (w3 s3 : List ℕ) (r : Bool) → Propagated P (k + 1) lo hi (with_value k y v) (k + 2) w1 w2 s1 s2 true →
        Searched P (k + 1) lo hi (with_value k y v) w2 w3 s2 s3 r → Tried P k lo hi v y w w3 s s3 r
    tried_searched w3 s3 r propagated searched = record {
      grown = grown_trans (k + 2) lo hi (cells w) (cells w1) (cells w3) (omega arith) tried_grown later;
      wanted = wants_trans w w2 w3 (wants_trans w w1 w2 stored.wanted propagated.wanted) searched.wanted;
      masked = within_trans k (masks s) (masks s1) (masks s3) (masks_grown k k s s1 added) (within_shorter k (k + 1) (masks s1) (masks s3) (omega arith)
          (within_trans (k + 1) (masks s1) (masks s2) (masks s3) propagated.masked searched.masked));
      valued = λ e i p q. (grown_keeps (k + 2) lo hi (cells w1) (cells w3) later i k (set_there i p q)).1 ∙ (stored.stored.there i p q).1;
      won = searched.won;
      failed = searched.failed;
    }
      where
        later : Grown (k + 2) lo hi (cells w1) (cells w3)
        later = grown_trans (k + 2) lo hi (cells w1) (cells w2) (cells w3) (omega arith) propagated.grown
            (grown_wider (k + 1 + 2) (k + 2) lo hi lo hi (cells w2) (cells w3) (omega arith) (omega arith) (omega arith) searched.grown)

        set_there : (i : ℕ) → lo ≤ i → i < hi → 0 < (cells w1).level i k
        set_there i p q = let e : (cells w1).level i k ≡ k + 2 = (stored.stored.there i p q).0 in omega arith

  -- ---- a decision between two values

  module _ (P : Problem) (v : ℕ → Bool) (F : Fits P kinds differences codes side) (w s : List ℕ)
      (W : (i j : ℕ) → i < P.count → j < P.n → P.own j ≡ true → wants w
      i j ≡ P.wanted i j) (A : Node P k lo hi v (cells w) (masks s))
      (kn : k < P.n) (o : P.own k ≡ true) (y : Bool) (wanted : wants w lo k ≡ y) where
    some : lo < hi
    some = A.some

    wants_it : (u : List ℕ) → SameWants w u → (i : ℕ) → lo ≤ i → i < hi → P.wanted i k ≡ y
    wants_it u same i p q =
        F.sound.wanted_alike i lo k (let b : hi ≤ P.count = A.rows in omega arith) (let b : hi ≤ P.count = A.rows in omega arith) kn o
        (A.agree i lo p q (omega arith) (omega arith))
        ∙ sym (W lo k (let b : hi ≤ P.count = A.rows in omega arith) kn o) ∙ wanted

    -- the wanted value
    pub chosen_first : (w1 s1 : List ℕ) → Tried P k lo hi v y w w1 s s1 true → Searched P k lo hi v w w1 s s1 true
    chosen_first w1 s1 t = record {
      grown = t.grown;
      wanted = t.wanted;
      masked = t.masked;
      won = λ e. won_wanted P k lo hi (cells w1) (λ i p q. t.valued refl i p q ∙ sym (wants_it w1 t.wanted i p q)) (t.won refl);
      failed = λ e. absurd (never_both refl e);
    }

    -- the conflict does not rest on the decision
    pub failed_without : (y' : Bool) (w1 s1 : List ℕ) → Grown (k + 2) lo hi (cells w) (cells w1) → SameWants w w1 → MasksWithin k (masks s) (masks s1) →
        Refuted P (k + 1) (with_value k y' v) (conflict s1) lo → conflict s1 k ≡ false → Searched P k lo hi v w w1 s s1 false
    failed_without y' w1 s1 g sw m refuted lacks = record {
      grown = g;
      wanted = sw;
      masked = m;
      won = λ e. absurd (never_both e refl);
      failed = λ e. refuted_without P k v (with_value k y' v) (conflict s1) lo (with_same k y' v) lacks refuted;
    }

    module _ (w1 w2 s1 s2 : List ℕ) (first : Tried P k lo hi v y w w1 s s1 false) (opened : CellsOpened lo hi (k + 1) w1 w2) (trimmed : Trimmed k s1 s2) where
      back : (i j : ℕ) → SameCell (cells w) (cells w2) i j
      back = cleared_back (k + 1 + 1) lo hi (cells w) (cells w1) (cells w2) (λ i j p q. let l : (cells w).level i j ≤ k + 1 = A.levels i j p q in omega arith)
          (grown_wider (k + 2) (k + 1 + 1) lo hi lo hi (cells w) (cells w1) (omega arith) (omega arith) (omega arith) first.grown) opened.cleared

      second_masks : MasksWithin k (masks s) (masks s2)
      second_masks = within_trans k (masks s) (masks s1) (masks s2) first.masked (masks_within k s1 s2 (λ p lt l lk h. trimmed.below p l lk h))

      pub second_node : Node P k lo hi v (cells w2) (masks s2)
      second_node = node_same P k lo hi v (cells w) (cells w2) (masks s) (masks s2) (λ i j p q. back i j) second_masks A

      pub second_wants : SameWants w w2
      second_wants = wants_trans w w1 w2 first.wanted opened.wanted

      pub second_open : (cells w).level lo k ≡ 0 → (cells w2).level lo k ≡ 0
      second_open z = (back lo k).0 ∙ z

      module _ (w3 s3 : List ℕ) (r : Bool) (second : Tried P k lo hi v (not y) w2 w3 s2 s3 r) where
        both_grown : Grown (k + 2) lo hi (cells w) (cells w3)
        both_grown i j =
            ⊎_elim
            (λ c. inl (c.0 ∙ (back i j).0, λ h. c.1 (subst (λ (x : ℕ). 0 < x) (sym (back i j).0) h) ∙ (back i j).1 h))
            (λ c. inr (c.0, c.1, sym (back i j).0 ∙ c.2, c.3))
            (second.grown i j)

        both_wants : SameWants w w3
        both_wants = wants_trans w w2 w3 second_wants second.wanted

        both_masks : MasksWithin k (masks s) (masks s3)
        both_masks = within_trans k (masks s) (masks s2) (masks s3) second_masks second.masked

        first_refuted : (i : ℕ) → lo ≤ i → i < hi → Refuted P (k + 1) (with_value k y v) (conflict s1) i
        first_refuted i p q =
            refuted_row P lo i (k + 1) (with_value k y v) (conflict s1) (let b : hi ≤ P.count = A.rows in omega arith)
            (let b : hi ≤ P.count = A.rows in omega arith) (omega arith)
            (agree_own P lo i k o (A.agree lo i (omega arith) (omega arith) p q)) (first.failed refl)

        -- the other value
        pub chosen_second : r ≡ true → Searched P k lo hi v w w3 s s3 true
        chosen_second e = record {
          grown = both_grown;
          wanted = both_wants;
          masked = both_masks;
          won = λ e'.
              won_other P k lo hi v (with_value k y v) (conflict s1) (cells w3) kn first_refuted (with_same k y v)
              (past_kept P k lo hi (k + 2) lo hi v (cells w) (cells w3) (masks s) A both_grown)
              (λ i p q. second.valued e i p q ∙ sym (ap not (with_at k y v)))
              (second.won e);
          failed = λ e'. absurd (never_both refl e');
        }

        -- both values fail
        pub failed_both : (s4 : List ℕ) → r ≡ false → Within k (conflict s1) (conflict s4) → Within k (conflict s3) (conflict s4) → MasksWithin k
            (masks s3) (masks s4) →
            Searched P k lo hi v w w3 s s4 false
        failed_both s4 e in1 in3 m = record {
          grown = both_grown;
          wanted = both_wants;
          masked = within_trans k (masks s) (masks s3) (masks s4) both_masks m;
          won = λ e'. absurd (never_both e' refl);
          failed = λ e'.
              refuted_both P k v (with_value k y v) (with_value k (not y) v) (conflict s1) (conflict s3) (conflict s4) lo (with_same k y v)
              (with_same k (not y) v)
              (with_at k (not y) v ∙ sym (ap not (with_at k y v))) in1 in3 (first.failed refl) (second.failed e);
        }

        pub failed_second : r ≡ false → conflict s3 k ≡ false → Searched P k lo hi v w w3 s s3 false
        failed_second e lacks = failed_without (not y) w3 s3 both_grown both_wants both_masks (second.failed e) lacks

-- ---- rows that part

-- One of the two parts of a group, the rows before mid and those from mid on.
abbrev pub IsPart : ℕ → ℕ → ℕ → ℕ → ℕ → Type 0
IsPart lo mid hi a e = ((a ≡ lo) × (e ≡ mid)) ⊎ ((a ≡ mid) × (e ≡ hi))

-- Both of them, in either order.
pub record InOrder (lo mid hi a b d e : ℕ) : Type 0 where
  pub parts : ((a ≡ lo) × (b ≡ mid) × (d ≡ mid) × (e ≡ hi)) ⊎ ((a ≡ mid) × (b ≡ hi) × (d ≡ lo) × (e ≡ mid))

pub in_order : (low : Bool) {lo mid hi a b d e : ℕ} → a ≡ cond low lo mid → b ≡ cond low mid hi → d ≡ cond low mid lo → e ≡ cond low hi mid →
    InOrder lo mid hi a b d e
in_order true p q r s = record { parts = inl (p, q, r, s) }
in_order false p q r s = record { parts = inr (p, q, r, s) }

module _ {lo mid hi a b d e : ℕ} (order : InOrder lo mid hi a b d e) where
  pub first_part : IsPart lo mid hi a b
  first_part = ⊎_elim (λ t. inl (t.0, t.1)) (λ t. inr (t.0, t.1)) order.parts

  pub second_part : IsPart lo mid hi d e
  second_part = ⊎_elim (λ t. inr (t.2, t.3)) (λ t. inl (t.2, t.3)) order.parts

  disjoint : lo < mid → mid < hi → (i : ℕ) → d ≤ i → i < e → (a ≤ i) × (i < b) → ⊥
  disjoint lm mh i p q r = ⊎_elim {C = ⊥} (λ t. omega arith) (λ t. omega arith) order.parts

-- a part has a row, and lies in the group
pub part_fits : {lo mid hi a e : ℕ} → lo < mid → mid < hi → IsPart lo mid hi a e → (lo ≤ a) × (a < e) × (e ≤ hi)
part_fits {lo} {mid} {hi} {a} {e} lm mh part = ⊎_elim {C = (lo ≤ a) × (a < e) × (e ≤ hi)} (λ t. (omega arith, omega arith, omega arith))
    (λ t. (omega arith, omega arith, omega arith)) part

module _ (P : Problem) (kinds differences codes : List ℕ) (side : ℕ) (F : Fits P kinds differences codes side) where
  other_given : (a b c : Bool) → (a ≡ b → ⊥) → (a ≡ c → ⊥) → b ≡ c
  other_given true true c f g = absurd (f refl)
  other_given true false true f g = absurd (g refl)
  other_given true false false f g = refl
  other_given false true true f g = refl
  other_given false true false f g = absurd (g refl)
  other_given false false c f g = absurd (f refl)

  module _ (k lo mid hi : ℕ) (v : ℕ → Bool) (w s : List ℕ) (A : Node P k lo hi v (cells w) (masks s)) (kn : k < P.n) (o : P.own k ≡ false)
      (split_row : SplitRow differences lo hi mid) (lm : lo < mid) (at_k : get_or differences mid 0 ≡ k) where
    -- rows of the two parts have different values at k
    pub parts_differ : (i h : ℕ) → lo ≤ i → i < mid → mid ≤ h → h < hi → P.given i k ≡ P.given h k → ⊥
    parts_differ i h p q r t e =
        parted_apart P kinds differences codes side F (k + 1) i h mid q r (omega arith) (omega arith) (omega arith)
        (agree_given P i h k e (A.agree i h p (omega arith) (omega arith) t))

    low_agree : (i h : ℕ) → lo ≤ i → i < mid → lo ≤ h → h < mid → Agree P i h (k + 1)
    low_agree = agree_group P kinds differences codes side F (k + 1) lo mid (let a : mid < hi = split_row.high in omega arith) (omega arith)
        (λ g a b. let c : get_or differences mid 0 < get_or differences g 0 = split_row.before g a b in omega arith)

    high_agree : (i h : ℕ) → mid ≤ i → i < hi → mid ≤ h → h < hi → Agree P i h (k + 1)
    high_agree i h p q r t =
        agree_given P i h k
        (other_given (P.given lo k) (P.given i k) (P.given h k) (parts_differ lo i (omega arith) lm p q) (parts_differ lo h (omega arith) lm r t))
        (A.agree i h (omega arith) q (omega arith) t)

    high : mid < hi
    high = split_row.high

    part_agree : (a e : ℕ) → IsPart lo mid hi a e → (i h : ℕ) → a ≤ i → i < e → a ≤ h → h < e → Agree P i h (k + 1)
    part_agree a e part i h p q r t = ⊎_elim (λ x. low_agree i h (omega arith) (omega arith) (omega arith) (omega arith))
        (λ x. high_agree i h (omega arith) (omega arith) (omega arith) (omega arith)) part

    part_node : (a e : ℕ) → IsPart lo mid hi a e → (u t : List ℕ) → ((i j : ℕ) → a ≤ i → i < e → SameCell (cells w) (cells u) i j) →
        MasksWithin k (masks s) (masks t)
        → Node P (k + 1) a e (with_value k (P.given a k) v) (cells u) (masks t)
    part_node a e part u t same larger =
        node_next P k a e v (with_value k (P.given a k) v) (cells u) (masks t) kn (with_same k (P.given a k) v)
        (λ i p q. (
          (N.given i k p q kn o).0,
          (N.given i k p q kn o).1 ∙ part_agree a e part i a p q (omega arith) fits.1 k (omega arith) o ∙ sym
              (with_at k (P.given a k) v),
        ))
        (part_agree a e part) N
      where
        fits : (lo ≤ a) × (a < e) × (e ≤ hi)
        fits = part_fits lm high part

        N : Node P k a e v (cells u) (masks t)
        N = node_same P k a e v (cells w) (cells u) (masks s) (masks t) same larger (node_part P k lo hi a e v (cells w) (masks s) fits.0 fits.1 fits.2
            A)

    part_refuted : (a e : ℕ) → IsPart lo mid hi a e → (D : Mask) → Refuted P (k + 1) (with_value k (P.given a k) v) D a → Refuted P k v D lo
    part_refuted a e part D refuted =
        let fits : (lo ≤ a) × (a < e) × (e ≤ hi) = part_fits lm high part in
        refuted_row P a lo k v D (let b : hi ≤ P.count = A.rows in omega arith) (let b : hi ≤ P.count = A.rows in omega arith) A.depth
        (A.agree a lo (omega arith) (omega arith) (omega arith) (omega arith))
        (refuted_given P k v (with_value k (P.given a k) v) D a (let b : hi ≤ P.count = A.rows in omega arith) kn o (with_at k (P.given a k) v)
        (with_same k (P.given a k) v) refuted)

    module _ (a b d e : ℕ) (order : InOrder lo mid hi a b d e) where
      first_fits : (lo ≤ a) × (a < b) × (b ≤ hi)
      first_fits = part_fits lm high (first_part order)

      second_fits : (lo ≤ d) × (d < e) × (e ≤ hi)
      second_fits = part_fits lm high (second_part order)

      pub first_node : Node P (k + 1) a b (with_value k (P.given a k) v) (cells w) (masks s)
      first_node = part_node a b (first_part order) w s (λ i j p q. (refl, λ h. refl)) (within_refl k (masks s))

      module _ (w1 s1 : List ℕ) (r1 : Bool) (first : Searched P (k + 1) a b (with_value k (P.given a k) v) w w1 s s1 r1) where
        first_grown : Grown (k + 2) lo hi (cells w) (cells w1)
        first_grown = grown_wider (k + 1 + 2) (k + 2) a b lo hi (cells w) (cells w1) (omega arith) first_fits.0 first_fits.2 first.grown

        first_masked : MasksWithin k (masks s) (masks s1)
        first_masked = within_shorter k (k + 1) (masks s) (masks s1) (omega arith) first.masked

        pub split_first : r1 ≡ false → Searched P k lo hi v w w1 s s1 false
        split_first f = record {
          grown = first_grown;
          wanted = first.wanted;
          masked = first_masked;
          won = λ f'. absurd (never_both f' refl);
          failed = λ f'. part_refuted a b (first_part order) (conflict s1) (first.failed f);
        }

        module _ (s2 : List ℕ) (trimmed : Trimmed k s1 s2) where
          between : MasksWithin k (masks s) (masks s2)
          between = within_trans k (masks s) (masks s1) (masks s2) first_masked (masks_within k s1 s2 (λ p lt l lk h. trimmed.below p l lk h))

          pub second_part_node : Node P (k + 1) d e (with_value k (P.given d k) v) (cells w1) (masks s2)
          second_part_node = part_node d e (second_part order) w1 s2 (λ i j p q. grown_outside (k + 1 + 2) a b (cells w) (cells w1) first.grown i j
              (disjoint order lm high i p q)) between

          pub split_second : (w3 s3 : List ℕ) (r : Bool) → r1 ≡ true → Searched P (k + 1) d e (with_value k (P.given d k) v) w1 w3 s2 s3 r →
              Searched P k lo hi v w w3 s s3 r
          split_second w3 s3 r f second = record {
            grown = all_grown;
            wanted = wants_trans w w1 w3 first.wanted second.wanted;
            masked = within_trans k (masks s) (masks s2) (masks s3) between (within_shorter k (k + 1) (masks s2) (masks s3) (omega arith) second.masked);
            won = λ f'. both (second.won f') (won_kept P (k + 1) a b (k + 1 + 2) d e (cells w1) (cells w3) second.grown (first.won f) F.sound);
            failed = λ f'. part_refuted d e (second_part order) (conflict s3) (second.failed f');
          }
            where
              all_grown : Grown (k + 2) lo hi (cells w) (cells w3)
              all_grown = grown_trans (k + 2) lo hi (cells w) (cells w1) (cells w3) (omega arith) first_grown
                  (grown_wider (k + 1 + 2) (k + 2) d e lo hi (cells w1) (cells w3) (omega arith) second_fits.0 second_fits.2 second.grown)

              at : {x y g h : ℕ} → x ≡ g → y ≡ h → Won P (k + 1) x y (cells w3) → Won P (k + 1) g h (cells w3)
              at {x} {y} {g} {h} p q won = subst (λ (z : ℕ). Won P (k + 1) g z (cells w3)) q (subst (λ (z : ℕ). Won P (k + 1) z y (cells w3)) p won)

              parts_won : Won P (k + 1) lo mid (cells w3) → Won P (k + 1) mid hi (cells w3) → Won P k lo hi (cells w3)
              parts_won = won_parts P k lo mid hi v (cells w3) kn o (past_kept P k lo hi (k + 2) lo hi v (cells w) (cells w3) (masks s) A all_grown)
                  parts_differ

              both : Won P (k + 1) d e (cells w3) → Won P (k + 1) a b (cells w3) → Won P k lo hi (cells w3)
              both x y = ⊎_elim (λ t. parts_won (at t.0 t.1 y) (at t.2 t.3 x)) (λ t. parts_won (at t.2 t.3 x) (at t.0 t.1 y))
                  order.parts

  -- ---- past the last position

  pub searched_leaf : (lo hi : ℕ) (v : ℕ → Bool) (w s t : List ℕ) (r : Bool) → Node P P.n lo hi v (cells w) (masks s) → Reached codes side w lo s t r →
      (r ≡ false → (l : ℕ) → l < P.n → conflict t l ≡ true) → Searched P P.n lo hi v w w s t r
  searched_leaf lo hi v w s t r A reached full = record {
    grown = grown_refl (P.n + 2) lo hi (cells w);
    wanted = λ i j. refl;
    masked = masks_within P.n s t (λ p lt l lk h. reached.kept.same p lt l ∙ h);
    won = λ e. won_leaf P lo hi v (cells w) (masks s) F.sound A (F.goal ((cells w).value lo) ∙ sym (reached.goal F.ended) ∙ e);
    failed = λ e m M heeds.
        never_both
        (F.sound.goal_of_values (m lo) ((cells w).value lo) (λ j lt. heeds j lt (full e j lt) ∙ sym (A.past lo j (omega arith) some lt).1)
        (M.reaches lo below))
        (F.goal ((cells w).value lo) ∙ sym (reached.goal F.ended) ∙ e);
  }
    where
      some : lo < hi
      some = A.some

      below : lo < P.count
      below = let b : hi ≤ P.count = A.rows in let c : lo < hi = A.some in omega arith

  -- ---- positions that stand

  module _ (k at until lo mid hi : ℕ) (v : ℕ → Bool) (w s : List ℕ) (short : length kinds ≤ max_unknowns) (A : Node P k lo hi v (cells w) (masks s))
      (split_row : SplitRow differences lo hi mid) (parted : SplitPosition differences lo mid (length kinds) until)
      (stood : FirstOpen kinds w side k lo until at) where
    known : P.n ≡ length kinds
    known = F.unknowns

    row_count : hi ≤ length differences
    row_count = let a : hi ≤ P.count = A.rows in let b : P.count ≡ length differences = F.rows in omega arith

    until_fits : until ≤ length kinds
    until_fits = parted.most

    -- the group's rows agree before k, so they part at k or later
    pub until_behind : k ≤ until
    until_behind = go (dec_lt until k)
      where
        some : lo < hi
        some = A.some

        deep : k ≤ P.n
        deep = A.depth

        go : Dec (until < k) → k ≤ until
        go (no n) = omega arith
        go (yes lt) = apart mid refl
          where
            there : (lo < mid) × (get_or differences mid 0 ≡ until)
            there = parted.there (omega (arith, deep, known))

            high : mid < hi
            high = split_row.high

            apart : (m : ℕ) → m ≡ mid → k ≤ until
            apart zero e = absurd (let a : lo < mid = there.0 in omega arith)
            apart (suc m) e =
                let a : lo < mid = there.0 in
                let b : mid < hi = high in
                let c : P.n ≡ length kinds = known in
                let d : k ≤ P.n = deep in
                let f : hi ≤ length differences = row_count in
                let stays : k ≤ get_or differences (m + 1) 0 = (F.differ m k (omega arith) (omega arith)).1
                (A.agree m (m + 1) (omega arith) (omega arith) (omega arith) (omega arith)) in
                let here : get_or differences (m + 1) 0 ≡ until = ap (λ (x : ℕ). get_or differences x 0) (let g : m + 1 ≡ mid = omega arith in g) ∙ there.1 in
                omega arith

    pub at_fits : at ≤ until
    at_fits = stood.high until_behind

    shared_until : (g : ℕ) → lo < g → g < hi → until ≤ get_or differences g 0
    shared_until g a b = go (ℕ_discrete mid lo)
      where
        low : lo ≤ mid
        low = split_row.low

        go : Dec (mid ≡ lo) → until ≤ get_or differences g 0
        go (yes e) = let c : 255 ≤ get_or differences g 0 = split_row.alone e g a b in omega arith
        go (no n) = ⊎_elim near (λ c. far (ℕ_discrete g mid) c) (side_of (dec_lt g mid))
          where
            lm : lo < mid
            lm = omega (arith, low)

            first : until ≤ get_or differences mid 0
            first = parted.first lm

            side_of : Dec (g < mid) → (g < mid) ⊎ (mid ≤ g)
            side_of (yes c) = inl c
            side_of (no c) = inr (omega arith)

            near : g < mid → until ≤ get_or differences g 0
            near c = let d : get_or differences mid 0 < get_or differences g 0 = split_row.before g a c in omega (arith, first)

            far : Dec (g ≡ mid) → mid ≤ g → until ≤ get_or differences g 0
            far (yes e) c = subst (λ (x : ℕ). until ≤ get_or differences x 0) (sym e) first
            far (no d) c = let f : get_or differences mid 0 ≤ get_or differences g 0 = split_row.behind lm g (omega arith) b in omega (arith, first)

    agree_at : (i h : ℕ) → lo ≤ i → i < hi → lo ≤ h → h < hi → Agree P i h at
    agree_at i h p q r t = agree_shorter P i h until at at_fits
        (agree_group P kinds differences codes side F until lo hi row_count until_fits shared_until i h p q r
        t)

    stands_set : (i j : ℕ) → lo ≤ i → i < hi → k ≤ j → j < at → 0 < (cells w).level i j
    stands_set i j p q kj ja = ⊎_elim mine theirs (true_or_false (P.own j))
      where
        some : lo < hi
        some = A.some

        theirs : P.own j ≡ false → 0 < (cells w).level i j
        theirs o = (A.given i j p q (omega arith) o).0

        mine : P.own j ≡ true → 0 < (cells w).level i j
        mine o =
            ⊎_elim
            (λ e. absurd (never_both (sym (F.own j (omega arith)) ∙ o) e))
            (λ z. (A.alike lo i j (omega arith) (omega arith) p q (omega arith) o
            (agree_shorter P lo i at j (omega arith) (agree_at lo i (omega arith) (omega arith) p q)) z).0)
            (stood.passed j kj ja)

    pub stood_node : Node P at lo hi ((cells w).value lo) (cells w) (masks s)
    stood_node = node_stand P k at lo hi v (cells w) (masks s) A stood.low (omega arith) agree_at stands_set

    pub stood_open : at < until → (P.own at ≡ true) × ((cells w).level lo at ≡ 0)
    stood_open lt = (F.own at (omega arith) ∙ (stood.stops lt).0, (stood.stops lt).1)

    pub parted_other : until < length kinds → P.own until ≡ false
    parted_other lt = ⊎_elim (λ o. absurd (mine o)) (λ o. o) (true_or_false (P.own until))
      where
        there : (lo < mid) × (get_or differences mid 0 ≡ until)
        there = parted.there lt

        high : mid < hi
        high = split_row.high

        mine : P.own until ≡ true → ⊥
        mine o = go mid refl
          where
            go : (m : ℕ) → m ≡ mid → ⊥
            go zero e = let a : lo < mid = there.0 in omega arith
            go (suc m) e =
                let here : get_or differences (m + 1) 0 ≡ until = ap (λ (x : ℕ). get_or differences x 0) (let c : m + 1 ≡ mid = omega arith in c) ∙ there.1 in
                let before : Agree P m (m + 1) until = (F.differ m until (omega arith) until_fits).0 (omega arith) in
                let more : until + 1 ≤ get_or differences (m + 1) 0 = (F.differ m (until + 1) (omega arith) (omega arith)).1
                (agree_own P m (m + 1) until o before) in
                omega arith

    pub stood_searched : (u t t' : List ℕ) (r : Bool) → Searched P at lo hi ((cells w).value lo) w u s t r → Resolved k at t t' → Searched P k lo hi v w u s t' r
    unfolding conflict
    stood_searched u t t' r searched resolved = record {
      grown = wider;
      wanted = searched.wanted;
      masked = within_trans k (masks s) (masks t) (masks t') (within_shorter k at (masks s) (masks t) stood.low searched.masked)
          (masks_grown k max_unknowns t t' resolved.grown);
      won = λ e. won_stand P k at lo hi v (cells w) (masks s) A stood.low (omega arith) agree_at stands_set (k + 2) lo hi (cells u) wider (searched.won e);
      failed = λ e.
          refuted_stand P k at lo hi v (cells w) (masks s) A stood.low (omega arith) agree_at stands_set (conflict t) (conflict t') (λ l lk d. kept l d)
          (λ p kp pa d l lk h. taken p l kp pa d (sym (ap (λ (m : Mask). m l) (masks_below t p (omega arith))) ∙ searched.masked p l
          (let c : k ≤ at = stood.low in omega arith) h))
          (searched.failed e);
    }
      where
        low : k ≤ at
        low = stood.low

        wider : Grown (k + 2) lo hi (cells w) (cells u)
        wider = grown_wider (at + 2) (k + 2) lo hi lo hi (cells w) (cells u) (omega arith) (omega arith) (omega arith) searched.grown

        kept : (l : ℕ) → conflict t l ≡ true → conflict t' l ≡ true
        kept l d = resolved.grown.keeps l d

        taken : (p l : ℕ) → k ≤ p → p < at → conflict t p ≡ true → set_at t p l ≡ true → conflict t' l ≡ true
        taken p l kp pa d h = resolved.takes p kp pa d l h

    -- a success needs no resolution
    pub stood_won : (u t : List ℕ) → Searched P at lo hi ((cells w).value lo) w u s t true → Searched P k lo hi v w u s t true
    stood_won u t searched = record {
      grown = wider;
      wanted = searched.wanted;
      masked = within_shorter k at (masks s) (masks t) stood.low searched.masked;
      won = λ e. won_stand P k at lo hi v (cells w) (masks s) A stood.low (omega arith) agree_at stands_set (k + 2) lo hi (cells u) wider (searched.won e);
      failed = λ e. absurd (never_both refl e);
    }
      where
        low : k ≤ at
        low = stood.low

        wider : Grown (k + 2) lo hi (cells w) (cells u)
        wider = grown_wider (at + 2) (k + 2) lo hi lo hi (cells w) (cells u) (omega arith) (omega arith) (omega arith) searched.grown
