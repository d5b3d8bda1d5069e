-- What each function of the search returns, over every problem, from what its calls return. Assumes nothing.
use Prim.Native.Nat.{ℕ, ◌+◌, ◌*◌, ◌≤◌, ◌<◌}
use mathlib.Core.Path.{◌≡◌, refl, sym, ◌∙◌, subst}
use mathlib.Core.Bool.{Bool, true, false, not}
use mathlib.Core.List.{List}
use mathlib.Core.Logic.{◌⊎◌, inl, inr, ⊎_elim}
use native.Mathlib.Omega.{arith}
use native.Mathlib.Decide.{dec_lt}
use lib.Dec.{eqb}
use lib.ListN.{length, get_or, drop}
use Rattle.formula.specs.Formula.{max_unknowns}
use Rattle.expansion.proofs.Cuts.{Problem, Mask, Agree, Refuted, models_agree}
use Rattle.expansion.proofs.Booleans.{true_or_false, never_both, never_unlike}
use Rattle.expansion.proofs.Node.{Node, Won}
use Rattle.expansion.proofs.ClauseCuts.{some_map}
use Rattle.codes.specs.Codes.{row_position}
use Rattle.codes.specs.Private.Clauses.{position, clause_of, Coded}
use Rattle.codes.proofs.CodeLaws.{code_local, clause_coded, row_position_is}
use Rattle.engine.specs.Private.Terms.{GivenTrue, Opened}
use Rattle.engine.proofs.search.SatisfiedRows.{some_with}
use Rattle.engine.proofs.search.TermLaws.{own_of}
use Rattle.search_cells.specs.Cells.{cells, wants}
use Rattle.search_cells.specs.Private.Changes.{CellsSet, CellsOpened}
use Rattle.search_sets.specs.Private.Masks.{set_at, masks, conflict, SetGrown, SetsKept, WordsUnited, Trimmed, Resolved}
use Rattle.engine.specs.Private.FirstBlock.{said, RuledOut}
use Rattle.engine.specs.Private.Steps.{Fits, GivenIn, Viewed, Known, Propagated, PropagatesFor}
use Rattle.engine.specs.Private.Steps.{Searched, Searches, with_value, Tried, Tries, Decides, Flips}
use Rattle.engine.specs.Private.Steps.{Steps, Reached, FromStart}
use Rattle.search_groups.specs.Private.Parts.{SplitRow, SplitPosition, FirstOpen}
use Rattle.engine.proofs.search.StepLaws.{masks_grown, masks_kept, within_trans}
use Rattle.engine.proofs.search.SolveLaws.{with_at, tried_node, tried_refuted, tried_searched, chosen_first, failed_without, second_node, second_wants}
use Rattle.engine.proofs.search.SolveLaws.{second_open, chosen_second, failed_both, failed_second, InOrder, first_node, split_first, second_part_node}
use Rattle.engine.proofs.search.SolveLaws.{split_second, searched_leaf, stood_node, at_fits, stood_open, parted_other, stood_searched, stood_won}

unknown : (P : Problem) (kinds differences codes : List ℕ) (side k : ℕ) → Fits P kinds differences codes side → k < length kinds → k < P.n
unknown P kinds differences codes side k F h = let e : P.n ≡ length kinds = F.unknowns in omega arith

module _ (kinds differences codes open_terms block : List ℕ) (side k lo hi : ℕ) (kk : k < length kinds) (short : length kinds ≤ max_unknowns) where
  below : k < max_unknowns
  below = omega arith

  -- ---- a value that an earlier search rules out

  -- The rows share the positions up to k, which are own, and so the first row's copies.
  module _ (P : Problem) (v : ℕ → Bool) (F : Known P kinds differences codes open_terms block side) (w : List ℕ)
      (W : (i j : ℕ) → i < P.count → j < P.n → P.own j ≡ true → wants w i j ≡ P.wanted i j)
      (s : List ℕ) (A : Node P (k + 1) lo hi v (cells w) (masks s)) (out : RuledOut block w lo k (v k)) where
    row : lo < P.count
    row = omega (arith, A.some, A.rows)

    inside : k < P.n
    inside = omega (arith, out.below, F.remembered.inside)

    shared : (j : ℕ) → j ≤ k + 1 → Agree P 0 lo j
    shared j le l lt o = absurd (never_both (F.remembered.own l (omega (arith, out.below))) o)

    ruled_out_refuted : (D : Mask) → ((l : ℕ) → l < k + 1 → D l ≡ true) → Refuted P (k + 1) v D lo
    ruled_out_refuted D full m M heeds =
        ⊎_elim
        (λ e. never_unlike (v k) (said block k) (e ∙ first k (omega arith)) out.other)
        (λ e. never_unlike (wants w lo k) (said block k) (e ∙ F.viewed.fits.sound.wanted_alike 0 lo k (omega (arith, row)) row inside own
        (shared k (omega arith)) ∙ sym (W lo k row inside own)) out.unwanted)
        (F.remembered.leads m M k out.below before)
      where
        own : P.own k ≡ true
        own = F.remembered.own k out.below

        first : (l : ℕ) → l < k + 1 → m 0 l ≡ v l
        first l lt = models_agree P m M 0 lo (k + 1) (omega (arith, row)) row (omega (arith, inside)) (shared (k + 1) (omega arith)) l lt ∙ heeds l lt
            (full l lt)

        before : (j : ℕ) → j < k → said block j ≡ m 0 j
        before j lt = out.before j lt ∙ (A.past lo j (omega arith) A.some (omega arith)).1 ∙ sym (first j (omega arith))

  -- ---- a trial

  module _ (y : Bool) (w w1 w2 s s1 s2 : List ℕ) (r1 : Bool) (added : SetGrown k s s1) (named : set_at s1 k k ≡ true) (stored : CellsSet k lo hi (k + 2) y w w1)
      (followed : PropagatesFor kinds side differences codes open_terms lo hi (k + 2) w1 w2 s1 s2 r1) where
    pub tries_refuted : r1 ≡ false → Tries kinds differences codes open_terms block side k lo hi y w w2 s s2 false
    tries_refuted e P v F W A o z =
        let kn : k < P.n = unknown P kinds differences codes side k F.viewed.fits kk in
        tried_refuted kinds differences codes side k lo hi below y w w1 w2 s s1 s2 added named stored P v F.viewed.fits W A kn o z
        (subst (λ (b : Bool). Propagated P (k + 1) lo hi (with_value k y v) (k + 2) w1 w2 s1 s2 b) e
        (followed P (k + 1) (with_value k y v) F.viewed (tried_node kinds differences codes side k lo hi below y w w1 w2 s s1 s2 added named stored P v
        F.viewed.fits W A kn o z) (omega arith) (omega arith)))

    pub tries_ruled_out : (s3 : List ℕ) → r1 ≡ true → RuledOut block w2 lo k y → SetsKept s2 s3 →
        ((l : ℕ) → l < max_unknowns → set_at s3 max_unknowns l ≡ true)
        → Tries kinds differences codes open_terms block side k lo hi y w w2 s s3 false
    unfolding conflict
    tries_ruled_out s3 e out kept full P v F W A o z =
        let kn : k < P.n = unknown P kinds differences codes side k F.viewed.fits kk in
        let propagated : Propagated P (k + 1) lo hi (with_value k y v) (k + 2) w1 w2 s1 s2 true =
        subst (λ (b : Bool). Propagated P (k + 1) lo hi (with_value k y v) (k + 2) w1 w2 s1 s2 b) e
        (followed P (k + 1) (with_value k y v) F.viewed (tried_node kinds differences codes side k lo hi below y w w1 w2 s s1 s2 added named stored P v
        F.viewed.fits W A kn o z) (omega arith) (omega arith)) in
        tried_refuted kinds differences codes side k lo hi below y w w1 w2 s s1 s3 added named stored P v F.viewed.fits W A kn o z
        (record {
          grown = propagated.grown;
          wanted = propagated.wanted;
          masked = within_trans (k + 1) (masks s1) (masks s2) (masks s3) propagated.masked (masks_kept (k + 1) s2 s3 kept);
          kept = λ f. absurd (never_both f refl);
          failed = λ _.
              ruled_out_refuted P (with_value k y v) F w2 (λ i j a b own. propagated.wanted i j ∙ stored.wanted i j ∙ W i j a b own) s2
              (propagated.kept refl)
              (subst (RuledOut block w2 lo k) (sym (with_at k y v)) out) (conflict s3) (λ l lt. full l (omega (arith, below)));
        })

    pub tries_searched : (w3 s3 : List ℕ) (r : Bool) → r1 ≡ true → Searches kinds differences codes open_terms block side (k + 1) lo hi w2 w3 s2 s3 r →
        Tries kinds differences codes open_terms block side k lo hi y w w3 s s3 r
    tries_searched w3 s3 r e searches P v F W A o z =
        let kn : k < P.n = unknown P kinds differences codes side k F.viewed.fits kk in
        let propagated : Propagated P (k + 1) lo hi (with_value k y v) (k + 2) w1 w2 s1 s2 true =
        subst (λ (b : Bool). Propagated P (k + 1) lo hi (with_value k y v) (k + 2) w1 w2 s1 s2 b) e
        (followed P (k + 1) (with_value k y v) F.viewed (tried_node kinds differences codes side k lo hi below y w w1 w2 s s1 s2 added named stored P v
        F.viewed.fits W A kn o z) (omega arith) (omega arith)) in
        tried_searched kinds differences codes side k lo hi below y w w1 w2 s s1 s2 added named stored P v F.viewed.fits W A kn o z w3 s3 r propagated
        (searches P (with_value k y v) F (λ i j a b own. propagated.wanted i j ∙ stored.wanted i j ∙ W i j a b own) (propagated.kept refl))

  -- ---- a decision

  module _ (y : Bool) (w w1 s s1 : List ℕ) (r1 : Bool) (wanted : wants w lo k ≡ y)
      (first : Tries kinds differences codes open_terms block side k lo hi y w w1 s s1
      r1) where
    pub decides_first : r1 ≡ true → Decides kinds differences codes open_terms block side k lo hi w w1 s s1 true
    decides_first e P v F W A o z =
        chosen_first kinds differences codes side k lo hi below P v F.viewed.fits w s W A
        (unknown P kinds differences codes side k F.viewed.fits kk) o y wanted
        w1 s1
        (subst (λ (b : Bool). Tried P k lo hi v y w w1 s s1 b) e (first P v F W A o z))

    pub decides_without : r1 ≡ false → conflict s1 k ≡ false → Decides kinds differences codes open_terms block side k lo hi w w1 s s1 false
    decides_without e lacks P v F W A o z =
        let t : Tried P k lo hi v y w w1 s s1 r1 = first P v F W A o z in
        failed_without kinds differences codes side k lo hi below P v F.viewed.fits w s W A
        (unknown P kinds differences codes side k F.viewed.fits kk) o y wanted
        y w1 s1 t.grown t.wanted t.masked (t.failed e) lacks

    pub decides_flipped : (u t : List ℕ) (r : Bool) → r1 ≡ false → Flips kinds differences codes open_terms block side k lo hi y w1 u s1 t r →
        Decides kinds differences codes open_terms block side k lo hi w u s t r
    decides_flipped u t r e flips = flips w s wanted (subst (λ (b : Bool). Tries kinds differences codes open_terms block side k lo hi y w w1 s s1 b) e first)

    module _ (w2 w3 s2 s3 : List ℕ) (r : Bool) (e1 : r1 ≡ false) (opened : CellsOpened lo hi (k + 1) w1 w2) (trimmed : Trimmed k s1 s2)
        (second : Tries kinds differences codes open_terms block side k lo hi (not y) w2 w3 s2 s3 r) where
      module _ (P : Problem) (v : ℕ → Bool) (F : Known P kinds differences codes open_terms block side)
          (W : (i j : ℕ) → i < P.count → j < P.n → P.own j ≡ true →
          wants w i j ≡ P.wanted i j) (A : Node P k lo hi v (cells w) (masks s)) (o : P.own k ≡ true) (z : (cells w).level lo k ≡ 0) where
        kn : k < P.n
        kn = unknown P kinds differences codes side k F.viewed.fits kk

        once : Tried P k lo hi v y w w1 s s1 false
        once = subst (λ (b : Bool). Tried P k lo hi v y w w1 s s1 b) e1 (first P v F W A o z)

        twice : Tried P k lo hi v (not y) w2 w3 s2 s3 r
        twice =
            second P v F
            (λ i j a b own. second_wants kinds differences codes side k lo hi below P v F.viewed.fits w s W A kn o y wanted w1 w2 s1 s2 once opened
            trimmed i j ∙
            W i j a b own)
            (second_node kinds differences codes side k lo hi below P v F.viewed.fits w s W A kn o y wanted w1 w2 s1 s2 once opened trimmed)
            o
            (second_open kinds differences codes side k lo hi below P v F.viewed.fits w s W A kn o y wanted w1 w2 s1 s2 once opened trimmed z)

      pub decides_second : r ≡ true → Decides kinds differences codes open_terms block side k lo hi w w3 s s3 true
      decides_second e P v F W A o z =
          chosen_second kinds differences codes side k lo hi below P v F.viewed.fits w s W A (kn P v F W A o z) o y wanted w1 w2 s1 s2 (once P v F W A o z)
          opened trimmed w3 s3 r (twice P v F W A o z) e

      pub decides_last : r ≡ false → conflict s3 k ≡ false → Decides kinds differences codes open_terms block side k lo hi w w3 s s3 false
      decides_last e lacks P v F W A o z =
          failed_second kinds differences codes side k lo hi below P v F.viewed.fits w s W A (kn P v F W A o z) o y wanted w1 w2 s1 s2 (once P v F W A o z)
          opened trimmed w3 s3 r (twice P v F W A o z) e lacks

      pub decides_neither : (s4 : List ℕ) → r ≡ false → WordsUnited max_unknowns (get_or s2 (2 * max_unknowns) 0) (get_or s2 (2 * max_unknowns + 1) 0) s3 s4 →
          Decides kinds differences codes open_terms block side k lo hi w w3 s s4 false
      unfolding conflict
      decides_neither s4 e united P v F W A o z =
          failed_both kinds differences codes side k lo hi below P v F.viewed.fits w s W A (kn P v F W A o z) o y wanted w1 w2 s1 s2
          (once P v F W A o z) opened
          trimmed w3 s3 r (twice P v F W A o z) s4 e
          (λ l lk d. united.takes l (trimmed.behind max_unknowns l (omega arith) ∙ d))
          (λ l lk d. united.grown.keeps l d)
          (masks_grown k max_unknowns s3 s4 united.grown)

-- ---- a split

-- A split of the group at the other side's position k, at which the rows from mid on part from those before.
abbrev pub Splits : List ℕ → List ℕ → List ℕ → List ℕ → List ℕ → ℕ → ℕ → ℕ → ℕ → ℕ → List ℕ → List ℕ → List ℕ → List ℕ → Bool → Type 0
Splits kinds differences codes open_terms block side k lo mid hi w u s t r =
    (P : Problem) (v : ℕ → Bool)
    → Known P kinds differences codes open_terms block side → ((i j : ℕ) → i < P.count → j < P.n → P.own j ≡ true → wants w i j ≡ P.wanted i j) → Node
    P k lo hi
    v (cells w) (masks s)
    → P.own k ≡ false → SplitRow differences lo hi mid → get_or differences mid 0 ≡ k
    → Searched P k lo hi v w u s t r

module _ (kinds differences codes open_terms block : List ℕ) (side k lo mid hi a b d e : ℕ) (kk : k < length kinds) (lm : lo < mid)
    (order : InOrder lo mid hi a b d e) (w w1 s s1 : List ℕ) (r1 : Bool)
    (first : Searches kinds differences codes open_terms block side (k + 1) a b w w1 s s1 r1)
  where
    pub splits_first : r1 ≡ false → Splits kinds differences codes open_terms block side k lo mid hi w w1 s s1 false
    splits_first f P v F W A o split_row at_k =
        let kn : k < P.n = unknown P kinds differences codes side k F.viewed.fits kk in
        split_first P kinds differences codes side F.viewed.fits k lo mid hi v w s A kn o split_row lm at_k a b d e order w1 s1 r1
        (first P (with_value k (P.given a k) v) F W
        (first_node P kinds differences codes side F.viewed.fits k lo mid hi v w s A kn o split_row lm at_k a b d e
        order)) f

    pub splits_second : (s2 w3 s3 : List ℕ) (r : Bool) → r1 ≡ true → Trimmed k s1 s2 →
        Searches kinds differences codes open_terms block side (k + 1) d e w1 w3 s2 s3 r → Splits kinds differences codes open_terms block side k lo mid hi
        w w3 s s3 r
    splits_second s2 w3 s3 r f trimmed second P v F W A o split_row at_k =
        let kn : k < P.n = unknown P kinds differences codes side k F.viewed.fits kk in
        let one : Searched P (k + 1) a b (with_value k (P.given a k) v) w w1 s s1 r1 =
        first P (with_value k (P.given a k) v) F W
        (first_node P kinds differences codes side F.viewed.fits k lo mid hi v w s A kn o split_row lm at_k a b d e
        order) in
        split_second P kinds differences codes side F.viewed.fits k lo mid hi v w s A kn o split_row lm at_k a b d e order w1 s1 r1 one s2 trimmed w3 s3 r f
        (second P (with_value k (P.given d k) v) F (λ i j x y own. one.wanted i j ∙ W i j x y own)
        (second_part_node P kinds differences codes side F.viewed.fits
        k lo mid hi v w s A kn o split_row lm at_k a b d e order w1 s1 r1 one s2 trimmed))

-- ---- the position behind those that stand

module _ (kinds differences codes open_terms block : List ℕ) (side at until lo mid hi : ℕ) (short : length kinds ≤ max_unknowns) (w u s t : List ℕ)
    (r : Bool) where
  pub steps_reached : at ≡ length kinds → Reached codes side w lo s t r → Steps kinds differences codes open_terms block side at until lo mid hi w w s t r
  unfolding conflict
  steps_reached e reached P v F W A split_row parted most opens others =
      let n : at ≡ P.n = e ∙ sym F.viewed.fits.unknowns in
      subst (λ (x : ℕ). Searched P x lo hi v w w s t r) (sym n)
      (searched_leaf P kinds differences codes side F.viewed.fits lo hi v w s t r (subst (λ (x : ℕ). Node P x lo hi v (cells w) (masks s)) n A) reached
      (λ f l lt. reached.full f l (let m : P.n ≡ length kinds = F.viewed.fits.unknowns in omega arith)))

  pub steps_split : until ≤ at → at < length kinds → Splits kinds differences codes open_terms block side at lo mid hi w u s t r →
      Steps kinds differences codes open_terms block side at until lo mid hi w u s t r
  steps_split le lt split P v F W A split_row parted most opens others =
      let e : at ≡ until = omega arith in
      split P v F W A (subst (λ (x : ℕ). P.own x ≡ false) (sym e) (others (omega arith))) split_row ((parted.there (omega arith)).1 ∙ sym e)

  pub steps_decide : at < until → Decides kinds differences codes open_terms block side at lo hi w u s t r →
      Steps kinds differences codes open_terms block side at until lo mid hi w u s t r
  steps_decide lt decide P v F W A split_row parted most opens others = decide P v F W A (opens (omega arith)).0 (opens (omega arith)).1

-- ---- the whole

module _ (kinds differences codes open_terms block : List ℕ) (side k at until lo mid hi : ℕ) (short : length kinds ≤ max_unknowns) (w u s t : List ℕ) (r : Bool)
    (split_row : SplitRow differences lo hi mid) (parted : SplitPosition differences lo mid (length kinds) until)
    (stood : FirstOpen kinds w side k lo until at) (stepped : Steps kinds differences codes open_terms block side at until lo mid hi w u s t r) where
  taken : (P : Problem) (v : ℕ → Bool) (F : Known P kinds differences codes open_terms block side) (W : (i j : ℕ) → i < P.count → j < P.n → P.own j ≡ true →
      wants w i j ≡ P.wanted i j) (A : Node P k lo hi v (cells w) (masks s)) → Searched P at lo hi ((cells w).value lo) w u s t r
  taken P v F W A =
      stepped P ((cells w).value lo) F W (stood_node P kinds differences codes side F.viewed.fits k at until lo mid hi v w s short A split_row parted
      stood) split_row
      parted
      (at_fits P kinds differences codes side F.viewed.fits k at until lo mid hi v w s short A split_row parted stood)
      (stood_open P kinds differences codes side F.viewed.fits k at until lo mid hi v w s short A split_row parted stood)
      (parted_other P kinds differences codes side F.viewed.fits k at until lo mid hi v w s short A split_row parted stood)

  pub searches_won : r ≡ true → Searches kinds differences codes open_terms block side k lo hi w u s t true
  searches_won e P v F W A =
      stood_won P kinds differences codes side F.viewed.fits k at until lo mid hi v w s short A split_row parted stood u t
      (subst (λ (b : Bool). Searched P at lo hi ((cells w).value lo) w u s t b) e (taken P v F W A))

  pub searches_failed : (t' : List ℕ) → r ≡ false → Resolved k at t t' → Searches kinds differences codes open_terms block side k lo hi w u s t' false
  searches_failed t' e resolved P v F W A =
      stood_searched P kinds differences codes side F.viewed.fits k at until lo mid hi v w s short A split_row parted stood u t t' false
      (subst (λ (b : Bool). Searched P at lo hi ((cells w).value lo) w u s t b) e (taken P v F W A)) resolved

-- ---- the start

module _ (P : Problem) (kinds differences codes : List ℕ) (side : ℕ) (F : Fits P kinds differences codes side) (some : 0 < length differences) (w : List ℕ)
    (filled : (i j : ℕ) → i < P.count → j < P.n → P.own j ≡ false → ((cells w).level i j ≡ 1) × ((cells w).value i j ≡ P.given i j))
    (opened : (i j : ℕ) → ((i < P.count) × (j < P.n) × (P.own j ≡ false) → ⊥) → (cells w).level i j ≡ 0) where
  rows_known : P.count ≡ length differences
  rows_known = F.rows

  -- a cell is a row's, at level 0, or open
  cell_cases : (i j : ℕ) → ((i < P.count) × (j < P.n) × (P.own j ≡ false)) ⊎ ((cells w).level i j ≡ 0)
  cell_cases i j = go (dec_lt i P.count) (dec_lt j P.n) (true_or_false (P.own j))
    where
      go : Dec (i < P.count) → Dec (j < P.n) → (P.own j ≡ true) ⊎ (P.own j ≡ false) →
          ((i < P.count) × (j < P.n) × (P.own j ≡ false)) ⊎ ((cells w).level i j ≡ 0)
      go (yes a) (yes b) (inr o) = inl (a, b, o)
      go (yes a) (yes b) (inl o) = inr (opened i j (λ t. never_both o t.2))
      go (yes a) (no b) o = inr (opened i j (λ t. b t.1))
      go (no a) b o = inr (opened i j (λ t. a t.0))

  root_node : (v : ℕ → Bool) (s : List ℕ) → Node P 0 0 (length differences) v (cells w) (masks s)
  root_node v s = record {
    some = some;
    rows = let e : P.count ≡ length differences = rows_known in omega arith;
    depth = omega arith;
    agree = λ i h p q r t l lt o. absurd (omega arith);
    past = λ i j p q lt. absurd (omega arith);
    given = λ i j p q jn o. let f : ((cells w).level i j ≡ 1) × ((cells w).value i j ≡ P.given i j) = filled i j
        (let e : P.count ≡ length differences = rows_known in omega arith) jn o in (let z : (cells w).level i j ≡ 1 = f.0 in omega arith, f.1);
    alike = λ i h j p q r t jn o ag z. absurd (⊎_elim (λ c. never_both o c.2) (λ e. omega arith) (cell_cases i j));
    implied = λ i j p q jn z m M heeds. ⊎_elim (λ c. M.follows i j c.0 jn c.2 ∙ sym (filled i j c.0 jn c.2).1) (λ e. absurd (omega arith))
        (cell_cases i j);
    levels = λ i j p q. ⊎_elim (λ c. let z : (cells w).level i j ≡ 1 = (filled i j c.0 c.1 c.2).0 in omega arith) (λ e. omega arith) (cell_cases i j);
  }

-- the open terms that were found in the filled table are those of the problem's rows
module _ (P : Problem) (kinds differences codes open_terms : List ℕ) (side : ℕ) (F : Fits P kinds differences codes side) (w : List ℕ)
    (filled : (i j : ℕ) → i < P.count → j < P.n → P.own j ≡ false → ((cells w).level i j ≡ 1) × ((cells w).value i j ≡ P.given i j))
    (known : side ≡ 1 → Coded (length kinds) codes → Opened kinds codes w (length differences) open_terms) (short : length kinds ≤ max_unknowns) where
  coded_here : Coded (length kinds) codes
  coded_here = subst (λ (n : ℕ). Coded n codes) F.unknowns F.coded

  given_in : side ≡ 1 → (i : ℕ) → i < P.count → (c : ℕ) → ((2 ≤ c) × (position c < length kinds)) × GivenTrue kinds w i c → GivenIn P kinds i c
  given_in universal i row c q =
      let low : position c < length kinds = q.0.1 in
      let same : row_position c ≡ position c = row_position_is c q.0.0 (omega arith) in
      record {
        given = q.1.given;
        is =
            sym (code_local c ((cells w).value i) (P.given i)
            (filled i (position c) row (subst (λ (n : ℕ). position c < n) (sym F.unknowns) low)
            (F.own (position c) low ∙ other (position c) (subst (λ (p : ℕ). eqb (get_or kinds p 0) 1 ≡ false) same (own_of kinds c q.1.given)))).1)
            ∙ q.1.is;
      }
    where
      other : (p : ℕ) → eqb (get_or kinds p 0) 1 ≡ false → eqb (get_or kinds p 0) side ≡ false
      other p e = subst (λ (x : ℕ). eqb (get_or kinds p 0) x ≡ false) (sym universal) e

  viewed : Viewed P kinds differences codes open_terms side
  viewed = record {
    fits = F;
    shown = λ universal i start row inside begins.
        ⊎_elim
        (λ s. inl (some_map (λ c. ((2 ≤ c) × (position c < length kinds)) × GivenTrue kinds w i c) (GivenIn P kinds i) (given_in universal i row)
        (clause_of (drop start codes))
        (some_with (λ c. (2 ≤ c) × (position c < length kinds)) (GivenTrue kinds w i) (clause_of (drop start codes))
        (clause_coded (length kinds) codes start coded_here) s)))
        (λ open_there. inr open_there)
        ((known universal coded_here).every i (subst (λ (n : ℕ). i < n) F.rows row) start inside begins);
  }

module _ (kinds differences codes open_terms block : List ℕ) (side : ℕ) (some : 0 < length differences) (w w1 s s1 : List ℕ) (r1 : Bool)
    (looked : PropagatesFor kinds side differences codes open_terms 0 (length differences) 1 w w1 s s1 r1)
    (known : side ≡ 1 → Coded (length kinds) codes → Opened kinds codes w (length differences) open_terms) (short : length kinds ≤ max_unknowns) where
  pub start_refuted : r1 ≡ false → FromStart kinds differences codes block side w w1 false
  start_refuted e P F W filled opened remembered = (
    λ f. absurd (never_both f refl),
    λ f v. (
      conflict s1,
      (looked P 0 v (viewed P kinds differences codes open_terms side F w filled known short)
          (root_node P kinds differences codes side F some w filled opened v s) (omega arith) (omega arith)).failed e,
    ),
  )

  pub start_searched : (u t : List ℕ) (r : Bool) → r1 ≡ true → Searches kinds differences codes open_terms block side 0 0 (length differences) w1 u s1 t r →
      FromStart kinds differences codes block side w u r
  start_searched u t r e searches P F W filled opened remembered = (
    λ f. subst (λ (x : ℕ). Won P 0 0 x (cells u)) (sym F.rows)
        ((searched (λ j. false)).won f),
    λ f v. (conflict t, (searched v).failed f),
  )
    where
      seen : Viewed P kinds differences codes open_terms side
      seen = viewed P kinds differences codes open_terms side F w filled known short

      searched : (v : ℕ → Bool) → Searched P 0 0 (length differences) v w1 u s1 t r
      searched v =
          let propagated : Propagated P 0 0 (length differences) v 1 w w1 s s1 r1 = looked P 0 v seen
          (root_node P kinds differences codes side F some w filled opened v s)
          (omega arith) (omega arith) in
          searches P v (record { viewed = seen; remembered = remembered }) (λ i j a b own. propagated.wanted i j ∙ W i j a b own) (propagated.kept e)
