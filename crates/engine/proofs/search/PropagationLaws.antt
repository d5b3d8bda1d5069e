-- What a look at one clause in one row gives the group: a clause whose literals are all false refutes it, and one whose literals are all false
-- but one open one forces that one in all rows of its copy. Assumes nothing.
use Prim.Native.Nat.{ℕ, zero, suc, ◌+◌, ◌-◌, ◌%◌, min, ◌≤◌, ◌<◌}
use mathlib.Core.Path.{◌≡◌, refl, sym, ◌∙◌, ap, subst}
use mathlib.Core.Logic.{◌⊎◌, inl, inr, ⊎_elim}
use mathlib.Core.Bool.{Bool, true, false}
use mathlib.Core.List.{List}
use native.Mathlib.Omega.{arith}
use native.Mathlib.Decide.{dec_le, dec_lt}
use lib.Dec.{eqb}
use lib.ListN.{length, get_or, take, drop, length-take}
use lib.Seq.{get_or-take, get_or-drop}
use Rattle.formula.specs.Formula.{max_unknowns}
use Rattle.expansion.proofs.Booleans.{true_or_false, never_both}
use Rattle.expansion.proofs.Cuts.{Mask, Problem, Agree, Refuted, Implied, Within, agree_sym, refuted_row, implied_row, implied_larger}
use Rattle.expansion.proofs.Node.{Node, MasksWithin, grown_refl, grown_stored}
use Rattle.expansion.proofs.Steps.{node_store}
use Rattle.expansion.proofs.ClauseCuts.{Every, Rests, dead_clause, unit_clause, matrix_at}
use Rattle.search_cells.specs.Cells.{cells}
use Rattle.search_cells.specs.Private.Changes.{CellsSet}
use Rattle.search_sets.specs.Private.Masks.{set_at, masks, conflict, SetsKept, ReasonsAdded}
use Rattle.codes.specs.Codes.{last_code}
use Rattle.codes.specs.Private.Clauses.{position, code_true, code_clauses, clause_of, code_goal, Begins, Coded}
use Rattle.index.specs.Index.{code_count}
use Rattle.engine.specs.Private.Steps.{Fits, Propagated, Propagates, Starts, Indexed, Lent}
use Rattle.search_evaluation.specs.Private.Looked.{IsAt, Looked}
use Rattle.search_groups.specs.Private.Parts.{CopyFrom, CopyTo}
use Rattle.engine.proofs.search.StepLaws.{masks_below, masks_grown, masks_kept, within_refl, within_trans, propagates_refl, propagates_then}
use Rattle.engine.proofs.search.CallLaws.{lists_starts}
use Rattle.engine.proofs.search.Rows.{agree_between, parted_apart}
use Rattle.codes.proofs.CodeLaws.{code_local, code_sign, clause_among, clause_coded, every_both, every_some}

-- The code is the one found, or is false in row i.
abbrev FalseBut : List ℕ → ℕ → ℕ → ℕ → Type 0
FalseBut w i found c = (c ≡ found) ⊎ IsAt w i false c

-- The code's position is `to`, or its set in s is in the set at `to` of t.
abbrev Takes : List ℕ → List ℕ → ℕ → ℕ → Type 0
Takes s t to c = (position c ≡ to) ⊎ ((l : ℕ) → set_at s (position c) l ≡ true → set_at t to l ≡ true)

open_or_set : (n : ℕ) → (n ≡ 0) ⊎ (0 < n)
open_or_set zero = inl refl
open_or_set (suc n) = inr (omega arith)

-- The code is a literal of one of n unknowns, whose position has a set.
abbrev Literal : ℕ → ℕ → Type 0
Literal n c = ((2 ≤ c) × (position c < n)) × (position c < max_unknowns)

-- the existential side's goal is the matrix
pub goal_matrix : (P : Problem) (kinds differences codes : List ℕ) → Fits P kinds differences codes 0 → (f : ℕ → Bool) →
    P.goal f ≡ matrix_at code_true (code_clauses codes) f
unfolding code_goal
goal_matrix P kinds differences codes F f = F.goal f

pub conflict_is : (t : List ℕ) → conflict t ≡ set_at t max_unknowns
unfolding conflict
conflict_is t = refl

module _ (P : Problem) (kinds differences codes : List ℕ) (F : Fits P kinds differences codes 0) (coded : Coded max_unknowns codes) (k lo hi : ℕ) (v : ℕ → Bool)
    (w s : List ℕ) (A : Node P k lo hi v (cells w) (masks s))
    (i start : ℕ) (il : lo ≤ i) (ih : i < hi) (begins : Begins codes start) where
  abbrev clause : List ℕ
  clause = clause_of (drop start codes)

  -- a code's position is one of the problem's, and has a set
  named : Every (Literal P.n) clause
  named =
      every_both (λ c. (2 ≤ c) × (position c < P.n)) (λ c. (2 ≤ c) × (position c < max_unknowns)) (Literal P.n) (λ c a b. (a, b.1)) clause
      (clause_coded P.n codes start F.coded) (clause_coded max_unknowns codes start coded)

  -- ---- a clause that is false

  module _ (found : ℕ) (none : found ≡ 0) (looked : Looked codes w i start found) (s1 t : List ℕ) (emptied : SetsKept s s1)
      (reasons_added : ReasonsAdded clause max_unknowns s1 t) where
    within_conflict : (c : ℕ) → position c < max_unknowns → Takes s1 t max_unknowns c → Within k (masks s (position c)) (conflict t)
    within_conflict c lt takes l lk h =
        ⊎_elim
        (λ e. absurd (omega arith))
        (λ takes'. ap (λ (m : Mask). m l) (conflict_is t) ∙ takes' l
        (emptied.same (position c) lt l ∙ sym (ap (λ (m : Mask). m l) (masks_below s (position c) lt))
        ∙ h))
        takes

    satisfied_rests : Every (Rests code_true position P.n k (cells w) (masks s) (conflict t) i false) clause
    satisfied_rests =
        every_both (λ c. Literal P.n c × FalseBut w i found c) (Takes s1 t max_unknowns)
        (Rests code_true position P.n k (cells w) (masks s) (conflict t) i
        false)
        (λ c a b. rests c a b)
        clause
        (every_both (Literal P.n) (FalseBut w i found) (λ c. Literal P.n c × FalseBut w i found c) (λ c a b. (a, b)) clause named
        (looked.rest (λ e. omega arith)))
        reasons_added.takes
      where
        rests : (c : ℕ) → Literal P.n c × FalseBut w i found c → Takes s1 t max_unknowns c →
            Rests code_true position P.n k (cells w) (masks s) (conflict t) i false c
        rests c a b =
            ⊎_elim
            (λ e. absurd (let p : 2 ≤ c = a.0.0.0 in omega arith))
            (λ is. record { named = a.0.0.1; set = is.set; is = is.is; masked = within_conflict c a.0.1 b })
            a.1

    refuted_here : Refuted P k v (conflict t) i
    refuted_here =
        dead_clause code_true position code_local P k lo hi v (cells w) (masks s) (conflict t) A i il ih (code_clauses codes) clause
        (goal_matrix P kinds differences codes F)
        (clause_among codes start begins (looked.ends (λ e. omega arith))) satisfied_rests

    propagated_satisfied : (level : ℕ) → Propagated P k lo hi v level w w s t false
    propagated_satisfied level = record {
      grown = grown_refl level lo hi (cells w);
      wanted = λ h j. refl;
      masked = within_trans k (masks s) (masks s1) (masks t) (masks_kept k s s1 emptied) (masks_grown k max_unknowns s1 t reasons_added.grown);
      kept = λ e. absurd (never_both e refl);
      failed = λ e. refuted_row P i lo k v (conflict t) (omega arith) (omega arith) A.depth (A.agree i lo il ih (omega arith) (omega arith)) refuted_here;
    }

  -- ---- a clause with one open literal, all others false

  module _ (c : ℕ) (two : 2 ≤ c) (looked : Looked codes w i start c) (t t1 : List ℕ) (reasons_added : ReasonsAdded clause (position c) s t)
      (noted : SetsKept t t1)
      (u : List ℕ) (level from to : ℕ) (pos : 0 < level) (most : level ≤ k + 1)
      (copy_from : CopyFrom differences (position c) lo i from) (copy_to : CopyTo differences (position c) i hi to)
      (stored : CellsSet (position c) from to level (eqb (c % 2) 0) w u) where
    below : position c < P.n
    below = every_some (Literal P.n) (λ x. x ≡ c) (position c < P.n) (λ x a e. subst (λ (y : ℕ). position y < P.n) e a.0.1) clause named
        (looked.named two)

    unset : (cells w).level i (position c) ≡ 0
    unset = looked.unset two

    fits : position c < max_unknowns
    fits = looked.fits two

    inside : position c ≤ length kinds
    inside = let e : P.n ≡ length kinds = F.unknowns in let b : position c < P.n = below in omega arith

    group_rows : hi ≤ length differences
    group_rows = let e : P.count ≡ length differences = F.rows in omega arith

    -- a cell that is open is an own one, from k on
    own : P.own (position c) ≡ true
    own =
        ⊎_elim
        (λ o. o)
        (λ o. absurd (let z : 0 < (cells w).level i (position c) = (A.given i (position c) il ih below o).0 in let y : (cells w).level i
        (position c) ≡ 0 = unset
        in omega arith))
        (true_or_false (P.own (position c)))

    later : k ≤ position c
    later = go (dec_le k (position c))
      where
        go : Dec (k ≤ position c) → k ≤ position c
        go (yes le) = le
        go (no n) = absurd (let z : 0 < (cells w).level i (position c) = (A.past i (position c) il ih (omega arith)).0 in let y : (cells w).level i
            (position c) ≡ 0 = unset in omega arith)

    within_reasons_added : (x : ℕ) → position x < max_unknowns → 0 < (cells w).level i (position x) → Takes s t (position c) x →
        Within k (masks s (position x)) (masks t (position c))
    within_reasons_added x lt set takes l lk h =
        ⊎_elim
        (λ e. absurd (let z : (cells w).level i (position x) ≡ (cells w).level i (position c) = ap ((cells w).level i) e in let y : (cells w).level i
        (position c) ≡ 0 = unset in omega arith))
        (λ takes'. ap (λ (m : Mask). m l) (masks_below t (position c) fits) ∙ takes' l (sym (ap (λ (m : Mask). m l) (masks_below s (position x) lt)) ∙ h))
        takes

    unit_rests : Every (λ x. (x ≡ c) ⊎ Rests code_true position P.n k (cells w) (masks s) (masks t (position c)) i false x) clause
    unit_rests =
        every_both (λ x. Literal P.n x × FalseBut w i c x) (Takes s t (position c)) (λ x. (x ≡ c) ⊎ Rests code_true position P.n k (cells w) (masks s)
        (masks t (position c)) i false x)
        (λ x a b. rests x a b)
        clause
        (every_both (Literal P.n) (FalseBut w i c) (λ x. Literal P.n x × FalseBut w i c x) (λ x a b. (a, b)) clause named
        (looked.rest (λ e. omega arith)))
        reasons_added.takes
      where
        rests : (x : ℕ) → Literal P.n x × FalseBut w i c x → Takes s t (position c) x →
            (x ≡ c) ⊎ Rests code_true position P.n k (cells w) (masks s) (masks t (position c)) i false x
        rests x a b =
            ⊎_elim
            (λ e. inl e)
            (λ is. inr (record { named = a.0.0.1; set = is.set; is = is.is; masked = within_reasons_added x a.0.1 is.set b }))
            a.1

    implied_here : Implied P k v (masks t (position c)) i (position c) (eqb (c % 2) 0)
    implied_here =
        unit_clause code_true position code_local P k lo hi v (cells w) (masks s) (masks t (position c)) A i il ih (code_clauses codes) clause c (eqb (c % 2) 0)
        (code_sign c) (goal_matrix P kinds differences codes F)
        (clause_among codes start begins (looked.ends (λ e. omega arith))) unit_rests

    -- the rows from `from` to `to` have row i's copy, and no other row of the group has it
    from_low : lo ≤ from
    from_low = copy_from.low

    to_high : to ≤ hi
    to_high = copy_to.high

    shares : (h : ℕ) → from ≤ h → h < to → Agree P i h (position c)
    shares h p q = go (dec_le h i)
      where
        go : Dec (h ≤ i) → Agree P i h (position c)
        go (yes le) = agree_sym P h i (position c) (agree_between P kinds differences codes 0 F (position c) h i le
            (let g : hi ≤ length differences = group_rows in omega arith) inside (λ g a b. copy_from.shared g (omega arith) b))
        go (no n) = agree_between P kinds differences codes 0 F (position c) i h (omega arith)
            (let g : hi ≤ length differences = group_rows in let th : to ≤ hi = to_high
            in omega arith) inside (λ g a b. copy_to.shared g a (omega arith))

    closed : (h g : ℕ) → lo ≤ h → h < hi → lo ≤ g → g < hi → Agree P h g (position c) → from ≤ h → h < to → (from ≤ g) × (g < to)
    closed h g hl hh gl gh a p q = (low (dec_le from g), high (dec_lt g to))
      where
        low : Dec (from ≤ g) → from ≤ g
        low (yes le) = le
        low (no n) = absurd (parted_apart P kinds differences codes 0 F (position c) g h from (omega arith) p
            (let r : hi ≤ length differences = group_rows in omega arith) inside (copy_from.first (omega arith)) (agree_sym P h g (position c) a))

        high : Dec (g < to) → g < to
        high (yes lt) = lt
        high (no n) = absurd (parted_apart P kinds differences codes 0 F (position c) h g to q (omega arith)
            (let r : hi ≤ length differences = group_rows in omega arith)
            inside (copy_to.last (omega arith)) a)

    open_there : (h : ℕ) → from ≤ h → h < to → (cells w).level h (position c) ≡ 0
    open_there h p q =
        ⊎_elim
        (λ e. e)
        (λ set.
        absurd
        (let lf : lo ≤ from = from_low in
        let th : to ≤ hi = to_high in
        let z : 0 < (cells w).level i (position c) = (A.alike h i (position c) (omega arith) (omega arith) il ih below own
        (agree_sym P i h (position c) (shares h p q)) set).0 in
        let y : (cells w).level i (position c) ≡ 0 = unset in
        omega arith))
        (open_or_set ((cells w).level h (position c)))

    larger : MasksWithin k (masks s) (masks t1)
    larger = within_trans k (masks s) (masks t) (masks t1) (masks_grown k (position c) s t reasons_added.grown) (masks_kept k t t1 noted)

    forced : (h : ℕ) → lo ≤ h → h < hi → from ≤ h → h < to → Implied P k v (masks t1 (position c)) h (position c) (eqb (c % 2) 0)
    forced h hl hh p q =
        implied_larger P k v (masks t (position c)) (masks t1 (position c)) h (position c) (eqb (c % 2) 0) (masks_kept k t t1 noted (position c))
        (implied_row P i h k (position c) v (masks t (position c)) (eqb (c % 2) 0) (omega arith) (omega arith) A.depth below (A.agree i h il ih hl hh) own
        (shares h p q) implied_here)

    propagated_assign : Propagated P k lo hi v level w u s t1 true
    propagated_assign = record {
      grown = grown_stored level lo hi from to (position c) (eqb (c % 2) 0) (cells w) (cells u) from_low to_high open_there stored.stored;
      wanted = stored.wanted;
      masked = larger;
      kept = λ e. node_store P k lo hi v (cells w) (cells u) (masks s) from to (position c) level (eqb (c % 2) 0) A stored.stored below own pos closed
          (masks t1) larger most later forced;
      failed = λ e. absurd (never_both refl e);
    }

-- ---- the same over every problem

module _ (differences codes : List ℕ) (coded : Coded max_unknowns codes) (lo hi level : ℕ) (w s : List ℕ) (i start : ℕ) (il : lo ≤ i) (ih : i < hi)
    (begins : Begins codes start) where
  pub propagates_conflict : (found : ℕ) → found ≡ 0 → Looked codes w i start found → (s1 t : List ℕ) → SetsKept s s1 →
      ReasonsAdded (clause_of (drop start codes)) max_unknowns s1 t → Propagates 0 differences codes lo hi level w w s t false
  propagates_conflict found none looked s1 t emptied reasons_added P kinds k v F A pos most =
      propagated_satisfied P kinds differences codes F coded k lo hi v w s A i start il ih begins found none looked s1 t emptied reasons_added level

  pub propagates_assign : (c : ℕ) → 2 ≤ c → Looked codes w i start c → (t t1 : List ℕ) → ReasonsAdded (clause_of (drop start codes)) (position c) s t →
      SetsKept t t1 →
      (u : List ℕ) (from to : ℕ) → CopyFrom differences (position c) lo i from → CopyTo differences (position c) i hi to →
      CellsSet (position c) from to level (eqb (c % 2) 0) w u
      → Propagates 0 differences codes lo hi level w u s t1 true
  propagates_assign c two looked t t1 reasons_added noted u from to copy_from copy_to stored P kinds k v F A pos most =
      propagated_assign P kinds differences codes F coded k lo hi v w s A i start il ih begins c two looked t t1 reasons_added noted u level from to pos
      most copy_from copy_to
      stored

  -- at a number that is the literal's position
  pub propagates_assign_at : (p c : ℕ) → p ≡ position c → 2 ≤ c → Looked codes w i start c → (t t1 : List ℕ) → ReasonsAdded (clause_of (drop start codes))
      p s t →
      SetsKept t t1 → (u : List ℕ) (from to : ℕ) → CopyFrom differences p lo i from → CopyTo differences p i hi to → CellsSet p from to level
      (eqb (c % 2) 0) w u
      → Propagates 0 differences codes lo hi level w u s t1 true
  propagates_assign_at p c e two looked t t1 reasons_added noted u from to copy_from copy_to stored =
      propagates_assign c two looked t t1 (subst (λ (x : ℕ). ReasonsAdded (clause_of (drop start codes)) x s t) e reasons_added) noted u from to
      (subst (λ (x : ℕ). CopyFrom differences x lo i from) e copy_from) (subst (λ (x : ℕ). CopyTo differences x i hi to) e copy_to)
      (subst (λ (x : ℕ). CellsSet x from to level (eqb (c % 2) 0) w u) e stored)

-- ---- looks one after the other

-- From the area w and the sets s to u and t, over looks that do not fail, if what is looked up is as H says.
pub record Going (H : Type 0) (differences codes : List ℕ) (lo hi level : ℕ) (w u s t : List ℕ) : Type 0 where
  pub propagates : H → Propagates 0 differences codes lo hi level w u s t true
  pub work : length u ≡ length w
  pub sets : length t ≡ length s

-- what changes the positions to look at alone changes nothing else
pub propagates_noted : (differences codes : List ℕ) (lo hi level : ℕ) (w s t : List ℕ) → SetsKept s t → Propagates 0 differences codes lo hi level w w s t true
propagates_noted differences codes lo hi level w s t noted = propagates_refl 0 differences codes lo hi level w s t (λ k. masks_kept k s t noted)

pub propagates_nothing : (differences codes : List ℕ) (lo hi level : ℕ) (w s : List ℕ) → Propagates 0 differences codes lo hi level w w s s true
propagates_nothing differences codes lo hi level w s = propagates_refl 0 differences codes lo hi level w s s (λ k. within_refl k (masks s))

pub noted_first : (differences codes : List ℕ) (lo hi level : ℕ) (w x s t y : List ℕ) (r : Bool) → SetsKept s t → Propagates 0 differences codes lo hi
    level w x t y r →
    Propagates 0 differences codes lo hi level w x s y r
noted_first differences codes lo hi level w x s t y r noted next = propagates_then 0 differences codes lo hi level w w x s t y r
    (propagates_noted differences codes lo hi level w s t noted) next

pub lent_noted : {side : ℕ} {differences codes w s t x : List ℕ} → Lent side differences codes w s x → length t ≡ length s → Lent side differences codes w t x
lent_noted lent a = record {
  rows = lent.rows;
  entries = lent.entries;
  coded = lent.coded;
  area = lent.area;
  sets_lent = a ∙ lent.sets_lent;
  index_lent = lent.index_lent;
}

-- What the side that is known to be the existential one is lent.
pub lent_existential : {side : ℕ} {differences codes w s x : List ℕ} → side ≡ 0 → Lent side differences codes w s x → Lent 0 differences codes w s x
lent_existential is lent = record {
  rows = lent.rows;
  entries = lent.entries;
  coded = lent.coded;
  area = lent.area;
  sets_lent = lent.sets_lent;
  index_lent = lent.index_lent;
}

module _ {H : Type 0} {differences codes : List ℕ} {lo hi level : ℕ} {w u s t : List ℕ} (so_far : Going H differences codes lo hi level w u s t) where
  pub going_noted : {y : List ℕ} → SetsKept t y → length y ≡ length t → Going H differences codes lo hi level w u s y
  going_noted {y} noted same = record {
    propagates = λ h. propagates_then 0 differences codes lo hi level w u u s t y true (so_far.propagates h)
        (propagates_noted differences codes lo hi level u t y noted);
    work = so_far.work;
    sets = same ∙ so_far.sets;
  }

  pub going_then : {x y : List ℕ} (r : Bool) → (H → Propagates 0 differences codes lo hi level u x t y r) → r ≡ true → length x ≡ length u → length y ≡
      length t →
      Going H differences codes lo hi level w x s y
  going_then {x} {y} r next e a b = record {
    propagates = λ h. propagates_then 0 differences codes lo hi level w u x s t y true (so_far.propagates h)
        (subst (λ (z : Bool). Propagates 0 differences codes lo hi level u x t y z) e (next h));
    work = a ∙ so_far.work;
    sets = b ∙ so_far.sets;
  }

  -- the last look, and one that fails
  pub going_last : (x y : List ℕ) (r : Bool) → (H → Propagates 0 differences codes lo hi level u x t y r) → H → Propagates 0 differences codes lo hi level
      w x s y r
  going_last x y r next h = propagates_then 0 differences codes lo hi level w u x s t y r (so_far.propagates h) (next h)

  pub going_ends : (x y : List ℕ) (r : Bool) → (H → Propagates 0 differences codes lo hi level u x t y r) → r ≡ false → H →
      Propagates 0 differences codes lo hi level w x s y false
  going_ends x y r next e = going_last x y false (λ h. subst (λ (z : Bool). Propagates 0 differences codes lo hi level u x t y z) e (next h))

  pub going_at : {u' t' : List ℕ} → u' ≡ u → t' ≡ t → Going H differences codes lo hi level w u' s t'
  going_at {u'} {t'} a b =
      subst (λ (x : List ℕ). Going H differences codes lo hi level w x s t') (sym a)
      (subst (λ (x : List ℕ). Going H differences codes lo hi level w u s x) (sym b) so_far)

-- ---- lists of clauses

-- what stands at a place of a list
pub starts_at : (codes list : List ℕ) (begin end at start : ℕ) → begin ≤ at → at < end → start ≡ get_or list at 0 → Starts codes list begin end →
    Begins codes start
starts_at codes list begin end at start low high read starts = subst (λ (x : ℕ). Begins codes x) (sym read) (starts at low high)

-- what a list begins with
pub starts_taken : (codes list : List ℕ) (count : ℕ) → Starts codes list 0 count → Starts codes (take count list) 0 (length (take count list))
starts_taken codes list count starts at low high =
    let below : at < count = omega (arith, length-take count list) in
    subst (λ (x : ℕ). Begins codes x) (sym (get_or-take count list at 0 below)) (starts at low below)

-- a part of a list, which is empty if the list does not begin before its end
pub starts_part : (codes list : List ℕ) (b e begin end : ℕ) → end ≤ e → begin ≡ min b end → Starts codes list b e
    → Starts codes (take (end - begin) (drop begin list)) 0 (length (take (end - begin) (drop begin list)))
starts_part codes list b e begin end low first starts = starts_taken codes (drop begin list) (end - begin) part
  where
    part : Starts codes (drop begin list) 0 (end - begin)
    part at above below = subst (λ (x : ℕ). Begins codes x) (sym (get_or-drop begin list at 0)) (starts (begin + at) (omega arith) (omega arith))

-- what the index lists for a code, up to an end that is no later
pub lent_starts : {differences codes work sets index : List ℕ} → Lent 0 differences codes work sets index → Indexed 0 codes index → (c begin end : ℕ) → c ≤
    last_code →
    begin ≡ get_or index c 0 → end ≤ get_or index (code_count + c) 0 → Starts codes index begin end
lent_starts {differences} {codes} {work} {sets} {index} lent listed c begin end le is early at low high = lists_starts codes index lent.entries lent.coded
    (listed refl) c at le (omega arith) (omega arith)
