-- What the calls of each function leave, by what is held. Assumes nothing.
use Prim.Native.Nat.{ℕ, zero, suc, ◌+◌, ◌*◌, ◌%◌, ◌≤◌, ◌<◌}
use mathlib.Core.Path.{◌≡◌, refl, sym, ◌∙◌, ap, subst}
use mathlib.Core.Logic.{◌≢◌, ◌⊎◌}
use mathlib.Core.Bool.{Bool, true, false, not, cond, ◌&&◌}
use mathlib.Core.List.{List, ◌∷◌}
use native.Mathlib.Omega.{arith}
use native.Mathlib.Decide.{ℕ_discrete}
use native.Mathlib.Numerals.{add-one}
use lib.Dec.{eqb, ltb}
use lib.ListN.{length, get_or, set, drop}
use lib.Seq.{drop-cons}
use Rattle.formula.specs.Formula.{max_unknowns}
use Rattle.expansion.proofs.Booleans.{never_both}
use Rattle.expansion.proofs.ClauseCuts.{Every}
use Rattle.codes.specs.Codes.{last_code, row_position}
use Rattle.codes.specs.Private.Clauses.{position, clause_of, HasEnd, Begins, Coded}
use Rattle.codes.proofs.CodeLaws.{row_position_is, clause_step}
use Rattle.search_cells.specs.Cells.{cells}
use Rattle.search_sets.specs.Sets.{set_places, sets_size, added, has, emptied, reasons_added}
use Rattle.search_sets.specs.Private.Masks.{set_at, SetGrown, SetsKept, Put, ReasonsAdded}
use Rattle.search_sets.proofs.SetLaws.{add_grows, add_adds, has_is, empty_empties, empty_keeps, add_reasons_adds}
use Rattle.search_sets.proofs.MaskLaws.{store_elsewhere}
use Rattle.search_evaluation.specs.Evaluation.{has_row, level_in}
use Rattle.engine.specs.Private.Reasons.{Fixed, IsReason}
use Rattle.engine.specs.Private.Held.{LineSet, LineOpened, IsFalse, FalseBut, Held, Moved, Moves, StepsOn, SetsBut, Inheriting, Inherited, Same}
use Rattle.engine.proofs.search.HeldLaws.{held_same, held_store, held_open, denied_false, implied_open, implied_fixed, implied_decided, implied_turned}
use Rattle.engine.proofs.search.HeldLaws.{denied_reason}

-- ---- sets that stay

pub same_store : (o : List ℕ) (at x : ℕ) → 2 * (max_unknowns + 1) ≤ at → Same o (set o at x)
same_store o at x behind = record { same = λ j le l. store_elsewhere o at x j l (omega arith) (omega arith) }

pub same_trans : {o q t : List ℕ} → Same o q → Same q t → Same o t
same_trans a b = record { same = λ j le l. b.same j le l ∙ a.same j le l }

pub same_kept : {o q : List ℕ} → Same o q → SetsKept o q
same_kept a = record { same = λ p lt l. a.same p (omega arith) l }

-- ---- a level that is not 0 is a cell's

pub level_set : (w : List ℕ) (i k : ℕ) {r : ℕ} → r ≡ level_in w i k → 0 < r → 0 < (cells w).level i k
unfolding level_in
level_set w i k e h = go (has_row w i && ltb k max_unknowns) (subst (λ (x : ℕ). 0 < x) e h)
  where
    go : (t : Bool) → 0 < cond t ((cells w).level i k) 0 → 0 < (cells w).level i k
    go true p = p
    go false p = absurd (omega arith)

-- ---- the calls, as relations

module _ (o : List ℕ) {q : List ℕ} (size : length o ≡ sets_size) where
  pub but_emptied : (p : ℕ) → p < max_unknowns → q ≡ emptied o p → SetsBut p o q
  but_emptied p lt e = subst (λ (x : List ℕ). SetsBut p o x) (sym e) (record { same = λ j jl n l. (empty_empties o size p (omega arith)).others j n l })

  pub kept_emptied : q ≡ emptied o max_unknowns → SetsKept o q
  kept_emptied e = subst (λ (x : List ℕ). SetsKept o x) (sym e) (empty_keeps o size max_unknowns (omega arith) (omega arith))

  pub grown_added : (p l : ℕ) → p < max_unknowns → l < max_unknowns → q ≡ added o p l → SetGrown p o q
  grown_added p l pl ll e = subst (λ (x : List ℕ). SetGrown p o x) (sym e) (add_grows o size p l (omega arith) ll)

  pub adds : (p l : ℕ) → p < max_unknowns → l < max_unknowns → q ≡ added o p l → set_at q p l ≡ true
  adds p l pl ll e = subst (λ (x : List ℕ). set_at x p l ≡ true) (sym e) (add_adds o size p l (omega arith) ll)

  pub adds_reasons : (codes : List ℕ) (start p : ℕ) → p < set_places → Coded max_unknowns codes → q ≡ reasons_added codes o start p →
      ReasonsAdded (clause_of (drop start codes)) p o q
  adds_reasons codes start p place coded e = subst (λ (x : List ℕ). ReasonsAdded (clause_of (drop start codes)) p o x) (sym e)
      (add_reasons_adds o size codes start p place coded)

pub has_at : (o : List ℕ) → length o ≡ sets_size → (l : ℕ) {r : Bool} → l < max_unknowns → r ≡ has o max_unknowns l → r ≡ set_at o max_unknowns l
has_at o size l below e = e ∙ has_is o size max_unknowns l (omega arith) below

-- no position passed is in the set, nor the next one
pub none_more : (o : List ℕ) (k l : ℕ) → ((j : ℕ) → k ≤ j → j < l → set_at o max_unknowns j ≡ false) → set_at o max_unknowns l ≡ false → (j : ℕ) → k ≤ j →
    j < l + 1 → set_at o max_unknowns j ≡ false
none_more o k l none here j low high = go (ℕ_discrete j l)
  where
    go : Dec (j ≡ l) → set_at o max_unknowns j ≡ false
    go (yes e) = subst (λ (x : ℕ). set_at o max_unknowns x ≡ false) (sym e) here
    go (no n) = none j low (omega arith)

-- ---- a clause read code by code: what holds of the rest gives the whole

pub record Reading (codes a : List ℕ) (start but e : ℕ) : Type 0 where
  pub ends : HasEnd (drop e codes) → HasEnd (drop start codes)
  pub rest : Every (λ c. (c ≡ but) ⊎ IsFalse a c) (clause_of (drop e codes)) → Every (λ c. (c ≡ but) ⊎ IsFalse a c) (clause_of (drop start codes))

module _ {codes a : List ℕ} {start but e : ℕ} (so_far : Reading codes a start but e) (inside : e < length codes) (c : ℕ) (is : c ≡ get_or codes e 0) where
  here : drop e codes ≡ c ∷ drop (e + 1) codes
  here = drop-cons codes e 0 inside ∙ ap (λ (n : ℕ). get_or codes e 0 ∷ drop n codes) (sym (add-one e)) ∙ ap (λ (x : ℕ). x ∷ drop (e + 1) codes) (sym is)

  pub reading_more : (c ≡ 0 → ⊥) → (c ≡ but) ⊎ IsFalse a c → Reading codes a start but (e + 1)
  reading_more some fact = record {
    ends = λ h. so_far.ends (subst HasEnd (sym here) (ends_later c h));
    rest = λ h.
        so_far.rest
        (subst (λ (cs : List ℕ). Every (λ c. (c ≡ but) ⊎ IsFalse a c) cs) (sym (clause_step codes e inside (omega arith)))
        (subst (λ (x : ℕ). (x ≡ but) ⊎ IsFalse a x) is fact, h));
  }
    where
      ends_later : (x : ℕ) → HasEnd (drop (e + 1) codes) → HasEnd (x ∷ drop (e + 1) codes)
      ends_later zero h = tt
      ends_later (suc x) h = h

-- ---- values that are put

-- the row's own value, as a decision
pub put_held : (w a o b q1 q : List ℕ) (i p : ℕ) (y : Bool) → length o ≡ sets_size → length q1 ≡ sets_size → p < max_unknowns
    → q1 ≡ emptied o p → q ≡ added q1 p p → y ≡ (cells w).value i p → LineSet p y a b
    → (codes s : List ℕ) → Held codes w s i a o → Held codes w s i b q
put_held w a o b q1 q i p y size size1 small e1 e2 ey stored codes s held =
    held_store codes w s i a o held b q p ((cells w).value i p)
    (subst (λ (v : Bool). LineSet p v a b) ey stored)
    (record { same = λ j lt n l. (grown_added q1 size1 p p small small e2).others j n l ∙ (but_emptied o size p small e1).same j lt n l })
    (implied_decided codes w s i (set_at q p) p small (adds q1 size1 p p small small e2))

-- what is fixed
pub fixed_held : (w s a o b q : List ℕ) (i p : ℕ) (y : Bool) → length o ≡ sets_size → p < max_unknowns → Fixed w s i p
    → q ≡ emptied o p → y ≡ (cells w).value i p → LineSet p y a b
    → (codes : List ℕ) → Held codes w s i a o → Held codes w s i b q
fixed_held w s a o b q i p y size small fixed e1 ey stored codes held =
    held_store codes w s i a o held b q p ((cells w).value i p)
    (subst (λ (v : Bool). LineSet p v a b) ey stored)
    (but_emptied o size p small e1)
    (implied_fixed codes w s i (set_at q p) p small fixed)

-- ---- steps one after the other

-- a clause that is false
pub false_moves : (codes a o q1 q : List ℕ) (start c : ℕ) → length o ≡ sets_size → length q1 ≡ sets_size → Begins codes start → FalseBut codes a start c → c ≡ 0
    → q1 ≡ emptied o max_unknowns → q ≡ reasons_added codes q1 start max_unknowns → Moves codes a a o q false
false_moves codes a o q1 q start c size size1 begins looked none e1 e2 = record { on = moved }
  where
    moved : (w s : List ℕ) (i : ℕ) → Coded max_unknowns codes → Held codes w s i a o → Moved codes w s i a q false
    moved w s i coded held = record {
      held = held_same codes w s i a o held q (record
          { same = λ p lt l. reasons_added.grown.others p (λ e. omega arith) l ∙ (kept_emptied o size e1).same p lt l });
      denied = λ e.
          denied_false codes w s i a o held coded start c begins looked none q1 q (kept_emptied o size e1) reasons_added;
    }
      where
        reasons_added : ReasonsAdded (clause_of (drop start codes)) max_unknowns q1 q
        reasons_added = adds_reasons q1 size1 codes start max_unknowns (omega arith) coded e2

-- a clause with one open literal
module _ (codes a o b q1 q2 q : List ℕ) (p start c : ℕ) (size : length o ≡ sets_size) (size1 : length q1 ≡ sets_size) (small : p < max_unknowns) (two : 2 ≤ c)
    (last : c ≤ last_code)
    (ep : p ≡ row_position c) (unset : get_or a p 0 ≡ 0) (e1 : q1 ≡ emptied o p) (e2 : q2 ≡ reasons_added codes q1 start p)
    (stored : LineSet p (eqb (c % 2) 0) a b)
    (noted : SetsKept q2 q)
    (begins : Begins codes start) (looked : FalseBut codes a start c) where
  there : position c ≡ p
  there = sym (row_position_is c two (omega arith)) ∙ sym ep

  module _ (w s : List ℕ) (i : ℕ) (coded : Coded max_unknowns codes) (held : Held codes w s i a o) where
    reasons_added_there : ReasonsAdded (clause_of (drop start codes)) p q1 q2
    reasons_added_there = adds_reasons q1 size1 codes start p (omega arith) coded e2

    others : SetsBut p o q2
    others = record { same = λ j lt n l. reasons_added_there.grown.others j n l ∙ (but_emptied o size p small e1).same j lt n l }

    open_moved : Moved codes w s i b q true
    open_moved = record {
      held =
          held_same codes w s i b q2
          (held_store codes w s i a o held b q2 p (eqb (c % 2) 0) stored others
          (implied_open codes w s i a o held coded start c begins looked p there unset q1 q2 (but_emptied o size p small e1) reasons_added_there))
          q noted;
      denied = λ e. absurd (never_both refl e);
    }

  pub open_moves : Moves codes a b o q true
  open_moves = record { on = open_moved }

-- ---- a decision, and its other value after a conflict

pub decides : (codes w a b b' o q1 q2 q3 q : List ℕ) (i : ℕ) (r : Bool) → Same o q1
    → ((codes s : List ℕ) → Held codes w s i a q1 → Held codes w s i b q2) → SetsKept q2 q3 → Moves codes b b' q3 q r
    → StepsOn codes w i a b' o q true r
decides codes w a b b' o q1 q2 q3 q i r same put kept moves = record {
  on = λ s coded moved. moves.on w s i coded (held_same codes w s i b q2 (put codes s (held_same codes w s i a o moved.held q1 (same_kept same))) q3 kept);
}

pub turns : (codes w a a1 b b' o q1 q2 q : List ℕ) (i p : ℕ) (y r : Bool) → LineOpened a a1 → Inherited p o q1 → y ≡ not ((cells w).value i p) →
    LineSet p y a1 b → SetsKept q1 q2
    → Moves codes b b' q2 q r → StepsOn codes w i a b' o q false r
turns codes w a a1 b b' o q1 q2 q i p y r opened inherited ey stored kept moves = record {
  on = λ s coded moved.
      moves.on w s i coded
      (held_same codes w s i b q1
      (held_store codes w s i a1 o (held_open codes w s i a o moved.held a1 opened) b q1 p (not ((cells w).value i p))
      (subst (λ (v : Bool). LineSet p v a1 b) ey stored)
      inherited.others
      (implied_turned codes w s i (set_at o max_unknowns) (set_at q1 p) p (moved.denied refl) inherited.takes))
      q2 kept);
}

-- ---- the set at p as it is taken from the one behind

module _ {p e : ℕ} {o q : List ℕ} (small : p < max_unknowns) (so_far : Inheriting p e o q) where
  pub inheriting_passed : (set_at q max_unknowns e ≡ true → e ≢ p → ⊥) → Inheriting p (e + 1) o q
  inheriting_passed none = record { others = so_far.others; takes = λ l less n h. go l less n h (ℕ_discrete l e) }
    where
      go : (l : ℕ) → l < e + 1 → l ≢ p → set_at o max_unknowns l ≡ true → Dec (l ≡ e) → set_at q p l ≡ true
      go l less n h (yes same) =
          absurd (none (so_far.others max_unknowns (λ x. omega arith) e ∙ subst (λ (x : ℕ). set_at o max_unknowns x ≡ true) same h) (λ x. n (same ∙ x)))
      go l less n h (no other) = so_far.takes l (omega arith) n h

  pub inheriting_more : {t : List ℕ} → length q ≡ sets_size → e < max_unknowns → t ≡ added q p e → Inheriting p (e + 1) o t
  inheriting_more {t} size below eq = record {
    others = λ j n l. grown.others j n l ∙ so_far.others j n l;
    takes = λ l less n h. go l less n h (ℕ_discrete l e);
  }
    where
      grown : SetGrown p q t
      grown = grown_added q size p e small below eq

      go : (l : ℕ) → l < e + 1 → l ≢ p → set_at o max_unknowns l ≡ true → Dec (l ≡ e) → set_at t p l ≡ true
      go l less n h (yes same) = subst (λ (x : ℕ). set_at t p x ≡ true) (sym same) (adds q size p e small below eq)
      go l less n h (no other) = grown.keeps l (so_far.takes l (omega arith) n h)

  -- all positions, over a table whose set at p was emptied
  pub inheriting_all : (before : List ℕ) → length before ≡ sets_size → o ≡ emptied before p → max_unknowns ≤ e → Inherited p before q
  inheriting_all before size eq all =
      let emptied_there = subst (λ (x : List ℕ). Put p 0 0 before x) (sym eq) (empty_empties before size p (omega arith)) in
      record {
        others = record { same = λ j lt n l. so_far.others j n l ∙ emptied_there.others j n l };
        takes = λ l lt n h. so_far.takes l (omega arith) n (emptied_there.others max_unknowns (λ x. omega arith) l ∙ h);
      }

-- ---- the search of the row, and of fewer decisions

pub moved_same : {codes w s a o q : List ℕ} {i : ℕ} {going : Bool} → Same o q → Moved codes w s i a o going → Moved codes w s i a q going
moved_same {codes} {w} {s} {a} {o} {q} {i} {going} same moved = record {
  held = held_same codes w s i a o moved.held q (same_kept same);
  denied = λ e f m.
      moved.denied e f (record { keeps = m.keeps; heeds = λ l lt d. m.heeds l lt (same.same max_unknowns (omega arith) l ∙ d); solves = m.solves });
}

pub ends : {codes w s a o : List ℕ} (q : List ℕ) {i k : ℕ} {going r : Bool} → (Coded max_unknowns codes → Moved codes w s i a o going) → Same o q
    → (r ≡ true → (going ≡ false) × ((l : ℕ) → k ≤ l → l < max_unknowns → set_at q max_unknowns l ≡ false))
    → Coded max_unknowns codes → r ≡ true → IsReason codes w s i k (set_at q max_unknowns)
ends {codes} {w} {s} {a} {o} q {i} {k} {going} {r} moved same checked coded e =
    denied_reason codes w s i k (set_at q max_unknowns) ((moved_same same (moved coded)).denied (checked e).0) (checked e).1
