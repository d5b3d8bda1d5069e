-- A row in which every clause has a true literal, found by reading the codes once. Assumes nothing.
use Prim.Native.Nat.{ℕ, zero, suc, ◌+◌, ◌*◌, ◌≤◌, ◌<◌, suc-le-suc}
use mathlib.Core.Path.{◌≡◌, refl, sym, ap, ap₂, ◌∙◌, subst}
use mathlib.Core.Logic.{◌≢◌, ◌⊎◌, inl, inr, ⊎_elim}
use mathlib.Core.Bool.{Bool, true, false, not}
use mathlib.Core.List.{List, [], ◌∷◌, ◌++◌}
use native.Mathlib.Numerals.{add-one}
use native.Mathlib.Omega.{arith}
use lib.ListN.{length, get_or, set, take, drop, drop_of_length-le}
use lib.Seq.{drop-cons}
use Rattle.formula.specs.Formula.{max_unknowns}
use Rattle.expansion.proofs.Booleans.{never_both}
use Rattle.expansion.proofs.ClauseCuts.{Every, Some, every_map, some_map}
use Rattle.codes.specs.Codes.{row_position}
use Rattle.codes.specs.Private.Clauses.{position, code_onto, code_clauses, Ended, Begins, Coded}
use Rattle.codes.proofs.CodeLaws.{clauses_some, row_position_is}
use Rattle.search_evaluation.specs.Evaluation.{look_at, satisfied_at}
use Rattle.search_evaluation.proofs.LiteralLaws.{IsLiteral, satisfied_is_at}
use Rattle.search_sets.specs.Sets.{sets_size, united, emptied}
use borrow.Rule.Slice.PartMut.{put_mid, post_of}
use Rattle.search_sets.specs.Private.Masks.{words, SetGrown, SetsKept, United}
use Rattle.search_sets.proofs.MaskLaws.{store_elsewhere, store_behind, kept_trans, kept_grown, set_grown_refl, set_grown_trans}
use Rattle.search_sets.proofs.SetLaws.{unite_unites, empty_keeps}
use Rattle.engine.specs.declared.search.satisfied_rows.Truth.{Truth}
use Rattle.engine.specs.declared.search.satisfied_rows.Truth.TheVariants.{Missing, Given, At}
use Rattle.engine.specs.Private.Satisfied.{IsGiven, TakenIn, TrueBy, RowKnown, RowSatisfied}
use Rattle.engine.specs.Private.Satisfied.{AllSatisfied, Checked, RowTold, RowLooked, RowReasons, TakesIn}
use Rattle.engine.specs.Private.Satisfied.{FalseFound}

pub not_true : (b : Bool) → not b ≡ true → b ≡ false
not_true true e = absurd (never_both e refl)
not_true false e = refl

-- ---- codes

every_onto : (Q : ℕ → Type 0) (c : ℕ) (xs : List (List ℕ)) → Q c → Every (Every Q) xs → Every (Every Q) (code_onto c xs)
every_onto Q c [] q h = ((q, tt), tt)
every_onto Q c (x ∷ xs) q h = ((q, h.0), h.1)

-- Every literal of every clause is one of the n unknowns'.
pub coded_every : (n : ℕ) (codes : List ℕ) → Coded n codes → Every (Every (λ c. (2 ≤ c) × (position c < n))) (code_clauses codes)
coded_every n [] h = tt
coded_every n (zero ∷ cs) h = (tt, coded_every n cs (λ e lt. h (suc e) (suc-le-suc lt)))
coded_every n (suc c ∷ cs) h =
    every_onto (λ x. (2 ≤ x) × (position x < n)) (suc c) (code_clauses cs) (h 0 (omega arith) (omega arith))
    (coded_every n cs (λ e lt. h (suc e) (suc-le-suc lt)))

pub some_with : (Q R : ℕ → Type 0) (x : List ℕ) → Every Q x → Some R x → Some (λ c. Q c × R c) x
some_with Q R (c ∷ x) q (inl r) = inl (q.0, r)
some_with Q R (c ∷ x) q (inr r) = inr (some_with Q R x q.1 r)
some_with Q R [] q x3 = elim x3 [ ]

pub every_some_with : (Q R : ℕ → Type 0) (xs : List (List ℕ)) → Every (Every Q) xs → Every (Some R) xs → Every (Some (λ c. Q c × R c)) xs
every_some_with Q R [] q r = tt
every_some_with Q R (x ∷ xs) q r = (some_with Q R x q.0 r.0, every_some_with Q R xs q.1 r.1)

-- ---- reading the codes once

-- Each clause from here on has a literal with the property Q, where `met` says that the clause being read has met one.
abbrev pub Handled : (ℕ → Type 0) → Type 0 → List ℕ → Type 0
Handled Q met [] = Unit {0}
Handled Q met (zero ∷ cs) = met × Handled Q ⊥ cs
Handled Q met (suc c ∷ cs) = Handled Q (met ⊎ Q (suc c)) cs

handled_map : (Q : ℕ → Type 0) (A B : Type 0) → (A → B) → (cs : List ℕ) → Handled Q A cs → Handled Q B cs
handled_map Q A B f [] h = tt
handled_map Q A B f (zero ∷ cs) h = (f h.0, h.1)
handled_map Q A B f (suc c ∷ cs) h = handled_map Q (A ⊎ Q (suc c)) (B ⊎ Q (suc c)) (⊎_elim (λ a. inl (f a)) (λ q. inr q)) cs h

handled_end : (Q : ℕ → Type 0) (A : Type 0) (c : ℕ) (cs : List ℕ) → c ≡ 0 → A → Handled Q ⊥ cs → Handled Q A (c ∷ cs)
handled_end Q A zero cs e a h = (a, h)
handled_end Q A (suc c) cs e a h = absurd (omega arith)

handled_literal : (Q : ℕ → Type 0) (A : Type 0) (c : ℕ) (cs : List ℕ) → (c ≡ 0 → ⊥) → Handled Q (A ⊎ Q c) cs → Handled Q A (c ∷ cs)
handled_literal Q A zero cs e h = absurd (e refl)
handled_literal Q A (suc c) cs e h = h

-- Of the clauses, the first has met a literal or has one, and each other has one.
abbrev Covered : (ℕ → Type 0) → Type 0 → List (List ℕ) → Type 0
Covered Q met [] = Unit {0}
Covered Q met (x ∷ xs) = (met ⊎ Some Q x) × Every (Some Q) xs

covered_every : (Q : ℕ → Type 0) (xs : List (List ℕ)) → Covered Q ⊥ xs → Every (Some Q) xs
covered_every Q [] h = tt
covered_every Q (x ∷ xs) h = (⊎_elim (λ a. absurd a) (λ s. s) h.0, h.1)

covered_onto : (Q : ℕ → Type 0) (A : Type 0) (c : ℕ) (xs : List (List ℕ)) → xs ≢ [] → Covered Q (A ⊎ Q c) xs → Covered Q A (code_onto c xs)
covered_onto Q A c [] some h = absurd (some refl)
covered_onto Q A c (x ∷ xs) some h =
    (⊎_elim (⊎_elim (λ a. inl a) (λ q. inr (inl q))) (λ s. inr (inr s)) h.0, h.1)

handled_covered : (Q : ℕ → Type 0) (A : Type 0) (cs : List ℕ) → Ended cs → Handled Q A cs → Covered Q A (code_clauses cs)
handled_covered Q A [] ended h = tt
handled_covered Q A (zero ∷ cs) ended h = (inl h.0, covered_every Q (code_clauses cs) (handled_covered Q ⊥ cs ended.1 h.1))
handled_covered Q A (suc c ∷ cs) ended h =
    covered_onto Q A (suc c) (code_clauses cs) (clauses_some cs ended.0) (handled_covered Q (A ⊎ Q (suc c)) cs ended.1 h)

module _ (kinds codes w : List ℕ) (i : ℕ) (s : List ℕ) where
  -- The literal c is true in row i, by a value that is given or whose set is taken in; what the best position so far still owes.
  abbrev Paid : List ℕ → ℕ → Type 0
  Paid t c = (satisfied_at w i c ≡ true) × (IsGiven kinds (row_position c) ⊎ TakenIn s t (row_position c))

  abbrev Owed : List ℕ → Truth → Type 0
  Owed t Missing = ⊥
  Owed t Given = Unit {0}
  Owed t (At p) = TakenIn s t p

  abbrev Inside : Truth → Type 0
  Inside Missing = Unit {0}
  Inside Given = Unit {0}
  Inside (At p) = p < max_unknowns

  -- The codes before e are read: if those from e on are handled, all are, whatever else is taken in.
  pub record Blaming (e : ℕ) (best : Truth) (t : List ℕ) : Type 0 where
    pub inside : Inside best
    pub grown : SetGrown max_unknowns s t
    pub rest : (u : List ℕ) → TakenIn t u max_unknowns → Handled (Paid u) (Owed u best) (drop e codes) → Handled (Paid u) ⊥ codes

  pub blaming_start : Blaming 0 Missing s
  blaming_start = record {
    inside = tt;
    grown = set_grown_refl;
    rest = λ u larger h. h;
  }

  -- a clause's end, where the best pays
  paying : (e : ℕ) (best : Truth) (t u : List ℕ) → e < length codes → get_or codes e 0 ≡ 0 → Blaming e best t → SetGrown max_unknowns t u
      → ((x : List ℕ) → TakenIn u x max_unknowns → Owed x best) → Blaming (e + 1) Missing u
  paying e best t u h end b more owes = record {
    inside = tt;
    grown = set_grown_trans b.grown more;
    rest = λ x larger handled.
        b.rest x (λ l q. larger l (more.keeps l q))
        (subst (λ (cs : List ℕ). Handled (Paid x) (Owed x best) cs) (sym (drop-cons codes e 0 h))
        (handled_end (Paid x) (Owed x best) (get_or codes e 0) (drop (suc e) codes) end (owes x larger)
        (subst (λ (n : ℕ). Handled (Paid x) ⊥ (drop n codes)) (add-one e) handled)));
  }

  -- by a given value, or by a position whose set is taken in
  pub blaming_given : (e : ℕ) (best : Truth) (t : List ℕ) → e < length codes → get_or codes e 0 ≡ 0 → best ≡ Given → Blaming e best t
      → Blaming (e + 1) Missing t
  blaming_given e best t h end is b = paying e best t t h end b set_grown_refl (λ x larger. subst (Owed x) (sym is) tt)

  pub blaming_at : (e : ℕ) (best : Truth) (p : ℕ) (t u : List ℕ) → e < length codes → get_or codes e 0 ≡ 0 → best ≡ At p → Blaming e best t → TakesIn p t u
      → Blaming (e + 1) Missing u
  blaming_at e best p t u h end is b taken =
      let below : p < max_unknowns = subst Inside is b.inside in
      paying e best t u h end b taken.grown
      (λ x larger. subst (Owed x) (sym is) (λ l q. larger l (taken.takes l (b.grown.others p (λ e. omega arith) l ∙ q))))

  pub best_inside : (e : ℕ) (best : Truth) (p : ℕ) (t : List ℕ) → best ≡ At p → Blaming e best t → p < max_unknowns
  best_inside e best p t is b = subst Inside is b.inside

  -- a literal, which is true in the row if it is the best from then on
  pub blaming_literal : (e : ℕ) (best : Truth) (c : ℕ) (d : Truth) (t : List ℕ) → e < length codes → c ≡ get_or codes e 0 → (c ≡ 0 → ⊥)
      → ((d ≡ best) ⊎ ((satisfied_at w i c ≡ true) × (((d ≡ Given) × IsGiven kinds (row_position c)) ⊎ (d ≡ At (row_position c)))))
      → Blaming e best t → Blaming (e + 1) d t
  blaming_literal e best c d t h at other found b = record {
    inside = ⊎_elim
        (λ q. subst Inside (sym q) b.inside)
        (λ q. ⊎_elim (λ g. subst Inside (sym g.0) tt) (λ p. subst Inside (sym p) position_inside) q.1)
        found;
    grown = b.grown;
    rest = λ x larger handled.
        b.rest x larger
        (subst (λ (cs : List ℕ). Handled (Paid x) (Owed x best) cs) (ap (λ (y : ℕ). y ∷ drop (suc e) codes) at ∙ sym (drop-cons codes e 0 h))
        (handled_literal (Paid x) (Owed x best) c (drop (suc e) codes) other
        (handled_map (Paid x) (Owed x d) (Owed x best ⊎ Paid x c) (paid x) (drop (suc e) codes)
        (subst (λ (n : ℕ). Handled (Paid x) (Owed x d) (drop n codes)) (add-one e) handled))));
  }
    where
      position_inside : row_position c < max_unknowns
      position_inside = omega arith

      paid : (x : List ℕ) → Owed x d → Owed x best ⊎ Paid x c
      paid x o =
          ⊎_elim
          (λ q. inl (subst (Owed x) q o))
          (λ q. inr (q.0, ⊎_elim (λ g. inl g.1) (λ p. inr (subst (Owed x) p o)) q.1))
          found

  -- with codes of clauses
  paid_true : (t : List ℕ) (c : ℕ) → IsLiteral c × Paid t c → TrueBy kinds w i s t c
  paid_true t c q =
      let same = row_position_is c q.0.0 q.0.1 in
      (satisfied_is_at w i c q.0 q.1.0, subst (λ (p : ℕ). IsGiven kinds p ⊎ TakenIn s t p) same q.1.1)

  pub blaming_end : (e : ℕ) (best : Truth) (t : List ℕ) → length codes ≤ e → Blaming e best t → RowReasons kinds codes w i s t true
  blaming_end e best t past b = record {
    grown = b.grown;
    satisfied = λ yes_true coded ended.
        every_map (Some (λ c. IsLiteral c × Paid t c)) (Some (TrueBy kinds w i s t))
        (λ x. some_map (λ c. IsLiteral c × Paid t c) (TrueBy kinds w i s t) (paid_true t) x)
        (code_clauses codes)
        (every_some_with IsLiteral (Paid t) (code_clauses codes) (coded_every max_unknowns codes coded)
        (covered_every (Paid t) (code_clauses codes)
        (handled_covered (Paid t) ⊥ codes ended
        (b.rest t (λ l q. q)
        (subst (λ (cs : List ℕ). Handled (Paid t) (Owed t best) cs) (sym (drop_of_length-le codes past)) tt)))));
  }

-- ---- sets

pub takes_set : (best : ℕ) (s : List ℕ) {t : List ℕ} → length s ≡ sets_size → best < max_unknowns → t ≡ united s max_unknowns best → TakesIn best s t
takes_set best s size below e =
    let u = subst (λ (x : List ℕ). United max_unknowns best s x) (sym e) (unite_unites s size max_unknowns best (omega arith) (omega arith)) in
    record { grown = u.grown; takes = u.takes }

pub empties : (s : List ℕ) {t : List ℕ} → length s ≡ sets_size → t ≡ emptied s max_unknowns → SetsKept s t
empties s size e = subst (λ (x : List ℕ). SetsKept s x) (sym e) (empty_keeps s size max_unknowns (omega arith) (omega arith))

-- ---- the row

module _ (kinds codes w : List ℕ) (i : ℕ) where
  taken_kept : (s t u : List ℕ) → SetsKept s t → (c : ℕ) → (position c < max_unknowns) × TrueBy kinds w i t u c → TrueBy kinds w i s u c
  taken_kept s t u kept c q = (q.1.0, ⊎_elim (λ g. inl g) (λ taken. inr (λ l h. taken l (kept.same (position c) q.0 l ∙ h))) q.1.1)

  -- after changes that keep the sets of the positions
  pub all_satisfied_before : (s t u : List ℕ) → SetsKept s t → AllSatisfied kinds codes w i t u → AllSatisfied kinds codes w i s u
  all_satisfied_before s t u kept satisfied coded ended =
      every_map (Some (λ c. IsLiteral c × TrueBy kinds w i t u c)) (Some (TrueBy kinds w i s u))
      (λ x. some_map (λ c. IsLiteral c × TrueBy kinds w i t u c) (TrueBy kinds w i s u) (λ c q. taken_kept s t u kept c (q.0.1, q.1)) x)
      (code_clauses codes)
      (every_some_with IsLiteral (TrueBy kinds w i t u) (code_clauses codes) (coded_every max_unknowns codes coded) (satisfied coded ended))

  pub row_unsatisfied : (s t : List ℕ) → SetsKept s t → RowLooked kinds codes w i s t false
  row_unsatisfied s t kept = record { kept = kept; satisfied = λ e. absurd (never_both e refl) }

  pub row_reasons_added : (s t u : List ℕ) {r : Bool} → SetsKept s t → RowReasons kinds codes w i t u r → RowLooked kinds codes w i s u r
  row_reasons_added s t u emptied reasons_added = record {
    kept = kept_trans emptied (kept_grown (omega arith) reasons_added.grown);
    satisfied = λ e. all_satisfied_before s t u emptied (reasons_added.satisfied e);
  }

  -- the answer is known
  pub row_row_satisfied : (s t : List ℕ) {r : Bool} → RowLooked kinds codes w i s t r → r ≡ true → RowLooked kinds codes w i s t true
  row_row_satisfied s t looked e = record { kept = looked.kept; satisfied = λ yes_true. looked.satisfied e }

-- ---- the row by its open terms

pub known_coded : {kinds codes opened w : List ℕ} {i : ℕ} → RowKnown kinds codes opened w i → Coded max_unknowns codes
known_coded {kinds} {codes} known e inside some =
    let here : (2 ≤ get_or codes e 0) × (position (get_or codes e 0) < length kinds) = known.coded e inside some in
    (here.0, let a : position (get_or codes e 0) < length kinds = here.1 in let b : length kinds ≤ max_unknowns = known.unknowns in omega arith)

module _ (kinds codes opened w : List ℕ) (i : ℕ) where
  pub all_satisfied_row : (s t : List ℕ) → AllSatisfied kinds codes w i s t → RowSatisfied kinds codes opened w i s t
  all_satisfied_row s t satisfied known = satisfied (known_coded known) known.ended

  -- after changes that keep the sets of the positions
  pub row_satisfied_before : (s t u : List ℕ) → SetsKept s t → RowSatisfied kinds codes opened w i t u → RowSatisfied kinds codes opened w i s u
  row_satisfied_before s t u kept satisfied known = all_satisfied_before kinds codes w i s t u kept (λ coded ended. satisfied known) (known_coded known)
      known.ended

  -- after a store behind the sets
  satisfied_noted : (s t : List ℕ) (at x : ℕ) → 2 * max_unknowns + 2 ≤ at → RowSatisfied kinds codes opened w i s t → RowSatisfied kinds codes opened w i s
      (set t at x)
  satisfied_noted s t at x behind satisfied known =
      every_map (Some (TrueBy kinds w i s t)) (Some (TrueBy kinds w i s (set t at x)))
      (λ cs. some_map (TrueBy kinds w i s t) (TrueBy kinds w i s (set t at x))
      (λ c q. (
        q.0,
        ⊎_elim (λ g. inl g) (λ taken. inr (λ l h. store_elsewhere t at x max_unknowns l (λ e. omega arith) (λ e. omega arith) ∙ taken l h))
            q.1,
      )) cs)
      (code_clauses codes) (satisfied known)

  pub told_unsatisfied : (s t : List ℕ) → SetsKept s t → RowTold kinds codes opened w i s t false
  told_unsatisfied s t kept = record { kept = kept; satisfied = λ e. absurd (never_both e refl) }

  pub told_looked : (s t : List ℕ) {r : Bool} → RowLooked kinds codes w i s t r → RowTold kinds codes opened w i s t r
  told_looked s t looked = record { kept = looked.kept; satisfied = λ e. all_satisfied_row s t (looked.satisfied e) }

-- ---- the group

pub rows_live : (kinds codes opened w : List ℕ) (lo hi : ℕ) (s t : List ℕ) → SetsKept s t → Checked kinds codes opened w lo hi s t true
rows_live kinds codes opened w lo hi s t kept = record { kept = kept; satisfied = λ e. absurd (never_both refl e) }

-- .. with a note behind the sets
pub a_row_satisfied : (kinds codes opened w : List ℕ) (lo hi i : ℕ) (s t u : List ℕ) (at x : ℕ) {r : Bool} → 2 * max_unknowns + 2 ≤ at → lo ≤ i → i < hi →
    SetsKept s t
    → RowTold kinds codes opened w i t u r → r ≡ true → Checked kinds codes opened w lo hi s (set u at x) false
a_row_satisfied kinds codes opened w lo hi i s t u at x behind low high kept told e = record {
  kept = kept_trans (kept_trans kept told.kept) (store_behind u at x (omega arith));
  satisfied = λ no_false. (
    i,
    low,
    high,
    satisfied_noted kinds codes opened w i s u at x behind
        (row_satisfied_before kinds codes opened w i s t u kept (told.satisfied e)),
  );
}

-- after notes behind the sets
pub checked_after : (kinds codes opened w : List ℕ) (lo hi : ℕ) (s t u : List ℕ) {r : Bool} → SetsKept s t → Checked kinds codes opened w lo hi t u r
    → Checked kinds codes opened w lo hi s u r
checked_after kinds codes opened w lo hi s t u kept checked = record {
  kept = kept_trans kept checked.kept;
  satisfied = λ no_false. before (checked.satisfied no_false);
}
  where
    before : (i : ℕ) × (lo ≤ i) × (i < hi) × RowSatisfied kinds codes opened w i t u → (i : ℕ) × (lo ≤ i) × (i < hi) × RowSatisfied kinds codes opened w i s u
    before q = (q.0, q.1, q.2, row_satisfied_before kinds codes opened w q.0 s t u kept q.3)

-- ---- a part of the hints is filled

before_part : (a : ℕ) (s rest : List ℕ) (j : ℕ) → j < a → a ≤ length s → get_or (take a s ++ rest) j 0 ≡ get_or s j 0
before_part zero s rest j lt le = absurd (omega arith)
before_part (suc a) [] rest j lt le = absurd (omega arith)
before_part (suc a) (x ∷ s) rest zero lt le = refl
before_part (suc a) (x ∷ s) rest (suc j) lt le = before_part a s rest j (omega arith) (omega arith)

pub part_kept : (s part : List ℕ) (a k : ℕ) → 2 * max_unknowns ≤ a → a ≤ length s → SetsKept s (put_mid a k s part)
part_kept s part a k behind inside = record {
  same = λ p lt l. ap₂ (λ (x y : ℕ). words x y l)
      (before_part a s (part ++ post_of a k s) (2 * p) (omega arith) inside)
      (before_part a s (part ++ post_of a k s) (2 * p + 1) (omega arith) inside);
}

-- ---- a false clause

module _ (codes w : List ℕ) (i : ℕ) (s : List ℕ) where
  pub false_found : (t : List ℕ) (start : ℕ) → SetsKept s t → Begins codes start × (look_at codes w i start ≡ 0) → FalseFound codes w i s t true
  false_found t start kept found = record { kept = kept; clause = λ e. (start, found.0, found.1) }

  pub false_unknown : FalseFound codes w i s s false
  false_unknown = record { kept = record { same = λ p lt l. refl }; clause = λ e. absurd (never_both e refl) }
