-- A row is satisfied if each term that is open there has a true own literal. Assumes nothing.
use Prim.Native.Nat.{ℕ, ◌+◌, ◌≤◌, ◌<◌}
use mathlib.Core.Path.{◌≡◌, refl, sym, ◌∙◌, subst}
use mathlib.Core.Logic.{◌⊎◌, inl, inr, ⊎_elim}
use mathlib.Core.Bool.{Bool, true, false}
use mathlib.Core.List.{List, [], ◌∷◌}
use native.Mathlib.Omega.{arith}
use native.Mathlib.Decide.{ℕ_discrete}
use lib.ListN.{length, get_or, drop}
use Rattle.std.proofs.Common.{Option, IfSome}
use Rattle.std.proofs.Common.{Some as One}
use Rattle.formula.specs.Formula.{max_unknowns}
use Rattle.expansion.proofs.Booleans.{never_both}
use Rattle.expansion.proofs.ClauseCuts.{Every, Some, every_map, some_map}
use Rattle.codes.specs.Codes.{row_position}
use Rattle.codes.specs.Private.Clauses.{position, clause_of, code_clauses}
use Rattle.codes.proofs.CodeLaws.{row_position_is}
use Rattle.search_evaluation.specs.Evaluation.{satisfied_at}
use Rattle.search_evaluation.proofs.LiteralLaws.{satisfied_is_at}
use Rattle.search_sets.specs.Private.Masks.{SetGrown, SetsKept}
use Rattle.search_sets.proofs.MaskLaws.{kept_trans, kept_grown, set_grown_refl, set_grown_trans}
use Rattle.engine.specs.Private.TermTables.{is_open, name_of}
use Rattle.engine.specs.Private.Terms.{own, GivenTrue}
use Rattle.engine.proofs.search.ClauseLaws.{some_here, some_later}
use Rattle.engine.proofs.search.OpenLaws.{row_covered}
use Rattle.engine.specs.Private.Satisfied.{IsGiven, IsOwn, TakenIn, TrueBy, RowKnown}
use Rattle.engine.specs.Private.Satisfied.{OwnMet, TermMet, TermPassed, TermsMet, OwnTrue, TakesIn}
use Rattle.engine.specs.Private.Satisfied.{RowTold, RowLooked}
use Rattle.engine.proofs.search.SatisfiedRows.{coded_every, every_some_with, all_satisfied_row, row_satisfied_before}

-- ---- one literal

pub own_is : (kinds : List ℕ) (c : ℕ) → IsOwn kinds (row_position c) → own kinds c ≡ true
unfolding own
own_is kinds c h = h

pub own_of : (kinds : List ℕ) (c : ℕ) → own kinds c ≡ false → IsGiven kinds (row_position c)
unfolding own
own_of kinds c h = h

-- ---- one term

module _ (kinds codes w : List ℕ) (i start : ℕ) where
  -- The earliest so far of the codes up to e; what the codes from e on have, the clause has.
  pub record Earliest (e : ℕ) (best : Option ℕ) : Type 0 where
    pub found : IfSome best (OwnTrue kinds codes w i start)
    pub rest : (p : ℕ) → OwnTrue kinds codes w i e p → OwnTrue kinds codes w i start p

  -- one code more
  pub earliest_next : (e : ℕ) (best : Option ℕ) (c : ℕ) (d : Option ℕ) → e < length codes → c ≡ get_or codes e 0 → (c ≡ 0 → ⊥)
      → ((d ≡ best) ⊎ ((d ≡ One (row_position c)) × (own kinds c ≡ true) × (satisfied_at w i c ≡ true))) → Earliest e best → Earliest (e + 1) d
  earliest_next e best c d inside is some told so_far = record {
    found = ⊎_elim
        (λ same. subst (λ (o : Option ℕ). IfSome o (OwnTrue kinds codes w i start)) (sym same) so_far.found)
        (λ here. subst (λ (o : Option ℕ). IfSome o (OwnTrue kinds codes w i start)) (sym here.0)
        (some_here codes e c inside is (λ x. (row_position c ≡ row_position x) × (own kinds x ≡ true) × (satisfied_at w i x ≡ true)) some
        (so_far.rest (row_position c)) (refl, here.1, here.2)))
        told;
    rest = λ p. some_later codes e c inside is (λ x. (p ≡ row_position x) × (own kinds x ≡ true) × (satisfied_at w i x ≡ true)) some (so_far.rest p);
  }

-- where there is one, it is inside the row
pub own_inside : (kinds codes w : List ℕ) (i start p : ℕ) → OwnTrue kinds codes w i start p → p < max_unknowns
own_inside kinds codes w i start p found = go (clause_of (drop start codes)) found
  where
    go : (cs : List ℕ) → Some (λ c. (p ≡ row_position c) × (own kinds c ≡ true) × (satisfied_at w i c ≡ true)) cs → p < max_unknowns
    go [] f = elim f [ ]
    go (c ∷ cs) (inl q) = let e : p ≡ row_position c = q.0 in omega arith
    go (c ∷ cs) (inr f) = go cs f

-- the set of its position is taken in
pub term_met : (kinds codes w : List ℕ) (i start best : ℕ) (s t : List ℕ) → OwnTrue kinds codes w i start best → TakesIn best s t
    → TermMet kinds codes w i start s t true
term_met kinds codes w i start best s t found taken = record {
  grown = taken.grown;
  met = λ yes_true. some_map (λ c. (best ≡ row_position c) × (own kinds c ≡ true) × (satisfied_at w i c ≡ true))
      (OwnMet kinds w i s t) met_there (clause_of (drop start codes)) found;
}
  where
    met_there : (c : ℕ) → (best ≡ row_position c) × (own kinds c ≡ true) × (satisfied_at w i c ≡ true) → OwnMet kinds w i s t c
    met_there c q = record {
      owned = q.1;
      satisfied = q.2;
      taken = subst (λ (p : ℕ). TakenIn s t p) q.0 taken.takes;
    }

pub term_unmet : (kinds codes w : List ℕ) (i start : ℕ) (s : List ℕ) → TermMet kinds codes w i start s s false
term_unmet kinds codes w i start s = record { grown = set_grown_refl; met = λ e. absurd (never_both e refl) }

-- it is not open
pub term_closed : (kinds codes opened w : List ℕ) (i p : ℕ) (s : List ℕ) → is_open opened p i ≡ false → TermPassed kinds codes opened w i p s s true
term_closed kinds codes opened w i p s shut = record { grown = set_grown_refl; met = λ e o. absurd (never_both o shut) }

pub term_passed : (kinds codes opened w : List ℕ) (i p start : ℕ) (s t : List ℕ) {r : Bool} → start ≡ name_of opened p → TermMet kinds codes w i start s t r
    → TermPassed kinds codes opened w i p s t r
term_passed kinds codes opened w i p start s t {r} same one = record {
  grown = one.grown;
  met = λ e o. subst (λ (x : ℕ). Some (OwnMet kinds w i s t) (clause_of (drop x codes))) same (one.met e);
}

-- ---- all terms

module _ (kinds codes opened w : List ℕ) (i : ℕ) (s : List ℕ) where
  -- The terms before t are met, if they are open.
  pub record Meeting (t : ℕ) (now : List ℕ) : Type 0 where
    pub grown : SetGrown max_unknowns s now
    pub met : (p : ℕ) → p < t → is_open opened p i ≡ true → Some (OwnMet kinds w i s now) (clause_of (drop (name_of opened p) codes))

  module _ (t : ℕ) (now : List ℕ) (m : Meeting t now) where
    below_or_here : (p : ℕ) → p < t + 1 → (p < t) ⊎ (p ≡ t)
    below_or_here p lt = by (ℕ_discrete p t)
      where
        by : Dec (p ≡ t) → (p < t) ⊎ (p ≡ t)
        by (yes e) = inr e
        by (no ne) = inl (omega arith)

    -- one more, which is not open or met
    pub meeting_passed : (u : List ℕ) {r : Bool} → TermPassed kinds codes opened w i t now u r → r ≡ true → Meeting (t + 1) u
    meeting_passed u one e = record {
      grown = set_grown_trans m.grown one.grown;
      met = λ p lt o.
          ⊎_elim
          (λ low. some_map (OwnMet kinds w i s now) (OwnMet kinds w i s u) before (clause_of (drop (name_of opened p) codes)) (m.met p low o))
          (λ same.
          subst (λ (x : ℕ). Some (OwnMet kinds w i s u) (clause_of (drop (name_of opened x) codes))) (sym same)
          (some_map (OwnMet kinds w i now u) (OwnMet kinds w i s u) here (clause_of (drop (name_of opened t) codes))
          (one.met e (subst (λ (x : ℕ). is_open opened x i ≡ true) same o))))
          (below_or_here p lt);
    }
      where
        before : (c : ℕ) → OwnMet kinds w i s now c → OwnMet kinds w i s u c
        before c q = record { owned = q.owned; satisfied = q.satisfied; taken = λ l h. one.grown.keeps l (q.taken l h) }

        here : (c : ℕ) → OwnMet kinds w i now u c → OwnMet kinds w i s u c
        here c q = record {
          owned = q.owned;
          satisfied = q.satisfied;
          taken = λ l h. q.taken l (m.grown.others (row_position c) (λ e₁. omega arith) l ∙ h);
        }

-- ---- the row

module _ (kinds codes opened w : List ℕ) (i : ℕ) (s t : List ℕ) (terms : TermsMet kinds codes opened w i s t true) (known : RowKnown kinds codes opened w i)
  where
    abbrev Literal : ℕ → Type 0
    Literal c = (2 ≤ c) × (position c < length kinds)

    same : (c : ℕ) → Literal c → row_position c ≡ position c
    same c lit = row_position_is c lit.0 (let a : position c < length kinds = lit.1 in let b : length kinds ≤ max_unknowns = known.unknowns in omega arith)

    by_given : (c : ℕ) → GivenTrue kinds w i c → Literal c → TrueBy kinds w i s t c
    by_given c g lit =
        let given : IsGiven kinds (position c) = subst (λ (p : ℕ). IsGiven kinds p) (same c lit) (own_of kinds c g.given) in
        (record { set = known.set (position c) lit.1 given; is = g.is }, inl given)

    by_own : (c : ℕ) → OwnMet kinds w i s t c → (own kinds c ≡ true) × (Literal c → TrueBy kinds w i s t c)
    by_own c q = (
      q.owned,
      λ lit. (
        satisfied_is_at w i c (lit.0, let a : position c < length kinds = lit.1 in let b : length kinds ≤ max_unknowns = known.unknowns in omega arith)
            q.satisfied,
        inr (subst (λ (p : ℕ). TakenIn s t p) (same c lit) q.taken),
      ),
    )

    every_true : Every (Some (TrueBy kinds w i s t)) (code_clauses codes)
    every_true =
        every_map (Some (λ c. Literal c × (Literal c → TrueBy kinds w i s t c))) (Some (TrueBy kinds w i s t))
        (λ x. some_map (λ c. Literal c × (Literal c → TrueBy kinds w i s t c)) (TrueBy kinds w i s t) (λ c q. q.1 q.0) x)
        (code_clauses codes)
        (every_some_with Literal (λ c. Literal c → TrueBy kinds w i s t c) (code_clauses codes) (coded_every (length kinds) codes known.coded)
        (row_covered i known.terms known.ended (λ c. Literal c → TrueBy kinds w i s t c) by_given
        (λ p lt o. some_map (OwnMet kinds w i s t) (λ c. (own kinds c ≡ true) × (Literal c → TrueBy kinds w i s t c)) by_own
        (clause_of (drop (name_of opened p) codes)) (terms.met refl p lt o))
        (terms.none refl)))

-- the sets were emptied behind the positions before
pub row_told : (kinds codes opened w : List ℕ) (i : ℕ) (s t u : List ℕ) {r : Bool} → SetsKept s t → TermsMet kinds codes opened w i t u r → r ≡ true →
    RowTold kinds codes opened w i s u true
row_told kinds codes opened w i s t u emptied met e = record {
  kept = kept_trans emptied (kept_grown (omega arith) met.grown);
  satisfied = λ yes_true. row_satisfied_before kinds codes opened w i s t u emptied
      (every_true kinds codes opened w i t u (subst (λ (b : Bool). TermsMet kinds codes opened w i t u b) e met));
}

-- .. and all clauses were read
pub row_read : (kinds codes opened w : List ℕ) (i : ℕ) (s t u x : List ℕ) {q r : Bool} → SetsKept s t → TermsMet kinds codes opened w i t u q →
    RowLooked kinds codes w i u x r
    → RowTold kinds codes opened w i s x r
row_read kinds codes opened w i s t u x emptied met looked =
    let before : SetsKept s u = kept_trans emptied (kept_grown (omega arith) met.grown) in
    record {
      kept = kept_trans before looked.kept;
      satisfied = λ e. row_satisfied_before kinds codes opened w i s u x before
          (all_satisfied_row kinds codes opened w i u x (looked.satisfied e));
    }
