-- The walk over the entries leaves the literals of the formula with its first unknowns set, if the last entry is 0. Assumes nothing.
use Prim.Native.Nat.{zero, suc}
use native.Mathlib.Omega.{arith}
use mathlib.Core.Path.{◌≡◌, refl, sym, ap, ◌∙◌}
use mathlib.Core.Bool.{Bool, true, false, not, ◌&&◌, true≢false, false≢true}
use mathlib.Core.List.{List, [], ◌∷◌, ◌++◌}
use mathlib.Core.Option.{Option, none, some}
use lib.IntN.{ℤ, pos, negsuc}
use Rattle.formula.specs.Formula.{Clause, onto, clauses}
use Rattle.formula.specs.Causes.{ended}
use Rattle.trimming_rules.specs.Trimming.{entries}
use Rattle.trimming_rules.proofs.Trimmed.{Started, started, ended_behind}
use Rattle.case_rules.specs.Restricted.{Remains, is_true, is_false, stays, of_literal, in_front, of_clause, if_left, of_clauses, restricted}
use Rattle.case_rules.proofs.RestrictedLaws.{NotZero}
use Rattle.restriction.specs.Private.Walk.{is_left, first_left, stands, literal_left, walked_from, walked}

-- ---- whether the first clause is kept

abbrev pub is_met : Remains → Bool
is_met is_true = true
is_met is_false = false
is_met (stays z) = false

left_front : (r : Remains) (o : Option Clause) → is_left (in_front r o) ≡ not (is_met r) && is_left o
left_front is_true o = refl
left_front is_false o = refl
left_front (stays z) none = refl
left_front (stays z) (some c) = refl

module _ (vs : List Bool) where
  first_onto : (z : ℤ) (cs : List Clause) → first_left vs (onto z cs) ≡ not (is_met (of_literal vs z)) && first_left vs cs
  first_onto z [] = left_front (of_literal vs z) (some [])
  first_onto z (c ∷ cs) = left_front (of_literal vs z) (of_clause vs c)

  pub stands_past : stands vs [] ≡ true
  unfolding stands
  stands_past = refl

  pub stands_end : (zs : List ℤ) → stands vs (pos 0 ∷ zs) ≡ true
  unfolding stands
  stands_end zs = refl

  pub stands_more : (z : ℤ) (zs : List ℤ) → NotZero z → stands vs (z ∷ zs) ≡ not (is_met (of_literal vs z)) && stands vs zs
  unfolding stands
  stands_more (pos zero) zs h = absurd h
  stands_more (pos (suc v)) zs h = first_onto (pos (suc v)) (clauses zs)
  stands_more (negsuc v) zs h = first_onto (negsuc v) (clauses zs)

-- ---- what the walk leaves

abbrev behind_first : List Clause → List Clause
behind_first [] = []
behind_first (c ∷ cs) = cs

module _ (vs : List Bool) where
  -- From entries on whose first clause is kept, and from entries on whose first clause is passed over.
  record Walks (zs : List ℤ) : Type 0 where
    kept : stands vs zs ≡ true → walked_from vs true zs ≡ entries (of_clauses vs (clauses zs))
    passed : walked_from vs false zs ≡ entries (of_clauses vs (behind_first (clauses zs)))

  nothing_left : (cs : List Clause) → first_left vs cs ≡ false → of_clauses vs cs ≡ of_clauses vs (behind_first cs)
  nothing_left [] e = refl
  nothing_left (c ∷ cs) e = go (of_clause vs c) e
    where
      go : (o : Option Clause) → is_left o ≡ false → if_left o (of_clauses vs cs) ≡ of_clauses vs cs
      go none e = refl
      go (some d) e = absurd (true≢false e)

  walks_all : (zs : List ℤ) → Walks zs → walked_from vs (stands vs zs) zs ≡ entries (of_clauses vs (clauses zs))
  unfolding stands
  walks_all zs w = go (stands vs zs) refl
    where
      go : (b : Bool) → stands vs zs ≡ b → walked_from vs b zs ≡ entries (of_clauses vs (clauses zs))
      go true e = w.kept e
      go false e = w.passed ∙ sym (ap entries (nothing_left (clauses zs) e))

  -- A literal in front of a clause of which something is left.
  left_onto : (r : Remains) (o : Option Clause) (cs : List Clause) → is_left (in_front r o) ≡ true
      → (is_left o ≡ true) × (literal_left r ++ entries (if_left o cs) ≡ entries (if_left (in_front r o) cs))
  left_onto is_true o cs e = absurd (false≢true e)
  left_onto is_false o cs e = (e, refl)
  left_onto (stays z) none cs e = absurd (false≢true e)
  left_onto (stays z) (some c) cs e = (refl, refl)

  kept_onto : (z : ℤ) (cs : List Clause) → Started cs → (rest : List ℤ) → (first_left vs cs ≡ true → rest ≡ entries (of_clauses vs cs))
      → first_left vs (onto z cs) ≡ true → literal_left (of_literal vs z) ++ rest ≡ entries (of_clauses vs (onto z cs))
  kept_onto z [] s rest w e = absurd (omega arith)
  kept_onto z (c ∷ cs) s rest w e =
      let left = left_onto (of_literal vs z) (of_clause vs c) (of_clauses vs cs) e in
      ap (λ (l : List ℤ). literal_left (of_literal vs z) ++ l) (w left.0) ∙ left.1

  passed_onto : (z : ℤ) (cs : List Clause) → behind_first (onto z cs) ≡ behind_first cs
  passed_onto z [] = refl
  passed_onto z (c ∷ cs) = refl

  none_walks : Walks []
  none_walks = record { kept = λ e. refl; passed = refl }

  end_walks : (zs : List ℤ) → Walks zs → Walks (pos zero ∷ zs)
  end_walks zs w = record { kept = λ e. ap (λ (l : List ℤ). pos zero ∷ l) (walks_all zs w); passed = walks_all zs w }

  literal_walks : (z : ℤ) (zs : List ℤ) → NotZero z → Started (clauses zs) → Walks zs → Walks (z ∷ zs)
  unfolding stands
  literal_walks (pos zero) zs h s w = absurd h
  literal_walks (pos (suc v)) zs h s w =
      record {
        kept = λ e. kept_onto (pos (suc v)) (clauses zs) s (walked_from vs true zs) w.kept e;
        passed = w.passed ∙ sym (ap (λ (cs : List Clause). entries (of_clauses vs cs)) (passed_onto (pos (suc v)) (clauses zs)));
      }
  literal_walks (negsuc v) zs h s w =
      record {
        kept = λ e. kept_onto (negsuc v) (clauses zs) s (walked_from vs true zs) w.kept e;
        passed = w.passed ∙ sym (ap (λ (cs : List Clause). entries (of_clauses vs cs)) (passed_onto (negsuc v) (clauses zs)));
      }

  walks : (zs : List ℤ) → ended zs ≡ true → Walks zs
  walks [] e = none_walks
  walks (pos zero ∷ []) e = end_walks [] none_walks
  walks (pos (suc v) ∷ []) e = absurd (false≢true e)
  walks (negsuc v ∷ []) e = absurd (false≢true e)
  walks (pos zero ∷ y ∷ zs) e = end_walks (y ∷ zs) (walks (y ∷ zs) (sym (ended_behind (pos zero) y zs) ∙ e))
  walks (pos (suc v) ∷ y ∷ zs) e =
      literal_walks (pos (suc v)) (y ∷ zs) tt (started y zs) (walks (y ∷ zs) (sym (ended_behind (pos (suc v)) y zs) ∙ e))
  walks (negsuc v ∷ y ∷ zs) e = literal_walks (negsuc v) (y ∷ zs) tt (started y zs) (walks (y ∷ zs) (sym (ended_behind (negsuc v) y zs) ∙ e))

pub walked_restricted : (vs : List Bool) (literals : List ℤ) → ended literals ≡ true → walked vs literals ≡ restricted vs literals
unfolding walked restricted
walked_restricted vs literals e = walks_all vs literals (walks vs literals e)
