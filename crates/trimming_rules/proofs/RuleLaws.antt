-- Each rule keeps the meaning: rule 1 keeps every value of the matrix, rule 2 is universal reduction, and rules 3 and 4 set an unknown.
-- Assumes nothing.
use Prim.Native.Nat.{ℕ, zero, suc, ◌+◌, ◌<◌}
use native.Mathlib.Omega.{arith}
use mathlib.Core.Path.{◌≡◌, refl, sym, ◌∙◌, ap, ap₂, subst}
use mathlib.Core.Logic.{◌⊎◌, inl, inr}
use mathlib.Core.Bool.{Bool, true, false, not, cond, ◌&&◌, ◌||◌, false≢true}
use mathlib.Core.List.{List, [], ◌∷◌}
use mathlib.Core.Option.{Option, none, some}
use borrow.Author.Tests.{lt-ltb}
use lib.Dec.{leb}
use lib.IntN.{ℤ, pos, negsuc, neg_ℤ, neg_ℤ-neg_ℤ}
use lib.ListN.{length, get_or}
use Rattle.formula.specs.Formula.{Kind, existential, universal, Clause}
use Rattle.formula.specs.Causes.{any}
use Rattle.formula.specs.Meaning.{literal, clause, matrix, meaning}
use Rattle.trimming_rules.specs.Trimming.{has, is_universal, position, kind_at, behind, first_of, without_first, always_true, rule_1, follows, reducible}
use Rattle.trimming_rules.specs.Trimming.{in_front, rule_2, unit, lower, lowest_unit, without_clauses, without_literal, set_true, if_some, rule_3, found}
use Rattle.trimming_rules.specs.Trimming.{one_of, lowest_pure, dropped, rule_4, step}
use Rattle.trimming_rules.proofs.MeaningLaws.{Matrix, Below, both, with_literal, literal_at, meaning_same, meaning_set, meaning_reduced}
use Rattle.trimming_rules.proofs.ClauseLaws.{Named, Every, In, sign, true_or_false, never_both, every_in, every_from, in_any, any_in, has_in, in_has}
use Rattle.trimming_rules.proofs.ClauseLaws.{keep_in, without_in, clause_in, always_true_is, clause_ignores, literal_is, literal_set, one_name}
use Rattle.trimming_rules.proofs.ClauseLaws.{opposite_named, opposite_position, position_below, matrix_in, set_true_matrix, set_true_ignores}
use Rattle.trimming_rules.proofs.ClauseLaws.{without_clauses_below, without_literal_below, without_literal_none, without_clauses_none}

-- Every literal names one of n unknowns.
abbrev pub Within : ℕ → List Clause → Type 0
Within n cs = Every (Every (Named n)) cs

pub none_not_some : {A : Type 0} {a : A} → none ≡ some a → ⊥
none_not_some e = let z : ◌≡◌ {A = ℕ} 0 1 = cc in omega arith

pub some_is : {A : Type 0} (a b : A) → some a ≡ some b → a ≡ b
some_is a b e = cc

-- ---- rule 1

pub rule_1_kept : (n : ℕ) (cs ds : List Clause) → Within n cs → rule_1 cs ≡ some ds → (vs : List Bool) → matrix cs vs ≡ matrix ds vs
rule_1_kept n [] ds within e vs = absurd (none_not_some e)
rule_1_kept n (c ∷ cs) ds within e vs = go (always_true c) refl e (rule_1 cs) refl (λ rest f. rule_1_kept n cs rest within.1 f vs)
  where
    go : (t : Bool) → always_true c ≡ t → cond t (some cs) (behind c (rule_1 cs)) ≡ some ds → (o : Option (List Clause)) → rule_1 cs ≡ o
        → ((rest : List Clause) → rule_1 cs ≡ some rest → matrix cs vs ≡ matrix rest vs) → matrix (c ∷ cs) vs ≡ matrix ds vs
    go true p e o f later = rw (always_true_is n c within.0 p vs) (ap (λ x. matrix x vs) (some_is cs ds e))
    go false p e none f later = absurd (none_not_some (sym (ap (behind c) f) ∙ e))
    go false p e (some rest) f later = ap (λ b. clause vs c && b) (later rest f) ∙ ap (λ x. matrix x vs) (some_is (c ∷ rest) ds (sym (ap (behind c) f) ∙ e))

-- Where rule 1 has no change, no clause is always true.
pub rule_1_none : (cs : List Clause) → rule_1 cs ≡ none → Every (λ c. always_true c ≡ false) cs
rule_1_none [] e = tt
rule_1_none (c ∷ cs) e = go (always_true c) refl e (rule_1 cs) refl (rule_1_none cs)
  where
    go : (t : Bool) → always_true c ≡ t → cond t (some cs) (behind c (rule_1 cs)) ≡ none → (o : Option (List Clause)) → rule_1 cs ≡ o
        → (rule_1 cs ≡ none → Every (λ d. always_true d ≡ false) cs) → Every (λ d. always_true d ≡ false) (c ∷ cs)
    go true p e o f later = absurd (none_not_some (sym e))
    go false p e none f later = (p, later f)
    go false p e (some rest) f later = absurd (none_not_some (sym e ∙ ap (behind c) f))

-- ---- rule 2

-- The literal that is dropped: it passed the test, and the clause is worth it and what is left.
pub record Taken (test : ℤ → Bool) (c d : Clause) : Type 0 where
  pub taken : ℤ
  pub inside : In taken c
  pub passed : test taken ≡ true
  pub worth : (vs : List Bool) → clause vs c ≡ (literal vs taken || clause vs d)

or_swap : (a b c : Bool) → (a || (b || c)) ≡ (b || (a || c))
or_swap true true c = refl
or_swap true false c = refl
or_swap false b c = refl

pub taken_first : (test : ℤ → Bool) (c d : Clause) → without_first test c ≡ some d → Taken test c d
taken_first test [] d e = absurd (none_not_some e)
taken_first test (z ∷ c) d e = go (test z) refl e (without_first test c) refl (taken_first test c)
  where
    go : (t : Bool) → test z ≡ t → cond t (some c) (behind z (without_first test c)) ≡ some d → (o : Option Clause) → without_first test c ≡ o
        → ((rest : Clause) → without_first test c ≡ some rest → Taken test c rest) → Taken test (z ∷ c) d
    go true p e o f later = record { taken = z; inside = inl refl; passed = p; worth = λ vs. ap (λ x. literal vs z || clause vs x) (some_is c d e) }
    go false p e none f later = absurd (none_not_some (sym (ap (behind z) f) ∙ e))
    go false p e (some rest) f later =
        let t = later rest f in
        record {
          taken = t.taken;
          inside = inr t.inside;
          passed = t.passed;
          worth = λ vs.
              ap (λ b. literal vs z || b) (t.worth vs)
              ∙ or_swap (literal vs z) (literal vs t.taken) (clause vs rest)
              ∙ ap (λ x. literal vs t.taken || clause vs x) (some_is (z ∷ rest) d (sym (ap (behind z) f) ∙ e));
        }

and_both : (a b : Bool) → (a && b) ≡ true → (a ≡ true) × (b ≡ true)
and_both true b e = (refl, e)
and_both false b e = absurd (false≢true e)

not_false : (b : Bool) → not b ≡ true → b ≡ false
not_false true e = absurd (false≢true e)
not_false false e = refl

kind_universal : (k : Kind) → is_universal k ≡ true → k ≡ universal
kind_universal existential e = absurd (false≢true e)
kind_universal universal e = refl

-- The clause c loses a literal and becomes d, beside r.
module _ (ks : List Kind) (c d : Clause) (names : Every (Named (length ks)) c) (possible : always_true c ≡ false)
    (e : without_first (reducible ks c) c ≡ some d) (r : Matrix) where
  it : Taken (reducible ks c) c d
  it = taken_first (reducible ks c) c d e

  abbrev z : ℤ
  z = it.taken

  named : Named (length ks) z
  named = every_in (Named (length ks)) c z names it.inside

  is_own : kind_at ks z ≡ universal
  is_own = kind_universal (kind_at ks z) (and_both (is_universal (kind_at ks z)) (not (any (follows ks z) c)) it.passed).0

  none_follows : any (follows ks z) c ≡ false
  none_follows = not_false (any (follows ks z) c) (and_both (is_universal (kind_at ks z)) (not (any (follows ks z) c)) it.passed).1

  subset : (y : ℤ) → In y d → In y c
  subset y i = without_in (reducible ks c) c d e y i

  -- no literal of its unknown is left, if it is not itself left
  off : has z d ≡ false → (y : ℤ) → In y d → position y ≡ position z → ⊥
  off absent y i p = go (one_name (length ks) z y named (every_in (Named (length ks)) c y names (subset y i)) p)
    where
      go : (z ≡ y) ⊎ (neg_ℤ z ≡ y) → ⊥
      go (inl q) = never_both (in_has z d (subst (λ (x : ℤ). In x d) (sym q) i)) absent
      go (inr q) =
          never_both
          (in_any (λ x. has (neg_ℤ x) c) c z it.inside (in_has (neg_ℤ z) c (subst (λ (x : ℤ). In x c) (sym q) (subset y i))))
          possible

  -- a literal that is left, of an existential unknown behind, would follow
  behind_it : (j : ℕ) → position z < j → get_or ks j existential ≡ existential → (y : ℤ) → In y d → position y ≡ j → ⊥
  behind_it j above is y i p =
      never_both
      (in_any (follows ks z) c y (subset y i)
      (rw (ap (get_or ks y_place) refl, kind_y, lt-ltb (position z) (position y) (subst (λ (x : ℕ). position z < x) (sym p) above))))
      none_follows
    where
      y_place : ℕ
      y_place = position y

      kind_y : kind_at ks y ≡ existential
      kind_y = ap (λ x. get_or ks x existential) p ∙ is

  reduced : meaning ks (λ vs. r vs && clause vs c) ≡ meaning ks (λ vs. r vs && clause vs d)
  reduced = go (true_or_false (has z d))
    where
      worth : (vs : List Bool) → clause vs c ≡ (literal vs z || clause vs d)
      worth vs = it.worth vs

      go : (has z d ≡ true) ⊎ (has z d ≡ false) → meaning ks (λ vs. r vs && clause vs c) ≡ meaning ks (λ vs. r vs && clause vs d)
      go (inl again) = meaning_same ks (λ vs. r vs && clause vs c) (λ vs. r vs && clause vs d)
          (λ vs. ap (λ b. r vs && b) (worth vs ∙ absorbed vs (true_or_false (literal vs z))))
        where
          absorbed : (vs : List Bool) → (literal vs z ≡ true) ⊎ (literal vs z ≡ false) → (literal vs z || clause vs d) ≡ clause vs d
          absorbed vs (inl t) = rw t (sym (clause_in vs d z (has_in z d again) t))
          absorbed vs (inr f) = rw f
      go (inr absent) =
          meaning_same ks (λ vs. r vs && clause vs c) (with_literal r (literal_at (position z) (sign z)) (λ vs. clause vs d))
          (λ vs. ap (λ b. r vs && b) (worth vs ∙ ap (λ b. b || clause vs d) (literal_is (length ks) z named vs)))
          ∙ meaning_reduced ks (position z) (position_below (length ks) z named) is_own (sign z) r (λ vs. clause vs d)
          (clause_ignores (position z) d (every_from (λ y. position y ≡ position z → ⊥) d (off absent)))
          (λ j above below is. clause_ignores j d (every_from (λ y. position y ≡ j → ⊥) d (behind_it j above is)))

and_swap : (r c m : Bool) → (r && (c && m)) ≡ ((r && m) && c)
and_swap true true true = refl
and_swap true true false = refl
and_swap true false true = refl
and_swap true false false = refl
and_swap false c m = refl

and_assoc : (r c m : Bool) → (r && (c && m)) ≡ ((r && c) && m)
and_assoc true c m = refl
and_assoc false c m = refl

-- Beside any r, so that the clauses in front can be taken into it.
rule_2_beside : (ks : List Kind) (cs ds : List Clause) → Within (length ks) cs → Every (λ c. always_true c ≡ false) cs → rule_2 ks cs ≡ some ds → (r : Matrix)
    → meaning ks (both r (matrix cs)) ≡ meaning ks (both r (matrix ds))
rule_2_beside ks [] ds within possible e r = absurd (none_not_some e)
rule_2_beside ks (c ∷ cs) ds within possible e r =
    go (without_first (reducible ks c) c) refl e (rule_2 ks cs) refl (λ rest f. rule_2_beside ks cs rest within.1 possible.1 f
    (λ vs. r vs && clause vs c))
  where
    go : (o : Option Clause) → without_first (reducible ks c) c ≡ o → first_of (in_front cs o) (behind c (rule_2 ks cs)) ≡ some ds →
        (l : Option (List Clause)) → rule_2 ks cs ≡ l
        → ((rest : List Clause) → rule_2 ks cs ≡ some rest → meaning ks (both (λ vs. r vs && clause vs c) (matrix cs)) ≡ meaning ks
        (both (λ vs. r vs && clause vs c) (matrix rest)))
        → meaning ks (both r (matrix (c ∷ cs))) ≡ meaning ks (both r (matrix ds))
    go (some d) p e l f later =
        meaning_same ks (both r (matrix (c ∷ cs))) (λ vs. (r vs && matrix cs vs) && clause vs c) (λ vs. and_swap (r vs) (clause vs c) (matrix cs vs))
        ∙ reduced ks c d within.0 possible.0 p (λ vs. r vs && matrix cs vs)
        ∙ meaning_same ks (λ vs. (r vs && matrix cs vs) && clause vs d) (both r (matrix (d ∷ cs))) (λ vs. sym (and_swap (r vs) (clause vs d) (matrix cs vs)))
        ∙ ap (λ x. meaning ks (both r (matrix x))) (some_is (d ∷ cs) ds e)
    go none p e none f later = absurd (none_not_some (sym (ap (behind c) f) ∙ e))
    go none p e (some rest) f later =
        meaning_same ks (both r (matrix (c ∷ cs))) (both (λ vs. r vs && clause vs c) (matrix cs)) (λ vs. and_assoc (r vs) (clause vs c) (matrix cs vs))
        ∙ later rest f
        ∙ meaning_same ks (both (λ vs. r vs && clause vs c) (matrix rest)) (both r (matrix (c ∷ rest)))
        (λ vs. sym (and_assoc (r vs) (clause vs c) (matrix rest vs)))
        ∙ ap (λ x. meaning ks (both r (matrix x))) (some_is (c ∷ rest) ds (sym (ap (behind c) f) ∙ e))

pub rule_2_kept : (ks : List Kind) (cs ds : List Clause) → Within (length ks) cs → rule_1 cs ≡ none → rule_2 ks cs ≡ some ds →
    meaning ks (matrix cs) ≡ meaning ks (matrix ds)
rule_2_kept ks cs ds within one e = rule_2_beside ks cs ds within (rule_1_none cs one) e (λ vs. true)

-- ---- rules 3 and 4: an unknown is set

-- The literal z is made true: no loss for an existential unknown where more is true then, nor for a universal one where less is.
module _ (ks : List Kind) (z : ℤ) (named : Named (length ks) z) (cs : List Clause) (within : Within (length ks) cs) where
  set_kept : (k : Kind) → kind_at ks z ≡ k → (existential ≡ k → Below (matrix cs) (matrix (set_true z cs))) →
      (universal ≡ k → Below (matrix (set_true z cs)) (matrix cs))
      → meaning ks (matrix cs) ≡ meaning ks (matrix (set_true z cs))
  set_kept existential is f g =
      meaning_set ks (position z) existential (position_below (length ks) z named) is (sign z) (matrix cs) (matrix (set_true z cs))
      (set_true_ignores (length ks) z named cs within)
      (λ vs e. set_true_matrix (length ks) z named cs vs (literal_set (length ks) z named vs e))
      (f refl)
  set_kept universal is f g =
      meaning_set ks (position z) universal (position_below (length ks) z named) is (sign z) (matrix cs) (matrix (set_true z cs))
      (set_true_ignores (length ks) z named cs within)
      (λ vs e. set_true_matrix (length ks) z named cs vs (literal_set (length ks) z named vs e))
      (g refl)

-- rule 3
pub record UnitOf (ks : List Kind) (cs : List Clause) (z : ℤ) : Type 0 where
  pub stands : In (z ∷ []) cs
  pub own : kind_at ks z ≡ existential

unit_is : (ks : List Kind) (c : Clause) (z : ℤ) → unit ks c ≡ some z → (z ∷ [] ≡ c) × (kind_at ks z ≡ existential)
unit_is ks [] z e = absurd (none_not_some e)
unit_is ks (y ∷ []) z e = go (kind_at ks y) refl e
  where
    go : (k : Kind) → kind_at ks y ≡ k → cond (is_universal k) none (some y) ≡ some z → (◌≡◌ {A = Clause} (z ∷ []) (y ∷ [])) × (kind_at ks z ≡ existential)
    go existential p e = let s = some_is y z e in (ap (λ x. x ∷ []) (sym s), subst (λ (x : ℤ). kind_at ks x ≡ existential) s p)
    go universal p e = absurd (none_not_some e)
unit_is ks (y ∷ x ∷ c) z e = absurd (none_not_some e)

pub unit_stands : (ks : List Kind) (cs : List Clause) (z : ℤ) → lowest_unit ks cs ≡ some z → UnitOf ks cs z
unit_stands ks [] z e = absurd (none_not_some e)
unit_stands ks (c ∷ cs) z e = go (unit ks c) refl (lowest_unit ks cs) refl e (unit_stands ks cs)
  where
    here : (y : ℤ) → unit ks c ≡ some y → y ≡ z → UnitOf ks (c ∷ cs) z
    here y p s = let h = unit_is ks c z (p ∙ ap some s) in record { stands = inl h.0; own = h.1 }

    there : (y : ℤ) → UnitOf ks cs y → y ≡ z → UnitOf ks (c ∷ cs) z
    there y u s = let v = subst (UnitOf ks cs) s u in record { stands = inr v.stands; own = v.own }

    pick : (t : Bool) (y x : ℤ) → unit ks c ≡ some y → UnitOf ks cs x → cond t (some y) (some x) ≡ some z → UnitOf ks (c ∷ cs) z
    pick true y x p u e = here y p (some_is y z e)
    pick false y x p u e = there x u (some_is x z e)

    go : (a : Option ℤ) → unit ks c ≡ a → (b : Option ℤ) → lowest_unit ks cs ≡ b → lower a b ≡ some z →
        ((y : ℤ) → lowest_unit ks cs ≡ some y → UnitOf ks cs y) → UnitOf ks (c ∷ cs) z
    go none p b q e later = there z (later z (q ∙ e)) refl
    go (some y) p none q e later = here y p (some_is y z e)
    go (some y) p (some x) q e later = pick (leb (position y) (position x)) y x p (later x q) e

pub rule_3_kept : (ks : List Kind) (cs ds : List Clause) → Within (length ks) cs → rule_3 ks cs ≡ some ds → meaning ks (matrix cs) ≡ meaning ks (matrix ds)
rule_3_kept ks cs ds within e = go (lowest_unit ks cs) refl e
  where
    go : (o : Option ℤ) → lowest_unit ks cs ≡ o → if_some (λ z. set_true z cs) o ≡ some ds → meaning ks (matrix cs) ≡ meaning ks (matrix ds)
    go none p e = absurd (none_not_some e)
    go (some z) p e =
        set_kept ks z named cs within existential u.own (λ q. loss) (λ q. absurd (let z : ◌≡◌ {A = ℕ} 0 1 = cc in omega arith))
        ∙ ap (λ x. meaning ks (matrix x)) (some_is (set_true z cs) ds e)
      where
        u : UnitOf ks cs z
        u = unit_stands ks cs z p

        named : Named (length ks) z
        named = (every_in (Every (Named (length ks))) cs (z ∷ []) within u.stands).0

        or_none : (b : Bool) → (b || false) ≡ true → b ≡ true
        or_none true e = refl
        or_none false e = e

        loss : Below (matrix cs) (matrix (set_true z cs))
        loss vs h = sym (set_true_matrix (length ks) z named cs vs (or_none (literal vs z) (matrix_in vs cs (z ∷ []) h u.stands))) ∙ h

-- rule 4
pub record PureOf (ks : List Kind) (cs : List Clause) (z : ℤ) : Type 0 where
  pub named : Named (length ks) z
  pub stands : found z cs ≡ true
  pub absent : found (neg_ℤ z) cs ≡ false

-- What is found is a literal of an unknown from position k on.
abbrev PureFrom : ℕ → List Clause → ℤ → Type 0
PureFrom m cs z = Named m z × (found z cs ≡ true) × (found (neg_ℤ z) cs ≡ false)

pure_here : (m k : ℕ) (cs : List Clause) (z : ℤ) → k < m → (a b : Bool) → found (pos (suc k)) cs ≡ a → found (negsuc k) cs ≡ b → one_of a b k ≡ some z →
    PureFrom m cs z
pure_here m k cs z lt true true p q e = absurd (none_not_some e)
pure_here m k cs z lt false false p q e = absurd (none_not_some e)
pure_here m k cs z lt true false p q e =
    subst (PureFrom m cs) (some_is (pos (suc k)) z e) (record { from_one = omega arith; to_last = lt }, p, q)
pure_here m k cs z lt false true p q e =
    subst (PureFrom m cs) (some_is (negsuc k) z e) (record { from_one = omega arith; to_last = lt }, q, p)

pure_from : (m k : ℕ) (ks : List Kind) (cs : List Clause) (z : ℤ) → m ≡ k + length ks → lowest_pure k ks cs ≡ some z → PureFrom m cs z
pure_from m k [] cs z len e = absurd (none_not_some e)
pure_from m k (x ∷ ks) cs z len e =
    go (one_of (found (pos (suc k)) cs) (found (negsuc k) cs) k) refl e (λ f. pure_from m (suc k) ks cs z (omega arith) f)
  where
    go : (o : Option ℤ) → one_of (found (pos (suc k)) cs) (found (negsuc k) cs) k ≡ o → first_of o (lowest_pure (suc k) ks cs) ≡ some z →
        (lowest_pure (suc k) ks cs ≡ some z → PureFrom m cs z) → PureFrom m cs z
    go none p e later = later e
    go (some y) p e later = pure_here m k cs z (omega arith) (found (pos (suc k)) cs) (found (negsuc k) cs) refl refl (p ∙ e)

pub pure_stands : (ks : List Kind) (cs : List Clause) (z : ℤ) → lowest_pure zero ks cs ≡ some z → PureOf ks cs z
pure_stands ks cs z e = let f = pure_from (length ks) zero ks cs z (omega arith) e in record { named = f.0; stands = f.1; absent = f.2 }

pub rule_4_kept : (ks : List Kind) (cs ds : List Clause) → Within (length ks) cs → rule_4 ks cs ≡ some ds → meaning ks (matrix cs) ≡ meaning ks (matrix ds)
rule_4_kept ks cs ds within e = go (lowest_pure zero ks cs) refl e
  where
    by_kind : (z : ℤ) → PureOf ks cs z → (k : Kind) → kind_at ks z ≡ k → meaning ks (matrix cs) ≡ meaning ks (matrix (dropped k z cs))
    by_kind z p existential is =
        set_kept ks z p.named cs within existential is
        (λ q. subst (λ (x : List Clause). Below (matrix cs) (matrix x)) (sym alike) (without_clauses_below z cs))
        (λ q. absurd (let z : ◌≡◌ {A = ℕ} 0 1 = cc in omega arith))
        ∙ ap (λ x. meaning ks (matrix x)) alike
      where
        -- its opposite is nowhere, so setting it true drops its clauses and nothing else
        alike : set_true z cs ≡ without_clauses z cs
        alike = without_literal_none (neg_ℤ z) (without_clauses z cs) (go_absent (true_or_false (found (neg_ℤ z) (without_clauses z cs))))
          where
            go_absent : (found (neg_ℤ z) (without_clauses z cs) ≡ true) ⊎ (found (neg_ℤ z) (without_clauses z cs) ≡ false) →
                found (neg_ℤ z) (without_clauses z cs) ≡ false
            go_absent (inr f) = f
            go_absent (inl t) =
                let i = any_in (has (neg_ℤ z)) (without_clauses z cs) t in
                absurd (never_both (in_any (has (neg_ℤ z)) cs i.0 (keep_in (λ c. not (has z c)) cs i.0 i.1).0 i.2) p.absent)
    by_kind z p universal is =
        set_kept ks (neg_ℤ z) (opposite_named (length ks) z p.named) cs within universal
        (ap (λ x. get_or ks x existential) (opposite_position (length ks) z p.named) ∙ is)
        (λ q. absurd (let z : ◌≡◌ {A = ℕ} 0 1 = cc in omega arith))
        (λ q. subst (λ (x : List Clause). Below (matrix x) (matrix cs)) (sym alike) (without_literal_below z cs))
        ∙ ap (λ x. meaning ks (matrix x)) alike
      where
        -- its opposite is nowhere, so setting that true drops its literals and nothing else
        alike : set_true (neg_ℤ z) cs ≡ without_literal z cs
        alike = ap₂ without_literal (neg_ℤ-neg_ℤ z) (without_clauses_none (neg_ℤ z) cs p.absent)

    go : (o : Option ℤ) → lowest_pure zero ks cs ≡ o → if_some (λ z. dropped (kind_at ks z) z cs) o ≡ some ds → meaning ks (matrix cs) ≡ meaning ks (matrix ds)
    go none p e = absurd (none_not_some e)
    go (some z) p e = by_kind z (pure_stands ks cs z p) (kind_at ks z) refl ∙ ap (λ x. meaning ks (matrix x)) (some_is (dropped (kind_at ks z) z cs) ds e)

-- ---- one change

-- Which rule made it, if the rules before it had none.
pub data By (ks : List Kind) (cs ds : List Clause) : Type 0 where
  by_1 : rule_1 cs ≡ some ds → By ks cs ds
  by_2 : rule_1 cs ≡ none → rule_2 ks cs ≡ some ds → By ks cs ds
  by_3 : rule_3 ks cs ≡ some ds → By ks cs ds
  by_4 : rule_4 ks cs ≡ some ds → By ks cs ds

pub step_by : (ks : List Kind) (cs ds : List Clause) → step ks cs ≡ some ds → By ks cs ds
unfolding step
step_by ks cs ds e = one (rule_1 cs) refl e
  where
    three : (o : Option (List Clause)) → rule_3 ks cs ≡ o → first_of o (rule_4 ks cs) ≡ some ds → By ks cs ds
    three none p e = by_4 e
    three (some x) p e = by_3 (p ∙ e)

    two : rule_1 cs ≡ none → (o : Option (List Clause)) → rule_2 ks cs ≡ o → first_of o (first_of (rule_3 ks cs) (rule_4 ks cs)) ≡ some ds → By ks cs ds
    two q none p e = three (rule_3 ks cs) refl e
    two q (some x) p e = by_2 q (p ∙ e)

    one : (o : Option (List Clause)) → rule_1 cs ≡ o → first_of o (first_of (rule_2 ks cs) (first_of (rule_3 ks cs) (rule_4 ks cs))) ≡ some ds → By ks cs ds
    one none p e = two p (rule_2 ks cs) refl e
    one (some x) p e = by_1 (p ∙ e)

pub step_kept : (ks : List Kind) (cs ds : List Clause) → Within (length ks) cs → step ks cs ≡ some ds → meaning ks (matrix cs) ≡ meaning ks (matrix ds)
step_kept ks cs ds within e = go (step_by ks cs ds e)
  where
    go : By ks cs ds → meaning ks (matrix cs) ≡ meaning ks (matrix ds)
    go (by_1 p) = meaning_same ks (matrix cs) (matrix ds) (rule_1_kept (length ks) cs ds within p)
    go (by_2 q p) = rule_2_kept ks cs ds within q p
    go (by_3 p) = rule_3_kept ks cs ds within p
    go (by_4 p) = rule_4_kept ks cs ds within p
