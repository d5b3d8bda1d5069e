-- Unknowns in front that no clause names, counted in one pass: the way down. Assumes nothing.
use Prim.Native.Nat.{ℕ, zero, suc, ◌≤◌}
use native.Mathlib.Omega.{arith}
use mathlib.Core.Path.{◌≡◌, refl, sym, ap, ap₂, ◌∙◌}
use mathlib.Core.Bool.{Bool, true, false, cond, ◌||◌, true≢false, false≢true}
use mathlib.Core.List.{List, [], ◌∷◌, ◌++◌, map}
use mathlib.Core.Option.{some}
use lib.Dec.{ltb}
use lib.IntN.{ℤ, pos, negsuc, nat_abs}
use lib.ListN.{length}
use borrow.Author.Tests.{ltb-true, ltb-false, lt-ltb, le-ltb, eqb-true}
use Rattle.formula.specs.Formula.{Clause, onto, clauses}
use Rattle.formula.specs.Causes.{any, is_zero}
use Rattle.formula.proofs.Any.{or_none}
use Rattle.formula.proofs.Accepted.{accepted}
use Rattle.trimming_rules.specs.Trimming.{entries}
use Rattle.trimming_rules.proofs.Trimmed.{entries_clauses}
use Rattle.case_rules.specs.Restricted.{IsAccepted, of_literal, in_front, of_clause, if_left, of_clauses, restricted}
use Rattle.case_rules.specs.ByCases.{names_first}
use Rattle.case_study.specs.Cases.{second_value, first_value}
use Rattle.case_study.specs.Private.Path.{way_down, nearer, unnamed, way_of}
use Rattle.case_study.proofs.AcceptedLaws.{case_accepted}

-- ---- one unknown passed over: every name goes down by one

abbrev lower : ℤ → ℤ
lower (pos zero) = pos zero
lower (pos (suc zero)) = pos zero
lower (pos (suc (suc v))) = pos (suc v)
lower (negsuc zero) = pos zero
lower (negsuc (suc v)) = negsuc v

abbrev NotZero : ℤ → Type 0
NotZero (pos zero) = ⊥
NotZero (pos (suc v)) = Unit {0}
NotZero (negsuc v) = Unit {0}

-- Literals, not zero and not of the first unknown.
abbrev Others : Clause → Type 0
Others [] = Unit {0}
Others (z ∷ c) = (NotZero z × (names_first z ≡ false)) × Others c

abbrev AllOthers : List Clause → Type 0
AllOthers [] = Unit {0}
AllOthers (c ∷ cs) = Others c × AllOthers cs

onto_others : (z : ℤ) (cs : List Clause) → NotZero z → names_first z ≡ false → AllOthers cs → AllOthers (onto z cs)
onto_others z [] h e l = (((h, e), tt), tt)
onto_others z (c ∷ cs) h e l = (((h, e), l.0), l.1)

clauses_others : (zs : List ℤ) → any names_first zs ≡ false → AllOthers (clauses zs)
clauses_others [] e = tt
clauses_others (pos zero ∷ zs) e = (tt, clauses_others zs (or_none (names_first (pos zero)) (any names_first zs) e).1)
clauses_others (pos (suc v) ∷ zs) e =
    let told = or_none (names_first (pos (suc v))) (any names_first zs) e in onto_others (pos (suc v)) (clauses zs) tt told.0 (clauses_others zs told.1)
clauses_others (negsuc v ∷ zs) e =
    let told = or_none (names_first (negsuc v)) (any names_first zs) e in onto_others (negsuc v) (clauses zs) tt told.0 (clauses_others zs told.1)

module _ (w : Bool) where
  clause_lower : (c : Clause) → Others c → of_clause (w ∷ []) c ≡ some (map lower c)
  clause_lower [] h = refl
  clause_lower (pos zero ∷ c) h = absurd h.0.0
  clause_lower (pos (suc zero) ∷ c) h = absurd (true≢false h.0.1)
  clause_lower (pos (suc (suc v)) ∷ c) h = ap (in_front (of_literal (w ∷ []) (pos (suc (suc v))))) (clause_lower c h.1)
  clause_lower (negsuc zero ∷ c) h = absurd (true≢false h.0.1)
  clause_lower (negsuc (suc v) ∷ c) h = ap (in_front (of_literal (w ∷ []) (negsuc (suc v)))) (clause_lower c h.1)

  clauses_lower : (cs : List Clause) → AllOthers cs → of_clauses (w ∷ []) cs ≡ map (map lower) cs
  clauses_lower [] h = refl
  clauses_lower (c ∷ cs) h = ap₂ if_left (clause_lower c h.0) (clauses_lower cs h.1)

  lowered_clause : (c : Clause) (rest : List ℤ) → map lower (c ++ (pos 0 ∷ rest)) ≡ map lower c ++ (pos 0 ∷ map lower rest)
  lowered_clause [] rest = refl
  lowered_clause (z ∷ c) rest = ap (λ (l : List ℤ). lower z ∷ l) (lowered_clause c rest)

  lowered_entries : (cs : List Clause) → entries (map (map lower) cs) ≡ map lower (entries cs)
  lowered_entries [] = refl
  lowered_entries (c ∷ cs) = ap (λ (l : List ℤ). map lower c ++ (pos 0 ∷ l)) (lowered_entries cs) ∙ sym (lowered_clause c (entries cs))

  restricted_lower : (kinds : List ℕ) (literals : List ℤ) → IsAccepted kinds literals → any names_first literals ≡ false → restricted (w ∷ []) literals ≡ map lower literals
  unfolding restricted
  restricted_lower kinds literals a e =
      ap entries (clauses_lower (clauses literals) (clauses_others literals e))
      ∙ lowered_entries (clauses literals)
      ∙ ap (map lower) (entries_clauses literals (ap is_zero (accepted kinds literals a).last_is_zero))

-- ---- the count

zero_nearest : (v : ℕ) → nearer 0 v ≡ 0
zero_nearest zero = refl
zero_nearest (suc v) = ap (λ (b : Bool). cond b v 0) (le-ltb v 0 (omega arith))

zero_stays : (literals : List ℤ) → unnamed 0 literals ≡ 0
unfolding unnamed
zero_stays [] = refl
zero_stays (z ∷ literals) = ap (λ (m : ℕ). unnamed m literals) (zero_nearest (nat_abs z)) ∙ zero_stays literals

first_nearest : (m : ℕ) → nearer m 1 ≡ 0
first_nearest zero = zero_nearest 1
first_nearest (suc m) = ap (λ (b : Bool). cond b 0 (suc m)) (lt-ltb 0 (suc m) (omega arith))

pub named_none : (m : ℕ) (literals : List ℤ) → any names_first literals ≡ true → unnamed m literals ≡ 0
unfolding unnamed
named_none m [] e = absurd (false≢true e)
named_none m (z ∷ literals) e = by_test (names_first z) refl e (λ f. named_none (nearer m (nat_abs z)) literals f)
  where
    by_test : (b : Bool) → names_first z ≡ b → (b || any names_first literals) ≡ true
        → (any names_first literals ≡ true → unnamed (nearer m (nat_abs z)) literals ≡ 0) → unnamed (nearer m (nat_abs z)) literals ≡ 0
    by_test true t f g =
        ap (λ (x : ℕ). unnamed (nearer m x) literals) (eqb-true (nat_abs z) 1 t) ∙ ap (λ (x : ℕ). unnamed x literals) (first_nearest m) ∙ zero_stays literals
    by_test false t f g = g f

nearer_suc : (m v : ℕ) → nearer (suc m) (suc (suc v)) ≡ suc (nearer m (suc v))
nearer_suc m v = by_test (ltb v m) refl
  where
    by_test : (b : Bool) → ltb v m ≡ b → cond (ltb (suc v) (suc m)) (suc v) (suc m) ≡ suc (cond b v m)
    by_test true t = ap (λ (b : Bool). cond b (suc v) (suc m)) (lt-ltb (suc v) (suc m) (omega (arith, ltb-true v m t)))
    by_test false t = ap (λ (b : Bool). cond b (suc v) (suc m)) (le-ltb (suc v) (suc m) (omega (arith, ltb-false v m t)))

unnamed_lower : (m : ℕ) (literals : List ℤ) → any names_first literals ≡ false → unnamed (suc m) literals ≡ suc (unnamed m (map lower literals))
unfolding unnamed
unnamed_lower m [] e = refl
unnamed_lower m (pos zero ∷ zs) e = unnamed_lower m zs (or_none (names_first (pos zero)) (any names_first zs) e).1
unnamed_lower m (pos (suc zero) ∷ zs) e = absurd (true≢false e)
unnamed_lower m (pos (suc (suc v)) ∷ zs) e =
    ap (λ (x : ℕ). unnamed x zs) (nearer_suc m v) ∙ unnamed_lower (nearer m (suc v)) zs (or_none (names_first (pos (suc (suc v)))) (any names_first zs) e).1
unnamed_lower m (negsuc zero ∷ zs) e = absurd (true≢false e)
unnamed_lower m (negsuc (suc v) ∷ zs) e =
    ap (λ (x : ℕ). unnamed x zs) (nearer_suc m v) ∙ unnamed_lower (nearer m (suc v)) zs (or_none (names_first (negsuc (suc v))) (any names_first zs) e).1

nearer_most : (m v : ℕ) → nearer m v ≤ m
nearer_most m zero = omega arith
nearer_most m (suc v) = by_test (ltb v m) refl
  where
    by_test : (b : Bool) → ltb v m ≡ b → cond b v m ≤ m
    by_test true t = omega (arith, ltb-true v m t)
    by_test false t = omega arith

pub unnamed_most : (m : ℕ) (literals : List ℤ) → unnamed m literals ≤ m
unfolding unnamed
unnamed_most m [] = omega arith
unnamed_most m (z ∷ literals) = omega (arith, nearer_most m (nat_abs z), unnamed_most (nearer m (nat_abs z)) literals)

pub way_counted : (kinds : List ℕ) (literals : List ℤ) → IsAccepted kinds literals → way_down kinds literals ≡ way_of kinds (unnamed (length kinds) literals)
unfolding way_down way_of
way_counted [] literals a = refl
way_counted (k ∷ kinds) literals a =
    by_name (any names_first literals) refl (λ w. way_counted kinds (restricted (w ∷ []) literals) (case_accepted k kinds literals a w))
  where
    by_name : (b : Bool) → any names_first literals ≡ b
        → ((w : Bool) → way_down kinds (restricted (w ∷ []) literals) ≡ way_of kinds (unnamed (length kinds) (restricted (w ∷ []) literals)))
        → cond b (first_value k ∷ []) (second_value k ∷ way_down kinds (restricted (second_value k ∷ []) literals)) ≡ way_of (k ∷ kinds) (unnamed (suc (length kinds)) literals)
    by_name true e ih = sym (ap (way_of (k ∷ kinds)) (named_none (suc (length kinds)) literals e))
    by_name false e ih =
        ap (λ (l : List Bool). second_value k ∷ l)
        (ih (second_value k)
        ∙ ap (λ (l : List ℤ). way_of kinds (unnamed (length kinds) l)) (restricted_lower (second_value k) (k ∷ kinds) literals a e))
        ∙ sym (ap (way_of (k ∷ kinds)) (unnamed_lower (length kinds) literals e))

pub passed_one : (literals : List ℤ) → any names_first literals ≡ false → unnamed 1 literals ≡ 1
passed_one literals e = unnamed_lower 0 literals e ∙ ap suc (zero_stays (map lower literals))
