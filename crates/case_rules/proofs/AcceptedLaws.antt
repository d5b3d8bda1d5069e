-- A restricted formula is accepted if the formula is, and it has no more entries and no more clauses. Assumes nothing.
use Prim.Native.Nat.{ℕ, zero, suc, ◌+◌, ◌-◌, ◌≤◌, ◌<◌}
use native.Mathlib.Omega.{arith}
use mathlib.Core.Path.{◌≡◌, refl, sym, ap, subst, ◌∙◌}
use mathlib.Core.Bool.{Bool, true, false}
use mathlib.Core.List.{List, [], ◌∷◌, ◌++◌}
use mathlib.Core.Option.{Option, none, some}
use lib.IntN.{ℤ, pos, negsuc, nat_abs}
use lib.ListN.{length, get_or, take, length-append, take-append-drop}
use Rattle.formula.specs.Formula.{Clause, clauses}
use Rattle.formula.specs.Causes.{zeros, is_zero, ended}
use Rattle.formula.proofs.Accepted.{Accepted}
use Rattle.formula.proofs.Clauses.{length_clauses}
use Rattle.trimming_rules.specs.Trimming.{entries}
use Rattle.trimming_rules.proofs.ClauseLaws.{Named, Every}
use Rattle.trimming_rules.proofs.RuleLaws.{Within}
use Rattle.trimming_rules.proofs.StepLaws.{size, length_entries}
use Rattle.trimming_rules.proofs.Trimmed.{size_clauses, within_clauses, ended_entries, zero_known, names_entries}
use Rattle.case_rules.specs.Restricted.{Standing, known, behind, standing, Remains, is_true, is_false, stays, plain, negated, of_literal, in_front}
use Rattle.case_rules.specs.Restricted.{of_clause, if_left, of_clauses, restricted, kinds_behind}
use Rattle.case_rules.proofs.RestrictedLaws.{clauses_restricted}

-- ---- sizes

abbrev left_size : Option Clause → ℕ
left_size none = 0
left_size (some c) = suc (length c)

front_size : (r : Remains) (o : Option Clause) → left_size (in_front r o) ≤ suc (left_size o)
front_size is_true o = omega arith
front_size is_false o = omega arith
front_size (stays z) none = omega arith
front_size (stays z) (some c) = omega arith

clause_size : (vs : List Bool) (c : Clause) → left_size (of_clause vs c) ≤ suc (length c)
clause_size vs [] = omega arith
clause_size vs (z ∷ c) = omega (arith, front_size (of_literal vs z) (of_clause vs c), clause_size vs c)

if_left_size : (o : Option Clause) (cs : List Clause) → size (if_left o cs) ≡ left_size o + size cs
if_left_size none cs = omega arith
if_left_size (some c) cs = omega arith

restricted_size : (vs : List Bool) (cs : List Clause) → size (of_clauses vs cs) ≤ size cs
restricted_size vs [] = omega arith
restricted_size vs (c ∷ cs) = omega (arith, if_left_size (of_clause vs c) (of_clauses vs cs), clause_size vs c, restricted_size vs cs)

if_left_length : (o : Option Clause) (cs : List Clause) → length (if_left o cs) ≤ suc (length cs)
if_left_length none cs = omega arith
if_left_length (some c) cs = omega arith

restricted_length : (vs : List Bool) (cs : List Clause) → length (of_clauses vs cs) ≤ length cs
restricted_length vs [] = omega arith
restricted_length vs (c ∷ cs) = omega (arith, if_left_length (of_clause vs c) (of_clauses vs cs), restricted_length vs cs)

-- ---- names

abbrev StandsWithin : ℕ → Standing → Type 0
StandsWithin m (known b) = Unit {0}
StandsWithin m (behind v) = v < m

abbrev NamedLeft : ℕ → Remains → Type 0
NamedLeft m is_true = Unit {0}
NamedLeft m is_false = Unit {0}
NamedLeft m (stays z) = Named m z

abbrev WithinLeft : ℕ → Option Clause → Type 0
WithinLeft m none = Unit {0}
WithinLeft m (some c) = Every (Named m) c

stands_within : (m : ℕ) (vs : List Bool) (v : ℕ) → v < length vs + m → StandsWithin m (standing vs v)
stands_within m [] v h = omega arith
stands_within m (b ∷ vs) zero h = tt
stands_within m (b ∷ vs) (suc v) h = stands_within m vs v (omega arith)

plain_named : (m : ℕ) (s : Standing) → StandsWithin m s → NamedLeft m (plain s)
plain_named m (known true) h = tt
plain_named m (known false) h = tt
plain_named m (behind v) h = record { from_one = omega arith; to_last = h }

negated_named : (m : ℕ) (s : Standing) → StandsWithin m s → NamedLeft m (negated s)
negated_named m (known true) h = tt
negated_named m (known false) h = tt
negated_named m (behind v) h = record { from_one = omega arith; to_last = h }

literal_named : (m : ℕ) (vs : List Bool) (z : ℤ) → Named (length vs + m) z → NamedLeft m (of_literal vs z)
literal_named m vs (pos zero) h = tt
literal_named m vs (pos (suc v)) h = plain_named m (standing vs v) (stands_within m vs v h.to_last)
literal_named m vs (negsuc v) h = negated_named m (standing vs v) (stands_within m vs v h.to_last)

front_named : (m : ℕ) (r : Remains) (o : Option Clause) → NamedLeft m r → WithinLeft m o → WithinLeft m (in_front r o)
front_named m is_true o h l = tt
front_named m is_false o h l = l
front_named m (stays z) none h l = tt
front_named m (stays z) (some c) h l = (h, l)

clause_named : (m : ℕ) (vs : List Bool) (c : Clause) → Every (Named (length vs + m)) c → WithinLeft m (of_clause vs c)
clause_named m vs [] h = tt
clause_named m vs (z ∷ c) h = front_named m (of_literal vs z) (of_clause vs c) (literal_named m vs z h.0) (clause_named m vs c h.1)

left_named : (m : ℕ) (o : Option Clause) (cs : List Clause) → WithinLeft m o → Within m cs → Within m (if_left o cs)
left_named m none cs h l = l
left_named m (some c) cs h l = (h, l)

restricted_within : (m : ℕ) (vs : List Bool) (cs : List Clause) → Within (length vs + m) cs → Within m (of_clauses vs cs)
restricted_within m vs [] h = tt
restricted_within m vs (c ∷ cs) h = left_named m (of_clause vs c) (of_clauses vs cs) (clause_named m vs c h.0) (restricted_within m vs cs h.1)

-- ---- the kinds behind

get_or_behind : (front kinds : List ℕ) (k : ℕ) → get_or (front ++ kinds) (length front + k) 0 ≡ get_or kinds k 0
get_or_behind [] kinds k = let e : 0 + k ≡ k = omega arith in ap (λ (j : ℕ). get_or kinds j 0) e
get_or_behind (x ∷ front) kinds k =
    let e : suc (length front) + k ≡ suc (length front + k) = omega arith in
    ap (λ (j : ℕ). get_or (x ∷ (front ++ kinds)) j 0) e ∙ get_or_behind front kinds k

-- ---- the theorems

module _ (front kinds : List ℕ) (vs : List Bool) (literals : List ℤ) (same_length : length front ≡ length vs) (a : Accepted (front ++ kinds) literals) where
  abbrev result : List Clause
  result = of_clauses vs (clauses literals)

  unknowns : length (front ++ kinds) ≡ length vs + length kinds
  unknowns = length-append front kinds ∙ ap (λ (n : ℕ). n + length kinds) same_length

  within_result : Within (length kinds) result
  within_result =
      restricted_within (length kinds) vs (clauses literals)
      (within_clauses (length vs + length kinds) literals (λ i. subst (λ (n : ℕ). nat_abs (get_or literals i (pos 0)) ≤ n) unknowns (a.within i)))

  few : length (entries result) ≤ length literals
  few =
      let e = size_clauses literals (ap is_zero a.last_is_zero) in
      omega (arith, length_entries result, restricted_size vs (clauses literals))

  is_ended : ended (restricted vs literals) ≡ true
  unfolding restricted
  is_ended = ended_entries result

  few_zeros : zeros (restricted vs literals) ≤ zeros literals
  few_zeros =
      let z = length_clauses (restricted vs literals) is_ended in
      let c = ap length (clauses_restricted vs literals) in
      let l = a.clauses_are_zeros in
      omega (arith, restricted_length vs (clauses literals))

  pub behind_fits : length (restricted vs literals) ≤ length literals
  unfolding restricted
  behind_fits = few

  pub behind_accepted : Accepted kinds (restricted vs literals)
  unfolding restricted
  behind_accepted =
      record {
        few_unknowns = let f = a.few_unknowns in omega (arith, unknowns);
        kinds_known = λ k. subst (λ (n : ℕ). n ≤ 1) (get_or_behind front kinds k) (a.kinds_known (length front + k));
        few_entries = let f = a.few_entries in omega (arith, few);
        few_clauses = let f = a.few_clauses in omega (arith, few_zeros);
        clauses_are_zeros = length_clauses (restricted vs literals) is_ended;
        last_is_zero = zero_known (get_or (entries result) (length (entries result) - 1) (pos 0)) (ended_entries result);
        within = names_entries (length kinds) result within_result;
      }

length_front : (m : ℕ) (kinds : List ℕ) → m ≤ length kinds → length (take m kinds) ≡ m
length_front zero kinds h = refl
length_front (suc m) [] h = absurd (omega arith)
length_front (suc m) (k ∷ kinds) h = ap suc (length_front m kinds (omega arith))

-- As many of an accepted formula's first unknowns set as there are values: what is left is accepted, and has no more entries.
pub restricted_accepted : (vs : List Bool) (kinds : List ℕ) (literals : List ℤ) → length vs ≤ length kinds → Accepted kinds literals
    → Accepted (kinds_behind vs kinds) (restricted vs literals)
restricted_accepted vs kinds literals h a =
    behind_accepted (take (length vs) kinds) (kinds_behind vs kinds) vs literals (length_front (length vs) kinds h)
    (subst (λ (l : List ℕ). Accepted l literals) (sym (take-append-drop (length vs) kinds)) a)

pub restricted_fits : (vs : List Bool) (kinds : List ℕ) (literals : List ℤ) → length vs ≤ length kinds → Accepted kinds literals
    → length (restricted vs literals) ≤ length literals
restricted_fits vs kinds literals h a =
    behind_fits (take (length vs) kinds) (kinds_behind vs kinds) vs literals (length_front (length vs) kinds h)
    (subst (λ (l : List ℕ). Accepted l literals) (sym (take-append-drop (length vs) kinds)) a)
