-- Values set one after the other are the same as all at once, entry for entry; and with no values an accepted formula stays as it is. Assumes nothing.
use Prim.Native.Nat.{ℕ, zero, suc}
use mathlib.Core.Path.{◌≡◌, refl, sym, ap, ap₂, ◌∙◌}
use mathlib.Core.Bool.{Bool, true, false}
use mathlib.Core.List.{List, [], ◌∷◌, ◌++◌}
use mathlib.Core.Option.{Option, none, some}
use lib.IntN.{ℤ, pos, negsuc}
use Rattle.formula.specs.Formula.{Clause, onto, clauses}
use Rattle.formula.specs.Causes.{is_zero}
use Rattle.formula.proofs.Accepted.{Accepted}
use Rattle.trimming_rules.specs.Trimming.{entries}
use Rattle.trimming_rules.proofs.Trimmed.{entries_clauses}
use Rattle.case_rules.specs.Restricted.{Standing, known, behind, standing, Remains, is_true, is_false, stays, plain, negated, of_literal, in_front}
use Rattle.case_rules.specs.Restricted.{of_clause, if_left, of_clauses, restricted}
use Rattle.case_rules.proofs.RestrictedLaws.{clauses_restricted, NotZero, Nonzero, AllNonzero}

-- What is left, with further values set.
abbrev then_standing : List Bool → Standing → Standing
then_standing ws (known b) = known b
then_standing ws (behind v) = standing ws v

abbrev then_literal : List Bool → Remains → Remains
then_literal ws is_true = is_true
then_literal ws is_false = is_false
then_literal ws (stays z) = of_literal ws z

abbrev then_clause : List Bool → Option Clause → Option Clause
then_clause ws none = none
then_clause ws (some c) = of_clause ws c

standing_twice : (vs ws : List Bool) (v : ℕ) → standing (vs ++ ws) v ≡ then_standing ws (standing vs v)
standing_twice [] ws v = refl
standing_twice (b ∷ vs) ws zero = refl
standing_twice (b ∷ vs) ws (suc v) = standing_twice vs ws v

plain_then : (ws : List Bool) (s : Standing) → plain (then_standing ws s) ≡ then_literal ws (plain s)
plain_then ws (known true) = refl
plain_then ws (known false) = refl
plain_then ws (behind v) = refl

negated_then : (ws : List Bool) (s : Standing) → negated (then_standing ws s) ≡ then_literal ws (negated s)
negated_then ws (known true) = refl
negated_then ws (known false) = refl
negated_then ws (behind v) = refl

literal_twice : (vs ws : List Bool) (z : ℤ) → of_literal (vs ++ ws) z ≡ then_literal ws (of_literal vs z)
literal_twice vs ws (pos zero) = refl
literal_twice vs ws (pos (suc v)) = ap plain (standing_twice vs ws v) ∙ plain_then ws (standing vs v)
literal_twice vs ws (negsuc v) = ap negated (standing_twice vs ws v) ∙ negated_then ws (standing vs v)

front_none : (r : Remains) → in_front r none ≡ none
front_none is_true = refl
front_none is_false = refl
front_none (stays z) = refl

front_then : (ws : List Bool) (r : Remains) (o : Option Clause) → in_front (then_literal ws r) (then_clause ws o) ≡ then_clause ws (in_front r o)
front_then ws is_true o = refl
front_then ws is_false o = refl
front_then ws (stays z) none = front_none (of_literal ws z)
front_then ws (stays z) (some c) = refl

clause_twice : (vs ws : List Bool) (c : Clause) → of_clause (vs ++ ws) c ≡ then_clause ws (of_clause vs c)
clause_twice vs ws [] = refl
clause_twice vs ws (z ∷ c) = ap₂ in_front (literal_twice vs ws z) (clause_twice vs ws c) ∙ front_then ws (of_literal vs z) (of_clause vs c)

left_then : (ws : List Bool) (o : Option Clause) (cs : List Clause) → if_left (then_clause ws o) (of_clauses ws cs) ≡ of_clauses ws (if_left o cs)
left_then ws none cs = refl
left_then ws (some c) cs = refl

clauses_twice : (vs ws : List Bool) (cs : List Clause) → of_clauses (vs ++ ws) cs ≡ of_clauses ws (of_clauses vs cs)
clauses_twice vs ws [] = refl
clauses_twice vs ws (c ∷ cs) = ap₂ if_left (clause_twice vs ws c) (clauses_twice vs ws cs) ∙ left_then ws (of_clause vs c) (of_clauses vs cs)

-- The values vs, and then ws, or all of them at once.
pub restricted_twice : (vs ws : List Bool) (literals : List ℤ) → restricted (vs ++ ws) literals ≡ restricted ws (restricted vs literals)
unfolding restricted
restricted_twice vs ws literals = ap entries (clauses_twice vs ws (clauses literals) ∙ sym (ap (of_clauses ws) (clauses_restricted vs literals)))

-- ---- no values

literal_same : (z : ℤ) → NotZero z → of_literal [] z ≡ stays z
literal_same (pos zero) h = absurd h
literal_same (pos (suc v)) h = refl
literal_same (negsuc v) h = refl

clause_same : (c : Clause) → Nonzero c → of_clause [] c ≡ some c
clause_same [] h = refl
clause_same (z ∷ c) h = ap₂ in_front (literal_same z h.0) (clause_same c h.1)

clauses_same : (cs : List Clause) → AllNonzero cs → of_clauses [] cs ≡ cs
clauses_same [] h = refl
clauses_same (c ∷ cs) h = ap₂ if_left (clause_same c h.0) (clauses_same cs h.1)

onto_nonzero : (z : ℤ) (cs : List Clause) → NotZero z → AllNonzero cs → AllNonzero (onto z cs)
onto_nonzero z [] h l = ((h, tt), tt)
onto_nonzero z (c ∷ cs) h l = ((h, l.0), l.1)

clauses_of_nonzero : (zs : List ℤ) → AllNonzero (clauses zs)
clauses_of_nonzero [] = tt
clauses_of_nonzero (pos zero ∷ zs) = (tt, clauses_of_nonzero zs)
clauses_of_nonzero (pos (suc v) ∷ zs) = onto_nonzero (pos (suc v)) (clauses zs) tt (clauses_of_nonzero zs)
clauses_of_nonzero (negsuc v ∷ zs) = onto_nonzero (negsuc v) (clauses zs) tt (clauses_of_nonzero zs)

pub nothing_set : (kinds : List ℕ) (literals : List ℤ) → Accepted kinds literals → restricted [] literals ≡ literals
unfolding restricted
nothing_set kinds literals a =
    ap entries (clauses_same (clauses literals) (clauses_of_nonzero literals)) ∙ entries_clauses literals (ap is_zero a.last_is_zero)
