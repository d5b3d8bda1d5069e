-- A formula with its first unknowns set to values means what the formula means with these set. Assumes nothing.
use Prim.Native.Nat.{ℕ, zero, suc}
use mathlib.Core.Path.{◌≡◌, refl, sym, ap, ap₂, ◌∙◌}
use mathlib.Core.Bool.{Bool, true, false, not, ◌&&◌, ◌||◌, or-true}
use mathlib.Core.List.{List, [], ◌∷◌, ◌++◌, append_assoc}
use mathlib.Core.Option.{Option, none, some}
use lib.IntN.{ℤ, pos, negsuc}
use lib.ListN.{length, get_or, drop}
use Rattle.formula.specs.Formula.{Kind, existential, universal, kind_of, prefix, Clause, onto, clauses}
use Rattle.formula.specs.Meaning.{literal, clause, matrix, after, meaning, verdict}
use Rattle.rounds.specs.Opening.{set_to}
use Rattle.trimming_rules.specs.Trimming.{entries}
use Rattle.case_rules.specs.Restricted.{Standing, known, behind, standing, Remains, is_true, is_false, stays, plain, negated, of_literal, in_front}
use Rattle.case_rules.specs.Restricted.{of_clause, if_left, of_clauses, restricted, kinds_behind}
use Rattle.case_rules.specs.ByCases.{by_kind}

-- ---- what is left is worth the same

-- What is left of an unknown, of a literal and of a clause is worth, where the unknowns behind have the values ws.
abbrev unknown_worth : List Bool → Standing → Bool
unknown_worth ws (known b) = b
unknown_worth ws (behind v) = get_or ws v false

abbrev worth : List Bool → Remains → Bool
worth ws is_true = true
worth ws is_false = false
worth ws (stays z) = literal ws z

abbrev clause_worth : List Bool → Option Clause → Bool
clause_worth ws none = true
clause_worth ws (some c) = clause ws c

standing_worth : (vs ws : List Bool) (v : ℕ) → unknown_worth ws (standing vs v) ≡ get_or (vs ++ ws) v false
standing_worth [] ws v = refl
standing_worth (b ∷ vs) ws zero = refl
standing_worth (b ∷ vs) ws (suc v) = standing_worth vs ws v

plain_worth : (ws : List Bool) (s : Standing) → worth ws (plain s) ≡ unknown_worth ws s
plain_worth ws (known true) = refl
plain_worth ws (known false) = refl
plain_worth ws (behind v) = refl

negated_worth : (ws : List Bool) (s : Standing) → worth ws (negated s) ≡ not (unknown_worth ws s)
negated_worth ws (known true) = refl
negated_worth ws (known false) = refl
negated_worth ws (behind v) = refl

literal_worth : (vs ws : List Bool) (z : ℤ) → worth ws (of_literal vs z) ≡ literal (vs ++ ws) z
literal_worth vs ws (pos zero) = refl
literal_worth vs ws (pos (suc v)) = plain_worth ws (standing vs v) ∙ standing_worth vs ws v
literal_worth vs ws (negsuc v) = negated_worth ws (standing vs v) ∙ ap not (standing_worth vs ws v)

front_worth : (ws : List Bool) (r : Remains) (o : Option Clause) → clause_worth ws (in_front r o) ≡ worth ws r || clause_worth ws o
front_worth ws is_true o = refl
front_worth ws is_false o = refl
front_worth ws (stays z) none = sym (or-true (literal ws z))
front_worth ws (stays z) (some c) = refl

of_clause_worth : (vs ws : List Bool) (c : Clause) → clause_worth ws (of_clause vs c) ≡ clause (vs ++ ws) c
of_clause_worth vs ws [] = refl
of_clause_worth vs ws (z ∷ c) = front_worth ws (of_literal vs z) (of_clause vs c) ∙ ap₂ ◌||◌ (literal_worth vs ws z) (of_clause_worth vs ws c)

left_worth : (ws : List Bool) (o : Option Clause) (cs : List Clause) → matrix (if_left o cs) ws ≡ clause_worth ws o && matrix cs ws
left_worth ws none cs = refl
left_worth ws (some c) cs = refl

-- For every clauses, also of unknowns that are not there.
pub of_clauses_worth : (vs ws : List Bool) (cs : List Clause) → matrix (of_clauses vs cs) ws ≡ matrix cs (vs ++ ws)
of_clauses_worth vs ws [] = refl
of_clauses_worth vs ws (c ∷ cs) = left_worth ws (of_clause vs c) (of_clauses vs cs) ∙ ap₂ ◌&&◌ (of_clause_worth vs ws c) (of_clauses_worth vs ws cs)

-- ---- clauses as entries and back: no literal that is left is 0

abbrev pub NotZero : ℤ → Type 0
NotZero (pos zero) = ⊥
NotZero (pos (suc v)) = Unit {0}
NotZero (negsuc v) = Unit {0}

abbrev pub Nonzero : Clause → Type 0
Nonzero [] = Unit {0}
Nonzero (z ∷ c) = NotZero z × Nonzero c

abbrev NonzeroLeft : Option Clause → Type 0
NonzeroLeft none = Unit {0}
NonzeroLeft (some c) = Nonzero c

abbrev NotZeroLeft : Remains → Type 0
NotZeroLeft is_true = Unit {0}
NotZeroLeft is_false = Unit {0}
NotZeroLeft (stays z) = NotZero z

abbrev pub AllNonzero : List Clause → Type 0
AllNonzero [] = Unit {0}
AllNonzero (c ∷ cs) = Nonzero c × AllNonzero cs

plain_nonzero : (s : Standing) → NotZeroLeft (plain s)
plain_nonzero (known true) = tt
plain_nonzero (known false) = tt
plain_nonzero (behind v) = tt

negated_nonzero : (s : Standing) → NotZeroLeft (negated s)
negated_nonzero (known true) = tt
negated_nonzero (known false) = tt
negated_nonzero (behind v) = tt

literal_nonzero : (vs : List Bool) (z : ℤ) → NotZeroLeft (of_literal vs z)
literal_nonzero vs (pos zero) = tt
literal_nonzero vs (pos (suc v)) = plain_nonzero (standing vs v)
literal_nonzero vs (negsuc v) = negated_nonzero (standing vs v)

front_nonzero : (r : Remains) (o : Option Clause) → NotZeroLeft r → NonzeroLeft o → NonzeroLeft (in_front r o)
front_nonzero is_true o h l = tt
front_nonzero is_false o h l = l
front_nonzero (stays z) none h l = tt
front_nonzero (stays z) (some c) h l = (h, l)

clause_nonzero : (vs : List Bool) (c : Clause) → NonzeroLeft (of_clause vs c)
clause_nonzero vs [] = tt
clause_nonzero vs (z ∷ c) = front_nonzero (of_literal vs z) (of_clause vs c) (literal_nonzero vs z) (clause_nonzero vs c)

left_nonzero : (o : Option Clause) (cs : List Clause) → NonzeroLeft o → AllNonzero cs → AllNonzero (if_left o cs)
left_nonzero none cs h l = l
left_nonzero (some c) cs h l = (h, l)

clauses_nonzero : (vs : List Bool) (cs : List Clause) → AllNonzero (of_clauses vs cs)
clauses_nonzero vs [] = tt
clauses_nonzero vs (c ∷ cs) = left_nonzero (of_clause vs c) (of_clauses vs cs) (clause_nonzero vs c) (clauses_nonzero vs cs)

entry_onto : (z : ℤ) (zs : List ℤ) → NotZero z → clauses (z ∷ zs) ≡ onto z (clauses zs)
entry_onto (pos zero) zs h = absurd h
entry_onto (pos (suc v)) zs h = refl
entry_onto (negsuc v) zs h = refl

clause_back : (c : Clause) (zs : List ℤ) → Nonzero c → clauses (c ++ (pos 0 ∷ zs)) ≡ c ∷ clauses zs
clause_back [] zs h = refl
clause_back (z ∷ c) zs h = entry_onto z (c ++ (pos 0 ∷ zs)) h.0 ∙ ap (onto z) (clause_back c zs h.1)

entries_back : (cs : List Clause) → AllNonzero cs → clauses (entries cs) ≡ cs
entries_back [] h = refl
entries_back (c ∷ cs) h = clause_back c (entries cs) h.0 ∙ ap (λ (x : List Clause). c ∷ x) (entries_back cs h.1)

-- The clauses of what is left are those of the formula, with the values set.
pub clauses_restricted : (vs : List Bool) (literals : List ℤ) → clauses (restricted vs literals) ≡ of_clauses vs (clauses literals)
unfolding restricted
clauses_restricted vs literals = entries_back (of_clauses vs (clauses literals)) (clauses_nonzero vs (clauses literals))

-- ---- the theorem

-- The matrix of what is left is the matrix with the first unknowns set to the values.
pub restricted_matrix : (vs : List Bool) (literals : List ℤ) → matrix (clauses (restricted vs literals)) ≡ set_to vs (matrix (clauses literals))
restricted_matrix vs literals = ap matrix (clauses_restricted vs literals) ∙ (λ i ws. of_clauses_worth vs ws (clauses literals) i)

-- So what is left means what the formula means with them set, whatever kinds are left ..
pub restricted_meaning : (ks : List Kind) (vs : List Bool) (literals : List ℤ)
    → meaning ks (matrix (clauses (restricted vs literals))) ≡ meaning ks (set_to vs (matrix (clauses literals)))
restricted_meaning ks vs literals = ap (meaning ks) (restricted_matrix vs literals)

prefix_behind : (vs : List Bool) (kinds : List ℕ) → prefix (kinds_behind vs kinds) ≡ drop (length vs) (prefix kinds)
prefix_behind [] kinds = refl
prefix_behind (v ∷ vs) [] = refl
prefix_behind (v ∷ vs) (k ∷ kinds) = prefix_behind vs kinds

-- .. and the verdict of the restricted formula is the meaning of the formula with its first unknowns set to the values.
pub restricted_verdict : (vs : List Bool) (kinds : List ℕ) (literals : List ℤ)
    → verdict (kinds_behind vs kinds) (restricted vs literals) ≡ meaning (drop (length vs) (prefix kinds)) (set_to vs (matrix (clauses literals)))
unfolding verdict
restricted_verdict vs kinds literals =
    restricted_meaning (prefix (kinds_behind vs kinds)) vs literals
    ∙ ap (λ (ks : List Kind). meaning ks (set_to vs (matrix (clauses literals)))) (prefix_behind vs kinds)

-- ---- one unknown more

-- A matrix with the values set, and then one more, is the matrix with all of them set.
pub set_one_more : (vs : List Bool) (v : Bool) (phi : List Bool → Bool) → after v (set_to vs phi) ≡ set_to (vs ++ (v ∷ [])) phi
set_one_more vs v phi = λ i ws. phi (sym (append_assoc vs (v ∷ []) ws) i)

-- The meaning by the first unknown.
pub meaning_by_first : (k : Kind) (ks : List Kind) (phi : List Bool → Bool)
    → meaning (k ∷ ks) phi ≡ by_kind k (meaning ks (after true phi)) (meaning ks (after false phi))
meaning_by_first existential ks phi = refl
meaning_by_first universal ks phi = refl

-- The verdict by the first unknown: the two cases are formulas of one unknown less.
pub verdict_by_first : (k : ℕ) (kinds : List ℕ) (literals : List ℤ)
    → verdict (k ∷ kinds) literals ≡ by_kind (kind_of k) (verdict kinds (restricted (true ∷ []) literals)) (verdict kinds (restricted (false ∷ []) literals))
unfolding verdict
verdict_by_first k kinds literals =
    meaning_by_first (kind_of k) (prefix kinds) (matrix (clauses literals))
    ∙ ap₂ (by_kind (kind_of k)) (sym (restricted_meaning (prefix kinds) (true ∷ []) literals)) (sym (restricted_meaning (prefix kinds) (false ∷ []) literals))

-- And behind some values: each case is made from the lent formula.
pub meaning_by_next : (vs : List Bool) (k : Kind) (ks : List Kind) (phi : List Bool → Bool)
    → meaning (k ∷ ks) (set_to vs phi) ≡ by_kind k (meaning ks (set_to (vs ++ (true ∷ [])) phi)) (meaning ks (set_to (vs ++ (false ∷ [])) phi))
meaning_by_next vs k ks phi =
    meaning_by_first k ks (set_to vs phi)
    ∙ ap₂ (by_kind k) (ap (meaning ks) (set_one_more vs true phi)) (ap (meaning ks) (set_one_more vs false phi))
