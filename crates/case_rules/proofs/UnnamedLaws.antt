-- An unknown that no clause names makes no difference, so one case of it is enough. Assumes nothing.
use Prim.Native.Nat.{ℕ, zero, suc}
use mathlib.Core.Path.{◌≡◌, refl, sym, ap, ap₂, ◌∙◌}
use mathlib.Core.Bool.{Bool, true, false, ◌&&◌, ◌||◌, true≢false}
use mathlib.Core.List.{List, [], ◌∷◌}
use lib.IntN.{ℤ, pos, negsuc}
use Rattle.formula.specs.Formula.{Kind, existential, universal, kind_of, prefix, Clause, onto, clauses}
use Rattle.formula.specs.Causes.{any}
use Rattle.formula.specs.Meaning.{literal, clause, matrix, meaning, verdict}
use Rattle.formula.proofs.Any.{or_none}
use Rattle.case_rules.specs.Restricted.{restricted}
use Rattle.case_rules.specs.ByCases.{by_kind, names_first}
use Rattle.case_rules.proofs.RestrictedLaws.{verdict_by_first, restricted_meaning}

-- ---- no clause names it

abbrev NoneNames : List Clause → Type 0
NoneNames [] = Unit {0}
NoneNames (c ∷ cs) = (any names_first c ≡ false) × NoneNames cs

onto_none : (z : ℤ) (cs : List Clause) → names_first z ≡ false → NoneNames cs → NoneNames (onto z cs)
onto_none z [] e h = (ap (λ (b : Bool). b || false) e, tt)
onto_none z (c ∷ cs) e h = (ap₂ ◌||◌ e h.0, h.1)

clauses_none : (zs : List ℤ) → any names_first zs ≡ false → NoneNames (clauses zs)
clauses_none [] e = tt
clauses_none (pos zero ∷ zs) e = (refl, clauses_none zs (or_none (names_first (pos zero)) (any names_first zs) e).1)
clauses_none (pos (suc v) ∷ zs) e =
    let parts = or_none (names_first (pos (suc v))) (any names_first zs) e in onto_none (pos (suc v)) (clauses zs) parts.0 (clauses_none zs parts.1)
clauses_none (negsuc v ∷ zs) e =
    let parts = or_none (names_first (negsuc v)) (any names_first zs) e in onto_none (negsuc v) (clauses zs) parts.0 (clauses_none zs parts.1)

-- ---- so its value makes no difference

module _ (u v : Bool) (ws : List Bool) where
  literal_same : (z : ℤ) → names_first z ≡ false → literal (u ∷ ws) z ≡ literal (v ∷ ws) z
  literal_same (pos zero) e = refl
  literal_same (pos (suc zero)) e = absurd (true≢false e)
  literal_same (pos (suc (suc i))) e = refl
  literal_same (negsuc zero) e = absurd (true≢false e)
  literal_same (negsuc (suc i)) e = refl

  clause_same : (c : Clause) → any names_first c ≡ false → clause (u ∷ ws) c ≡ clause (v ∷ ws) c
  clause_same [] e = refl
  clause_same (z ∷ c) e =
      let parts = or_none (names_first z) (any names_first c) e in ap₂ ◌||◌ (literal_same z parts.0) (clause_same c parts.1)

  matrix_same : (cs : List Clause) → NoneNames cs → matrix cs (u ∷ ws) ≡ matrix cs (v ∷ ws)
  matrix_same [] h = refl
  matrix_same (c ∷ cs) h = ap₂ ◌&&◌ (clause_same c h.0) (matrix_same cs h.1)

case_same : (u v : Bool) (kinds : List ℕ) (literals : List ℤ) → any names_first literals ≡ false
    → verdict kinds (restricted (u ∷ []) literals) ≡ verdict kinds (restricted (v ∷ []) literals)
unfolding verdict
case_same u v kinds literals e =
    restricted_meaning (prefix kinds) (u ∷ []) literals
    ∙ ap (meaning (prefix kinds)) (λ i ws. matrix_same u v ws (clauses literals) (clauses_none literals e) i)
    ∙ sym (restricted_meaning (prefix kinds) (v ∷ []) literals)

both_same : (k : Kind) (a : Bool) → by_kind k a a ≡ a
both_same existential true = refl
both_same existential false = refl
both_same universal true = refl
both_same universal false = refl

pub unnamed_verdict : (k : ℕ) (kinds : List ℕ) (literals : List ℤ) → any names_first literals ≡ false → (v : Bool)
    → verdict (k ∷ kinds) literals ≡ verdict kinds (restricted (v ∷ []) literals)
unnamed_verdict k kinds literals e v =
    verdict_by_first k kinds literals
    ∙ ap₂ (by_kind (kind_of k)) (case_same true v kinds literals e) (case_same false v kinds literals e)
    ∙ both_same (kind_of k) (verdict kinds (restricted (v ∷ []) literals))
