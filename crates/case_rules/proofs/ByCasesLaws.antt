-- The decision by cases is the verdict; within a depth it is right where it answers, and it answers where the depth is that of the prefix. Assumes nothing.
use Prim.Native.Nat.{ℕ, zero, suc, ◌≤◌}
use native.Mathlib.Omega.{arith}
use mathlib.Core.Path.{◌≡◌, refl, sym, ap, ap₂, subst, ◌∙◌}
use mathlib.Core.Bool.{Bool, true, false, ◌&&◌, ◌||◌, or-true, and-false}
use mathlib.Core.List.{List, [], ◌∷◌, ◌++◌, append_assoc}
use mathlib.Core.Option.{Option, none, some, none-ne-some}
use lib.IntN.{ℤ}
use lib.ListN.{length, length-append}
use Rattle.formula.specs.Formula.{Kind, existential, universal, kind_of, prefix, clauses}
use Rattle.formula.specs.Meaning.{matrix, meaning, verdict}
use Rattle.formula.proofs.Accepted.{Accepted, accepted, accepting}
use Rattle.rounds.specs.Opening.{set_to}
use Rattle.case_rules.specs.Restricted.{IsAccepted, restricted}
use Rattle.case_rules.specs.ByCases.{by_kind, Study, RightStudy, EndsStudy, or_else, decided_behind, decided, first_of, some_or, some_and, some_by_kind}
use Rattle.case_rules.specs.ByCases.{tried_behind, tried}
use Rattle.case_rules.proofs.RestrictedLaws.{restricted_matrix, meaning_by_next}
use Rattle.case_rules.proofs.AcceptedLaws.{behind_accepted}

-- An unknown moves from those that are left to those that are set.
pub moved : (front : List ℕ) (k : ℕ) (kinds : List ℕ) (literals : List ℤ) → Accepted (front ++ (k ∷ kinds)) literals
    → Accepted (front ++ (k ∷ []) ++ kinds) literals
moved front k kinds literals a = subst (λ (l : List ℕ). Accepted l literals) (sym (append_assoc front (k ∷ []) kinds)) a

-- The values of a path are as many as the kinds before those that are left.
pub one_longer : (front : List ℕ) (k : ℕ) (path : List Bool) (v : Bool) → length front ≡ length path → length (front ++ (k ∷ [])) ≡ length (path ++ (v ∷ []))
one_longer front k path v e = omega (arith, length-append front (k ∷ []), length-append path (v ∷ []))

-- ---- answers

some_inj : (v w : Bool) → some v ≡ some w → v ≡ w
some_inj v w e = cc

tells_first : (o p : Option Bool) (m : Bool) → ((v : Bool) → o ≡ some v → m ≡ v) → ((v : Bool) → p ≡ some v → m ≡ v) → (v : Bool) → first_of o p ≡ some v
    → m ≡ v
tells_first none p m h g v e = g v e
tells_first (some w) p m h g v e = h v e

tells_or : (o p : Option Bool) (m n : Bool) → ((v : Bool) → o ≡ some v → m ≡ v) → ((v : Bool) → p ≡ some v → n ≡ v) → (v : Bool) → some_or o p ≡ some v
    → m || n ≡ v
tells_or (some true) p m n h g v e = ap (λ (a : Bool). a || n) (h true refl) ∙ some_inj true v e
tells_or (some false) p m n h g v e = ap (λ (a : Bool). a || n) (h false refl) ∙ g v e
tells_or none (some true) m n h g v e = ap (λ (b : Bool). m || b) (g true refl) ∙ or-true m ∙ some_inj true v e
tells_or none (some false) m n h g v e = absurd (none-ne-some v e)
tells_or none none m n h g v e = absurd (none-ne-some v e)

tells_and : (o p : Option Bool) (m n : Bool) → ((v : Bool) → o ≡ some v → m ≡ v) → ((v : Bool) → p ≡ some v → n ≡ v) → (v : Bool) → some_and o p ≡ some v
    → m && n ≡ v
tells_and (some false) p m n h g v e = ap (λ (a : Bool). a && n) (h false refl) ∙ some_inj false v e
tells_and (some true) p m n h g v e = ap (λ (a : Bool). a && n) (h true refl) ∙ g v e
tells_and none (some false) m n h g v e = ap (λ (b : Bool). m && b) (g false refl) ∙ and-false m ∙ some_inj false v e
tells_and none (some true) m n h g v e = absurd (none-ne-some v e)
tells_and none none m n h g v e = absurd (none-ne-some v e)

pub tells_by_kind : (k : Kind) (o p : Option Bool) (m n : Bool) → ((v : Bool) → o ≡ some v → m ≡ v) → ((v : Bool) → p ≡ some v → n ≡ v)
    → (v : Bool) → some_by_kind k o p ≡ some v → by_kind k m n ≡ v
tells_by_kind existential o p m n h g v e = tells_or o p m n h g v e
tells_by_kind universal o p m n h g v e = tells_and o p m n h g v e

-- There is an answer.
abbrev pub Answered : Option Bool → Type 0
Answered o = (v : Bool) × (o ≡ some v)

pub not_none : (o : Option Bool) → (o ≡ none → ⊥) → Answered o
not_none none h = absurd (h refl)
not_none (some v) h = (v, refl)

answered_first : (o p : Option Bool) → Answered p → Answered (first_of o p)
answered_first none p h = h
answered_first (some v) p h = (v, refl)

some_by_some : (k : Kind) (v w : Bool) → some_by_kind k (some v) (some w) ≡ some (by_kind k v w)
some_by_some existential true w = refl
some_by_some existential false w = refl
some_by_some universal true w = refl
some_by_some universal false w = refl

pub answered_by_kind : (k : Kind) (o p : Option Bool) → Answered o → Answered p → Answered (some_by_kind k o p)
answered_by_kind k o p h g = (by_kind k h.0 g.0, ap₂ (some_by_kind k) h.1 g.1 ∙ some_by_some k h.0 g.0)

-- ---- the decision

module _ (study : Study) (right : RightStudy study) (literals : List ℤ) where
  abbrev phi : List Bool → Bool
  phi = matrix (clauses literals)

  -- What the study answers of the restricted formula is its meaning with the path's values set.
  pub study_meaning : (front : List ℕ) (path : List Bool) (kinds : List ℕ) → length front ≡ length path → Accepted (front ++ kinds) literals
      → (v : Bool) → study path kinds (restricted path literals) ≡ some v → meaning (prefix kinds) (set_to path phi) ≡ v
  unfolding verdict
  study_meaning front path kinds l a v e =
      sym (ap (meaning (prefix kinds)) (restricted_matrix path literals))
      ∙ right path kinds (restricted path literals) v (accepting kinds (restricted path literals) (behind_accepted front kinds path literals l a)) e

  decided_meaning : (front : List ℕ) (path : List Bool) (kinds : List ℕ) → length front ≡ length path → Accepted (front ++ kinds) literals
      → decided_behind study literals path kinds ≡ meaning (prefix kinds) (set_to path phi)
  decided_meaning front path [] l a = go (study path [] (restricted path literals)) refl
    where
      go : (o : Option Bool) → study path [] (restricted path literals) ≡ o
          → or_else o (matrix (clauses (restricted path literals)) []) ≡ meaning [] (set_to path phi)
      go none e = ap (λ (psi : List Bool → Bool). psi []) (restricted_matrix path literals)
      go (some v) e = sym (study_meaning front path [] l a v e)
  decided_meaning front path (k ∷ kinds) l a =
      let case : (v : Bool) → decided_behind study literals (path ++ (v ∷ [])) kinds ≡ meaning (prefix kinds) (set_to (path ++ (v ∷ [])) phi) =
      λ v. decided_meaning (front ++ (k ∷ [])) (path ++ (v ∷ [])) kinds (one_longer front k path v l) (moved front k kinds literals a) in
      go (study path (k ∷ kinds) (restricted path literals)) refl
      (ap₂ (by_kind (kind_of k)) (case true) (case false) ∙ sym (meaning_by_next path (kind_of k) (prefix kinds) phi))
    where
      go : (o : Option Bool) → study path (k ∷ kinds) (restricted path literals) ≡ o → {by_cases : Bool}
          → by_cases ≡ meaning (prefix (k ∷ kinds)) (set_to path phi)
          → or_else o by_cases ≡ meaning (prefix (k ∷ kinds)) (set_to path phi)
      go none e h = h
      go (some v) e h = sym (study_meaning front path (k ∷ kinds) l a v e)

  -- ---- within a depth

  -- An answer is right.
  abbrev Tells : Option Bool → Bool → Type 0
  Tells o m = (v : Bool) → o ≡ some v → m ≡ v

  tried_meaning : (depth : ℕ) (front : List ℕ) (path : List Bool) (kinds : List ℕ) → length front ≡ length path → Accepted (front ++ kinds) literals
      → Tells (tried_behind study literals depth path kinds) (meaning (prefix kinds) (set_to path phi))
  tried_meaning zero front path kinds l a = study_meaning front path kinds l a
  tried_meaning (suc depth) front path [] l a = study_meaning front path [] l a
  tried_meaning (suc depth) front path (k ∷ kinds) l a =
      let case : (v : Bool) → Tells (tried_behind study literals depth (path ++ (v ∷ [])) kinds) (meaning (prefix kinds) (set_to (path ++ (v ∷ [])) phi)) =
      λ v. tried_meaning depth (front ++ (k ∷ [])) (path ++ (v ∷ [])) kinds (one_longer front k path v l) (moved front k kinds literals a) in
      tells_first (study path (k ∷ kinds) (restricted path literals)) _ _ (study_meaning front path (k ∷ kinds) l a)
      (λ v e. meaning_by_next path (kind_of k) (prefix kinds) phi ∙ tells_by_kind (kind_of k) _ _ _ _ (case true) (case false) v e)

-- The decision by cases always gives the verdict of an accepted formula.
pub decided_verdict : (study : Study) → RightStudy study → (kinds : List ℕ) (literals : List ℤ) → IsAccepted kinds literals
    → decided study kinds literals ≡ verdict kinds literals
unfolding decided verdict
decided_verdict study right kinds literals a = decided_meaning study right literals [] [] kinds refl (accepted kinds literals a)

-- Within a depth it is right where it answers ..
pub tried_right : (study : Study) → RightStudy study → (depth : ℕ) (kinds : List ℕ) (literals : List ℤ) (v : Bool) → IsAccepted kinds literals
    → tried study depth kinds literals ≡ some v
    → verdict kinds literals ≡ v
unfolding tried verdict
tried_right study right depth kinds literals v a e = tried_meaning study right literals depth [] [] kinds refl (accepted kinds literals a) v e

-- .. and where the study answers of every formula without unknowns, it answers within the depth of the prefix.
module _ (study : Study) (ends : EndsStudy study) (literals : List ℤ) where
  pub at_end : (front : List ℕ) (path : List Bool) → length front ≡ length path → Accepted (front ++ []) literals
      → Answered (study path [] (restricted path literals))
  at_end front path l a =
      let left = restricted path literals in
      not_none (study path [] left) (ends path left (accepting [] left (behind_accepted front [] path literals l a)))

  tried_answered : (depth : ℕ) (front : List ℕ) (path : List Bool) (kinds : List ℕ) → length front ≡ length path → Accepted (front ++ kinds) literals
      → length kinds ≤ depth
      → Answered (tried_behind study literals depth path kinds)
  tried_answered zero front path [] l a h = at_end front path l a
  tried_answered zero front path (k ∷ kinds) l a h = absurd (omega arith)
  tried_answered (suc depth) front path [] l a h = at_end front path l a
  tried_answered (suc depth) front path (k ∷ kinds) l a h =
      let case : (v : Bool) → Answered (tried_behind study literals depth (path ++ (v ∷ [])) kinds) =
      λ v. tried_answered depth (front ++ (k ∷ [])) (path ++ (v ∷ [])) kinds (one_longer front k path v l) (moved front k kinds literals a) (omega arith) in
      answered_first (study path (k ∷ kinds) (restricted path literals)) _ (answered_by_kind (kind_of k) _ _ (case true) (case false))

pub tried_verdict : (study : Study) → RightStudy study → EndsStudy study → (depth : ℕ) (kinds : List ℕ) (literals : List ℤ) → IsAccepted kinds literals
    → length kinds ≤ depth
    → tried study depth kinds literals ≡ some (verdict kinds literals)
unfolding tried
tried_verdict study right ends depth kinds literals a h =
    let answer = tried_answered study ends literals depth [] [] kinds refl (accepted kinds literals a) h in
    answer.1 ∙ ap some (sym (tried_right study right depth kinds literals answer.0 a answer.1))
