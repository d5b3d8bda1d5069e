-- The places of one code are dropped of a clause.
-- Assumes nothing.
use Prim.Native.Nat.{ℕ, ◌+◌, ◌≤◌, ◌<◌}
use native.Mathlib.Omega.{arith}
use mathlib.Core.Path.{◌≡◌, refl, sym, ◌∙◌, ap, ap₂}
use mathlib.Core.Bool.{Bool, true, false, not, cond, ◌&&◌, ◌||◌}
use mathlib.Core.List.{List, [], ◌∷◌, ◌++◌, map}
use borrow.Author.Tests.{ne_eqb, eqb-true, eqb-false, le-leb, leb-true}
use lib.Dec.{eqb, leb}
use Rattle.codes.specs.Codes.{last_code, has}
use Rattle.trimming_rules.specs.Trimming as Trimming
use Rattle.trimming_rules.specs.Trimming.{keep}
use Rattle.trimming_rules.proofs.ClauseLaws.{Every}
use Rattle.trimming_marks.specs.Marks.{is_left, marked}
use Rattle.index.specs.Occurrences.{listed_under, has_left}
use Rattle.index.specs.Index.{code_count}
use Rattle.trimming.specs.Private.Table.{literal_of, Entry}
use Rattle.trimming.proofs.CodeLaws.{same_code}
use Rattle.trimming.proofs.BlockLaws.{left_code}
use Rattle.trimming.proofs.ChangeLaws.{under_itself}
use Rattle.trimming.proofs.MarkLaws.{map_keep, keep_marked, among, marked_stays, marked_goes}

among_one : (o x : ℕ) → among o o x ≡ eqb o x
among_one o x = go (eqb o x) refl
  where
    go : (t : Bool) → eqb o x ≡ t → (leb o x && leb x o) ≡ t
    go true e = let q = eqb-true o x e in rw (le-leb o x (omega arith)) (le-leb x o (omega arith))
    go false e = let q = eqb-false o x e in either (leb o x) refl (leb x o) refl
      where
        either : (a : Bool) → leb o x ≡ a → (b : Bool) → leb x o ≡ b → (a && b) ≡ false
        either true p true r = absurd (eqb-false o x e (let s = leb-true o x p in let t = leb-true x o r in omega arith))
        either true p false r = refl
        either false p b r = refl

-- ---- one code dropped

module _ (o : ℕ) (low : 2 ≤ o) (below : o < last_code + 1) where
  one_gone : (x : ℕ) → eqb o (marked o o x) ≡ false
  one_gone x = go (eqb o x) refl
    where
      go : (t : Bool) → eqb o x ≡ t → eqb o (marked o o x) ≡ false
      go true e = let q = eqb-true o x e in rw (marked_goes o o x (omega arith) (omega arith) (omega arith)) (ne_eqb o (x + 512) (λ z. omega arith))
      go false e = let q = eqb-false o x e in rw (marked_stays o o x (λ a b r. q (omega arith))) e

  pub marked_none_has : (es : List ℕ) → has o (map (marked o o) es) ≡ false
  marked_none_has [] = refl
  marked_none_has (x ∷ es) = rw (one_gone x) (marked_none_has es)

  one_other : (d : ℕ) → d < code_count → (d ≡ o → ⊥) → (x : ℕ) → Entry x → eqb d (listed_under (marked o o x)) ≡ eqb d (listed_under x)
  one_other d small other x e = go (eqb o x) refl
    where
      go : (t : Bool) → eqb o x ≡ t → eqb d (listed_under (marked o o x)) ≡ eqb d (listed_under x)
      go true z =
          let q = eqb-true o x z in
          ap (λ (y : ℕ). eqb d (listed_under y)) (marked_goes o o x (omega arith) (omega arith) (omega arith))
          ∙ ap (eqb d) (under_itself (x + 512) (omega arith))
          ∙ ne_eqb d (x + 512) (λ w. omega arith)
          ∙ sym (ap (eqb d) (under_itself x (omega arith)) ∙ ne_eqb d x (λ w. other (w ∙ sym q)))
      go false z = let q = eqb-false o x z in ap (λ (y : ℕ). eqb d (listed_under y)) (marked_stays o o x (λ a b r. q (omega arith)))

  pub marked_other_has : (d : ℕ) → d < code_count → (d ≡ o → ⊥) → (es : List ℕ) → Every Entry es →
      has_left d (map (marked o o) es ++ (0 ∷ [])) ≡ has_left d (es ++ (0 ∷ []))
  marked_other_has d small other [] all = refl
  marked_other_has d small other (x ∷ es) all = ap₂ ◌||◌ (one_other d small other x all.0) (marked_other_has d small other es all.1)

  -- What is left of a clause without a code's literals.
  pub kept_literals_of : (c : List ℕ) → Every Entry c
      → map literal_of (keep is_left (map (marked o o) c)) ≡ keep (λ y. not (Trimming.same (literal_of o) y)) (map literal_of (keep is_left c))
  kept_literals_of c all =
      ap (map literal_of) (keep_marked o o c)
      ∙ map_keep literal_of (λ x. not (among o o x)) (λ y. not (Trimming.same (literal_of o) y)) (keep is_left c) (each c all)
    where
      one : (x : ℕ) → 2 ≤ x → not (among o o x) ≡ not (Trimming.same (literal_of o) (literal_of x))
      one x p = ap not (among_one o x ∙ sym (same_code o x low p))

      each : (c : List ℕ) → Every Entry c → Every (λ x. not (among o o x) ≡ not (Trimming.same (literal_of o) (literal_of x))) (keep is_left c)
      each [] all = tt
      each (x ∷ c) all = go (is_left x) refl (each c all.1)
        where
          go : (t : Bool) → is_left x ≡ t → Every (λ x. not (among o o x) ≡ not (Trimming.same (literal_of o) (literal_of x))) (keep is_left c)
              → Every (λ x. not (among o o x) ≡ not (Trimming.same (literal_of o) (literal_of x))) (cond t (x ∷ keep is_left c) (keep is_left c))
          go true l later = (one x (left_code x all.0 l).0, later)
          go false l later = later
