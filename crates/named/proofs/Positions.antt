-- The formula by positions has the meaning of the formula by names. Assumes nothing.
use Prim.Native.Nat.{ℕ, zero, suc, ◌+◌}
use native.Mathlib.Omega.{arith}
use mathlib.Core.Path.{◌≡◌, refl, sym, ap, ap₂, ◌∙◌}
use mathlib.Core.Bool.{Bool, true, false, not, ◌&&◌, ◌||◌}
use mathlib.Core.List.{List, [], ◌∷◌, map}
use mathlib.Core.Logic.{inl, inr}
use borrow.Author.Tests.{ne_eqb, eqb-true, eqb-false}
use lib.Dec.{eqb}
use lib.IntN.{ℤ, pos, negsuc, neg_ℤ}
use lib.ListN.{length, get_or}
use Rattle.formula.specs.Formula.{Kind, existential, universal, Clause, clauses, onto, with_entry}
use Rattle.formula.specs.Meaning.{literal, clause, matrix, after, meaning}
use Rattle.named.specs.Named.{Values, with_value, named_clause, named_matrix, named_meaning, place_from, position, placed}
use Rattle.named.specs.Names.{In, Distinct, InAll, AllIn, Known}

-- The values of the names that a list of values gives, over those of g.
abbrev pub values_of : List ℕ → List Bool → Values → Values
values_of [] vs g = g
values_of (x ∷ xs) [] g = g
values_of (x ∷ xs) (b ∷ bs) g = values_of xs bs (with_value x b g)

-- A prefix over lists of values is a prefix over names.
pub by_values : (ks : List Kind) (xs : List ℕ) (phi : Values → Bool) (g : Values) → length ks ≡ length xs
    → meaning ks (λ vs. phi (values_of xs vs g)) ≡ named_meaning ks xs phi g
by_values [] [] phi g e = refl
by_values [] (x ∷ xs) phi g e = absurd (omega arith)
by_values (k ∷ ks) [] phi g e = absurd (omega arith)
by_values (existential ∷ ks) (x ∷ xs) phi g e =
    ap₂ ◌||◌ (by_values ks xs phi (with_value x true g) (omega arith)) (by_values ks xs phi (with_value x false g) (omega arith))
by_values (universal ∷ ks) (x ∷ xs) phi g e =
    ap₂ ◌&&◌ (by_values ks xs phi (with_value x true g) (omega arith)) (by_values ks xs phi (with_value x false g) (omega arith))

-- Matrices that are alike for as many values as there are unknowns have one meaning.
pub meaning_alike : (ks : List Kind) (phi psi : List Bool → Bool) → ((vs : List Bool) → length vs ≡ length ks → phi vs ≡ psi vs) →
    meaning ks phi ≡ meaning ks psi
meaning_alike [] phi psi h = h [] refl
meaning_alike (existential ∷ ks) phi psi h =
    ap₂ ◌||◌ (meaning_alike ks (after true phi) (after true psi) (λ vs e. h (true ∷ vs) (ap suc e)))
    (meaning_alike ks (after false phi) (after false psi) (λ vs e. h (false ∷ vs) (ap suc e)))
meaning_alike (universal ∷ ks) phi psi h =
    ap₂ ◌&&◌ (meaning_alike ks (after true phi) (after true psi) (λ vs e. h (true ∷ vs) (ap suc e)))
    (meaning_alike ks (after false phi) (after false psi) (λ vs e. h (false ∷ vs) (ap suc e)))

-- Names given values later don't touch another.
pub values_other : (xs : List ℕ) (vs : List Bool) (g : Values) (v : ℕ) → (In v xs → ⊥) → values_of xs vs g v ≡ g v
values_other [] vs g v none = refl
values_other (x ∷ xs) [] g v none = refl
values_other (x ∷ xs) (b ∷ bs) g v none =
    values_other xs bs (with_value x b g) v (λ h. none (inr h)) ∙ rw (ne_eqb x v (λ e. none (inl e))) refl

-- The place of a name leads to its value.
pub record At (k v : ℕ) (xs : List ℕ) (vs : List Bool) (g : Values) : Type 0 where
  pub i : ℕ
  pub place : place_from (suc k) v xs ≡ suc (k + i)
  pub value : get_or vs i false ≡ values_of xs vs g v

pub look_up : (k v : ℕ) (xs : List ℕ) (vs : List Bool) (g : Values) → In v xs → Distinct xs → length vs ≡ length xs → At k v xs vs g
look_up k v [] vs g i d e = absurd i
look_up k v (x ∷ xs) [] g i d e = absurd (omega arith)
look_up k v (x ∷ xs) (b ∷ bs) g i d e = go (eqb x v) refl i (λ there. look_up (suc k) v xs bs (with_value x b g) there d.1 (omega arith))
  where
    go : (t : Bool) → eqb x v ≡ t → In v (x ∷ xs) → (In v xs → At (suc k) v xs bs (with_value x b g)) → At k v (x ∷ xs) (b ∷ bs) g
    go true q i more =
        let same : x ≡ v = eqb-true x v q in
        record {
          i = 0;
          place = rw q (omega arith);
          value = sym (values_other xs bs (with_value x b g) v (λ h. d.0 (rw same h)) ∙ rw q refl);
        }
    go false q (inl same) more = absurd (eqb-false x v q same)
    go false q (inr there) more =
        let behind = more there in
        record { i = suc behind.i; place = rw q (behind.place ∙ omega arith); value = behind.value }

-- Literals, clauses and the matrix by position have the values of those by name.
module _ (names : List ℕ) (vs : List Bool) (g : Values) (distinct : Distinct names) (whole : length vs ≡ length names) where
  positive_placed : (v : ℕ) → In (suc v) names → literal vs (placed names (pos (suc v))) ≡ values_of names vs g (suc v)
  unfolding position
  positive_placed v i =
      let a = look_up 0 (suc v) names vs g i distinct whole in
      let p : place_from 1 (suc v) names ≡ suc a.i = a.place ∙ omega arith in
      rw p a.value

  negative_placed : (v : ℕ) → In (suc v) names → literal vs (placed names (negsuc v)) ≡ not (values_of names vs g (suc v))
  unfolding position
  negative_placed v i =
      let a = look_up 0 (suc v) names vs g i distinct whole in
      let p : place_from 1 (suc v) names ≡ suc a.i = a.place ∙ omega arith in
      rw p (ap not a.value)

  clause_placed : (c : Clause) → InAll names c → clause vs (map (placed names) c) ≡ named_clause (values_of names vs g) c
  clause_placed [] k = refl
  clause_placed (pos zero ∷ c) k = absurd k
  clause_placed (pos (suc v) ∷ c) k = ap₂ ◌||◌ (positive_placed v k.0) (clause_placed c k.1)
  clause_placed (negsuc v ∷ c) k = ap₂ ◌||◌ (negative_placed v k.0) (clause_placed c k.1)

  matrix_placed : (cs : List Clause) → AllIn names cs → matrix (map (map (placed names)) cs) vs ≡ named_matrix cs (values_of names vs g)
  matrix_placed [] k = refl
  matrix_placed (c ∷ cs) k = ap₂ ◌&&◌ (clause_placed c k.0) (matrix_placed cs k.1)

-- Entries by position are parted into clauses as those by name are.
module _ (names : List ℕ) where
  pub known_clauses : (zs : List ℤ) → Known names zs → AllIn names (clauses zs)
  known_clauses [] k = tt
  known_clauses (pos zero ∷ zs) k = (tt, known_clauses zs k)
  known_clauses (pos (suc v) ∷ zs) k = go (clauses zs) (known_clauses zs k.1)
    where
      go : (cs : List Clause) → AllIn names cs → AllIn names (onto (pos (suc v)) cs)
      go [] a = ((k.0, tt), tt)
      go (c ∷ cs) a = ((k.0, a.0), a.1)
  known_clauses (negsuc v ∷ zs) k = go (clauses zs) (known_clauses zs k.1)
    where
      go : (cs : List Clause) → AllIn names cs → AllIn names (onto (negsuc v) cs)
      go [] a = ((k.0, tt), tt)
      go (c ∷ cs) a = ((k.0, a.0), a.1)

  place_some : (k v : ℕ) (xs : List ℕ) → In v xs → (i : ℕ) × (place_from (suc k) v xs ≡ suc i)
  place_some k v [] i = absurd i
  place_some k v (x ∷ xs) i = go (eqb x v) refl i (λ there. place_some (suc k) v xs there)
    where
      go : (t : Bool) → eqb x v ≡ t → In v (x ∷ xs) → (In v xs → (i : ℕ) × (place_from (suc (suc k)) v xs ≡ suc i)) → (i : ℕ) ×
          (place_from (suc k) v (x ∷ xs) ≡ suc i)
      go true q i more = (k, rw q refl)
      go false q (inl same) more = absurd (eqb-false x v q same)
      go false q (inr there) more = ((more there).0, rw q (more there).1)

  pub position_some : (v : ℕ) → In v names → (i : ℕ) × (position v names ≡ suc i)
  unfolding position
  position_some v i = place_some 0 v names i

  map_onto : (z : ℤ) (cs : List Clause) → map (map (placed names)) (onto z cs) ≡ onto (placed names z) (map (map (placed names)) cs)
  map_onto z [] = refl
  map_onto z (c ∷ cs) = refl

  onto_positive : (z : ℤ) (i : ℕ) (cs : List Clause) → z ≡ pos (suc i) → with_entry z cs ≡ onto z cs
  onto_positive z i cs e = rw e refl

  onto_negative : (z : ℤ) (i : ℕ) (cs : List Clause) → z ≡ negsuc i → with_entry z cs ≡ onto z cs
  onto_negative z i cs e = rw e refl

  clauses_placed : (zs : List ℤ) → Known names zs → clauses (map (placed names) zs) ≡ map (map (placed names)) (clauses zs)
  unfolding position
  clauses_placed [] k = refl
  clauses_placed (pos zero ∷ zs) k = ap (λ (cs : List Clause). [] ∷ cs) (clauses_placed zs k)
  clauses_placed (pos (suc v) ∷ zs) k =
      let p = place_some 0 (suc v) names k.0 in
      ap (with_entry (placed names (pos (suc v)))) (clauses_placed zs k.1)
      ∙ onto_positive (placed names (pos (suc v))) p.0 _ (ap pos p.1)
      ∙ sym (map_onto (pos (suc v)) (clauses zs))
  clauses_placed (negsuc v ∷ zs) k =
      let p = place_some 0 (suc v) names k.0 in
      ap (with_entry (placed names (negsuc v))) (clauses_placed zs k.1)
      ∙ onto_negative (placed names (negsuc v)) p.0 _ (ap (λ (n : ℕ). neg_ℤ (pos n)) p.1)
      ∙ sym (map_onto (negsuc v) (clauses zs))

-- The meaning by positions is the meaning by names, whatever values other names have.
pub positions_right : (ks : List Kind) (names : List ℕ) (zs : List ℤ) (g : Values) → length ks ≡ length names → Distinct names → Known names zs
    → meaning ks (matrix (clauses (map (placed names) zs))) ≡ named_meaning ks names (named_matrix (clauses zs)) g
positions_right ks names zs g e d k =
    meaning_alike ks (matrix (clauses (map (placed names) zs))) (λ vs. named_matrix (clauses zs) (values_of names vs g))
    (λ vs l. ap (λ (cs : List Clause). matrix cs vs) (clauses_placed names zs k) ∙ matrix_placed names vs g d (l ∙ e) (clauses zs) (known_clauses names zs k))
    ∙ by_values ks names (named_matrix (clauses zs)) g e
