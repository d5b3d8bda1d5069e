-- A gate's clauses hold exactly if its name has the value of its function of the inputs. It is proved for `&`; `|` is `&` with every sign turned,
-- and `^` is a table of eight. Assumes nothing.
use Prim.Native.Nat.{zero, suc}
use native.Mathlib.Omega.{arith}
use mathlib.Core.Path.{◌≡◌, refl, sym, ap, ap₂, ◌∙◌}
use mathlib.Core.Bool.{Bool, true, false, not, ◌&&◌, ◌||◌}
use mathlib.Core.List.{List, [], ◌∷◌, ◌++◌, map}
use lib.IntN.{ℤ, pos, negsuc, neg_ℤ}
use Rattle.formula.specs.Formula.{Clause}
use Rattle.gates.specs.declared.Function.{Function}
use Rattle.gates.specs.declared.Function.TheVariants.{And, Or, Xor}
use Rattle.gates.specs.Clauses.{with_each, negated, gate_clauses}
use Rattle.named.specs.Named.{Values, by_name, named_clause, named_matrix}
use Rattle.named.specs.Gates.{all_of, any_of, differ, value_of}
use Rattle.named.specs.CircuitRight.{Some, Fits}

abbrev pub same : Bool → Bool → Bool
same true b = b
same false b = not b

abbrev pub AllSome : List ℤ → Type 0
AllSome [] = Unit {0}
AllSome (z ∷ zs) = Some z × AllSome zs

opposite : (g : Values) (z : ℤ) → Some z → by_name g (neg_ℤ z) ≡ not (by_name g z)
opposite g (pos zero) s = absurd s
opposite g (pos (suc v)) s = refl
opposite g (negsuc v) s = not_not (g (suc v))
  where
    not_not : (b : Bool) → b ≡ not (not b)
    not_not true = refl
    not_not false = refl

opposite_some : (z : ℤ) → Some z → Some (neg_ℤ z)
opposite_some (pos zero) s = absurd s
opposite_some (pos (suc v)) s = tt
opposite_some (negsuc v) s = tt

opposites_some : (is : List ℤ) → AllSome is → AllSome (negated is)
opposites_some [] s = tt
opposites_some (i ∷ is) s = (opposite_some i s.0, opposites_some is s.1)

pub matrix_append : (cs ds : List Clause) (g : Values) → named_matrix (cs ++ ds) g ≡ (named_matrix cs g && named_matrix ds g)
matrix_append [] ds g = refl
matrix_append (c ∷ cs) ds g = ap (λ (b : Bool). named_clause g c && b) (matrix_append cs ds g) ∙ and_assoc (named_clause g c) (named_matrix cs g)
    (named_matrix ds g)
  where
    and_assoc : (a b c : Bool) → (a && (b && c)) ≡ ((a && b) && c)
    and_assoc true b c = refl
    and_assoc false b c = refl

-- The clauses of `&`; those of `|` are the same with every sign turned round.
abbrev gathered : ℤ → List ℤ → List Clause
gathered z is = with_each (neg_ℤ z) is ++ ((z ∷ negated is) ∷ [])

twice : (z : ℤ) → neg_ℤ (neg_ℤ z) ≡ z
twice (pos zero) = refl
twice (pos (suc v)) = refl
twice (negsuc v) = refl

all_twice : (is : List ℤ) → negated (negated is) ≡ is
all_twice [] = refl
all_twice (i ∷ is) = ap₂ ◌∷◌ (twice i) (all_twice is)

turned : (z : ℤ) (is : List ℤ) → gate_clauses Or z is ≡ gathered (neg_ℤ z) (negated is)
turned z is = sym (ap₂ (λ (y : ℤ) (js : List ℤ). with_each y (negated is) ++ ((neg_ℤ z ∷ js) ∷ [])) (twice z) (all_twice is))

-- The one argument: a gate's clauses hold exactly if its name has the value of its function of the inputs.
module _ (g : Values) where
  each_holds : (z : ℤ) (is : List ℤ) → named_matrix (with_each z is) g ≡ (by_name g z || all_of (map (by_name g) is))
  each_holds z [] = or_true (by_name g z)
    where
      or_true : (a : Bool) → true ≡ (a || true)
      or_true true = refl
      or_true false = refl
  each_holds z (i ∷ is) = ap (λ (b : Bool). (by_name g z || (by_name g i || false)) && b) (each_holds z is) ∙ table (by_name g z) (by_name g i)
      (all_of (map (by_name g) is))
    where
      table : (a b c : Bool) → ((a || (b || false)) && (a || c)) ≡ (a || (b && c))
      table true b c = refl
      table false true c = refl
      table false false c = refl

  none_holds : (is : List ℤ) → AllSome is → named_clause g (negated is) ≡ not (all_of (map (by_name g) is))
  none_holds [] s = refl
  none_holds (i ∷ is) s = ap₂ ◌||◌ (opposite g i s.0) (none_holds is s.1) ∙ table (by_name g i) (all_of (map (by_name g) is))
    where
      table : (a b : Bool) → (not a || not b) ≡ not (a && b)
      table true b = refl
      table false b = refl

  gathered_holds : (z : ℤ) (is : List ℤ) → Some z → AllSome is → named_matrix (gathered z is) g ≡ same (by_name g z) (all_of (map (by_name g) is))
  gathered_holds z is s all =
      matrix_append (with_each (neg_ℤ z) is) ((z ∷ negated is) ∷ []) g
      ∙ ap₂ ◌&&◌ (each_holds (neg_ℤ z) is ∙ ap (λ (b : Bool). b || all_of (map (by_name g) is)) (opposite g z s))
      (ap (λ (b : Bool). (by_name g z || b) && true) (none_holds is all))
      ∙ table (by_name g z) (all_of (map (by_name g) is))
    where
      table : (a b : Bool) → ((not a || b) && ((a || not b) && true)) ≡ same a b
      table true true = refl
      table true false = refl
      table false true = refl
      table false false = refl

  dual : (is : List ℤ) → AllSome is → all_of (map (by_name g) (negated is)) ≡ not (any_of (map (by_name g) is))
  dual [] s = refl
  dual (i ∷ is) s = ap₂ ◌&&◌ (opposite g i s.0) (dual is s.1) ∙ table (by_name g i) (any_of (map (by_name g) is))
    where
      table : (a b : Bool) → (not a && not b) ≡ not (a || b)
      table true b = refl
      table false b = refl

  pub gate_holds : (f : Function) (z : ℤ) (is : List ℤ) → Some z → AllSome is → Fits f is
      → named_matrix (gate_clauses f z is) g ≡ same (by_name g z) (value_of f (map (by_name g) is))
  gate_holds And z is s all fits = gathered_holds z is s all
  gate_holds Or z is s all fits =
      ap (λ (cs : List Clause). named_matrix cs g) (turned z is)
      ∙ gathered_holds (neg_ℤ z) (negated is) (opposite_some z s) (opposites_some is all)
      ∙ ap₂ same (opposite g z s) (dual is all) ∙ table (by_name g z) (any_of (map (by_name g) is))
    where
      table : (a b : Bool) → same (not a) (not b) ≡ same a b
      table true b = not_not b
        where
          not_not : (b : Bool) → not (not b) ≡ b
          not_not true = refl
          not_not false = refl
      table false b = refl
  gate_holds Xor z [] s all fits = absurd (omega arith)
  gate_holds Xor z (a ∷ []) s all fits = absurd (omega arith)
  gate_holds Xor z (a ∷ b ∷ c ∷ is) s all fits = absurd (omega arith)
  gate_holds Xor z (a ∷ b ∷ []) s all fits =
      rw (opposite g z s, opposite g a all.0, opposite g b all.1.0) (table (by_name g z) (by_name g a) (by_name g b))
    where
      table : (z a b : Bool)
          → ((not z || (a || (b || false))) &&
          ((not z || (not a || (not b || false))) && ((z || (not a || (b || false))) && ((z || (a || (not b || false))) && true))))
          ≡ same z (differ a (differ b false))
      table true true true = refl
      table true true false = refl
      table true false true = refl
      table true false false = refl
      table false true true = refl
      table false true false = refl
      table false false true = refl
      table false false false = refl
