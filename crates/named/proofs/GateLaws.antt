-- The clauses of a gate list have the circuit's meaning, by names: nothing here speaks of one of the functions. Assumes nothing.
use Prim.Native.Nat.{ℕ, zero, suc}
use native.Mathlib.Omega.{arith}
use mathlib.Core.Path.{◌≡◌, refl, sym, ap, ap₂, subst, ◌∙◌}
use mathlib.Core.Bool.{Bool, true, false, not, ◌&&◌, ◌||◌}
use mathlib.Core.List.{List, [], ◌∷◌, ◌++◌, map}
use mathlib.Core.Logic.{inl, inr}
use borrow.Author.Tests.{eq-eqb, ne_eqb}
use lib.IntN.{ℤ, pos, negsuc}
use lib.ListN.{length}
use Rattle.formula.specs.Formula.{Kind, Clause}
use Rattle.gates.specs.Clauses.{gate_clauses}
use Rattle.named.specs.Named.{Values, with_value, by_name, named_matrix, quantify, named_meaning}
use Rattle.named.specs.Names.{In, InAll}
use Rattle.named.specs.Gates.{Gate, value_of, gate_value, circuit, clauses_of, names_of}
use Rattle.named.specs.CircuitRight.{Some, Fits, Ordered}
use Rattle.named.proofs.Closing.{existentials, Looks}
use Rattle.named.proofs.GateHolds.{same, AllSome, matrix_append, gate_holds}

-- Prefixes one behind the other.
pub meaning_append : (ks ls : List Kind) (xs ys : List ℕ) (phi : Values → Bool) (g : Values) → length ks ≡ length xs
    → named_meaning (ks ++ ls) (xs ++ ys) phi g ≡ named_meaning ks xs (λ h. named_meaning ls ys phi h) g
meaning_append [] ls [] ys phi g e = refl
meaning_append [] ls (x ∷ xs) ys phi g e = absurd (omega arith)
meaning_append (k ∷ ks) ls [] ys phi g e = absurd (omega arith)
meaning_append (k ∷ ks) ls (x ∷ xs) ys phi g e =
    ap₂ (quantify k) (meaning_append ks ls xs ys phi (with_value x true g) (omega arith)) (meaning_append ks ls xs ys phi (with_value x false g) (omega arith))

pub meaning_equal : (ks : List Kind) (xs : List ℕ) (phi psi : Values → Bool) → ((g : Values) → phi g ≡ psi g) → (g : Values)
    → named_meaning ks xs phi g ≡ named_meaning ks xs psi g
meaning_equal [] xs phi psi h g = h g
meaning_equal (k ∷ ks) [] phi psi h g = h g
meaning_equal (k ∷ ks) (x ∷ xs) phi psi h g =
    ap₂ (quantify k) (meaning_equal ks xs phi psi h (with_value x true g)) (meaning_equal ks xs phi psi h (with_value x false g))

-- A part of the matrix that looks at none of the names bound stands before them.
with_outside : (all : List ℕ) (x : ℕ) (b : Bool) (g : Values) → (In x all → ⊥) → (v : ℕ) → In v all → with_value x b g v ≡ g v
with_outside all x b g none v i = rw (ne_eqb x v (λ e. none (subst (λ (n : ℕ). In n all) (sym e) i))) refl

pub part_before : (all : List ℕ) (c psi : Values → Bool) → Looks all c → (xs : List ℕ) → ((v : ℕ) → In v xs → In v all → ⊥) → (g : Values)
    → named_meaning (existentials xs []) xs (λ h. c h && psi h) g ≡ (c g && named_meaning (existentials xs []) xs psi g)
part_before all c psi looks [] out g = refl
part_before all c psi looks (x ∷ xs) out g =
    ap₂ ◌||◌ (inner true (part_before all c psi looks xs (λ v i. out v (inr i)) (with_value x true g)))
    (inner false (part_before all c psi looks xs (λ v i. out v (inr i)) (with_value x false g)))
    ∙ table (c g) (named_meaning (existentials xs []) xs psi (with_value x true g)) (named_meaning (existentials xs []) xs psi (with_value x false g))
  where
    inner : (b : Bool)
        → named_meaning (existentials xs []) xs (λ h. c h && psi h) (with_value x b g) ≡ (c (with_value x b g) && named_meaning (existentials xs []) xs psi
        (with_value x b g))
        → named_meaning (existentials xs []) xs (λ h. c h && psi h) (with_value x b g) ≡ (c g && named_meaning (existentials xs []) xs psi (with_value x b g))
    inner b e =
        e ∙ ap (λ (t : Bool). t && named_meaning (existentials xs []) xs psi (with_value x b g))
        (looks (with_value x b g) g (with_outside all x b g (out x (inl refl))))

    table : (a b c : Bool) → ((a && b) || (a && c)) ≡ (a && (b || c))
    table true b c = refl
    table false b c = refl

some_of : (all : List ℕ) (c : Clause) → InAll all c → AllSome c
some_of all [] k = tt
some_of all (pos zero ∷ c) k = absurd k
some_of all (pos (suc v) ∷ c) k = (tt, some_of all c k.1)
some_of all (negsuc v ∷ c) k = (tt, some_of all c k.1)

inputs_alike : (all : List ℕ) (g h : Values) → ((v : ℕ) → In v all → g v ≡ h v) → (c : Clause) → InAll all c → map (by_name g) c ≡ map (by_name h) c
inputs_alike all g h same [] k = refl
inputs_alike all g h same (pos zero ∷ c) k = absurd k
inputs_alike all g h same (pos (suc v) ∷ c) k = ap₂ ◌∷◌ (same (suc v) k.0) (inputs_alike all g h same c k.1)
inputs_alike all g h same (negsuc v ∷ c) k = ap₂ ◌∷◌ (ap not (same (suc v) k.0)) (inputs_alike all g h same c k.1)

-- What a gate's clauses look at: its name and its inputs.
gate_looks : (known : List ℕ) (gate : Gate) → Some (pos gate.name) → InAll known gate.inputs → Fits gate.function gate.inputs
    → Looks (gate.name ∷ known) (named_matrix (gate_clauses gate.function (pos gate.name) gate.inputs))
gate_looks known gate some inputs fits g h alike =
    gate_holds g gate.function (pos gate.name) gate.inputs some (some_of known gate.inputs inputs) fits
    ∙ ap₂ same (alike gate.name (inl refl)) (ap (value_of gate.function) (inputs_alike known g h (λ v i. alike v (inr i)) gate.inputs inputs))
    ∙ sym (gate_holds h gate.function (pos gate.name) gate.inputs some (some_of known gate.inputs inputs) fits)

pub later_new : (known : List ℕ) (gates : List Gate) → Ordered known gates → (v : ℕ) → In v (names_of gates) → In v known → ⊥
later_new known [] o v i k = absurd i
later_new known (gate ∷ gates) o v (inl e) k = o.0 (subst (λ (n : ℕ). In n known) (sym e) k)
later_new known (gate ∷ gates) o v (inr i) k = later_new (gate.name ∷ known) gates o.4 v i (inr k)

-- For given values of the unknowns: the gates' clauses and O leave the value of O.
pub gates_right : (gates : List Gate) (o : ℤ) (known : List ℕ) → Ordered known gates → (h : Values)
    → named_meaning (existentials (names_of gates) []) (names_of gates) (named_matrix (clauses_of gates o)) h ≡ circuit gates o h
gates_right [] o known ord h = table (by_name h o)
  where
    table : (a : Bool) → ((a || false) && true) ≡ a
    table true = refl
    table false = refl
gates_right (gate ∷ gates) o known ord h =
    ap₂ ◌||◌ (branch true (gates_right gates o (gate.name ∷ known) ord.4 (with_value gate.name true h)))
    (branch false (gates_right gates o (gate.name ∷ known) ord.4 (with_value gate.name false h)))
    ∙ table (gate_value gate h) (λ b. circuit gates o (with_value gate.name b h))
  where
    own : (x : ℕ) (b : Bool) → with_value x b h x ≡ b
    own x b = rw (eq-eqb x x refl) refl

    first_value : (b : Bool) →
        named_matrix (gate_clauses gate.function (pos gate.name) gate.inputs) (with_value gate.name b h) ≡ same b (gate_value gate h)
    first_value b =
        gate_holds (with_value gate.name b h) gate.function (pos gate.name) gate.inputs ord.1 (some_of known gate.inputs ord.2) ord.3
        ∙ ap₂ same (own gate.name b)
        (ap (value_of gate.function)
        (inputs_alike known (with_value gate.name b h) h (with_outside known gate.name b h ord.0) gate.inputs ord.2))

    branch : (b : Bool) →
        named_meaning (existentials (names_of gates) []) (names_of gates) (named_matrix (clauses_of gates o)) (with_value gate.name b h) ≡ circuit gates o
        (with_value gate.name b h)
        → named_meaning (existentials (names_of gates) []) (names_of gates) (named_matrix (clauses_of (gate ∷ gates) o)) (with_value gate.name b h)
        ≡ (same b (gate_value gate h) && circuit gates o (with_value gate.name b h))
    branch b e =
        meaning_equal (existentials (names_of gates) []) (names_of gates) (named_matrix (clauses_of (gate ∷ gates) o))
        (λ g. named_matrix (gate_clauses gate.function (pos gate.name) gate.inputs) g && named_matrix (clauses_of gates o) g)
        (λ g. matrix_append (gate_clauses gate.function (pos gate.name) gate.inputs) (clauses_of gates o) g) (with_value gate.name b h)
        ∙ part_before (gate.name ∷ known) (named_matrix (gate_clauses gate.function (pos gate.name) gate.inputs)) (named_matrix (clauses_of gates o))
        (gate_looks known gate ord.1 ord.2 ord.3) (names_of gates)
        (λ v i k. later_new (gate.name ∷ known) gates ord.4 v i k) (with_value gate.name b h)
        ∙ ap₂ ◌&&◌ (first_value b) e

    table : (f : Bool) (k : Bool → Bool) → ((same true f && k true) || (same false f && k false)) ≡ k f
    table true k = or_false (k true)
      where
        or_false : (a : Bool) → (a || false) ≡ a
        or_false true = refl
        or_false false = refl
    table false k = refl

-- Under the prefix: the verdict of the clauses, gates last, is the circuit's meaning.
pub gate_list_right : (ks : List Kind) (xs : List ℕ) (gates : List Gate) (o : ℤ) → length ks ≡ length xs → Ordered xs gates → (g : Values)
    → named_meaning (ks ++ existentials (names_of gates) []) (xs ++ names_of gates) (named_matrix (clauses_of gates o)) g ≡ named_meaning ks xs
    (circuit gates o) g
gate_list_right ks xs gates o e ord g =
    meaning_append ks (existentials (names_of gates) []) xs (names_of gates) (named_matrix (clauses_of gates o)) g e
    ∙ meaning_equal ks xs (λ h. named_meaning (existentials (names_of gates) []) (names_of gates) (named_matrix (clauses_of gates o)) h) (circuit gates o)
    (λ h. gates_right gates o xs ord h) g
