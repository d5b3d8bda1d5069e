-- The clauses of a gate list, by position, have the circuit's meaning. Assumes nothing.
use Prim.Native.Nat.{ℕ, zero, suc}
use native.Mathlib.Omega.{arith}
use mathlib.Core.Path.{◌≡◌, refl, ap, subst, ◌∙◌}
use mathlib.Core.List.{List, [], ◌∷◌, ◌++◌, map}
use mathlib.Core.Logic.{◌⊎◌, inl, inr}
use lib.IntN.{ℤ, pos, negsuc, neg_ℤ}
use lib.ListN.{length, length-append}
use Rattle.formula.specs.Formula.{Kind, existential, kind_of, prefix, Clause, clauses}
use Rattle.formula.specs.Meaning.{meaning, matrix, verdict}
use Rattle.formula.specs.Causes.{zeros}
use Rattle.gates.specs.declared.Function.{Function}
use Rattle.gates.specs.declared.Function.TheVariants.{And, Or, Xor}
use Rattle.gates.specs.Clauses.{with_each, negated, gate_clauses, flat}
use Rattle.named.specs.Named.{Values, named_matrix, named_meaning, placed}
use Rattle.named.specs.Names.{In, Distinct, InAll, AllIn, Known}
use Rattle.named.specs.Gates.{Gate, circuit, clauses_of, names_of}
use Rattle.named.specs.CircuitRight.{Some, Ordered, CircuitRight, circuit_kinds, circuit_names}
use Rattle.named.proofs.Positions.{positions_right}
use Rattle.named.proofs.NameLaws.{in_append, in_front, in_behind}
use Rattle.named.proofs.Closing.{existentials}
use Rattle.named.proofs.ClosingRight.{length_prefix}
use Rattle.named.proofs.GateLaws.{later_new, gate_list_right}

module _ (F : List ℕ) where
  flat_one : (c : Clause) (zs : List ℤ) → InAll F c → clauses (c ++ (pos 0 ∷ zs)) ≡ c ∷ clauses zs
  flat_one [] zs k = refl
  flat_one (pos zero ∷ c) zs k = absurd k
  flat_one (pos (suc v) ∷ c) zs k = rw (flat_one c zs k.1) refl
  flat_one (negsuc v ∷ c) zs k = rw (flat_one c zs k.1) refl

  clauses_flat : (cs : List Clause) → AllIn F cs → clauses (flat cs) ≡ cs
  clauses_flat [] k = refl
  clauses_flat (c ∷ cs) k = flat_one c (flat cs) k.0 ∙ ap (λ (ds : List Clause). c ∷ ds) (clauses_flat cs k.1)

  known_one : (c : Clause) (zs : List ℤ) → InAll F c → Known F zs → Known F (c ++ (pos 0 ∷ zs))
  known_one [] zs k m = m
  known_one (pos zero ∷ c) zs k m = absurd k
  known_one (pos (suc v) ∷ c) zs k m = (k.0, known_one c zs k.1 m)
  known_one (negsuc v ∷ c) zs k m = (k.0, known_one c zs k.1 m)

  known_flat : (cs : List Clause) → AllIn F cs → Known F (flat cs)
  known_flat [] k = tt
  known_flat (c ∷ cs) k = known_one c (flat cs) k.0 (known_flat cs k.1)

  -- As many clauses as zeros.
  zeros_one : (c : Clause) (zs : List ℤ) → InAll F c → zeros (c ++ (pos 0 ∷ zs)) ≡ suc (zeros zs)
  zeros_one [] zs k = refl
  zeros_one (pos zero ∷ c) zs k = absurd k
  zeros_one (pos (suc v) ∷ c) zs k = zeros_one c zs k.1
  zeros_one (negsuc v ∷ c) zs k = zeros_one c zs k.1

  pub zeros_flat : (cs : List Clause) → AllIn F cs → zeros (flat cs) ≡ length cs
  zeros_flat [] k = refl
  zeros_flat (c ∷ cs) k = zeros_one c (flat cs) k.0 ∙ ap suc (zeros_flat cs k.1)

  -- One literal, and its opposite.
  abbrev pub Here : ℤ → Type 0
  Here z = InAll F (z ∷ [])

  opposite_here : (z : ℤ) → Here z → Here (neg_ℤ z)
  opposite_here (pos zero) k = absurd k
  opposite_here (pos (suc v)) k = k
  opposite_here (negsuc v) k = k

  cons : (z : ℤ) (c : Clause) → Here z → InAll F c → InAll F (z ∷ c)
  cons (pos zero) c h k = absurd h
  cons (pos (suc v)) c h k = (h.0, k)
  cons (negsuc v) c h k = (h.0, k)

  head_here : (z : ℤ) (c : Clause) → InAll F (z ∷ c) → Here z
  head_here (pos zero) c k = absurd k
  head_here (pos (suc v)) c k = (k.0, tt)
  head_here (negsuc v) c k = (k.0, tt)

  tail_in : (z : ℤ) (c : Clause) → InAll F (z ∷ c) → InAll F c
  tail_in (pos zero) c k = absurd k
  tail_in (pos (suc v)) c k = k.1
  tail_in (negsuc v) c k = k.1

  negated_in : (is : Clause) → InAll F is → InAll F (negated is)
  negated_in [] k = tt
  negated_in (i ∷ is) k = cons (neg_ℤ i) (negated is) (opposite_here i (head_here i is k)) (negated_in is (tail_in i is k))

  each_in : (z : ℤ) (is : List ℤ) (ds : List Clause) → Here z → InAll F is → AllIn F ds → AllIn F (with_each z is ++ ds)
  each_in z [] ds h k m = m
  each_in z (i ∷ is) ds h k m = (cons z (i ∷ []) h (head_here i is k), each_in z is ds h (tail_in i is k) m)

  append_in : (cs ds : List Clause) → AllIn F cs → AllIn F ds → AllIn F (cs ++ ds)
  append_in [] ds k m = m
  append_in (c ∷ cs) ds k m = (k.0, append_in cs ds k.1 m)

  pub gate_in : (f : Function) (z : ℤ) (is : List ℤ) → Here z → InAll F is → AllIn F (gate_clauses f z is)
  gate_in And z is h k = each_in (neg_ℤ z) is _ (opposite_here z h) k (cons z (negated is) h (negated_in is k), tt)
  gate_in Or z is h k = each_in z (negated is) _ h (negated_in is k) (cons (neg_ℤ z) is (opposite_here z h) k, tt)
  gate_in Xor z [] h k = tt
  gate_in Xor z (s ∷ []) h k = tt
  gate_in Xor z (s ∷ t ∷ u ∷ is) h k = tt
  gate_in Xor z (s ∷ t ∷ []) h k =
      let s⁺ = head_here s (t ∷ []) k in
      let t⁺ : Here t = tail_in s (t ∷ []) k in
      let s⁻ = opposite_here s s⁺ in
      let t⁻ = opposite_here t t⁺ in
      let z⁻ = opposite_here z h in (
        cons (neg_ℤ z) (s ∷ t ∷ []) z⁻ (cons s (t ∷ []) s⁺ t⁺),
        (
          cons (neg_ℤ z) (neg_ℤ s ∷ neg_ℤ t ∷ []) z⁻ (cons (neg_ℤ s) (neg_ℤ t ∷ []) s⁻ t⁻),
          (
            cons z (neg_ℤ s ∷ t ∷ []) h (cons (neg_ℤ s) (t ∷ []) s⁻ t⁺),
            (cons z (s ∷ neg_ℤ t ∷ []) h (cons s (neg_ℤ t ∷ []) s⁺ t⁻), tt),
          ),
        ),
      )

  pub wider : (known : List ℕ) → ((v : ℕ) → In v known → In v F) → (c : Clause) → InAll known c → InAll F c
  wider known sub [] k = tt
  wider known sub (pos zero ∷ c) k = absurd k
  wider known sub (pos (suc v) ∷ c) k = (sub (suc v) k.0, wider known sub c k.1)
  wider known sub (negsuc v ∷ c) k = (sub (suc v) k.0, wider known sub c k.1)

  pub name_here : (n : ℕ) → Some (pos n) → In n F → Here (pos n)
  name_here zero s i = absurd s
  name_here (suc n) s i = (i, tt)

  more_known : (known : List ℕ) (n : ℕ) → ((v : ℕ) → In v known → In v F) → In n F → (v : ℕ) → In v (n ∷ known) → In v F
  more_known known n sub i v (inl e) = subst (λ (m : ℕ). In m F) e i
  more_known known n sub i v (inr j) = sub v j

  list_in : (known : List ℕ) (gates : List Gate) (o : ℤ) → ((v : ℕ) → In v known → In v F) → ((v : ℕ) → In v (names_of gates) → In v F) → Ordered known gates →
      Here o
      → AllIn F (clauses_of gates o)
  list_in known [] o sub new ord h = (h, tt)
  list_in known (gate ∷ gates) o sub new ord h =
      append_in (gate_clauses gate.function (pos gate.name) gate.inputs) (clauses_of gates o)
      (gate_in gate.function (pos gate.name) gate.inputs (name_here gate.name ord.1 (new gate.name (inl refl)))
      (wider known sub gate.inputs ord.2))
      (list_in (gate.name ∷ known) gates o (more_known known gate.name sub (new gate.name (inl refl))) (λ v i. new v (inr i)) ord.4 h)

gates_distinct : (known : List ℕ) (gates : List Gate) → Ordered known gates → Distinct (names_of gates)
gates_distinct known [] ord = tt
gates_distinct known (gate ∷ gates) ord = (
  λ i. later_new (gate.name ∷ known) gates ord.4 gate.name i (inl refl),
  gates_distinct (gate.name ∷ known)
      gates ord.4,
)

append_distinct : (xs ys : List ℕ) → Distinct xs → Distinct ys → ((v : ℕ) → In v ys → In v xs → ⊥) → Distinct (xs ++ ys)
append_distinct [] ys d e apart = e
append_distinct (x ∷ xs) ys d e apart = (λ i. go (in_append x xs ys i), append_distinct xs ys d.1 e (λ v i j. apart v i (inr j)))
  where
    go : In x xs ⊎ In x ys → ⊥
    go (inl a) = d.0 a
    go (inr b) = apart x b (inl refl)

pub circuit_distinct : (xs : List ℕ) (gates : List Gate) → Distinct xs → Ordered xs gates → Distinct (circuit_names xs gates)
circuit_distinct xs gates d ord = append_distinct xs (names_of gates) d (gates_distinct xs gates ord) (λ v i k. later_new xs gates ord v i k)

circuit_in : (xs : List ℕ) (gates : List Gate) (o : ℤ) → Ordered xs gates → InAll (circuit_names xs gates) (o ∷ []) →
    AllIn (circuit_names xs gates) (clauses_of gates o)
circuit_in xs gates o ord h = list_in (xs ++ names_of gates) xs gates o (λ v i. in_front v xs (names_of gates) i) (λ v i. in_behind v xs (names_of gates) i) ord
    h

pub circuit_known : (xs : List ℕ) (gates : List Gate) (o : ℤ) → Ordered xs gates → InAll (circuit_names xs gates) (o ∷ []) →
    Known (circuit_names xs gates) (flat (clauses_of gates o))
circuit_known xs gates o ord h = known_flat (xs ++ names_of gates) (clauses_of gates o) (circuit_in xs gates o ord h)

length_last : (ks : List Kind) (xs ys : List ℕ) → length ks ≡ length xs → length (ks ++ existentials ys []) ≡ length (xs ++ ys)
length_last ks xs ys e = omega (arith, length-append ks (existentials ys []), length-append xs ys, ends ys)
  where
    ends : (ys : List ℕ) → length (existentials ys []) ≡ length ys
    ends [] = refl
    ends (y ∷ ys) = ap suc (ends ys)

-- The verdict of what is written is the circuit's meaning, whatever values other names have.
list_right : (ks : List Kind) (xs : List ℕ) (gates : List Gate) (o : ℤ) → length ks ≡ length xs → Distinct xs → Ordered xs gates →
    InAll (xs ++ names_of gates) (o ∷ []) → (g : Values)
    → meaning (ks ++ existentials (names_of gates) []) (matrix (clauses (map (placed (xs ++ names_of gates)) (flat (clauses_of gates o)))))
    ≡ named_meaning ks xs (circuit gates o) g
list_right ks xs gates o e d ord h g =
    let all = circuit_in xs gates o ord h in
    positions_right (ks ++ existentials (names_of gates) []) (xs ++ names_of gates) (flat (clauses_of gates o)) g (length_last ks xs (names_of gates) e)
    (circuit_distinct xs gates d ord)
    (circuit_known xs gates o ord h)
    ∙ ap (λ (cs : List Clause). named_meaning (ks ++ existentials (names_of gates) []) (xs ++ names_of gates) (named_matrix cs) g)
    (clauses_flat (xs ++ names_of gates) (clauses_of gates o) all)
    ∙ gate_list_right ks xs gates o e ord g

last_kinds : (kinds : List ℕ) (gates : List Gate) → prefix (circuit_kinds kinds gates) ≡ prefix kinds ++ existentials (names_of gates) []
last_kinds [] [] = refl
last_kinds [] (gate ∷ gates) = ap (λ (ks : List Kind). existential ∷ ks) (last_kinds [] gates)
last_kinds (k ∷ kinds) gates = ap (λ (ks : List Kind). kind_of k ∷ ks) (last_kinds kinds gates)

pub circuit_right : (kinds names : List ℕ) (gates : List Gate) (o : ℤ) → CircuitRight kinds names gates o
unfolding verdict
circuit_right kinds names gates o e d ord h g =
    ap (λ (ks : List Kind). meaning ks (matrix (clauses (map (placed (names ++ names_of gates)) (flat (clauses_of gates o)))))) (last_kinds kinds gates)
    ∙ list_right (prefix kinds) names gates o (length_prefix kinds ∙ e) d ord h g
