-- What a gate list's lines leave in the state: the prefix and the gates that they say, each gate behind all before it. Assumes nothing.
use Prim.Native.Nat.{ℕ, zero, suc, ◌≤◌}
use native.Mathlib.Omega.{arith}
use mathlib.Core.Path.{◌≡◌, refl, sym, ap, ap₂, subst, ◌∙◌}
use mathlib.Core.Bool.{Bool, true, false, cond}
use mathlib.Core.List.{List, [], ◌∷◌, ◌++◌, append_assoc, append-nil}
use mathlib.Core.Logic.{◌⊎◌, inl, inr}
use lib.Dec.{ltb}
use lib.IntN.{ℤ, pos, negsuc}
use lib.ListN.{length, replicate, length-append}
use Rattle.gates.specs.Clauses.{gate_clauses, flat}
use Rattle.gates.proofs.FunctionLaws.{flat_append}
use Rattle.lines.specs.Lines.{Bytes}
use Rattle.lines.specs.Numbers.{number, unsigned, negative, is_zero}
use Rattle.named.specs.Named.{among, signed}
use Rattle.named.specs.Names.{In, Distinct, UpTo, InAll}
use Rattle.named.specs.Gates.{Gate, clauses_of, names_of}
use Rattle.named.specs.CircuitRight.{Some, Fits, Ordered, circuit_kinds, circuit_names}
use Rattle.named.proofs.NameLaws.{among_in, not_among, in_append, in_front, in_behind, distinct_behind, up_to_append}
use Rattle.named.proofs.CircuitRight.{wider}
use Rattle.text.specs.Reading.{max_variables, State, bind, literal_of, input_cause, first_cause, inputs_cause, inputs_of, entries_of_gate, with_gate}
use Rattle.text.specs.GatesRight.{Drawing, with_block, with_gate_line}

-- The entries of the gates' clauses, before O.
abbrev pub made_entries : List Gate → List ℤ
made_entries [] = []
made_entries (gate ∷ gates) = entries_of_gate gate ++ made_entries gates

pub record Drawn (s : State) (d : Drawing) : Type 0 where
  pub kinds : s.kinds ≡ circuit_kinds d.kinds d.gates
  pub names : s.names ≡ circuit_names d.names d.gates
  pub free : s.free ≡ []
  pub entries : s.entries ≡ made_entries d.gates
  pub read : s.clauses_read ≡ length d.gates
  pub as_many : length d.kinds ≡ length d.names
  pub distinct : Distinct d.names
  pub ordered : Ordered d.names d.gates
  pub some : In 0 s.names → ⊥
  pub small : UpTo max_variables s.names
  pub few : s.variables ≤ max_variables

-- A name in a prefix line.
abbrev pub blocks : List ℕ → List ℕ → Drawing
blocks kinds names = record { kinds = kinds; names = names; gates = [] }

pub zero_behind : (xs : List ℕ) (v : ℕ) → (In 0 xs → ⊥) → (v ≡ 0 → ⊥) → In 0 (xs ++ (v ∷ [])) → ⊥
zero_behind xs v none some i = go (in_append 0 xs (v ∷ []) i)
  where
    go : In 0 xs ⊎ In 0 (v ∷ []) → ⊥
    go (inl there) = none there
    go (inr (inl e)) = some e
    go (inr (inr there)) = absurd there

pub bind_drawn : (kind v : ℕ) (s : State) (ks xs : List ℕ) → Drawn s (blocks ks xs) → v ≤ s.variables → among v s.names ≡ false → (v ≡ 0 → ⊥)
    → Drawn (bind kind s v) (blocks (ks ++ (kind ∷ [])) (xs ++ (v ∷ [])))
bind_drawn kind v s ks xs d small new some =
    let bound : s.names ≡ xs = d.names ∙ append-nil xs in
    record {
      kinds = ap (λ (l : List ℕ). l ++ (kind ∷ [])) (d.kinds ∙ append-nil ks) ∙ sym (append-nil (ks ++ (kind ∷ [])));
      names = ap (λ (l : List ℕ). l ++ (v ∷ [])) bound ∙ sym (append-nil (xs ++ (v ∷ [])));
      free = d.free;
      entries = d.entries;
      read = d.read;
      as_many = omega (arith, length-append ks (kind ∷ []), length-append xs (v ∷ []), d.as_many);
      distinct = distinct_behind xs v d.distinct (subst (λ (l : List ℕ). In v l → ⊥) bound (not_among v s.names new));
      ordered = tt;
      some = zero_behind s.names v d.some some;
      small = up_to_append max_variables s.names (v ∷ []) d.small (omega (arith, d.few), tt);
      few = d.few;
    }

pub block_none : (kind : ℕ) (ks xs : List ℕ) → with_block (blocks ks xs) kind [] ≡ blocks ks xs
block_none kind ks xs = ap₂ blocks (append-nil ks) (append-nil xs)

pub block_more : (kind v : ℕ) (ks xs vs : List ℕ) → with_block (blocks ks xs) kind (v ∷ vs) ≡ with_block (blocks (ks ++ (kind ∷ [])) (xs ++ (v ∷ []))) kind vs
block_more kind v ks xs vs = ap₂ blocks (sym (append_assoc ks (kind ∷ []) (replicate (length vs) kind))) (sym (append_assoc xs (v ∷ []) vs))

-- A gate behind the others.
kinds_behind : (ks : List ℕ) (gates : List Gate) (gate : Gate) → circuit_kinds ks gates ++ (0 ∷ []) ≡ circuit_kinds ks (gates ++ (gate ∷ []))
kinds_behind ks gates gate = append_assoc ks (replicate (length gates) 0) (0 ∷ []) ∙ ap (λ (l : List ℕ). ks ++ l) (go gates)
  where
    go : (gates : List Gate) → ◌≡◌ {A = List ℕ} (◌++◌ {A = ℕ} (replicate (length gates) 0) (0 ∷ [])) (replicate (length (gates ++ (gate ∷ []))) 0)
    go [] = refl
    go (g ∷ gs) = ap (λ (l : List ℕ). 0 ∷ l) (go gs)

pub names_behind : (gates : List Gate) (gate : Gate) → names_of gates ++ (gate.name ∷ []) ≡ names_of (gates ++ (gate ∷ []))
names_behind [] gate = refl
names_behind (g ∷ gs) gate = ap (λ (l : List ℕ). g.name ∷ l) (names_behind gs gate)

made_behind : (gates : List Gate) (gate : Gate) → made_entries gates ++ entries_of_gate gate ≡ made_entries (gates ++ (gate ∷ []))
made_behind [] gate = sym (append-nil (entries_of_gate gate))
made_behind (g ∷ gs) gate = append_assoc (entries_of_gate g) (made_entries gs) (entries_of_gate gate) ∙ ap (λ (l : List ℤ). entries_of_gate g ++ l) (made_behind gs gate)

pub made_output : (gates : List Gate) (o : ℤ) → made_entries gates ++ (o ∷ pos 0 ∷ []) ≡ flat (clauses_of gates o)
made_output [] o = refl
made_output (gate ∷ gates) o =
    append_assoc (entries_of_gate gate) (made_entries gates) (o ∷ pos 0 ∷ [])
    ∙ ap (λ (l : List ℤ). entries_of_gate gate ++ l) (made_output gates o)
    ∙ sym (flat_append (gate_clauses gate.function (pos gate.name) gate.inputs) (clauses_of gates o))

-- Names known before the last gate, whichever way they are listed.
moved : (known : List ℕ) (x : ℕ) (more : List ℕ) (v : ℕ) → In v (known ++ (x ∷ more)) → In v ((x ∷ known) ++ more)
moved known x more v i = go (in_append v known (x ∷ more) i)
  where
    go : In v known ⊎ In v (x ∷ more) → In v ((x ∷ known) ++ more)
    go (inl there) = inr (in_front v known more there)
    go (inr (inl e)) = inl e
    go (inr (inr there)) = inr (in_behind v known more there)

back : (known : List ℕ) (x : ℕ) (more : List ℕ) (v : ℕ) → In v ((x ∷ known) ++ more) → In v (known ++ (x ∷ more))
back known x more v (inl e) = in_behind v known (x ∷ more) (inl e)
back known x more v (inr i) = go (in_append v known more i)
  where
    go : In v known ⊎ In v more → In v (known ++ (x ∷ more))
    go (inl there) = in_front v known (x ∷ more) there
    go (inr there) = in_behind v known (x ∷ more) (inr there)

ordered_behind : (known : List ℕ) (gates : List Gate) (gate : Gate) → Ordered known gates → (In gate.name (known ++ names_of gates) → ⊥) → Some (pos gate.name)
    → InAll (known ++ names_of gates) gate.inputs → Fits gate.function gate.inputs → Ordered known (gates ++ (gate ∷ []))
ordered_behind known [] gate ord new some ins fits =
    ((λ i. new (in_front gate.name known [] i)), some, wider known (known ++ []) (λ v i. subst (In v) (append-nil known) i) gate.inputs ins, fits, tt)
ordered_behind known (g ∷ gs) gate ord new some ins fits = (
  ord.0,
  ord.1,
  ord.2,
  ord.3,
  ordered_behind (g.name ∷ known) gs gate ord.4 (λ i. new (back known g.name (names_of gs) gate.name i)) some
      (wider ((g.name ∷ known) ++ names_of gs) (known ++ (g.name ∷ names_of gs)) (λ v i. moved known g.name (names_of gs) v i) gate.inputs ins) fits,
)

pub some_name : (v : ℕ) → (v ≡ 0 → ⊥) → Some (pos v)
some_name zero some = absurd (some refl)
some_name (suc v) some = tt

pub gate_drawn : (s : State) (d : Drawing) (gate : Gate) → Drawn s d → gate.name ≤ max_variables → among gate.name s.names ≡ false → (gate.name ≡ 0 → ⊥)
    → InAll s.names gate.inputs → Fits gate.function gate.inputs → Drawn (with_gate s gate) (with_gate_line d gate)
gate_drawn s d gate t small new some ins fits =
    let v = gate.name in
    record {
      kinds = ap (λ (l : List ℕ). l ++ (0 ∷ [])) t.kinds ∙ kinds_behind d.kinds d.gates gate;
      names =
          ap (λ (l : List ℕ). l ++ (v ∷ [])) t.names
          ∙ append_assoc d.names (names_of d.gates) (v ∷ [])
          ∙ ap (λ (l : List ℕ). d.names ++ l) (names_behind d.gates gate);
      free = t.free;
      entries = ap (λ (l : List ℤ). l ++ entries_of_gate gate) t.entries ∙ made_behind d.gates gate;
      read = ap suc t.read ∙ sym (length-append d.gates (gate ∷ []) ∙ omega arith);
      as_many = t.as_many;
      distinct = t.distinct;
      ordered =
          ordered_behind d.names d.gates gate t.ordered (subst (λ (l : List ℕ). In v l → ⊥) t.names (not_among v s.names new)) (some_name v some)
          (subst (λ (l : List ℕ). InAll l gate.inputs) t.names ins) fits;
      some = zero_behind s.names v t.some some;
      small = up_to_append max_variables s.names (v ∷ []) t.small (small, tt);
      few = t.few;
    }

-- What the causes of a gate line rule out. A literal whose name is known, and 0 is no name.
pub known_literal : (names : List ℕ) (b : Bool) (v : ℕ) → (In 0 names → ⊥) → In v names → InAll names (signed b v ∷ [])
known_literal names true zero none i = absurd (none i)
known_literal names true (suc v) none i = (i, tt)
known_literal names false zero none i = absurd (none i)
known_literal names false (suc v) none i = (i, tt)

in_all_more : (names : List ℕ) (z : ℤ) (zs : List ℤ) → InAll names (z ∷ []) → InAll names zs → InAll names (z ∷ zs)
in_all_more names (pos zero) zs here more = absurd here
in_all_more names (pos (suc v)) zs here more = (here.0, more)
in_all_more names (negsuc v) zs here more = (here.0, more)

input_known : (names : List ℕ) (w : Bytes) → input_cause names w ≡ 0 → In (number (unsigned w)) names
input_known names w e = go (ltb max_variables (number (unsigned w))) (among (number (unsigned w)) names) refl e
  where
    go : (a b : Bool) → among (number (unsigned w)) names ≡ b → ◌≡◌ {A = ℕ} (cond a 11 (cond b 0 19)) 0 → In (number (unsigned w)) names
    go true b q e = absurd (omega arith)
    go false true q e = among_in (number (unsigned w)) names q
    go false false q e = absurd (omega arith)

first_cause_none : (a b : ℕ) → first_cause a b ≡ 0 → (a ≡ 0) × (b ≡ 0)
first_cause_none zero b e = (refl, e)
first_cause_none (suc a) b e = absurd (omega arith)

pub inputs_known : (names : List ℕ) → (In 0 names → ⊥) → (ws : List Bytes) → inputs_cause names ws ≡ 0 → InAll names (inputs_of ws)
inputs_known names none [] e = tt
inputs_known names none (w ∷ ws) e = go (is_zero w) refl e (inputs_known names none ws)
  where
    go : (b : Bool) → is_zero w ≡ b → cond b 0 (first_cause (input_cause names w) (inputs_cause names ws)) ≡ 0 → (inputs_cause names ws ≡ 0 → InAll names (inputs_of ws))
        → InAll names (cond b [] (literal_of w ∷ inputs_of ws))
    go true q e more = tt
    go false q e more =
        let both = first_cause_none (input_cause names w) (inputs_cause names ws) e in
        in_all_more names (literal_of w) (inputs_of ws) (known_literal names (negative w) (number (unsigned w)) none (input_known names w both.0))
        (more both.1)
