-- A gate line is read: what is held afterwards is what the definition says. Assumes nothing.
use Prim.Native.Nat.{ℕ, zero, suc, ◌+◌, ◌≤◌, ◌<◌}
use native.Mathlib.Omega.{arith}
use native.Mathlib.Numerals.{add-one}
use mathlib.Core.Path.{◌≡◌, refl, sym, ap, ◌∙◌}
use mathlib.Core.Bool.{Bool, true, false}
use mathlib.Core.List.{List, [], ◌∷◌, ◌++◌}
use lib.IntN.{ℤ, pos}
use lib.ListN.{length, take}
use lib.Seq.{length-take-le}
use Rattle.formula.specs.Formula.{max_clauses, max_entries}
use Rattle.lines.specs.Lines.{Bytes, words, rest, second}
use Rattle.lines.specs.Numbers.{number}
use Rattle.named.specs.Named.{signed}
use Rattle.named.proofs.Negation.{signed_size}
use Rattle.text_gates.specs.GateLine.{marked, room_limit, output_cause as put_cause, PutSo}
use Rattle.text_gates.proofs.GateLineLaws.{limit_zero, kept_all, put_so}
use Rattle.text.specs.declared.body.Counts.{Counts}
use Rattle.text.specs.Reading.{State, went, unless, gate_cause, first_cause, inputs_cause, gate_of, clauses_of_gate, entries_of_gate, limit_cause, with_gate, gate_line, max_variables, output_cause, with_output, whole, stopped, go_on}
use Rattle.text.specs.Private.Steps.{Marked, free_in, placed_in, Sized, held, LineRead, GateNamed, ClausesPut, NameBound, OutputAdded, outcome, settled}
use Rattle.text.proofs.NameLaws.{refused_alike}
use Rattle.text.proofs.BodyLaws.{resized, marked_bound}
use Rattle.text.proofs.GateStateLaws.{marked_among, gate_line_so}

-- A state from its parts.
pub state_same : {v v' c c' : ℕ} {k k' n n' f f' : List ℕ} {e e' : List ℤ} {r r' m m' : ℕ} → v ≡ v' → c ≡ c' → k ≡ k' → n ≡ n' → f ≡ f' → e ≡ e' → r ≡ r' → m ≡ m'
    → ◌≡◌ {A = State} (record { variables = v; clauses = c; kinds = k; names = n; free = f; entries = e; clauses_read = r; made = m })
    (record { variables = v'; clauses = c'; kinds = k'; names = n'; free = f'; entries = e'; clauses_read = r'; made = m' })
state_same a b c d e f g h = rw (a, b, c, d, e, f, g, h) refl

module _ (c r : Counts) (K N P : List ℕ) (L : List ℤ) where
  -- The name has a cause.
  pub name_refused : (ws : List Bytes) → Sized c K N L → Marked (placed_in c.bound c.free N) P → c.free ≡ 0 → c.clauses_read < c.clauses
      → {v cause : ℕ} → v ≡ number (second ws) → GateNamed v c.bound P cause → (cause ≡ 0 → ⊥)
      → r.variables ≡ c.variables → r.clauses ≡ c.clauses → r.bound ≡ c.bound → r.free ≡ c.free → r.entries ≡ c.entries → r.clauses_read ≡ c.clauses_read → r.made ≡ c.made → r.cause ≡ cause → r.line ≡ c.line
      → LineRead true (gate_line (held c K N L) ws) c r K N P L
  unfolding held
  name_refused ws z x none below {v} {cause} value named bad ev ec eb ef ee er em es el =
      let bound = marked_bound c.bound c.free N none x in
      let names = length-take-le c.bound N (omega (arith, z.names, z.unknowns)) in
      record {
        sized = resized (sym eb) (sym ef) (sym ee) (sym ev) (sym er) (sym em) z;
        marked = rw (eb, ef) x;
        line = el;
        free = λ _. ef;
        right =
            ap (λ (n : ℕ). unless n (went (held r K N L))) es
            ∙ refused_alike cause bad (went (held r K N L)) _
            ∙ ap (λ (n : ℕ). unless n (unless (first_cause (inputs_cause (take c.bound N) (rest (rest ws))) (limit_cause (c.made + clauses_of_gate (gate_of ws)) (length (take c.entries L) + length (entries_of_gate (gate_of ws))))) (went (with_gate (held c K N L) (gate_of ws)))))
            (named.right (take c.bound N) names bound ∙ ap (gate_cause (take c.bound N)) value)
            ∙ sym (gate_line_so (held c K N L) ws below);
      }

  -- An input has a cause, or the limits are passed.
  pub clauses_faulty : (L' : List ℤ) (line : Bytes) → Sized c K N L → Marked (placed_in c.bound c.free N) P → c.free ≡ 0 → c.clauses_read < c.clauses
      → {v named_cause cause entries all : ℕ} → v ≡ number (second (words line)) → GateNamed v c.bound P named_cause → named_cause ≡ 0
      → ClausesPut line v c.made c.entries P L cause entries all L' → (cause ≡ 0 → ⊥)
      → r.variables ≡ c.variables → r.clauses ≡ c.clauses → r.bound ≡ c.bound → r.free ≡ c.free → r.entries ≡ c.entries → r.clauses_read ≡ c.clauses_read → r.made ≡ c.made → r.cause ≡ cause → r.line ≡ c.line
      → LineRead true (gate_line (held c K N L) (words line)) c r K N P L'
  unfolding held
  clauses_faulty L' line z x none below {v} {named_cause} {cause} value named passed put bad ev ec eb ef ee er em es el =
      let ws = words line in
      let bound = marked_bound c.bound c.free N none x in
      let names = length-take-le c.bound N (omega (arith, z.names, z.unknowns)) in
      let used : length (take c.entries L) ≡ c.entries = length-take-le c.entries L (omega (arith, z.literals, z.entries)) in
      let right = (put.right (take c.bound N) bound value).0 in
      record {
        sized =
            record {
              kinds = z.kinds;
              names = z.names;
              literals = put.size;
              unknowns = omega (arith, z.unknowns);
              entries = omega (arith, z.entries);
              variables = omega (arith, z.variables);
              unread = λ start. ef ∙ none;
              made = omega (arith, z.made);
            };
        marked = rw (eb, ef) x;
        line = el;
        free = λ _. ef;
        right =
            ap (λ (n : ℕ). unless n (went (held r K N L'))) es
            ∙ refused_alike cause bad (went (held r K N L')) (went (with_gate (held c K N L) (gate_of ws)))
            ∙ ap (λ (n : ℕ). unless n (went (with_gate (held c K N L) (gate_of ws))))
            (right ∙ ap (λ (n : ℕ). first_cause (inputs_cause (take c.bound N) (rest (rest ws))) (limit_cause (c.made + clauses_of_gate (gate_of ws)) (n + length (entries_of_gate (gate_of ws))))) (sym used))
            ∙ ap (λ (n : ℕ). unless n (unless (first_cause (inputs_cause (take c.bound N) (rest (rest ws))) (limit_cause (c.made + clauses_of_gate (gate_of ws)) (length (take c.entries L) + length (entries_of_gate (gate_of ws))))) (went (with_gate (held c K N L) (gate_of ws)))))
            (sym passed ∙ named.right (take c.bound N) names bound ∙ ap (gate_cause (take c.bound N)) value)
            ∙ sym (gate_line_so (held c K N L) ws below);
      }

  -- The gate is taken.
  pub gate_read : (K' N' P' : List ℕ) (L' : List ℤ) (line : Bytes) → Sized c K N L → Marked (placed_in c.bound c.free N) P → c.free ≡ 0 → c.clauses_read < c.clauses
      → {v named_cause cause entries all : ℕ} → v ≡ number (second (words line)) → GateNamed v c.bound P named_cause → named_cause ≡ 0
      → ClausesPut line v c.made c.entries P L cause entries all L' → cause ≡ 0 → NameBound 0 v c.bound K N P K' N' P'
      → r.variables ≡ c.variables → r.clauses ≡ c.clauses → r.bound ≡ c.bound + 1 → r.free ≡ c.free → r.entries ≡ entries → r.clauses_read ≡ c.clauses_read + 1 → r.made ≡ all → r.cause ≡ cause → r.line ≡ c.line
      → LineRead true (gate_line (held c K N L) (words line)) c r K' N' P' L'
  unfolding held
  gate_read K' N' P' L' line z x none below {v} {named_cause} {cause} {entries} {all} value named passed put free_of bound_so ev ec eb ef ee er em es el =
      let ws = words line in
      let bound = marked_bound c.bound c.free N none x in
      let names = length-take-le c.bound N (omega (arith, z.names, z.unknowns)) in
      let used : length (take c.entries L) ≡ c.entries = length-take-le c.entries L (omega (arith, z.literals, z.entries)) in
      let right = put.right (take c.bound N) bound value in
      let room = (named.room passed).1 in
      let no_free : r.free ≡ 0 = ef ∙ none in
      record {
        sized =
            record {
              kinds = bound_so.kinds;
              names = bound_so.names;
              literals = put.size;
              unknowns = omega arith;
              entries = omega (arith, put.room);
              variables = omega (arith, z.variables);
              unread = λ _. no_free;
              made = omega (arith, put.limit);
            };
        marked = rw (no_free, eb) (bound_so.marked bound);
        line = el;
        free = λ _. ef;
        right =
            ap (λ (n : ℕ). unless n (went (held r K' N' L'))) (es ∙ free_of)
            ∙ ap went
            (state_same ev ec (ap (λ (n : ℕ). take n K') eb ∙ bound_so.kinds_more)
            (ap (λ (n : ℕ). take n N') eb ∙ bound_so.names_more ∙ ap (λ (n : ℕ). take c.bound N ++ (n ∷ [])) value)
            (ap (λ (n : ℕ). free_in r.bound n N') no_free ∙ sym (ap (λ (n : ℕ). free_in c.bound n N) none))
            (ap (λ (n : ℕ). take n L') ee ∙ (right.1 free_of).0) (er ∙ add-one c.clauses_read) (em ∙ (right.1 free_of).1))
            ∙ ap (λ (n : ℕ). unless n (went (with_gate (held c K N L) (gate_of ws))))
            (sym free_of ∙ right.0 ∙ ap (λ (n : ℕ). first_cause (inputs_cause (take c.bound N) (rest (rest ws))) (limit_cause (c.made + clauses_of_gate (gate_of ws)) (n + length (entries_of_gate (gate_of ws))))) (sym used))
            ∙ ap (λ (n : ℕ). unless n (unless (first_cause (inputs_cause (take c.bound N) (rest (rest ws))) (limit_cause (c.made + clauses_of_gate (gate_of ws)) (length (take c.entries L) + length (entries_of_gate (gate_of ws))))) (went (with_gate (held c K N L) (gate_of ws)))))
            (sym passed ∙ named.right (take c.bound N) names bound ∙ ap (gate_cause (take c.bound N)) value)
            ∙ sym (gate_line_so (held c K N L) ws below);
      }

-- O is looked up, and its clause is added.
pub output_added : (c r : Counts) (b : Bool) (v line : ℕ) (P : List ℕ) (L L' : List ℤ) {cause entries all : ℕ} → v ≤ max_variables → length L ≡ max_entries → c.entries ≤ max_entries → c.made ≤ max_clauses
    → PutSo (put_cause (marked P) v c.made c.entries (length L)) (signed b v ∷ pos 0 ∷ []) 1 c.made c.entries L cause entries all L'
    → r.cause ≡ cause → r.line ≡ line → r.bound ≡ c.bound → r.free ≡ c.free → r.entries ≡ entries → r.variables ≡ c.variables → r.clauses_read ≡ c.clauses_read → r.made ≡ all → r.clauses ≡ all
    → OutputAdded c (signed b v) line P L r L'
unfolding outcome held output_cause put_cause
output_added c r b v line P L L' {cause} {entries} {all} small size room limit put es el eb ef ee ev er em ec = go cause refl
  where
    known : (K N : List ℕ) → Sized c K N L → Marked (take c.bound N) P → cause ≡ output_cause (held c K N L) (signed b v)
    known K N z x = put.caused ∙ rw (marked_among x v small, signed_size b v, size, length-take-le c.entries L (omega (arith, z.literals, z.entries))) refl

    known_limits : cause ≡ 0 → (t : Bool) → marked P v ≡ t → room_limit (length L) (suc c.made) (c.entries + 2) ≡ 0
    known_limits none true q = (let e : cause ≡ room_limit (length L) (suc c.made) (c.entries + 2) = put.caused ∙ rw q refl in sym e ∙ none)
    known_limits none false q = let bad : cause ≡ 19 = put.caused ∙ rw q refl in absurd (omega arith)

    go : (k : ℕ) → cause ≡ k → OutputAdded c (signed b v) line P L r L'
    go (suc k) some =
        let kept = kept_all put (λ none. omega arith) in
        record {
          sized = λ K N z.
              record {
                kinds = z.kinds;
                names = z.names;
                literals = ap length kept.2 ∙ z.literals;
                unknowns = omega (arith, z.unknowns);
                entries = omega (arith, z.entries, kept.0);
                variables = omega (arith, z.variables);
                unread = λ start. ef ∙ z.unread (sym er ∙ start);
                made = omega (arith, z.made, kept.1);
              };
          right = λ none free K N z x n.
              ap (λ (j : ℕ). settled j r.line (held r K N L')) (es ∙ some)
              ∙ ap (stopped (suc k)) el
              ∙ ap (λ (j : ℕ). go_on (unless j (went (with_output (held c K N L) (signed b v)))) line whole) (sym some ∙ known K N z x);
        }
    go zero none =
        let fit = limit_zero (length L) (suc c.made) (c.entries + 2) (known_limits none (marked P v) refl) in
        let done = put_so put none fit.1 in
        record {
          sized = λ K N z.
              record {
                kinds = z.kinds;
                names = z.names;
                literals = done.3 ∙ z.literals;
                unknowns = omega (arith, z.unknowns);
                entries = omega (arith, done.0, fit.1);
                variables = omega (arith, z.variables);
                unread = λ start. ef ∙ z.unread (sym er ∙ start);
                made = omega (arith, done.1, fit.0);
              };
          right = λ free none' K N z x n.
              let same = state_same ev (ec ∙ done.1 ∙ add-one c.made) (ap (λ (n : ℕ). take n K) eb) (ap (λ (n : ℕ). take n N) eb) (ap (λ (n : ℕ). free_in n r.free N) eb ∙ ap (λ (n : ℕ). free_in c.bound n N) ef)
              (ap (λ (n : ℕ). take n L') (ee ∙ done.0) ∙ done.2) er (em ∙ done.1 ∙ add-one c.made) in
              ap (λ (j : ℕ). settled j r.line (held r K N L')) (es ∙ none)
              ∙ ap whole same
              ∙ ap (λ (j : ℕ). go_on (unless j (went (with_output (held c K N L) (signed b v)))) line whole) (sym none ∙ known K N z x);
        }
