-- Gate lines, and O, as the counts and the tables hold what they give. Assumes nothing.
use Prim.Native.Nat.{ℕ, zero, suc, ◌+◌, ◌≤◌, ◌<◌}
use native.Mathlib.Omega.{arith}
use mathlib.Core.Path.{◌≡◌, refl, sym, ap, ◌∙◌}
use mathlib.Core.Bool.{Bool, true, false, cond, not}
use mathlib.Core.List.{List, [], ◌∷◌}
use borrow.Author.Tests.{lt-ltb, ltb-false}
use lib.Dec.{eqb, ltb}
use lib.IntN.{ℤ}
use lib.ListN.{length, take}
use Rattle.formula.specs.Formula.{max_clauses, max_entries}
use Rattle.formula.specs.Meaning.{bit}
use Rattle.lines.specs.Lines.{Bytes, words, rest, second}
use Rattle.lines.specs.Numbers.{number, unsigned}
use Rattle.lines.specs.Shapes.{is_gate}
use Rattle.named.specs.Named.{max_places, among}
use Rattle.text_gates.specs.GateLine.{marked, known_cause, known_causes, room_limit, line_cause, line_entries, line_clauses, PutSo}
use Rattle.text_gates.proofs.GateLineLaws.{limit_zero, kept_all, put_so}
use Rattle.text.specs.Reading.{max_variables, State, Step, went, unless, gate_cause, first_cause, input_cause, inputs_cause, gate_of, clauses_of_gate, entries_of_gate, limit_cause, with_gate, gate_line}
use Rattle.text.specs.Private.Steps.{Marked, ClausesPut}

-- The causes of a gate line, one after the other.
unless_first : (a b : ℕ) (t : Step) → unless a (unless b t) ≡ unless (first_cause a b) t
unless_first zero b t = refl
unless_first (suc a) b t = refl

pub gate_line_so : (s : State) (ws : List Bytes) → s.clauses_read < s.clauses
    → gate_line s ws
    ≡ unless (gate_cause s.names (number (second ws)))
    (unless (first_cause (inputs_cause s.names (rest (rest ws))) (limit_cause (s.made + clauses_of_gate (gate_of ws)) (length s.entries + length (entries_of_gate (gate_of ws)))))
    (went (with_gate s (gate_of ws))))
unfolding gate_line
gate_line_so s ws below =
    rw (lt-ltb s.clauses_read s.clauses below)
    (ap (unless (gate_cause s.names (number (second ws))))
    (unless_first (inputs_cause s.names (rest (rest ws))) (limit_cause (s.made + clauses_of_gate (gate_of ws)) (length s.entries + length (entries_of_gate (gate_of ws)))) (went (with_gate s (gate_of ws)))))

-- A mark says whether a name is among those marked.
pub marked_among : {names P : List ℕ} → Marked names P → (v : ℕ) → v ≤ max_variables → marked P v ≡ among v names
unfolding marked
marked_among {names} {P} m v small = rw (lt-ltb v max_places (omega arith), m.right v small) (go (among v names))
  where
    go : (b : Bool) → not (eqb (bit b) 0) ≡ b
    go true = refl
    go false = refl

known_same : {names P : List ℕ} → Marked names P → (w : Bytes) → known_cause (marked P) w ≡ input_cause names w
known_same {names} {P} m w = go (ltb max_variables (number (unsigned w))) refl
  where
    go : (b : Bool) → ltb max_variables (number (unsigned w)) ≡ b
        → ◌≡◌ {A = ℕ} (cond b 11 (cond (marked P (number (unsigned w))) 0 19)) (cond b 11 (cond (among (number (unsigned w)) names) 0 19))
    go true q = refl
    go false q = rw (marked_among m (number (unsigned w)) (ltb-false max_variables (number (unsigned w)) q)) refl

causes_same : {names P : List ℕ} → Marked names P → (ws : List Bytes) → known_causes (marked P) ws ≡ inputs_cause names ws
causes_same m [] = refl
causes_same m (w ∷ ws) = rw (known_same m w, causes_same m ws) refl

first_none : (a b : ℕ) → first_cause a b ≡ 0 → b ≡ 0
first_none zero b e = e
first_none (suc a) b e = absurd (omega arith)

-- A whole gate line: an input with a cause, or its clauses put.
pub line_put : (line : Bytes) (v made m : ℕ) (P : List ℕ) (L : List ℤ) {cause entries all : ℕ} {L' : List ℤ} → is_gate line ≡ true → length L ≡ max_entries → m ≤ max_entries → made ≤ max_clauses
    → PutSo (line_cause (marked P) line v made m (length L)) (line_entries line v) (line_clauses line v) made m L cause entries all L'
    → ClausesPut line v made m P L cause entries all L'
unfolding line_cause
line_put line v made m P L {cause} {entries} {all} {L'} shape size room limit put =
    go cause refl
  where
    limits : ℕ
    limits = room_limit (length L) (made + line_clauses line v) (m + length (line_entries line v))

    whole_cause : cause ≡ first_cause (known_causes (marked P) (rest (rest (words line)))) limits
    whole_cause = put.caused ∙ rw shape refl

    right : (names : List ℕ) → Marked names P → v ≡ number (second (words line))
        → cause ≡ first_cause (inputs_cause names (rest (rest (words line)))) (limit_cause (made + clauses_of_gate (gate_of (words line))) (m + length (entries_of_gate (gate_of (words line)))))
    right names mk value = whole_cause ∙ rw (causes_same mk (rest (rest (words line))), size, value) refl

    go : (k : ℕ) → cause ≡ k → ClausesPut line v made m P L cause entries all L'
    go zero none =
        let fit = limit_zero (length L) (made + line_clauses line v) (m + length (line_entries line v)) (first_none (known_causes (marked P) (rest (rest (words line)))) limits (sym whole_cause ∙ none)) in
        let done = put_so put none fit.1 in
        record {
          size = done.3 ∙ size;
          room = omega (arith, done.0, fit.1);
          limit = omega (arith, done.1, fit.0);
          right = λ names mk value. (
            right names mk value,
            λ _. (ap (λ (n : ℕ). take n L') done.0 ∙ done.2 ∙ rw value refl, done.1 ∙ rw value refl),
          );
        }
    go (suc k) some =
        let kept = kept_all put (λ none. omega arith) in
        record {
          size = ap length kept.2 ∙ size;
          room = omega (arith, kept.0);
          limit = omega (arith, kept.1);
          right = λ names mk value. (right names mk value, λ none. absurd (omega arith));
        }
