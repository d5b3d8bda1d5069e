-- What is written of a gate list has the circuit's value under the prefix. Assumes nothing.
use Prim.Native.Nat.{ℕ, zero, suc, ◌+◌, ◌≤◌}
use native.Mathlib.Omega.{arith}
use mathlib.Core.Path.{◌≡◌, refl, sym, ap, ap₂, subst, ◌∙◌}
use mathlib.Core.Bool.{Bool, true, false, cond, ◌&&◌, true≢false, false≢true}
use mathlib.Core.List.{List, [], ◌∷◌, ◌++◌, map}
use borrow.Author.Tests.{ltb-false, eqb-true, eqb-false}
use lib.Dec.{eqb, ltb}
use lib.IntN.{ℤ, pos, negsuc, nat_abs}
use lib.ListN.{length}
use Rattle.formula.specs.Formula.{max_entries, max_unknowns, prefix}
use Rattle.formula.specs.Meaning.{verdict}
use Rattle.gates.specs.Clauses.{flat}
use Rattle.lines.specs.Lines.{Bytes, Line, ended, unended, lines, words, first, rest, third, fourth, fifth}
use Rattle.lines.specs.Numbers.{number, unsigned, is_zero}
use Rattle.lines.specs.Shapes.{is_comment, is_problem, is_prefix, is_gate}
use Rattle.named.specs.Named.{Values, among, placed, named_meaning}
use Rattle.named.specs.Names.{In, Distinct, UpTo, InAll, Known}
use Rattle.named.specs.Closing.{closed_names, closed_kinds, closed_literals}
use Rattle.named.specs.Gates.{Gate, circuit, clauses_of}
use Rattle.named.specs.CircuitRight.{circuit_kinds, circuit_names}
use Rattle.named.proofs.NameLaws.{and_both, among_in}
use Rattle.named.proofs.CircuitRight.{circuit_distinct, circuit_known, circuit_right}
use Rattle.text.specs.Reading.{max_variables, State, Step, went, fault, unless, name_cause, bind, kind_of_word, prefix_line, literal_of, gate_cause, inputs_cause, gate_of, limit_cause, clauses_of_gate, entries_of_gate, with_gate, gate_line, body_line, step, Scan, whole, stopped, go_on, gate_list, with_output, output_cause, finish, body, problem_cause, output_range, max_items, opened, Read, taken, closed, result_of, scan, read_gates}
use Rattle.text.specs.Private.Steps.{Placeable}
use Rattle.text.specs.Form.{p_words}
use Rattle.text.specs.GatesRight.{Drawing, names_in, with_block, with_gate_line, draw_line, draw, behind_p, nothing, drawing, output_of, GatesRight}
use Rattle.text.proofs.NameLaws.{name_cause_zero}
use Rattle.text.proofs.ScanLaws.{cond_so, Steps, Scans, unless_so, go_on_so, bind_all_so, body_so, scan_so}
use Rattle.text.proofs.DrawnLaws.{Drawn, blocks, bind_drawn, block_none, block_more, made_output, gate_drawn, inputs_known}
use Rattle.text_gates.proofs.GateShape.{gate_shaped}

-- Of the causes nothing is said here.
abbrev pub Any : ℕ → Type 0
Any n = Unit {0}

-- A prefix line: the state, and what the words that are left add to the drawing.
record Words (kind : ℕ) (all : Drawing) (ws : List Bytes) (s : State) : Type 0 where
  kinds : List ℕ
  names : List ℕ
  drawn : Drawn s (blocks kinds names)
  whole : with_block (blocks kinds names) kind (names_in ws) ≡ all

words_done : (kind : ℕ) (all : Drawing) (s : State) (vs : List ℕ) (ks xs : List ℕ) → Drawn s (blocks ks xs) → vs ≡ [] → with_block (blocks ks xs) kind vs ≡ all → Drawn s all
words_done kind all s vs ks xs d none e =
    subst (Drawn s) (sym (block_none kind ks xs) ∙ ap (with_block (blocks ks xs) kind) (sym none) ∙ e) d

words_more : (kind : ℕ) (all : Drawing) (s : State) (w : Bytes) (ws : List Bytes) → is_zero w ≡ false → name_cause s.variables s.names (number w) ≡ 0
    → Words kind all (w ∷ ws) s → Words kind all ws (bind kind s (number w))
words_more kind all s w ws some free p =
    let facts = name_cause_zero s.variables s.names (number w) free in
    let first_name : names_in (w ∷ ws) ≡ number w ∷ names_in ws = rw some refl in
    record {
      kinds = p.kinds ++ (kind ∷ []);
      names = p.names ++ (number w ∷ []);
      drawn = bind_drawn kind (number w) s p.kinds p.names p.drawn facts.0 facts.2 (eqb-false (number w) 0 some);
      whole =
          sym (block_more kind (number w) p.kinds p.names (names_in ws))
          ∙ ap (with_block (blocks p.kinds p.names) kind) (sym first_name)
          ∙ p.whole;
    }

no_gates : (gates : List Gate) → length gates ≡ 0 → gates ≡ []
no_gates [] e = refl
no_gates (gate ∷ gates) e = absurd (omega arith)

prefix_drawn : (s : State) (d : Drawing) (line : Bytes) → s.clauses_read ≡ 0 → Drawn s d
    → Steps Any (λ t. Drawn t (with_block d (kind_of_word (first (words line))) (names_in (rest (words line))))) (prefix_line s (words line))
unfolding prefix_line
prefix_drawn s d line start t =
    let none : d.gates ≡ [] = no_gates d.gates (sym t.read ∙ start) in
    let same : d ≡ blocks d.kinds d.names = ap (λ (gates : List Gate). record { kinds = d.kinds; names = d.names; gates = gates }) none in
    let kind = kind_of_word (first (words line)) in
    let all = with_block d kind (names_in (rest (words line))) in
    bind_all_so Any kind (Words kind all) (λ u. Drawn u all) (λ s w some. tt)
    (λ u p. words_done kind all u [] p.kinds p.names p.drawn refl p.whole)
    (λ u w ws zero p. words_done kind all u (names_in (w ∷ ws)) p.kinds p.names p.drawn (rw zero refl) p.whole)
    (words_more kind all)
    (rest (words line)) s
    (record {
      kinds = d.kinds;
      names = d.names;
      drawn = subst (Drawn s) same t;
      whole = ap (λ (e : Drawing). with_block e kind (names_in (rest (words line)))) (sym same);
    })

-- A gate line.
gate_free : (names : List ℕ) (v : ℕ) → gate_cause names v ≡ 0 → (v ≤ max_variables) × (among v names ≡ false)
unfolding gate_cause
gate_free names v e = go (ltb max_variables v) (among v names) (ltb (length names) max_unknowns) refl refl e
  where
    go : (a b c : Bool) → ltb max_variables v ≡ a → among v names ≡ b → ◌≡◌ {A = ℕ} (cond a 11 (cond b 20 (cond c 0 14))) 0 → (v ≤ max_variables) × (among v names ≡ false)
    go true b c p q e = absurd (omega arith)
    go false true c p q e = absurd (omega arith)
    go false false c p q e = (ltb-false max_variables v p, q)

gate_line_drawn : (s : State) (d : Drawing) (line : Bytes) → is_gate line ≡ true → Drawn s d
    → Steps Any (λ t. Drawn t (with_gate_line d (gate_of (words line)))) (gate_line s (words line))
unfolding gate_line
gate_line_drawn s d line shape t =
    let ws = words line in
    let gate = gate_of ws in
    let shaped = gate_shaped line shape in
    let Q : State → Type 0 = λ u. Drawn u (with_gate_line d gate) in
    let limits = unless (limit_cause (s.made + clauses_of_gate gate) (length s.entries + length (entries_of_gate gate))) (went (with_gate s gate)) in
    let inputs = unless (inputs_cause s.names (rest (rest ws))) limits in
    cond_so (Steps Any Q) (ltb s.clauses_read s.clauses) (unless (gate_cause s.names gate.name) inputs) (fault 14)
    (λ _.
    unless_so Any Q (gate_cause s.names gate.name) inputs (λ _. tt)
    (λ free.
    unless_so Any Q (inputs_cause s.names (rest (rest ws))) limits (λ _. tt)
    (λ known.
    unless_so Any Q (limit_cause (s.made + clauses_of_gate gate) (length s.entries + length (entries_of_gate gate))) (went (with_gate s gate)) (λ _. tt)
    (λ room.
    gate_drawn s d gate t (gate_free s.names gate.name free).0 (gate_free s.names gate.name free).1 shaped.named
    (inputs_known s.names t.some (rest (rest ws)) known) shaped.fits))))
    (λ _. tt)

-- A line, and what it draws.
line_drawn : (s : State) (d : Drawing) (line : Bytes) → Drawn s d → Steps Any (λ t. Drawn t (draw_line d line)) (body_line true s line)
unfolding body_line draw_line
line_drawn s d line t =
    cond_so (Steps Any Q) (eqb s.clauses_read 0 && is_prefix line) (prefix_line s (words line)) (cond (is_gate line) (gate_line s (words line)) (fault 10))
    (λ both.
    let two = and_both (eqb s.clauses_read 0) (is_prefix line) both in
    go (is_gate line) refl two.1 (prefix_drawn s d line (eqb-true s.clauses_read 0 two.0) t))
    (λ _.
    cond_so (Steps Any Q) (is_gate line) (gate_line s (words line)) (fault 10)
    (λ shape. gated (is_gate line) shape (gate_line_drawn s d line shape t))
    (λ _. tt))
  where
    Q : State → Type 0
    Q u = Drawn u (cond (is_gate line) (with_gate_line d (gate_of (words line))) (with_block d (kind_of_word (first (words line))) (names_in (rest (words line)))))

    go : (b : Bool) → is_gate line ≡ b → is_prefix line ≡ true
        → Steps Any (λ u. Drawn u (with_block d (kind_of_word (first (words line))) (names_in (rest (words line))))) (prefix_line s (words line))
        → Steps Any (λ u. Drawn u (cond b (with_gate_line d (gate_of (words line))) (with_block d (kind_of_word (first (words line))) (names_in (rest (words line)))))) (prefix_line s (words line))
    go true q lead p = absurd (true≢false (sym lead ∙ (gate_shaped line q).no_prefix))
    go false q lead p = p

    gated : (b : Bool) → b ≡ true → Steps Any (λ u. Drawn u (with_gate_line d (gate_of (words line)))) (gate_line s (words line))
        → Steps Any (λ u. Drawn u (cond b (with_gate_line d (gate_of (words line))) (with_block d (kind_of_word (first (words line))) (names_in (rest (words line)))))) (gate_line s (words line))
    gated true q p = p
    gated false q p = absurd (false≢true q)

-- The end of a gate list: what is written has positions, and it has the circuit's value.
pub record Ended (d : Drawing) (o : ℤ) (t : State) : Type 0 where
  pub placeable : Placeable (closed_names t.free t.names) t.entries
  pub right : (g : Values) → verdict (closed t).kinds (closed t).literals ≡ named_meaning (prefix d.kinds) d.names (circuit d.gates o) g

pub output_known : (s : State) (o : ℤ) → output_cause s o ≡ 0 → In (nat_abs o) s.names
unfolding output_cause
output_known s o e = go (among (nat_abs o) s.names) refl e
  where
    go : (b : Bool) → among (nat_abs o) s.names ≡ b → ◌≡◌ {A = ℕ} (cond b (limit_cause (suc s.made) (length s.entries + 2)) 19) 0 → In (nat_abs o) s.names
    go true q e = among_in (nat_abs o) s.names q
    go false q e = absurd (omega arith)

pub literal_known : (names : List ℕ) (o : ℤ) → (In 0 names → ⊥) → In (nat_abs o) names → InAll names (o ∷ [])
literal_known names (pos zero) none i = absurd (none i)
literal_known names (pos (suc v)) none i = (i, tt)
literal_known names (negsuc v) none i = (i, tt)

-- All of the state is that of the drawing.
whole_right : (d : Drawing) (o : ℤ) (kinds names free : List ℕ) (entries : List ℤ) → kinds ≡ circuit_kinds d.kinds d.gates → names ≡ circuit_names d.names d.gates
    → free ≡ [] → entries ≡ flat (clauses_of d.gates o)
    → (g : Values) → verdict (circuit_kinds d.kinds d.gates) (map (placed (circuit_names d.names d.gates)) (flat (clauses_of d.gates o))) ≡ named_meaning (prefix d.kinds) d.names (circuit d.gates o) g
    → verdict (closed_kinds free kinds) (closed_literals free names entries) ≡ named_meaning (prefix d.kinds) d.names (circuit d.gates o) g
whole_right d o kinds names free entries k n f e g right = rw (k, n, f, e) right

output_ended : (s : State) (d : Drawing) (o : ℤ) → Drawn s d → output_cause s o ≡ 0 → Ended d o (with_output s o)
unfolding closed
output_ended s d o t none =
    let here : InAll (circuit_names d.names d.gates) (o ∷ []) =
    subst (λ (l : List ℕ). InAll l (o ∷ [])) t.names (literal_known s.names o t.some (output_known s o none)) in
    let entries : s.entries ++ (o ∷ pos 0 ∷ []) ≡ flat (clauses_of d.gates o) = ap (λ (l : List ℤ). l ++ (o ∷ pos 0 ∷ [])) t.entries ∙ made_output d.gates o in
    let all : closed_names s.free s.names ≡ circuit_names d.names d.gates = ap₂ closed_names t.free t.names in
    record {
      placeable =
          record {
            different = subst Distinct (sym all) (circuit_distinct d.names d.gates t.distinct t.ordered);
            small = subst (λ (free : List ℕ). UpTo max_variables (closed_names free s.names)) (sym t.free) t.small;
            known = subst (λ (l : List ℕ). Known l (s.entries ++ (o ∷ pos 0 ∷ []))) (sym all)
                (subst (Known (circuit_names d.names d.gates)) (sym entries) (circuit_known d.names d.gates o t.ordered here));
          };
      right = λ g.
          whole_right d o s.kinds s.names s.free (s.entries ++ (o ∷ pos 0 ∷ [])) t.kinds t.names t.free entries g
          (circuit_right d.kinds d.names d.gates o t.as_many t.distinct t.ordered here g);
    }

finish_ended : (s : State) (d : Drawing) (o : ℤ) (line k : ℕ) → Drawn s d → Scans Any (Ended d o) (finish (gate_list o line) s k)
finish_ended s d o line k t =
    cond_so (Scans Any (Ended d o)) (eqb s.clauses_read s.clauses) (go_on (unless (output_cause s o) (went (with_output s o))) line whole) (stopped 14 k)
    (λ _.
    go_on_so Any (Ended d o) (Ended d o) (unless (output_cause s o) (went (with_output s o))) line whole
    (unless_so Any (Ended d o) (output_cause s o) (went (with_output s o)) (λ _. tt) (λ none. output_ended s d o t none))
    (λ u p. p))
    (λ _. tt)

-- The state, and what the lines that are left add to the drawing.
record Lines (all : Drawing) (ls : List Line) (s : State) : Type 0 where
  so_far : Drawing
  drawn : Drawn s so_far
  whole : draw so_far ls ≡ all

lines_more : (all : Drawing) (s : State) (l : Line) (ls : List Line) → Lines all (l ∷ ls) s → Steps Any (Lines all ls) (step true s l)
lines_more all s (unended line) ls p = tt
lines_more all s (ended line) ls p = go (body_line true s line) (line_drawn s p.so_far line p.drawn)
  where
    go : (x : Step) → Steps Any (λ t. Drawn t (draw_line p.so_far line)) x → Steps Any (Lines all ls) x
    go (went t) q = record { so_far = draw_line p.so_far line; drawn = q; whole = p.whole }
    go (fault n) q = tt

body_ended : (all : Drawing) (o : ℤ) (line : ℕ) (ls : List Line) (s : State) (k : ℕ) → Lines all ls s → Scans Any (Ended all o) (body (gate_list o line) s k ls)
body_ended all o line ls s k p =
    body_so Any (gate_list o line) (Lines all) (Ended all o) (lines_more all)
    (λ u k q. subst (λ (d : Drawing). Scans Any (Ended d o) (finish (gate_list o line) u k)) q.whole (finish_ended u q.so_far o line k q.drawn))
    ls s k p

-- The p line.
pub few_variables : (line : Bytes) → problem_cause true line ≡ 0 → number (third (words line)) ≤ max_variables
unfolding problem_cause
few_variables line e =
    go (is_problem true line) (ltb max_variables (number (third (words line)))) (ltb (max_items true) (number (fourth (words line)))) (output_range true (number (unsigned (fifth (words line))))) refl e
  where
    go : (a b : Bool) (c : Bool) (d : ℕ) → ltb max_variables (number (third (words line))) ≡ b → ◌≡◌ {A = ℕ} (cond a (cond b 11 (cond c 11 d)) 10) 0
        → number (third (words line)) ≤ max_variables
    go true true c d q e = absurd (omega arith)
    go true false c d q e = ltb-false max_variables (number (third (words line))) q
    go false b c d q e = absurd (omega arith)

opened_drawn : (ws : List Bytes) → number (third ws) ≤ max_variables → Drawn (opened ws) nothing
unfolding opened
opened_drawn ws few =
    record {
      kinds = refl;
      names = refl;
      free = refl;
      entries = refl;
      read = refl;
      as_many = refl;
      distinct = tt;
      ordered = tt;
      some = λ i. i;
      small = tt;
      few = few;
    }

abbrev pub AllEnded : List Line → State → Type 0
AllEnded ls t = Ended (draw nothing (behind_p ls)) (literal_of (fifth (p_words ls))) t

p_line_ended : (line : Bytes) (ls : List Line) (x : Scan) → is_comment line ≡ false → Scans Any (Ended (draw nothing ls) (literal_of (fifth (words line)))) x
    → Scans Any (AllEnded (ended line ∷ ls)) x
p_line_ended line ls x c p = go (is_comment line) c
  where
    go : (b : Bool) → b ≡ false → Scans Any (Ended (draw nothing (cond b (behind_p ls) ls)) (literal_of (fifth (cond b (p_words ls) (words line))))) x
    go true e = absurd (true≢false e)
    go false e = p

c_line_ended : (line : Bytes) (ls : List Line) (t : State) → is_comment line ≡ true → AllEnded ls t → AllEnded (ended line ∷ ls) t
c_line_ended line ls t c p = go (is_comment line) c
  where
    go : (b : Bool) → b ≡ true → Ended (draw nothing (cond b (behind_p ls) ls)) (literal_of (fifth (cond b (p_words ls) (words line)))) t
    go true e = p
    go false e = absurd (false≢true e)

pub scan_ended : (text : Bytes) (kinds literals names : ℕ) → Scans Any (AllEnded (lines text)) (scan true text kinds literals names)
scan_ended text kinds literals names =
    scan_so Any true tt AllEnded
    (λ line ls k c.
    let lines_behind : State → Scan = λ t. body (gate_list (literal_of (fifth (words line))) k) t (suc k) ls in
    let opening = unless (problem_cause true line) (went (opened (words line))) in
    p_line_ended line ls (go_on opening k lines_behind) c
    (go_on_so Any (λ s. Lines (draw nothing ls) ls s) (Ended (draw nothing ls) (literal_of (fifth (words line)))) opening k lines_behind
    (unless_so Any (λ s. Lines (draw nothing ls) ls s) (problem_cause true line) (went (opened (words line))) (λ _. tt)
    (λ none. record { so_far = nothing; drawn = opened_drawn (words line) (few_variables line none); whole = refl }))
    (λ s p. body_ended (draw nothing ls) (literal_of (fifth (words line))) k ls s (suc k) p)))
    c_line_ended tt text kinds literals names

pub gates_right : (text : Bytes) → GatesRight text
unfolding read_gates drawing output_of
gates_right text r e g = go (scan true text max_unknowns max_entries max_unknowns) (scan_ended text max_unknowns max_entries max_unknowns) e
  where
    carried : (value : Bool) (s : State) → closed s ≡ r → verdict (closed s).kinds (closed s).literals ≡ value → verdict r.kinds r.literals ≡ value
    carried value s same right = subst (λ (q : Read). verdict q.kinds q.literals ≡ value) same right

    go : (x : Scan) → Scans Any (AllEnded (lines text)) x → result_of x ≡ taken r
        → verdict r.kinds r.literals ≡ named_meaning (prefix (draw nothing (behind_p (lines text))).kinds) (draw nothing (behind_p (lines text))).names (circuit (draw nothing (behind_p (lines text))).gates (literal_of (fifth (p_words (lines text))))) g
    go (whole s) p e = let same : closed s ≡ r = cc in carried _ s same (p.right g)
    go (stopped n line) p e = let z : ◌≡◌ {A = ℕ} 0 1 = cc in absurd (omega arith)
