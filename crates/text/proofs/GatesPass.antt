-- What holds of every gate list: a cause's number is one of 9 to 12, 14, 19 and 20; of a list that is taken causes 1 to 3 don't apply, V and C are
-- within their limits, and C is the number of its clauses. Assumes nothing.
use Prim.Native.Nat.{ℕ, zero, suc, ◌+◌, ◌≤◌, ◌<◌}
use native.Mathlib.Omega.{arith}
use mathlib.Core.Path.{◌≡◌, refl, sym, ap, subst, ◌∙◌}
use mathlib.Core.Bool.{Bool, true, false, cond, ◌&&◌}
use mathlib.Core.List.{List, [], ◌∷◌, ◌++◌, append_assoc}
use mathlib.Core.Logic.{inl, inr}
use borrow.Author.Tests.{ltb-true, ltb-false, eqb-false}
use lib.Dec.{eqb, ltb}
use lib.IntN.{ℤ, pos, negsuc, nat_abs}
use lib.ListN.{length, length-append}
use Rattle.formula.specs.Formula.{max_unknowns, max_clauses, max_entries, clauses}
use Rattle.formula.specs.Causes.{any, other_kind, zeros, ended}
use Rattle.formula.proofs.Accepted.{accepted}
use Rattle.gates.specs.Clauses.{gate_clauses}
use Rattle.lines.specs.Lines.{Bytes, Line, ended as line_ended, unended, lines, words, first, rest, third, fourth, fifth, same}
use Rattle.lines.specs.Numbers.{number, unsigned, is_zero}
use Rattle.lines.specs.Shapes.{is_problem, is_prefix, is_gate, a_word}
use Rattle.named.specs.Named.{among}
use Rattle.named.specs.Names.{In, InAll, Known}
use Rattle.named.specs.Closing.{closed_names}
use Rattle.named.specs.Gates.{Gate}
use Rattle.named.proofs.CauseLaws.{zeros_placed}
use Rattle.named.proofs.CircuitRight.{zeros_flat, gate_in, name_here, wider}
use Rattle.text.specs.Reading.{max_variables, State, went, fault, unless, name_cause, bind, kind_of_word, prefix_line, gate_cause, input_cause, first_cause, inputs_cause, gate_of, clauses_of_gate, entries_of_gate, limit_cause, with_gate, gate_line, body_line, step, Scan, whole, stopped, go_on, gate_list, with_output, output_cause, finish, body, problem_cause, max_items, literal_of, opened, Read, closed, Result, taken, refused, result_of, scan, read_gates, gates_causes}
use Rattle.text.proofs.NameLaws.{name_cause_zero}
use Rattle.text.proofs.KeptLaws.{any_behind, ended_closed}
use Rattle.text.proofs.ScanLaws.{cond_so, NoneOr, Steps, Scans, unless_so, go_on_so, bind_all_so, body_so, scan_so}
use Rattle.text.proofs.TextLaws.{kind_known, Passes, Within, within_passes}
use Rattle.text.proofs.DrawnLaws.{zero_behind, some_name, inputs_known}
use Rattle.text_gates.proofs.GateShape.{gate_shaped}
use Rattle.text.proofs.GatesRight.{Any, AllEnded, scan_ended, output_known, literal_known, few_variables}

-- A number of a gate list's causes.
abbrev pub OfGates : ℕ → Type 0
OfGates n = In n gates_causes

ten : OfGates 10
ten = inr (inl refl)

eleven : OfGates 11
eleven = inr (inr (inl refl))

fourteen : OfGates 14
fourteen = inr (inr (inr (inr (inl refl))))

nineteen : OfGates 19
nineteen = inr (inr (inr (inr (inr (inl refl)))))

-- The causes of a line's words.
name_of_gates : (variables : ℕ) (names : List ℕ) (v : ℕ) → NoneOr OfGates (name_cause variables names v)
unfolding name_cause
name_of_gates variables names v = go (ltb variables v) (among v names) (ltb (length names) max_unknowns)
  where
    go : (a b c : Bool) → NoneOr OfGates (cond a 11 (cond b 12 (cond c 0 14)))
    go true b c some = eleven
    go false true c some = inr (inr (inr (inl refl)))
    go false false true some = absurd (some refl)
    go false false false some = fourteen

gate_of_gates : (names : List ℕ) (v : ℕ) → NoneOr OfGates (gate_cause names v)
unfolding gate_cause
gate_of_gates names v = go (ltb max_variables v) (among v names) (ltb (length names) max_unknowns)
  where
    go : (a b c : Bool) → NoneOr OfGates (cond a 11 (cond b 20 (cond c 0 14)))
    go true b c some = eleven
    go false true c some = inr (inr (inr (inr (inr (inr (inl refl))))))
    go false false true some = absurd (some refl)
    go false false false some = fourteen

input_of_gates : (names : List ℕ) (w : Bytes) → NoneOr OfGates (input_cause names w)
unfolding input_cause
input_of_gates names w = go (ltb max_variables (number (unsigned w))) (among (number (unsigned w)) names)
  where
    go : (a b : Bool) → NoneOr OfGates (cond a 11 (cond b 0 19))
    go true b some = eleven
    go false true some = absurd (some refl)
    go false false some = nineteen

first_of_gates : (a b : ℕ) → NoneOr OfGates a → NoneOr OfGates b → NoneOr OfGates (first_cause a b)
first_of_gates zero b p q = q
first_of_gates (suc a) b p q = p

inputs_of_gates : (names : List ℕ) (ws : List Bytes) → NoneOr OfGates (inputs_cause names ws)
inputs_of_gates names [] = λ some. absurd (some refl)
inputs_of_gates names (w ∷ ws) =
    cond_so (NoneOr OfGates) (is_zero w) 0 (first_cause (input_cause names w) (inputs_cause names ws)) (λ _ some. absurd (some refl))
    (λ _. first_of_gates (input_cause names w) (inputs_cause names ws) (input_of_gates names w) (inputs_of_gates names ws))

limit_of_gates : (c e : ℕ) → NoneOr OfGates (limit_cause c e)
unfolding limit_cause
limit_of_gates c e = go (ltb max_clauses c) (ltb max_entries e)
  where
    go : (a b : Bool) → NoneOr OfGates (cond a 14 (cond b 14 0))
    go true b some = fourteen
    go false true some = fourteen
    go false false some = absurd (some refl)

-- What no cause means for the limits.
gate_room : (names : List ℕ) (v : ℕ) → gate_cause names v ≡ 0 → length names < max_unknowns
unfolding gate_cause
gate_room names v e = go (ltb max_variables v) (among v names) (ltb (length names) max_unknowns) refl e
  where
    go : (a b c : Bool) → ltb (length names) max_unknowns ≡ c → ◌≡◌ {A = ℕ} (cond a 11 (cond b 20 (cond c 0 14))) 0 → length names < max_unknowns
    go true b c q e = absurd (omega arith)
    go false true c q e = absurd (omega arith)
    go false false true q e = ltb-true (length names) max_unknowns q
    go false false false q e = absurd (omega arith)

limit_room : (c e : ℕ) → limit_cause c e ≡ 0 → (c ≤ max_clauses) × (e ≤ max_entries)
unfolding limit_cause
limit_room c e none = go (ltb max_clauses c) (ltb max_entries e) refl refl none
  where
    go : (a b : Bool) → ltb max_clauses c ≡ a → ltb max_entries e ≡ b → ◌≡◌ {A = ℕ} (cond a 14 (cond b 14 0)) 0 → (c ≤ max_clauses) × (e ≤ max_entries)
    go true b p q none = absurd (omega arith)
    go false true p q none = absurd (omega arith)
    go false false p q none = (ltb-false max_clauses c p, ltb-false max_entries e q)

-- A state between two lines.
record Gated (s : State) : Type 0 where
  kinds_known : any other_kind s.kinds ≡ false
  as_many : length s.kinds ≡ length s.names
  none_free : s.free ≡ []
  few_names : length s.names ≤ max_unknowns
  counted : zeros s.entries ≡ s.made
  some : In 0 s.names → ⊥
  few_variables : s.variables ≤ max_variables

bound_gated : (kind : ℕ) (s : State) (v : ℕ) → other_kind kind ≡ false → length s.names < max_unknowns → (v ≡ 0 → ⊥) → Gated s → Gated (bind kind s v)
bound_gated kind s v known room named g =
    record {
      kinds_known = any_behind other_kind s.kinds kind g.kinds_known known;
      as_many = omega (arith, length-append s.kinds (kind ∷ []), length-append s.names (v ∷ []), g.as_many);
      none_free = g.none_free;
      few_names = omega (arith, length-append s.names (v ∷ []));
      counted = g.counted;
      some = zero_behind s.names v g.some named;
      few_variables = g.few_variables;
    }

prefix_gated : (s : State) (ws : List Bytes) → Gated s → Steps OfGates Gated (prefix_line s ws)
unfolding prefix_line
prefix_gated s ws g =
    let kind = kind_of_word (first ws) in
    bind_all_so OfGates kind (λ _ t. Gated t) Gated
    (λ t w. name_of_gates t.variables t.names (number w))
    (λ t p. p)
    (λ t w more zero p. p)
    (λ t w more some none p.
    bound_gated kind t (number w) (kind_known (same (first ws) a_word)) (name_cause_zero t.variables t.names (number w) none).1 (eqb-false (number w) 0 some) p)
    (rest ws) s g

-- A gate's clauses are as many as their zeros.
zeros_append : (l m : List ℤ) → zeros (l ++ m) ≡ zeros l + zeros m
zeros_append [] m = omega arith
zeros_append (pos zero ∷ l) m = omega (arith, zeros_append l m)
zeros_append (pos (suc v) ∷ l) m = zeros_append l m
zeros_append (negsuc v ∷ l) m = zeros_append l m

gate_zeros : (names : List ℕ) (gate : Gate) → (gate.name ≡ 0 → ⊥) → InAll names gate.inputs → zeros (entries_of_gate gate) ≡ clauses_of_gate gate
gate_zeros names gate named ins =
    let all = gate.name ∷ names in
    zeros_flat all (gate_clauses gate.function (pos gate.name) gate.inputs)
    (gate_in all gate.function (pos gate.name) gate.inputs (name_here all gate.name (some_name gate.name named) (inl refl))
    (wider all names (λ v i. inr i) gate.inputs ins))

with_gate_gated : (s : State) (gate : Gate) → (gate.name ≡ 0 → ⊥) → InAll s.names gate.inputs → length s.names < max_unknowns → Gated s → Gated (with_gate s gate)
with_gate_gated s gate named ins room g =
    record {
      kinds_known = any_behind other_kind s.kinds 0 g.kinds_known refl;
      as_many = omega (arith, length-append s.kinds (0 ∷ []), length-append s.names (gate.name ∷ []), g.as_many);
      none_free = g.none_free;
      few_names = omega (arith, length-append s.names (gate.name ∷ []));
      counted = omega (arith, zeros_append s.entries (entries_of_gate gate), gate_zeros s.names gate named ins, g.counted);
      some = zero_behind s.names gate.name g.some named;
      few_variables = g.few_variables;
    }

gate_line_gated : (s : State) (line : Bytes) → is_gate line ≡ true → Gated s → Steps OfGates Gated (gate_line s (words line))
unfolding gate_line
gate_line_gated s line shape g =
    let ws = words line in
    let gate = gate_of ws in
    let limits = unless (limit_cause (s.made + clauses_of_gate gate) (length s.entries + length (entries_of_gate gate))) (went (with_gate s gate)) in
    let inputs = unless (inputs_cause s.names (rest (rest ws))) limits in
    cond_so (Steps OfGates Gated) (ltb s.clauses_read s.clauses) (unless (gate_cause s.names gate.name) inputs) (fault 14)
    (λ _.
    unless_so OfGates Gated (gate_cause s.names gate.name) inputs (gate_of_gates s.names gate.name)
    (λ free.
    unless_so OfGates Gated (inputs_cause s.names (rest (rest ws))) limits (inputs_of_gates s.names (rest (rest ws)))
    (λ known.
    unless_so OfGates Gated (limit_cause (s.made + clauses_of_gate gate) (length s.entries + length (entries_of_gate gate))) (went (with_gate s gate))
    (limit_of_gates (s.made + clauses_of_gate gate) (length s.entries + length (entries_of_gate gate)))
    (λ _.
    with_gate_gated s gate (gate_shaped line shape).named (inputs_known s.names g.some (rest (rest ws)) known) (gate_room s.names gate.name free) g))))
    (λ _. fourteen)

line_gated : (s : State) (line : Bytes) → Gated s → Steps OfGates Gated (body_line true s line)
unfolding body_line
line_gated s line g =
    cond_so (Steps OfGates Gated) (eqb s.clauses_read 0 && is_prefix line) (prefix_line s (words line)) (cond (is_gate line) (gate_line s (words line)) (fault 10))
    (λ _. prefix_gated s (words line) g)
    (λ _. cond_so (Steps OfGates Gated) (is_gate line) (gate_line s (words line)) (fault 10) (λ shape. gate_line_gated s line shape g) (λ _. ten))

step_gated : (s : State) (l : Line) → Gated s → Steps OfGates Gated (step true s l)
step_gated s (line_ended line) g = line_gated s line g
step_gated s (unended line) g = ten

-- The end: all is within the limits, if the names are known.
record Done (s : State) : Type 0 where
  limits : Known (closed_names s.free s.names) s.entries → Within s
  counted : s.clauses ≡ zeros s.entries

output_zeros : (names : List ℕ) (o : ℤ) → InAll names (o ∷ []) → zeros (o ∷ pos 0 ∷ []) ≡ 1
output_zeros names (pos zero) k = absurd k
output_zeros names (pos (suc v)) k = refl
output_zeros names (negsuc v) k = refl

output_room : (s : State) (o : ℤ) → output_cause s o ≡ 0 → (suc s.made ≤ max_clauses) × (length s.entries + 2 ≤ max_entries)
unfolding output_cause
output_room s o e = go (among (nat_abs o) s.names) e
  where
    go : (b : Bool) → ◌≡◌ {A = ℕ} (cond b (limit_cause (suc s.made) (length s.entries + 2)) 19) 0 → (suc s.made ≤ max_clauses) × (length s.entries + 2 ≤ max_entries)
    go true e = limit_room (suc s.made) (length s.entries + 2) e
    go false e = absurd (omega arith)

output_of_gates : (s : State) (o : ℤ) → NoneOr OfGates (output_cause s o)
unfolding output_cause
output_of_gates s o =
    cond_so (NoneOr OfGates) (among (nat_abs o) s.names) (limit_cause (suc s.made) (length s.entries + 2)) 19
    (λ _. limit_of_gates (suc s.made) (length s.entries + 2)) (λ _ some. nineteen)

output_done : (s : State) (o : ℤ) → Gated s → output_cause s o ≡ 0 → Done (with_output s o)
output_done s o g none =
    let room = output_room s o none in
    let here = literal_known s.names o g.some (output_known s o none) in
    let all : zeros (s.entries ++ (o ∷ pos 0 ∷ [])) ≡ suc s.made = omega (arith, zeros_append s.entries (o ∷ pos 0 ∷ []), output_zeros s.names o here, g.counted) in
    record {
      limits = λ known.
          record {
            kinds_known = g.kinds_known;
            as_many = g.as_many;
            few_names = omega (arith, ap (λ (free : List ℕ). length (closed_names free s.names)) g.none_free, g.few_names);
            few_entries = omega (arith, length-append s.entries (o ∷ pos 0 ∷ []), room.1);
            few_zeros = omega (arith, all, room.0);
            last_ended = subst (λ (l : List ℤ). ended l ≡ true) (append_assoc s.entries (o ∷ []) (pos 0 ∷ [])) (ended_closed (s.entries ++ (o ∷ [])));
            names_known = known;
            few_variables = g.few_variables;
            few_clauses = room.0;
          };
      counted = sym all;
    }

finish_done : (s : State) (o : ℤ) (line k : ℕ) → Gated s → Scans OfGates Done (finish (gate_list o line) s k)
finish_done s o line k g =
    cond_so (Scans OfGates Done) (eqb s.clauses_read s.clauses) (go_on (unless (output_cause s o) (went (with_output s o))) line whole) (stopped 14 k)
    (λ _.
    go_on_so OfGates Done Done (unless (output_cause s o) (went (with_output s o))) line whole
    (unless_so OfGates Done (output_cause s o) (went (with_output s o)) (output_of_gates s o) (λ none. output_done s o g none))
    (λ t p. p))
    (λ _. fourteen)

-- The p line.
problem_of_gates : (line : Bytes) → NoneOr OfGates (problem_cause true line)
unfolding problem_cause
problem_of_gates line =
    go (is_problem true line) (ltb max_variables (number (third (words line)))) (ltb (max_items true) (number (fourth (words line)))) (ltb max_variables (number (unsigned (fifth (words line)))))
  where
    go : (a b c d : Bool) → NoneOr OfGates (cond a (cond b 11 (cond c 11 (cond d 11 0))) 10)
    go true true c d some = eleven
    go true false true d some = eleven
    go true false false true some = eleven
    go true false false false some = absurd (some refl)
    go false b c d some = ten

opened_gated : (ws : List Bytes) → number (third ws) ≤ max_variables → Gated (opened ws)
unfolding opened
opened_gated ws few =
    record {
      kinds_known = refl;
      as_many = refl;
      none_free = refl;
      few_names = omega arith;
      counted = refl;
      some = λ i. i;
      few_variables = few;
    }

problem_done : (line : Bytes) (ls : List Line) (k : ℕ)
    → Scans OfGates Done (go_on (unless (problem_cause true line) (went (opened (words line)))) k (λ t. body (gate_list (literal_of (fifth (words line))) k) t (suc k) ls))
problem_done line ls k =
    let items = gate_list (literal_of (fifth (words line))) k in
    go_on_so OfGates Gated Done (unless (problem_cause true line) (went (opened (words line)))) k (λ t. body items t (suc k) ls)
    (unless_so OfGates Gated (problem_cause true line) (went (opened (words line))) (problem_of_gates line) (λ none. opened_gated (words line) (few_variables line none)))
    (λ t p. body_so OfGates items (λ _ u. Gated u) Done (λ u l more q. step_gated u l q) (λ u j q. finish_done u (literal_of (fifth (words line))) k j q) ls t (suc k) p)

scan_done : (text : Bytes) (kinds literals names : ℕ) → Scans OfGates Done (scan true text kinds literals names)
scan_done text kinds literals names =
    scan_so OfGates true ten (λ _ t. Done t) (λ line ls k c. problem_done line ls k) (λ line ls t c d. d) (inl refl) text kinds literals names

-- What is read of a list.
pub record GatesPass (r : Read) : Type 0 where
  pub passes : Passes r
  pub counted : r.clauses ≡ length (clauses r.literals)

abbrev pub GatesResults : Result → Type 0
GatesResults (taken r) = GatesPass r
GatesResults (refused n line) = OfGates n

done_pass : (s : State) → Done s → Known (closed_names s.free s.names) s.entries → GatesPass (closed s)
unfolding closed
done_pass s d known =
    let passes = within_passes s (d.limits known) in
    record {
      passes = passes;
      counted =
          d.counted
          ∙ sym (zeros_placed (closed_names s.free s.names) s.entries known)
          ∙ sym (accepted (closed s).kinds (closed s).literals passes.accepted).clauses_are_zeros;
    }

pub gates_pass : (text : Bytes) (kinds literals names : ℕ) → GatesResults (read_gates text kinds literals names)
unfolding read_gates
gates_pass text kinds literals names = go (scan true text kinds literals names) (scan_ended text kinds literals names) (scan_done text kinds literals names)
  where
    go : (x : Scan) → Scans Any (AllEnded (lines text)) x → Scans OfGates Done x → GatesResults (result_of x)
    go (whole s) e d = done_pass s d e.placeable.known
    go (stopped n line) e d = d
