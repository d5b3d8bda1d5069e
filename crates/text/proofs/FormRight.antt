-- What FormRight says of the form that is found out. Assumes nothing.
use Prim.Native.Nat.{ℕ, suc}
use native.Mathlib.Omega.{arith}
use mathlib.Core.Path.{◌≡◌, refl, ap, ◌∙◌}
use mathlib.Core.Bool.{Bool, true, false, cond, ◌&&◌, false≢true}
use mathlib.Core.List.{List, [], ◌∷◌}
use lib.Dec.{eqb}
use borrow.Author.Tests.{eqb-true}
use Rattle.formula.specs.Formula.{max_unknowns, max_entries}
use Rattle.lines.specs.Lines.{Bytes, Line, ended, lines, words, first, rest, second, third, fourth, same}
use Rattle.lines.specs.Numbers.{is_number}
use Rattle.lines.specs.Shapes.{is_comment, is_problem, is_trimmed, ends_problem, form_word, p_word, cnf_word, gate_word}
use Rattle.named.proofs.NameLaws.{and_both}
use Rattle.text.specs.Reading.{State, went, unless, Scan, whole, stopped, go_on, body, problem_cause, items_of, opened, scan, Read, taken, result_of, read, read_gates, read_as}
use Rattle.text.specs.Form.{p_words, gates_told, begins_gates}
use Rattle.text.specs.FormRight.{FormRight}
use Rattle.text.proofs.ScanLaws.{Scans, unless_so, go_on_so, scan_so}

abbrev Any : ℕ → Type 0
Any n = Unit {0}

-- A p line without a cause, and its first two words.
no_ten : (b : Bool) (x : ℕ) → ◌≡◌ {A = ℕ} (cond b x 10) 0 → b ≡ true
no_ten true x h = refl
no_ten false x h = absurd (omega (arith, h))

shaped : (gates : Bool) (line : Bytes) → problem_cause gates line ≡ 0 → is_problem gates line ≡ true
unfolding problem_cause
shaped gates line h = no_ten (is_problem gates line) _ h

first_two : (gates : Bool) (line : Bytes) → is_problem gates line ≡ true
    → (same (first (words line)) p_word ≡ true) × (same (second (words line)) (form_word gates) ≡ true)
unfolding is_problem
first_two gates line h =
    let ws = words line in
    let opens = is_trimmed line && same (first ws) p_word in
    let named = opens && same (second ws) (form_word gates) in
    let ended_so = named && ends_problem gates (rest (rest (rest (rest ws)))) in
    let three = (and_both (ended_so && is_number (third ws)) (is_number (fourth ws)) h).0 in
    let two = (and_both ended_so (is_number (third ws)) three).0 in
    let form = and_both opens (same (second ws) (form_word gates)) (and_both named _ two).0 in
    ((and_both (is_trimmed line) _ form.0).1, form.1)

-- `cnf` and `gate` differ in their first byte.
no_gate : (w : Bytes) → same w cnf_word ≡ true → same w gate_word ≡ false
no_gate [] h = absurd (false≢true h)
no_gate (x ∷ xs) h = rw (eqb-true x 99 (and_both (eqb x 99) _ h).0) refl

told : (gates : Bool) (line : Bytes) → problem_cause gates line ≡ 0 → gates_told (words line) ≡ gates
told true line h = let w = first_two true line (shaped true line h) in rw (w.0, w.1) refl
told false line h = let w = first_two false line (shaped false line h) in rw (w.0, no_gate (second (words line)) w.1) refl

abbrev Told : Bool → List Line → State → Type 0
Told gates ls s = gates_told (p_words ls) ≡ gates

whatever : (A : Type 0) → A → (x : Scan) → Scans Any (λ _. A) x
whatever A a (whole s) = a
whatever A a (stopped n line) = tt

p_line_told : (gates : Bool) (line : Bytes) (ls : List Line) (k : ℕ) → is_comment line ≡ false
    → Scans Any (Told gates (ended line ∷ ls))
    (go_on (unless (problem_cause gates line) (went (opened (words line)))) k (λ t. body (items_of gates (words line) k) t (suc k) ls))
p_line_told gates line ls k c =
    go_on_so Any (Told gates (ended line ∷ ls)) (Told gates (ended line ∷ ls)) (unless (problem_cause gates line) (went (opened (words line)))) k
    (λ t. body (items_of gates (words line) k) t (suc k) ls)
    (unless_so Any (Told gates (ended line ∷ ls)) (problem_cause gates line) (went (opened (words line))) (λ _. tt) (λ none. rw c (told gates line none)))
    (λ t q. whatever (gates_told (p_words (ended line ∷ ls)) ≡ gates) q (body (items_of gates (words line) k) t (suc k) ls))

c_line_told : (gates : Bool) (line : Bytes) (ls : List Line) (s : State) → is_comment line ≡ true → Told gates ls s → Told gates (ended line ∷ ls) s
c_line_told gates line ls s c q = rw c q

-- What a reader takes has its p line.
taken_told : (gates : Bool) (text : Bytes) (r : Read) → read_as gates text ≡ taken r → begins_gates text ≡ gates
unfolding begins_gates
taken_told gates text r h =
    go (scan gates text max_unknowns max_entries max_unknowns) h
    (scan_so Any gates tt (Told gates) (p_line_told gates) (c_line_told gates) tt text max_unknowns max_entries max_unknowns)
  where
    go : (x : Scan) → result_of x ≡ taken r → Scans Any (Told gates (lines text)) x → gates_told (p_words (lines text)) ≡ gates
    go (whole s) e q = q
    go (stopped n line) e q = let z : ◌≡◌ {A = ℕ} 0 1 = cc in absurd (omega (arith, z))

pub form_right : (text : Bytes) → FormRight text
unfolding read read_gates
form_right text =
    record {
      as_gates = λ e kinds literals names. ap (λ (b : Bool). result_of (scan b text kinds literals names)) e;
      as_clauses = λ e kinds literals names. ap (λ (b : Bool). result_of (scan b text kinds literals names)) e;
      gates_found = λ r h. ap (λ (b : Bool). read_as b text) (taken_told true text r h) ∙ h;
      clauses_found = λ r h. ap (λ (b : Bool). read_as b text) (taken_told false text r h) ∙ h;
    }
