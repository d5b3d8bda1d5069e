-- What holds of every text: a cause's number is one of 9 to 12 and 14, and its line is within the text's lines or right behind them, of a gate list
-- too; of a text that is taken causes 1 to 3 don't apply, V and C are within their limits, and its names have positions.
-- Assumes nothing.
use Prim.Native.Nat.{ℕ, suc, ◌+◌, ◌≤◌}
use Rattle.std.specs.Prelude.{Ok}
use native.Mathlib.Omega.{arith}
use mathlib.Core.Path.{◌≡◌, refl, subst, ◌∙◌}
use mathlib.Core.Bool.{Bool, true, false, cond, ◌&&◌, false≢true}
use mathlib.Core.List.{List, [], ◌∷◌}
use borrow.Author.Tests.{ltb-true, ltb-false, leb-true, eqb-true}
use lib.Dec.{eqb, leb, ltb}
use lib.IntN.{ℤ}
use lib.ListN.{length}
use Rattle.formula.specs.Formula.{max_unknowns, max_clauses, max_entries}
use Rattle.formula.specs.Causes.{any, other_kind, zeros, ended, checked, sizes, cause_3}
use Rattle.formula.proofs.Order.{no_cause_1, no_cause_2}
use Rattle.lines.specs.Lines.{Bytes, Line, ended as line_ended, unended, in_front, pieces, as_lines, lines, words, fourth, third, first, rest, same}
use Rattle.lines.specs.Numbers.{number, unsigned, is_zero, is_literal}
use Rattle.lines.specs.Shapes.{is_comment, is_problem, is_prefix, is_clause, is_trimmed, is_empty, closed_by_zero, a_word}
use Rattle.named.specs.Named.{among, placed}
use Rattle.named.specs.Names.{Known}
use Rattle.named.specs.Closing.{closed_names, closed_kinds, closed_literals}
use Rattle.named.proofs.CauseLaws.{length_map, kinds_known, as_many_closed, zeros_placed, ended_placed, placed_within}
use Rattle.named.proofs.NameLaws.{and_both}
use Rattle.text.specs.Reading.{max_bytes, max_variables, State, Step, went, fault, unless, name_cause, kind_of_word, prefix_line, has_place, literal_cause, add_entry, add_entries, clause_read, clause_line, body_line, step, Scan, whole, stopped, go_on, Items, clause_list, gate_list, is_gates, with_output, output_cause, ending, finish, body, problem_cause, items_of, opened, problem, after_comments, lent_well, scan, Read, closed, Result, taken, refused, result_of, read, read_gates}
use Rattle.text.proofs.NameLaws.{name_cause_zero, literal_cause_zero}
use Rattle.text.proofs.ScanLaws.{cond_so, NoneOr, Steps, Scans, unless_so, go_on_so, bind_all_so, body_so, scan_so}
use Rattle.text.proofs.KeptLaws.{Whole, Open, Closed, bind_whole, add_zero, add_literal}

-- A number of the text's causes. 13, of names bound nowhere, is none of them.
pub record OfText (n : ℕ) : Type 0 where
  pub from_9 : 9 ≤ n
  pub to_14 : n ≤ 14
  pub not_13 : n ≡ 13 → ⊥

-- The same, or 0 for no cause.
abbrev NoneOrOfText : ℕ → Type 0
NoneOrOfText n = (1 ≤ n → 9 ≤ n) × (n ≤ 14) × (n ≡ 13 → ⊥)

abbrev pub Results : (Read → Type 0) → Result → Type 0
Results P (taken r) = P r
Results P (refused n line) = OfText n

of_text : (n : ℕ) → NoneOrOfText n → NoneOr OfText n
of_text n small some = record { from_9 = small.0 (omega arith); to_14 = small.1; not_13 = small.2 }

-- A name in a prefix line.
name_cause_of_text : (variables : ℕ) (names : List ℕ) (v : ℕ) → NoneOrOfText (name_cause variables names v)
unfolding name_cause
name_cause_of_text variables names v = go (ltb variables v) (among v names) (ltb (length names) max_unknowns)
  where
    go : (a b c : Bool) → NoneOrOfText (cond a 11 (cond b 12 (cond c 0 14)))
    go true b c = (λ some. omega arith, omega arith, λ e. omega arith)
    go false true c = (λ some. omega arith, omega arith, λ e. omega arith)
    go false false true = (λ some. omega arith, omega arith, λ e. omega arith)
    go false false false = (λ some. omega arith, omega arith, λ e. omega arith)

pub kind_known : (b : Bool) → other_kind (cond b 1 0) ≡ false
kind_known true = refl
kind_known false = refl

prefix_whole : (s : State) (ws : List Bytes) → s.clauses_read ≡ 0 → Whole s → Steps OfText Whole (prefix_line s ws)
unfolding prefix_line
prefix_whole s ws start w =
    bind_all_so OfText (kind_of_word (first ws)) (λ _ t. (t.clauses_read ≡ 0) × Whole t) Whole
    (λ t word. of_text (name_cause t.variables t.names (number word)) (name_cause_of_text t.variables t.names (number word)))
    (λ t p. p.1)
    (λ t word more zero p. p.1)
    (λ t word more some none p.
    let facts = name_cause_zero t.variables t.names (number word) none in
    (p.0, bind_whole (kind_of_word (first ws)) t (number word) (kind_known (same (first ws) a_word)) facts.0 facts.1 facts.2 p.0 p.1))
    (rest ws) s (start, w)

-- A word of a clause line.
literal_cause_of_text : (variables : ℕ) (names : List ℕ) (used : ℕ) (w : Bytes) → NoneOrOfText (literal_cause variables names used w)
unfolding literal_cause
literal_cause_of_text variables names used w =
    go (is_zero w) (ltb variables (number (unsigned w))) (has_place names (number (unsigned w))) (ltb used max_entries)
  where
    go : (a b c d : Bool) → NoneOrOfText (cond a (cond d 0 14) (cond b 11 (cond c (cond d 0 14) 14)))
    go true b c true = (λ some. omega arith, omega arith, λ e. omega arith)
    go true b c false = (λ some. omega arith, omega arith, λ e. omega arith)
    go false true c d = (λ some. omega arith, omega arith, λ e. omega arith)
    go false false true true = (λ some. omega arith, omega arith, λ e. omega arith)
    go false false true false = (λ some. omega arith, omega arith, λ e. omega arith)
    go false false false d = (λ some. omega arith, omega arith, λ e. omega arith)

add_entries_closed : (ws : List Bytes) (s : State) → closed_by_zero is_literal ws ≡ true → Open s → Steps OfText Closed (add_entries s ws)
add_entries_closed [] s shape o = absurd (false≢true shape)
add_entries_closed (w ∷ ws) s shape o =
    unless_so OfText Closed (literal_cause s.variables (closed_names s.free s.names) (length s.entries) w) (add_entries (add_entry s w) ws)
    (of_text (literal_cause s.variables (closed_names s.free s.names) (length s.entries) w) (literal_cause_of_text s.variables (closed_names s.free s.names) (length s.entries) w))
    (λ none. go (is_zero w) ws refl shape none (add_entries_closed ws))
  where
    go : (b : Bool) (ws : List Bytes) → is_zero w ≡ b → cond b (is_empty ws) (is_literal w && closed_by_zero is_literal ws) ≡ true
        → literal_cause s.variables (closed_names s.free s.names) (length s.entries) w ≡ 0
        → ((t : State) → closed_by_zero is_literal ws ≡ true → Open t → Steps OfText Closed (add_entries t ws)) → Steps OfText Closed (add_entries (add_entry s w) ws)
    go true [] e shape none more = add_zero s w e (literal_cause_zero s.variables (closed_names s.free s.names) (length s.entries) w none) o
    go true (x ∷ xs) e shape none more = absurd (false≢true shape)
    go false ws e shape none more =
        let both = and_both (is_literal w) (closed_by_zero is_literal ws) shape in
        more (add_entry s w) both.1 (add_literal s w e both.0 none o)

clause_counted : (t : Step) → Steps OfText Closed t → Steps OfText Whole (clause_read t)
clause_counted (fault n) p = p
clause_counted (went s) c =
    let K = c.kept in
    record {
      kept =
          record {
            known = K.known;
            as_many = K.as_many;
            few_names = K.few_names;
            few_entries = K.few_entries;
            few_variables = K.few_variables;
            few_clauses = K.few_clauses;
            counted = K.counted;
            placeable = K.placeable;
            rising = K.rising;
            stands = K.stands;
          };
      in_count = omega (arith, c.in_count);
      closed = c.closed;
      unread = λ none. absurd (omega arith);
    }

clause_whole : (s : State) (line : Bytes) → is_clause line ≡ true → Whole s → Steps OfText Whole (clause_line s (words line))
unfolding is_clause clause_line
clause_whole s line shape w =
    cond_so (Steps OfText Whole) (ltb s.clauses_read s.clauses) (clause_read (add_entries s (words line))) (fault 14)
    (λ below.
    clause_counted (add_entries s (words line))
    (add_entries_closed (words line) s (and_both (is_trimmed line) (closed_by_zero is_literal (words line)) shape).1
    (record { kept = w.kept; in_count = ltb-true s.clauses_read s.clauses below })))
    (λ _. record { from_9 = omega arith; to_14 = omega arith; not_13 = λ e. omega arith })

body_line_whole : (s : State) (line : Bytes) → Whole s → Steps OfText Whole (body_line false s line)
unfolding body_line
body_line_whole s line w =
    cond_so (Steps OfText Whole) (eqb s.clauses_read 0 && is_prefix line) (prefix_line s (words line))
    (cond (is_clause line) (clause_line s (words line)) (fault 10))
    (λ both. prefix_whole s (words line) (eqb-true s.clauses_read 0 (and_both (eqb s.clauses_read 0) (is_prefix line) both).0) w)
    (λ _.
    cond_so (Steps OfText Whole) (is_clause line) (clause_line s (words line)) (fault 10) (λ shape. clause_whole s line shape w)
    (λ _. record { from_9 = omega arith; to_14 = omega arith; not_13 = λ e. omega arith }))

step_whole : (s : State) (l : Line) → Whole s → Steps OfText Whole (step false s l)
step_whole s (line_ended line) w = body_line_whole s line w
step_whole s (unended line) w = record { from_9 = omega arith; to_14 = omega arith; not_13 = λ e. omega arith }

finish_whole : (s : State) (k : ℕ) → Whole s → Scans OfText Whole (finish clause_list s k)
finish_whole s k w =
    cond_so (Scans OfText Whole) (eqb s.clauses_read s.clauses) (whole s) (stopped 14 k) (λ _. w)
    (λ _. record { from_9 = omega arith; to_14 = omega arith; not_13 = λ e. omega arith })

-- The p line.
problem_cause_of_text : (line : Bytes) → NoneOrOfText (problem_cause false line)
unfolding problem_cause
problem_cause_of_text line = go (is_problem false line) (ltb max_variables (number (third (words line)))) (ltb max_clauses (number (fourth (words line))))
  where
    go : (a b c : Bool) → NoneOrOfText (cond a (cond b 11 (cond c 11 0)) 10)
    go true true c = (λ some. omega arith, omega arith, λ e. omega arith)
    go true false true = (λ some. omega arith, omega arith, λ e. omega arith)
    go true false false = (λ some. omega arith, omega arith, λ e. omega arith)
    go false b c = (λ some. omega arith, omega arith, λ e. omega arith)

-- V and C of a p line without a cause.
abbrev Ranged : List Bytes → Type 0
Ranged ws = (number (third ws) ≤ max_variables) × (number (fourth ws) ≤ max_clauses)

problem_cause_zero : (line : Bytes) → problem_cause false line ≡ 0 → Ranged (words line)
unfolding problem_cause
problem_cause_zero line none =
    go (is_problem false line) (ltb max_variables (number (third (words line)))) (ltb max_clauses (number (fourth (words line)))) refl refl none
  where
    go : (a b c : Bool) → ltb max_variables (number (third (words line))) ≡ b → ltb max_clauses (number (fourth (words line))) ≡ c
        → ◌≡◌ {A = ℕ} (cond a (cond b 11 (cond c 11 0)) 10) 0 → Ranged (words line)
    go true true c e f none = absurd (omega arith)
    go true false true e f none = absurd (omega arith)
    go true false false e f none =
        (ltb-false max_variables (number (third (words line))) e, ltb-false max_clauses (number (fourth (words line))) f)
    go false b c e f none = absurd (omega arith)

opened_whole : (ws : List Bytes) → Ranged ws → Whole (opened ws)
unfolding opened
opened_whole ws few =
    record {
      kept =
          record {
            known = refl;
            as_many = refl;
            few_names = omega arith;
            few_entries = omega arith;
            few_variables = few.0;
            few_clauses = few.1;
            counted = refl;
            placeable = record { different = tt; small = tt; known = tt };
            rising = tt;
            stands = λ v i. absurd i;
          };
      in_count = omega arith;
      closed = refl;
      unread = λ _. refl;
    }

problem_whole : (line : Bytes) (ls : List Line) (k : ℕ)
    → Scans OfText Whole (go_on (unless (problem_cause false line) (went (opened (words line)))) k (λ t. body clause_list t (suc k) ls))
problem_whole line ls k =
    go_on_so OfText Whole Whole (unless (problem_cause false line) (went (opened (words line)))) k (λ t. body clause_list t (suc k) ls)
    (unless_so OfText Whole (problem_cause false line) (went (opened (words line))) (of_text (problem_cause false line) (problem_cause_of_text line))
    (λ none. opened_whole (words line) (problem_cause_zero line none)))
    (λ t v. body_so OfText clause_list (λ _ u. Whole u) Whole (λ u l more q. step_whole u l q) finish_whole ls t (suc k) v)

pub scan_whole : (text : Bytes) (kinds literals names : ℕ) → Scans OfText Whole (scan false text kinds literals names)
scan_whole text kinds literals names =
    scan_so OfText false (record { from_9 = omega arith; to_14 = omega arith; not_13 = λ e. omega arith }) (λ _ t. Whole t)
    (λ line ls k c. problem_whole line ls k) (λ line ls t c w. w)
    (record { from_9 = omega arith; to_14 = omega arith; not_13 = λ e. omega arith }) text kinds literals names

-- From the state after the last line to what is read.
pub results_so : (P : State → Type 0) (Q : Read → Type 0) → ((s : State) → P s → Q (closed s)) → (x : Scan) → Scans OfText P x → Results Q (result_of x)
results_so P Q implies (whole s) p = implies s p
results_so P Q implies (stopped n line) p = p

-- None of causes 1 to 3 applies to a formula that was read, and V and C are in range.
pub record Passes (r : Read) : Type 0 where
  pub accepted : checked r.kinds r.literals ≡ Ok (sizes r.kinds r.literals)
  pub few_variables : r.variables ≤ max_variables
  pub few_clauses : r.clauses ≤ max_clauses

-- A state whose sizes, kinds, names and entries are as causes 1 to 3 want them.
pub record Within (s : State) : Type 0 where
  pub kinds_known : any other_kind s.kinds ≡ false
  pub as_many : length s.kinds ≡ length s.names
  pub few_names : length (closed_names s.free s.names) ≤ max_unknowns
  pub few_entries : length s.entries ≤ max_entries
  pub few_zeros : zeros s.entries ≤ max_clauses
  pub last_ended : ended s.entries ≡ true
  pub names_known : Known (closed_names s.free s.names) s.entries
  pub few_variables : s.variables ≤ max_variables
  pub few_clauses : s.clauses ≤ max_clauses

pub within_passes : (s : State) → Within s → Passes (closed s)
unfolding closed checked cause_3
within_passes s w =
    let names = closed_names s.free s.names in
    let known = w.names_known in
    let many = as_many_closed s.free s.kinds s.names w.as_many in
    record {
      accepted =
          rw (
            no_cause_1 (closed_kinds s.free s.kinds) (omega (arith, many, w.few_names)) (kinds_known s.free s.kinds w.kinds_known),
            no_cause_2 (closed_literals s.free s.names s.entries) (omega (arith, length_map {A = ℤ} {B = ℤ} (placed names) s.entries, w.few_entries))
                (omega (arith, zeros_placed names s.entries known, w.few_zeros)) (ended_placed names s.entries known ∙ w.last_ended),
            many,
            placed_within names s.entries,
          ) refl;
      few_variables = w.few_variables;
      few_clauses = w.few_clauses;
    }

whole_passes : (s : State) → Whole s → Passes (closed s)
whole_passes s w =
    let K = w.kept in
    within_passes s
    (record {
      kinds_known = K.known;
      as_many = K.as_many;
      few_names = K.few_names;
      few_entries = K.few_entries;
      few_zeros = omega (arith, K.counted, w.in_count, K.few_clauses);
      last_ended = w.closed;
      names_known = K.placeable.known;
      few_variables = K.few_variables;
      few_clauses = K.few_clauses;
    })

pub read_passes : (text : Bytes) (kinds literals names : ℕ) → Results Passes (read text kinds literals names)
unfolding read
read_passes text kinds literals names = results_so Whole Passes whole_passes (scan false text kinds literals names) (scan_whole text kinds literals names)

-- A refusal's line is at most the number of lines and one.
abbrev To : ℕ → Scan → Type 0
To m (whole s) = Unit {0}
To m (stopped n line) = line ≤ m

go_on_to : (m : ℕ) (t : Step) (k : ℕ) (more : State → Scan) → k ≤ m → ((s : State) → To m (more s)) → To m (go_on t k more)
go_on_to m (fault n) k more small then = small
go_on_to m (went s) k more small then = then s

-- O's causes are reported at the p line.
abbrev ItemsTo : ℕ → Items → Type 0
ItemsTo m clause_list = Unit {0}
ItemsTo m (gate_list o line) = line ≤ m

ending_to : (m : ℕ) (items : Items) (s : State) (k : ℕ) → ItemsTo m items → To m (ending items s k)
ending_to m clause_list s k small = tt
ending_to m (gate_list o line) s k small = go_on_to m (unless (output_cause s o) (went (with_output s o))) line whole small (λ t. tt)

body_to : (items : Items) (ls : List Line) (s : State) (k m : ℕ) → ItemsTo m items → k + length ls ≤ m → To m (body items s k ls)
body_to items [] s k m top small =
    cond_so (To m) (eqb s.clauses_read s.clauses) (ending items s k) (stopped 14 k) (λ _. ending_to m items s k top) (λ _. omega arith)
body_to items (l ∷ ls) s k m top small =
    go_on_to m (step (is_gates items) s l) k (λ t. body items t (suc k) ls) (omega arith) (λ t. body_to items ls t (suc k) m top (omega arith))

items_to : (gates : Bool) (ws : List Bytes) (k m : ℕ) → k ≤ m → ItemsTo m (items_of gates ws k)
items_to false ws k m small = tt
items_to true ws k m small = small

problem_to : (gates : Bool) (ls : List Line) (k m : ℕ) → k + length ls ≤ m → To m (problem gates k ls)
problem_to gates [] k m small = omega arith
problem_to gates (unended line ∷ ls) k m small = omega arith
problem_to gates (line_ended line ∷ ls) k m small =
    go_on_to m (unless (problem_cause gates line) (went (opened (words line)))) k (λ t. body (items_of gates (words line) k) t (suc k) ls) (omega arith)
    (λ t. body_to (items_of gates (words line) k) ls t (suc k) m (items_to gates (words line) k m (omega arith)) (omega arith))

comments_to : (gates : Bool) (ls : List Line) (k m : ℕ) → k + length ls ≤ m → To m (after_comments gates k ls)
comments_to gates [] k m small = problem_to gates [] k m small
comments_to gates (unended line ∷ ls) k m small = problem_to gates (unended line ∷ ls) k m small
comments_to gates (line_ended line ∷ ls) k m small =
    cond_so (To m) (is_comment line) (after_comments gates (suc k) ls) (problem gates k (line_ended line ∷ ls)) (λ _. comments_to gates ls (suc k) m (omega arith))
    (λ _. problem_to gates (line_ended line ∷ ls) k m small)

-- A text has no more lines than bytes.
in_front_more : (b : Bool) (x : ℕ) (ps : List Bytes) → length (in_front b x ps) ≤ 1 + length ps
in_front_more true x ps = omega arith
in_front_more false x [] = omega arith
in_front_more false x (p ∷ ps) = omega arith

pieces_many : (b : ℕ) (xs : Bytes) → length (pieces b xs) ≤ 1 + length xs
pieces_many b [] = omega arith
pieces_many b (x ∷ xs) = omega (arith, in_front_more (eqb x b) x (pieces b xs), pieces_many b xs)

as_lines_many : (ps : List Bytes) → length (as_lines ps) ≤ length ps
as_lines_many [] = omega arith
as_lines_many ([] ∷ []) = omega arith
as_lines_many ((x ∷ xs) ∷ []) = omega arith
as_lines_many (p ∷ q ∷ ps) = omega (arith, as_lines_many (q ∷ ps))

lines_many : (text : Bytes) → length (lines text) ≤ 1 + length text
unfolding lines
lines_many text = omega (arith, as_lines_many (pieces 10 text), pieces_many 10 text)

short_if_lent_well : (text : Bytes) (kinds literals names : ℕ) → lent_well text kinds literals names ≡ true → length text ≤ max_bytes
short_if_lent_well text kinds literals names well = go (leb (length text) max_bytes) refl well
  where
    go : (b : Bool) → leb (length text) max_bytes ≡ b → (b && eqb kinds max_unknowns && eqb literals max_entries && eqb names max_unknowns) ≡ true
        → length text ≤ max_bytes
    go true e w = leb-true (length text) max_bytes e
    go false e w = absurd (false≢true w)

scan_to : (gates : Bool) (text : Bytes) (kinds literals names : ℕ) → To (2 + max_bytes) (scan gates text kinds literals names)
unfolding scan
scan_to gates text kinds literals names =
    cond_so (To (2 + max_bytes)) (lent_well text kinds literals names) (after_comments gates 1 (lines text)) (stopped 9 0)
    (λ well. comments_to gates (lines text) 1 (2 + max_bytes) (omega (arith, lines_many text, short_if_lent_well text kinds literals names well)))
    (λ _. omega arith)

stopped_if_refused : (x : Scan) (n line : ℕ) → result_of x ≡ refused n line → x ≡ stopped n line
stopped_if_refused (whole s) n line e = let z : ◌≡◌ {A = ℕ} 0 1 = cc in absurd (omega arith)
stopped_if_refused (stopped m k) n line e = cc

pub refused_line : (text : Bytes) (kinds literals names n line : ℕ) → read text kinds literals names ≡ refused n line → line ≤ 2 + max_bytes
unfolding read
refused_line text kinds literals names n line e =
    subst (To (2 + max_bytes)) (stopped_if_refused (scan false text kinds literals names) n line e) (scan_to false text kinds literals names)

pub gates_refused_line : (text : Bytes) (kinds literals names n line : ℕ) → read_gates text kinds literals names ≡ refused n line → line ≤ 2 + max_bytes
unfolding read_gates
gates_refused_line text kinds literals names n line e =
    subst (To (2 + max_bytes)) (stopped_if_refused (scan true text kinds literals names) n line e) (scan_to true text kinds literals names)
