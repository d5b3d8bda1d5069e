-- 01's reader, and 02's for gate lists: what a text gives, and the first cause, with its line, for which it is refused. A text is read by its
-- names, and positions are given once, after its last line, since a name that no block binds (02) moves all others. Both forms of a text share
-- everything but the p line's end, the lines behind the prefix and the end of the text; `gates` says that a text is a gate list. Assumes nothing.
use Rattle.std.specs.Prelude.{ℕ, zero, suc, ◌+◌, ◌≤◌, ◌≡◌, Bool, true, false, cond, ◌&&◌, ◌||◌, List, [], ◌∷◌, ◌++◌, leb, ltb, eqb, ℤ, pos, nat_abs, length}
use Rattle.std.specs.Prelude.{Result as Outcome, Ok, Err}
use Rattle.formula.specs.Formula.{max_unknowns, max_clauses, max_entries}
use Rattle.cause.specs.Cause.{number as number_of_cause, caused}
use Rattle.text.specs.declared.Taken.{Taken}
use Rattle.text.specs.declared.Refusal.{Refusal}
use Rattle.lines.specs.Lines.{Bytes, Line, ended, unended, lines, words, first, rest, third, fourth, fifth, same}
use Rattle.lines.specs.Numbers.{number, is_zero, unsigned}
use Rattle.lines.specs.Shapes.{is_comment, is_problem, is_prefix, is_clause, is_gate, a_word}
pub use Rattle.named.specs.Named.{max_variables}
use Rattle.named.specs.Named.{among}
use Rattle.named.specs.Gates.{Gate}
use Rattle.named.specs.Closing.{insert, closed_names, closed_kinds, closed_literals}
pub use Rattle.text_gates.specs.GateLine.{literal_of, first_cause, inputs_of, function_of, gate_of, entries_of_gate, clauses_of_gate}
use Rattle.text_gates.specs.GateLine.{known_cause, known_causes, room_limit}
pub use Rattle.text_closing.specs.Written.{over}

-- 'Text over 65,536 bytes'.
abbrev pub max_bytes : ℕ
max_bytes = 65536

-- What has been read so far, by name: V of the p line, and how many lines it wants behind the prefix, C or G; the kind and the name of each
-- unknown that a block binds, in prefix order, and behind them of each gate; the names that stand in a clause and that no block binds, rising; the
-- entries of the clauses, v or -v for the name v, 0 for the end of a clause; the number of clause or gate lines; and the clauses made of gates.
pub record State : Type 0 where
  pub variables : ℕ
  pub clauses : ℕ
  pub kinds : List ℕ
  pub names : List ℕ
  pub free : List ℕ
  pub entries : List ℤ
  pub clauses_read : ℕ
  pub made : ℕ

-- A line is taken, or refused for a cause.
pub data Step : Type 0 where
  went : State → Step
  fault : ℕ → Step

-- Cause 0 is no cause.
abbrev pub unless : ℕ → Step → Step
unless zero next = next
unless (suc cause) next = fault (suc cause)

-- A name in a prefix line, these being bound: '11, 12, 13, 14 in that order', of which 02 takes one away.
unfoldable pub name_cause : ℕ → List ℕ → ℕ → ℕ
name_cause variables names v =
    cond (ltb variables v) 11
    (cond (among v names) 12
    (cond (ltb (length names) max_unknowns) 0 14))

-- A name is bound behind those bound before.
abbrev pub with_prefix : State → List ℕ → List ℕ → State
with_prefix s kinds names =
    record {
      variables = s.variables;
      clauses = s.clauses;
      kinds = kinds;
      names = names;
      free = s.free;
      entries = s.entries;
      clauses_read = s.clauses_read;
      made
          = s.made;
    }

abbrev pub bind : ℕ → State → ℕ → State
bind kind s v = with_prefix s (s.kinds ++ (kind ∷ [])) (s.names ++ (v ∷ []))

-- The words of a prefix line after its `a` or `e`, from the left; its closing 0 has no cause.
abbrev pub bind_all : ℕ → State → List Bytes → Step
bind_all kind s [] = went s
bind_all kind s (w ∷ ws) =
    let more = bind_all kind (bind kind s (number w)) ws in
    cond (is_zero w) (went s) (unless (name_cause s.variables s.names (number w)) more)

-- '`a` or `e`': universal is 1, existential 0.
abbrev pub kind_of_word : Bytes → ℕ
kind_of_word w = cond (same w a_word) 1 0

unfoldable pub prefix_line : State → List Bytes → Step
prefix_line s ws = bind_all (kind_of_word (first ws)) s (rest ws)

-- A word of a clause line, a literal or the closing 0: 'a clause's closing 0 is a token for 14'.
abbrev pub room_cause : ℕ → ℕ
room_cause used = cond (ltb used max_entries) 0 14

-- 'They count towards the 128, at the token where they first stand': a name has room if it is placed, in front or in a block, or if fewer are.
abbrev pub has_place : List ℕ → ℕ → Bool
has_place names v = among v names || ltb (length names) max_unknowns

unfoldable pub literal_cause : ℕ → List ℕ → ℕ → Bytes → ℕ
literal_cause variables names used w =
    cond (is_zero w) (room_cause used)
    (cond (ltb variables (number (unsigned w))) 11
    (cond (has_place names (number (unsigned w))) (room_cause used) 14))

-- The literal of a word; 0 for the closing 0.
unfoldable pub entry : Bytes → ℤ
entry w = cond (is_zero w) (pos 0) (literal_of w)

-- The names bound nowhere, with that of a word if it is new.
unfoldable pub free_with : List ℕ → List ℕ → Bytes → List ℕ
free_with free names w =
    cond (is_zero w || among (number (unsigned w)) (closed_names free names)) free (insert (number (unsigned w)) free)

-- A word's entry is added behind those before.
abbrev pub with_entries : State → List ℕ → List ℤ → State
with_entries s free entries =
    record {
      variables = s.variables;
      clauses = s.clauses;
      kinds = s.kinds;
      names = s.names;
      free = free;
      entries = entries;
      clauses_read = s.clauses_read;
      made
          = s.made;
    }

abbrev pub add_entry : State → Bytes → State
add_entry s w = with_entries s (free_with s.free s.names w) (s.entries ++ (entry w ∷ []))

-- The words of a clause line, from the left.
abbrev pub add_entries : State → List Bytes → Step
add_entries s [] = went s
add_entries s (w ∷ ws) =
    let more = add_entries (add_entry s w) ws in
    unless (literal_cause s.variables (closed_names s.free s.names) (length s.entries) w) more

-- A clause line that is taken counts.
abbrev pub clause_read : Step → Step
clause_read (fault cause) = fault cause
clause_read (went s) =
    went (record {
      variables = s.variables;
      clauses = s.clauses;
      kinds = s.kinds;
      names = s.names;
      free = s.free;
      entries = s.entries;
      clauses_read = suc
          s.clauses_read;
      made = s.made;
    })

-- 'Then 14 for a line too many, then tokens from the left'.
unfoldable pub clause_line : State → List Bytes → Step
clause_line s ws = cond (ltb s.clauses_read s.clauses) (clause_read (add_entries s ws)) (fault 14)

-- Gate lists. 'It refuses with 19 an input or O that is neither bound nor an earlier gate, and with 20 a gate name already used; both stand where 13
-- and 12 stood.' A gate's name: 11, 20, 14. 'V bounds those in prefix lines', and no others.
unfoldable pub gate_cause : List ℕ → ℕ → ℕ
gate_cause names v =
    cond (ltb max_variables v) 11
    (cond (among v names) 20
    (cond (ltb (length names) max_unknowns) 0 14))

-- Inputs: 11, 19, from the left. The gate itself is no earlier one, so its own name is not yet among these.
abbrev pub input_cause : List ℕ → Bytes → ℕ
input_cause names w = known_cause (λ v. among v names) w

abbrev pub inputs_cause : List ℕ → List Bytes → ℕ
inputs_cause names ws = known_causes (λ v. among v names) ws

-- 'After its tokens, a line whose clauses pass the limits'.
abbrev pub limit_cause : ℕ → ℕ → ℕ
limit_cause clauses entries = room_limit max_entries clauses entries

-- A gate is 'a last existential unknown': its name is bound behind all others, with the kind 0, and its clauses come behind those before.
abbrev pub with_gate : State → Gate → State
with_gate s gate =
    record {
      variables = s.variables;
      clauses = s.clauses;
      kinds = s.kinds ++ (0 ∷ []);
      names = s.names ++ (gate.name ∷ []);
      free = s.free;
      entries = s.entries ++ entries_of_gate gate;
      clauses_read = suc s.clauses_read;
      made = s.made + clauses_of_gate gate;
    }

-- '14 covers gate lines other than G', then the tokens from the left, then the limits.
unfoldable pub gate_line : State → List Bytes → Step
gate_line s ws =
    let gate = gate_of ws in
    cond (ltb s.clauses_read s.clauses)
    (unless (gate_cause s.names gate.name)
    (unless (inputs_cause s.names (rest (rest ws)))
    (unless (limit_cause (s.made + clauses_of_gate gate) (length s.entries + length (entries_of_gate gate)))
    (went (with_gate s gate)))))
    (fault 14)

-- A line behind the prefix.
abbrev pub is_item : Bool → Bytes → Bool
is_item false line = is_clause line
is_item true line = is_gate line

abbrev pub item_line : Bool → State → List Bytes → Step
item_line false s ws = clause_line s ws
item_line true s ws = gate_line s ws

-- A line after the p line: 'then prefix lines .. then clause lines', or gate lines, so a prefix line only before the first of them.
-- '10 for the whole line' comes first, and the missing LF is one of its reasons.
unfoldable pub body_line : Bool → State → Bytes → Step
body_line gates s line =
    cond (eqb s.clauses_read 0 && is_prefix line) (prefix_line s (words line))
    (cond (is_item gates line) (item_line gates s (words line)) (fault 10))

abbrev pub step : Bool → State → Line → Step
step gates s (ended line) = body_line gates s line
step gates s (unended line) = fault 10

-- The lines of a text gone through: the state after the last one, or a cause and its line.
pub data Scan : Type 0 where
  whole : State → Scan
  stopped : ℕ → ℕ → Scan

-- The first fault ends the reading, at its line.
abbrev pub go_on : Step → ℕ → (State → Scan) → Scan
go_on (fault cause) k more = stopped cause k
go_on (went s) k more = more s

-- The lines behind the prefix, and what the end of a text needs: nothing, or O and the number of the p line.
pub data Items : Type 0 where
  clause_list : Items
  gate_list : ℤ → ℕ → Items

abbrev pub is_gates : Items → Bool
is_gates clause_list = false
is_gates (gate_list o line) = true

-- 'Last comes O alone', and C is the number of clauses made.
abbrev pub with_output : State → ℤ → State
with_output s o =
    record {
      variables = s.variables;
      clauses = suc s.made;
      kinds = s.kinds;
      names = s.names;
      free = s.free;
      entries = s.entries ++ (o ∷ pos 0 ∷ []);
      clauses_read = s.clauses_read;
      made = suc s.made;
    }

unfoldable pub output_cause : State → ℤ → ℕ
output_cause s o = cond (among (nat_abs o) s.names) (limit_cause (suc s.made) (length s.entries + 2)) 19

-- 'O is looked up once all G lines have passed and reported at the p line.'
abbrev pub ending : Items → State → ℕ → Scan
ending clause_list s k = whole s
ending (gate_list o line) s k = go_on (unless (output_cause s o) (went (with_output s o))) line whole

-- Behind the last line, which line k would follow: 'Clauses other than C .. too few: last + 1', and so for gate lines.
abbrev pub finish : Items → State → ℕ → Scan
finish items s k = cond (eqb s.clauses_read s.clauses) (ending items s k) (stopped 14 k)

-- The lines after the p line; k is the number of the first of them.
abbrev pub body : Items → State → ℕ → List Line → Scan
body items s k [] = finish items s k
body items s k (l ∷ ls) = go_on (step (is_gates items) s l) k (λ t. body items t (suc k) ls)

-- 'C at most 2,048'; 'G is at most 128, else 11'.
abbrev pub max_items : Bool → ℕ
max_items false = max_clauses
max_items true = max_unknowns

-- 'Names are 1 to 32,767', O's too.
abbrev pub output_range : Bool → ℕ → ℕ
output_range false v = 0
output_range true v = cond (ltb max_variables v) 11 0

-- The p line's causes: '10 for the whole line', then V, then C; or V, G and O.
unfoldable pub problem_cause : Bool → Bytes → ℕ
problem_cause gates line =
    cond (is_problem gates line)
    (cond (ltb max_variables (number (third (words line)))) 11 (cond (ltb (max_items gates) (number (fourth (words line)))) 11
    (output_range gates (number (unsigned (fifth (words line)))))))
    10

-- What the p line, line k, says of the lines behind the prefix.
abbrev pub items_of : Bool → List Bytes → ℕ → Items
items_of false ws k = clause_list
items_of true ws k = gate_list (literal_of (fifth ws)) k

-- The state after the p line.
unfoldable pub opened : List Bytes → State
opened ws = record { variables = number (third ws); clauses = number (fourth ws); kinds = []; names = []; free = []; entries = []; clauses_read = 0; made = 0 }

-- 'A p line that never comes is reported at last line + 1.' Line k is the first that is no c line.
abbrev pub problem : Bool → ℕ → List Line → Scan
problem gates k [] = stopped 10 k
problem gates k (unended line ∷ ls) = stopped 10 k
problem gates k (ended line ∷ ls) =
    go_on (unless (problem_cause gates line) (went (opened (words line)))) k (λ t. body (items_of gates (words line) k) t (suc k) ls)

-- 'First any lines beginning with c'; they count as lines.
abbrev pub after_comments : Bool → ℕ → List Line → Scan
after_comments gates k [] = problem gates k []
after_comments gates k (unended line ∷ ls) = problem gates k (unended line ∷ ls)
after_comments gates k (ended line ∷ ls) =
    let more = after_comments gates (suc k) ls in
    cond (is_comment line) more (problem gates k (ended line ∷ ls))

-- 'Text over 65,536 bytes, or tables not 128, 8,192, 128: number, line 0'.
abbrev pub lent_well : Bytes → ℕ → ℕ → ℕ → Bool
lent_well text kinds literals names =
    leb (length text) max_bytes && eqb kinds max_unknowns && eqb literals max_entries && eqb names max_unknowns

-- The lines of a text, with tables of these lengths lent.
unfoldable pub scan : Bool → Bytes → ℕ → ℕ → ℕ → Scan
scan gates text kinds literals names = cond (lent_well text kinds literals names) (after_comments gates 1 (lines text)) (stopped 9 0)

-- What is read of a text: kinds and names in prefix order, literals by position, V and C.
pub record Read : Type 0 where
  pub kinds : List ℕ
  pub names : List ℕ
  pub literals : List ℤ
  pub variables : ℕ
  pub clauses : ℕ

-- The names bound nowhere are placed first, 'existential in front of everything'; then every entry has its position.
unfoldable pub closed : State → Read
closed s =
    record {
      kinds = closed_kinds s.free s.kinds;
      names = closed_names s.free s.names;
      literals = closed_literals s.free s.names s.entries;
      variables = s.variables;
      clauses = s.clauses;
    }

-- What a text gives: what is read of it, or a cause and its line.
pub data Result : Type 0 where
  taken : Read → Result
  refused : ℕ → ℕ → Result

abbrev pub result_of : Scan → Result
result_of (whole s) = taken (closed s)
result_of (stopped number line) = refused number line

-- The reading of a text, with tables of these lengths lent: of clauses, or of gates.
unfoldable pub read : Bytes → ℕ → ℕ → ℕ → Result
read text kinds literals names = result_of (scan false text kinds literals names)

unfoldable pub read_gates : Bytes → ℕ → ℕ → ℕ → Result
read_gates text kinds literals names = result_of (scan true text kinds literals names)

-- 'Returns n, the literals used, V and C', or number and line: the cause that has the number.
abbrev pub Reading : Type 0
Reading = Outcome Taken Refusal

abbrev pub returned : Result → Reading
returned (taken r) = Ok (record { unknowns = length r.names; entries = length r.literals; variables = r.variables; clauses = r.clauses })
returned (refused number line) = Err (record { cause = caused number; line = line })

-- 01's number of each case: 0 for a text that is taken, else the cause's.
abbrev pub number_of : Reading → ℕ
number_of (Ok text) = 0
number_of (Err refusal) = number_of_cause refusal.cause

-- The number of the cause for which a text is refused, or 0.
abbrev pub cause_of : Result → ℕ
cause_of (taken r) = 0
cause_of (refused number line) = number

-- 'Writes kinds, literals and the text name of each position, leaves entries past those used'; a refusal leaves all.
abbrev pub kinds_after : Result → List ℕ → List ℕ
kinds_after (taken r) old = over r.kinds old
kinds_after (refused number line) old = old

abbrev pub literals_after : Result → List ℤ → List ℤ
literals_after (taken r) old = over r.literals old
literals_after (refused number line) old = old

abbrev pub names_after : Result → List ℕ → List ℕ
names_after (taken r) old = over r.names old
names_after (refused number line) old = old

-- What is taken has a kind for each name and stays within the limits, so that its caller may take the front of each table.
abbrev pub Fits : Result → Type 0
Fits (taken r) = (length r.kinds ≡ length r.names) × (length r.names ≤ max_unknowns) × (length r.literals ≤ max_entries)
Fits (refused number line) = Unit {0}

-- What `read` promises: the outcome and each table at exit, from a result and the tables at entry.
pub record ReadSo (result : Result) (outcome : Reading) (kinds : List ℕ) (literals : List ℤ) (names kinds' : List ℕ) (literals' : List ℤ)
    (names' : List ℕ) : Type 0 where
  pub returns : outcome ≡ returned result
  pub numbered : number_of outcome ≡ cause_of result
  pub writes_kinds : kinds' ≡ kinds_after result kinds
  pub writes_literals : literals' ≡ literals_after result literals
  pub writes_names : names' ≡ names_after result names
  pub fitting : Fits result

-- The reading of a text with tables of 01's lengths: what its bytes alone give.
abbrev pub text_read : Bytes → Result
text_read text = read text max_unknowns max_entries max_unknowns

abbrev pub text_scan : Bytes → Scan
text_scan text = scan false text max_unknowns max_entries max_unknowns

abbrev pub gates_read : Bytes → Result
gates_read text = read_gates text max_unknowns max_entries max_unknowns

-- Either, told whether the text is a gate list.
abbrev pub read_as : Bool → Bytes → Result
read_as gates text = result_of (scan gates text max_unknowns max_entries max_unknowns)

-- The numbers with which a text, and a gate list, is refused.
abbrev pub text_causes : List ℕ
text_causes = 9 ∷ 10 ∷ 11 ∷ 12 ∷ 14 ∷ []

abbrev pub gates_causes : List ℕ
gates_causes = 9 ∷ 10 ∷ 11 ∷ 12 ∷ 14 ∷ 19 ∷ 20 ∷ []
