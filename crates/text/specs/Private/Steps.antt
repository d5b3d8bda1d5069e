-- What private functions promise; the contract of `read` rests on none of it. Assumes nothing.
use Rattle.std.specs.Prelude.{ℕ, zero, suc, ◌+◌, ◌≤◌, ◌<◌, ◌≡◌, Bool, true, false, cond, List, [], ◌∷◌, ◌++◌, ltb, ℤ, length, get_or, take, drop}
use Rattle.std.specs.Prelude.{Result as Outcome, Ok, Err}
use Rattle.formula.specs.Formula.{max_unknowns, max_clauses, max_entries}
use Rattle.text.specs.declared.body.Counts.{Counts}
use Rattle.text.specs.declared.opening.Opened.{Opened}
use Rattle.text.specs.declared.opening.Problem.{Problem}
use Rattle.text.specs.declared.Refusal.{Refusal}
use Rattle.cause.specs.declared.Cause.{Cause}
use Rattle.cause.specs.Cause.{number as number_of_cause}
use Rattle.lines.specs.Lines.{Bytes, lines, words, rest, second, third, fourth}
use Rattle.lines.specs.Numbers.{number}
use Rattle.lines.specs.Places.{before}
use Rattle.formula.specs.Meaning.{bit}
use Rattle.named.specs.Named.{max_places, among, signed}
use Rattle.named.specs.Names.{Distinct, UpTo, Known}
use Rattle.named.specs.Closing.{insert, closed_names}
pub use Rattle.text_closing.specs.Written.{free_in, placed_in}
use Rattle.text.specs.Reading.{max_variables, name_cause, State, Step, went, unless, with_prefix, with_entries, bind_all, add_entries, literal_cause, entry}
use Rattle.text.specs.Reading.{free_with, gate_cause, first_cause, inputs_cause, gate_of, clauses_of_gate, entries_of_gate, limit_cause, ending, max_items}
use Rattle.text.specs.Reading.{output_range, problem_cause, Items, clause_list, gate_list, items_of, problem, after_comments, body, scan, Scan, whole, stopped}
use Rattle.text.specs.Form.{p_words}

-- The cause of a p line, whose shape is good or not.
unfoldable pub range_cause : Bool → Bool → ℕ → ℕ → ℕ → ℕ
range_cause gates good v c o = cond good (cond (ltb max_variables v) 11 (cond (ltb (max_items gates) c) 11 (output_range gates o))) 10

-- The lines behind the prefix of a text whose p line, line k, has the literal of the name v, with its sign, if it has one.
abbrev pub items_at : Bool → Bool → ℕ → ℕ → Items
items_at false minus v k = clause_list
items_at true minus v k = gate_list (signed minus v) k

-- What the p line says, without a cause.
pub record ProblemSo (gates : Bool) (line : Bytes) (p : Problem) : Type 0 where
  pub right : 0 ≡ problem_cause gates line
  pub v : p.variables ≡ number (third (words line))
  pub c : p.clauses ≡ number (fourth (words line))
  pub small : p.variables ≤ max_variables
  pub items : (k : ℕ) → items_at gates p.negative p.output k ≡ items_of gates (words line) k
  pub named : gates ≡ true → p.output ≤ max_variables

abbrev pub ProblemRead : Bool → Bytes → Outcome Problem Cause → Type 0
ProblemRead gates line (Ok p) = ProblemSo gates line p
ProblemRead gates line (Err cause) = number_of_cause cause ≡ problem_cause gates line

-- The state after the p line.
unfoldable pub fresh : Opened → State
fresh o = record { variables = o.variables; clauses = o.clauses; kinds = []; names = []; free = []; entries = []; clauses_read = 0; made = 0 }

-- A text is read up to its p line, tables of these lengths being lent.
pub record OpenedSo (gates : Bool) (text : Bytes) (kinds literals names : ℕ) (o : Opened) : Type 0 where
  pub right : scan gates text kinds literals names ≡ body (items_at gates o.negative o.output o.line) (fresh o) (o.line + 1) (lines (drop o.at text))
  pub sizes : (kinds ≡ max_unknowns) × (literals ≡ max_entries) × (names ≡ max_unknowns)
  pub within : o.at ≤ length text
  pub line : o.line ≤ o.at
  pub small : o.variables ≤ max_variables
  pub named : gates ≡ true → o.output ≤ max_variables

-- Or its lines up to there stop.
abbrev pub OpenedRead : Bool → Bytes → ℕ → ℕ → ℕ → Outcome Opened Refusal → Type 0
OpenedRead gates text kinds literals names (Ok o) = OpenedSo gates text kinds literals names o
OpenedRead gates text kinds literals names (Err r) = scan gates text kinds literals names ≡ stopped (number_of_cause r.cause) r.line

-- The table marks the names that are placed.
pub record Marked (names P : List ℕ) : Type 0 where
  pub size : length P ≡ max_places
  pub right : (v : ℕ) → v ≤ max_variables → get_or P v 0 ≡ bit (among v names)

-- A name in a prefix line, n names being bound.
pub record Named (variables v n : ℕ) (P : List ℕ) (cause : ℕ) : Type 0 where
  pub room : cause ≡ 0 → (v ≤ variables) × (n < max_unknowns)
  pub right : (names : List ℕ) → length names ≡ n → Marked names P → cause ≡ name_cause variables names v

-- The names of a prefix line from i on are bound: of the tables n entries were used and `count` are.
pub record BoundAll (line : Bytes) (i kind variables n : ℕ) (K N : List ℕ) (cause count : ℕ) (K' N' P' : List ℕ) : Type 0 where
  pub kinds : length K' ≡ max_unknowns
  pub names : length N' ≡ max_unknowns
  pub room : count ≤ max_unknowns
  pub marked : Marked (take count N') P'
  pub right : (s : State) → s.variables ≡ variables
      → unless cause (went (with_prefix s (take count K') (take count N'))) ≡ bind_all kind (with_prefix s (take n K) (take n N)) (words (drop i line))

-- A word of a clause line, n names being placed: its entry, its name, and whether the name is new.
pub record WordRead (variables : ℕ) (P : List ℕ) (n used : ℕ) (w : Bytes) (cause : ℕ) (literal : ℤ) (name : ℕ) (new : Bool) : Type 0 where
  pub room : cause ≡ 0 → used < max_entries
  pub place : cause ≡ 0 → new ≡ true → n < max_unknowns
  pub small : name ≤ max_variables
  pub right : (names : List ℕ) → length names ≡ n → Marked names P → cause ≡ literal_cause variables names used w
  pub written : cause ≡ 0 → literal ≡ entry w
  pub free : (free names : List ℕ) → Marked (closed_names free names) P → cause ≡ 0 → free_with free names w ≡ cond new (insert name free) free

-- A name is placed among the free ones if it is new.
pub record NamePlaced (new : Bool) (name bound free : ℕ) (N P : List ℕ) (count : ℕ) (N' P' : List ℕ) : Type 0 where
  pub names : length N' ≡ max_unknowns
  pub room : bound + count ≤ max_unknowns
  pub kept : take bound N' ≡ take bound N
  pub right : free_in bound count N' ≡ cond new (insert name (free_in bound free N)) (free_in bound free N)
  pub marked : Marked (placed_in bound free N) P → Marked (placed_in bound count N') P'

-- The entries of a clause line are added: of the entries m were used and `count` are, and `free` names were bound nowhere, now `more`.
pub record AddedAll (line : Bytes) (variables bound free m : ℕ) (N : List ℕ) (L : List ℤ) (cause more count : ℕ) (N' P' : List ℕ) (L' : List ℤ) : Type 0 where
  pub names : length N' ≡ max_unknowns
  pub entries : length L' ≡ max_entries
  pub places : bound + more ≤ max_unknowns
  pub room : count ≤ max_entries
  pub kept : take bound N' ≡ take bound N
  pub marked : Marked (placed_in bound more N') P'
  pub right : (s : State) → s.variables ≡ variables → s.names ≡ take bound N
      → unless cause (went (with_entries s (free_in bound more N') (take count L'))) ≡ add_entries (with_entries s (free_in bound free N) (take m L))
      (words line)

-- The tables are as long as a formula may be, and what is used of them is within; no name is free before the first clause line.
pub record Sized (c : Counts) (K N : List ℕ) (L : List ℤ) : Type 0 where
  pub kinds : length K ≡ max_unknowns
  pub names : length N ≡ max_unknowns
  pub literals : length L ≡ max_entries
  pub unknowns : c.bound + c.free ≤ max_unknowns
  pub entries : c.entries ≤ max_entries
  pub variables : c.variables ≤ max_variables
  pub unread : c.clauses_read ≡ 0 → c.free ≡ 0
  pub made : c.made ≤ max_clauses

-- The state that the counts and the tables hold.
unfoldable pub held : Counts → List ℕ → List ℕ → List ℤ → State
held c K N L =
    record {
      variables = c.variables;
      clauses = c.clauses;
      kinds = take c.bound K;
      names = take c.bound N;
      free = free_in c.bound c.free N;
      entries = take c.entries L;
      clauses_read = c.clauses_read;
      made = c.made;
    }

abbrev pub settled : ℕ → ℕ → State → Scan
settled zero line s = whole s
settled (suc cause) line s = stopped (suc cause) line

-- What has been found once the text is read.
unfoldable pub outcome : Counts → List ℕ → List ℕ → List ℤ → Scan
outcome c K N L = settled c.cause c.line (held c K N L)

-- A line is read: what is held afterwards is what was to be expected of it.
pub record LineRead (gates : Bool) (expected : Step) (c r : Counts) (K' N' P' : List ℕ) (L' : List ℤ) : Type 0 where
  pub sized : Sized r K' N' L'
  pub marked : Marked (placed_in r.bound r.free N') P'
  pub line : r.line ≡ c.line
  pub free : gates ≡ true → r.free ≡ c.free
  pub right : unless r.cause (went (held r K' N' L')) ≡ expected

-- The whole text is read.
pub record AllRead (expected : Scan) (r : Counts) (K' N' : List ℕ) (L' : List ℤ) : Type 0 where
  pub sized : Sized r K' N' L'
  pub right : outcome r K' N' L' ≡ expected

-- Names that have positions: they are different and within the table, and each entry's name is one of them.
pub record Placeable (names : List ℕ) (entries : List ℤ) : Type 0 where
  pub different : Distinct names
  pub small : UpTo max_variables names
  pub known : Known names entries

-- A gate's name, n names being placed.
pub record GateNamed (v n : ℕ) (P : List ℕ) (cause : ℕ) : Type 0 where
  pub room : cause ≡ 0 → (v ≤ max_variables) × (n < max_unknowns)
  pub right : (names : List ℕ) → length names ≡ n → Marked names P → cause ≡ gate_cause names v

-- The clauses of a gate line whose name is v, behind m entries, `made` clauses being made.
pub record ClausesPut (line : Bytes) (v made m : ℕ) (P : List ℕ) (L : List ℤ) (cause entries all : ℕ) (L' : List ℤ) : Type 0 where
  pub size : length L' ≡ max_entries
  pub room : entries ≤ max_entries
  pub limit : all ≤ max_clauses
  pub right : (names : List ℕ) → Marked names P → v ≡ number (second (words line))
      → (cause ≡ first_cause (inputs_cause names (rest (rest (words line)))) (limit_cause (made + clauses_of_gate (gate_of (words line)))
      (m + length (entries_of_gate (gate_of (words line))))))
      × (cause ≡ 0 → (take entries L' ≡ take m L ++ entries_of_gate (gate_of (words line))) × (all ≡ made + clauses_of_gate (gate_of (words line))))

-- The name v is bound behind n names.
pub record NameBound (kind v n : ℕ) (K N P K' N' P' : List ℕ) : Type 0 where
  pub kinds : length K' ≡ max_unknowns
  pub names : length N' ≡ max_unknowns
  pub kinds_more : take (n + 1) K' ≡ take n K ++ (kind ∷ [])
  pub names_more : take (n + 1) N' ≡ take n N ++ (v ∷ [])
  pub marked : Marked (take n N) P → Marked (take (n + 1) N') P'

-- O is looked up, and its clause is added.
pub record OutputAdded (c : Counts) (output : ℤ) (line : ℕ) (P : List ℕ) (L : List ℤ) (r : Counts) (L' : List ℤ) : Type 0 where
  pub sized : (K N : List ℕ) → Sized c K N L → Sized r K N L'
  pub right : c.cause ≡ 0 → c.free ≡ 0 → (K N : List ℕ) → Sized c K N L → Marked (take c.bound N) P
      → (k : ℕ) → outcome r K N L' ≡ ending (gate_list output line) (held c K N L) k

-- The c lines end at a place, where the line of this number starts.
pub record CommentsRead (text : Bytes) (at line : ℕ) : Type 0 where
  pub within : at ≤ length text
  pub small : line ≤ at + 1
  pub right : (gates : Bool) → problem gates line (lines (drop at text)) ≡ after_comments gates 1 (lines text)
  pub opens : p_words (lines text) ≡ words (take (before 10 (drop at text)) (drop at text))
