-- The account of a decision, byte by byte: the text is decided as the program decides it (01), and the lines say what the run found. 01's two lines
-- and the answer's number; the prefix as it was read; 02's opening (C-11); each row of both tables with its mark, 'the round it came in', and how often
-- it came back (C-16).
-- Assumes nothing.
use Rattle.std.specs.Prelude.{ℕ, zero, suc, ◌≤◌, ◌≡◌, Bool, true, false, List, [], ◌∷◌, ◌++◌, map, ℤ, length}
use Rattle.formula.specs.Formula.{universal, existential, prefix}
use Rattle.rounds.specs.Run.{Entry, Table, number}
use Rattle.rounds.specs.Opening.{opening}
use Rattle.rounds.specs.Counts.{counts}
use Rattle.text.specs.Reading.{Result, taken, refused, text_read, gates_read}
use Rattle.report.specs.Report.{ascii, decimal, result_lines, refusal_line, put, put_count}
use Rattle.decision.specs.Decision.{own_lent}
use Rattle.answer.specs.Printed.{round_limit, settled}

-- What a function gives for the entries of two lists in turn, one behind the other.
abbrev pub each : {A B C : Type 0} → (A → B → List C) → List A → List B → List C
each f [] ys = []
each f (x ∷ xs) [] = []
each f (x ∷ xs) (y ∷ ys) = f x y ++ each f xs ys

-- 01's two lines, then `c answer N`: 0 false, 1 true, 2 spent, 3 no room universal, 4 no room existential.
unfoldable pub head_lines : ℕ → ℕ → ℕ → ℕ → ℕ → ℕ → List ℕ
head_lines answer variables clauses rounds A S =
    result_lines answer variables clauses rounds A S ++ ascii "c answer " ++ decimal answer ++ ascii "\n"

-- A label, a name and a closing 0.
unfoldable pub name_line : List ℕ → ℕ → List ℕ
name_line label name = label ++ decimal name ++ ascii " 0\n"

-- An unknown of the prefix, by its kind and its name: a prefix line of 01's.
abbrev pub prefix_line : ℕ → ℕ → List ℕ
prefix_line zero name = name_line (ascii "e ") name
prefix_line (suc k) name = name_line (ascii "a ") name

-- An unknown of the opening, by its value and its name: `V NAME 0` if it is true, `V -NAME 0` if it is false, as QDIMACS has it.
abbrev pub value_line : Bool → ℕ → List ℕ
value_line true name = name_line (ascii "V ") name
value_line false name = name_line (ascii "V -") name

-- A row: the round that it came in, how often it came back, and the values of its side's unknowns in prefix order, a digit each.
abbrev pub digit : Bool → ℕ
digit false = 48
digit true = 49

unfoldable pub row_line : List ℕ → ℕ → ℕ → List Bool → List ℕ
row_line label mark count values = label ++ decimal mark ++ ascii " " ++ decimal count ++ ascii " " ++ map digit values ++ ascii "\n"

abbrev pub row_lines : List ℕ → Table → List ℕ → List ℕ
row_lines label t counts = each (λ (x : Entry) (n : ℕ). row_line label x.mark n x.row) t counts

-- What is told.
pub record Facts : Type 0 where
  pub answer : ℕ
  pub variables : ℕ
  pub clauses : ℕ
  pub round : ℕ
  pub kinds : List ℕ
  pub names : List ℕ
  pub opening : List Bool
  pub A : Table
  pub a_counts : List ℕ
  pub S : Table
  pub s_counts : List ℕ

unfoldable pub lines : Facts → List ℕ
lines f =
    head_lines f.answer f.variables f.clauses f.round (length f.A) (length f.S)
    ++ each prefix_line f.kinds f.names
    ++ each value_line f.opening f.names
    ++ row_lines (ascii "universal ") f.A f.a_counts
    ++ row_lines (ascii "existential ") f.S f.s_counts

-- The facts of a formula that is accepted: those of 01's run with the program's tables and limit.
abbrev pub facts : List ℕ → List ℤ → List ℕ → ℕ → ℕ → Facts
facts kinds literals names variables clauses =
    record {
      answer = number (settled kinds literals).answer;
      variables = variables;
      clauses = clauses;
      round = (settled kinds literals).round;
      kinds = kinds;
      names = names;
      opening = opening (prefix kinds) (settled kinds literals);
      A = (settled kinds literals).A;
      a_counts = counts (own_lent kinds literals) universal round_limit;
      S = (settled kinds literals).S;
      s_counts = counts (own_lent kinds literals) existential round_limit;
    }

-- 'A refusal prints only `c refused N L`.'
abbrev pub shown : Result → List ℕ
shown (refused n line) = refusal_line n line
shown (taken r) = lines (facts r.kinds r.literals r.names r.variables r.clauses)

-- The account of a text, and of a gate list.
unfoldable pub account : List ℕ → List ℕ
account text = shown (text_read text)

unfoldable pub account_of_gates : List ℕ → List ℕ
account_of_gates text = shown (gates_read text)

-- Bytes put at the start of a lent buffer; there are never more than 106,496.
pub record Delivered (bytes out : List ℕ) (r : ℕ) (out_then : List ℕ) : Type 0 where
  pub counted : r ≡ put_count bytes out
  pub written : out_then ≡ put bytes out
  pub short : length bytes ≤ 106496
