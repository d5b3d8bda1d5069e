-- The clauses as a DIMACS text, byte by byte: comment lines that say what it is and what each variable stands for, the p line, and a line for each
-- clause, ended by 0. Assumes nothing.
use Rattle.std.specs.Prelude.{ℕ, zero, suc, ◌+◌, ◌*◌, Bool, true, false, List, [], ◌∷◌, ◌++◌, ℤ, pos, negsuc, length, get_or}
use Rattle.formula.specs.Formula.{Kind, Clause, max_unknowns}
use Rattle.expansion.specs.Side.{flags}
use Rattle.expansion.specs.OtherSide.{side_of}
use Rattle.expansion.specs.Play.{Row}
use Rattle.lines.specs.Lines.{Bytes}
use Rattle.report.specs.Report.{ascii, decimal}
use Rattle.writing.specs.Writing.{p_line}
use Rattle.cnf_rules.specs.Clauses.{copy_number, row_clauses, expansion, variables, clause_count}

-- A literal, a clause, clauses.
abbrev pub word : ℤ → Bytes
word (pos v) = decimal v
word (negsuc v) = ascii "-" ++ decimal (suc v)

abbrev pub line : Clause → Bytes
line [] = ascii "0\n"
line (z ∷ c) = word z ++ ascii " " ++ line c

abbrev pub lines : List Clause → Bytes
lines [] = []
lines (c ∷ cs) = line c ++ lines cs

-- What the text says, and how a variable is read.
abbrev pub claim_lines : Bool → Bytes
claim_lines false =
    ascii "c claim 0, that the formula is false: unsatisfiable exactly if these rows bear it out\n"
    ++ ascii "c variable 128 r + p: the unknown at position p of the prefix, after the values that row r has before it\n"
claim_lines true =
    ascii "c claim 1, that the formula is true: unsatisfiable exactly if these rows bear it out\n"
    ++ ascii "c variable 128 r + p: the unknown at position p of the prefix, after the values that row r has before it\n"
    ++ ascii "c variable 128 R + C r + j, of R rows and C clauses: clause j of the formula is false in row r\n"

-- The names that the formula's text has for the unknowns, in prefix order.
abbrev pub names_words : List ℕ → Bytes
names_words [] = ascii "\n"
names_words (v ∷ vs) = ascii " " ++ decimal v ++ names_words vs

-- A row's place, from 0, and its values in prefix order.
abbrev pub value_digit : Bool → ℕ
value_digit false = 48
value_digit true = 49

abbrev pub value_digits : Row → Bytes
value_digits [] = ascii "\n"
value_digits (b ∷ bs) = value_digit b ∷ value_digits bs

abbrev pub row_line : ℕ → Row → Bytes
row_line r row = ascii "c row " ++ decimal r ++ ascii " " ++ value_digits row

abbrev pub row_lines : ℕ → List Row → Bytes
row_lines r [] = []
row_lines r (row ∷ rows) = row_line r row ++ row_lines (suc r) rows

-- What stands before the clauses: the comment lines and the p line.
unfoldable pub head : Bool → List Kind → List Clause → List Row → List ℕ → Bytes
head claim ks cs rows names =
    claim_lines claim ++ ascii "c unknowns" ++ names_words names ++ row_lines 0 rows
    ++ p_line (variables claim ks cs rows) (clause_count claim ks cs rows)

-- The lines of the row at place i.
unfoldable pub part : Bool → List Kind → List Clause → List Row → ℕ → Bytes
part claim ks cs rows i =
    let ts = flags (side_of claim) ks in
    let row = get_or rows i [] in
    lines (row_clauses claim ts (copy_number ts rows row) row (max_unknowns * length rows + length cs * i) cs)

-- The parts of the rows before place n, one after the other.
abbrev pub parts : Bool → List Kind → List Clause → List Row → ℕ → Bytes
parts claim ks cs rows zero = []
parts claim ks cs rows (suc n) = parts claim ks cs rows n ++ part claim ks cs rows n

unfoldable pub text : Bool → List Kind → List Clause → List Row → List ℕ → Bytes
text claim ks cs rows names = head claim ks cs rows names ++ lines (expansion claim ks cs rows)
