-- The text of a formula, byte by byte, in 01's format: the p line, a line for each block of the prefix, a line for each clause. Assumes nothing.
use Rattle.std.specs.Prelude.{ℕ, zero, suc, cond, List, [], ◌∷◌, ◌++◌, eqb, ℤ, pos, negsuc, get_or}
use Rattle.formula.specs.Causes.{zeros}
use Rattle.lines.specs.Lines.{Bytes}
use Rattle.report.specs.Report.{ascii, decimal}

-- '`p cnf V C`.'
unfoldable pub p_line : ℕ → ℕ → Bytes
p_line variables clauses = ascii "p cnf " ++ decimal variables ++ ascii " " ++ decimal clauses ++ ascii "\n"

-- A prefix line is '`a` or `e`, one or more names, `0`': universal is 1, existential 0.
abbrev pub letter : ℕ → Bytes
letter zero = ascii "e "
letter (suc k) = ascii "a "

-- What stands in front of the name of an unknown of this kind, in a block of the kind before: where the kinds differ the block ends and one begins.
abbrev pub block_change : ℕ → ℕ → Bytes
block_change before kind = cond (eqb kind before) [] (ascii "0\n" ++ letter kind)

-- An unknown in the prefix: its name behind that.
abbrev pub unknown : ℕ → ℕ → ℕ → Bytes
unknown before kind name = block_change before kind ++ decimal name ++ ascii " "

-- The unknowns of these kinds and names, a block of the kind before being open; the last block ends too.
abbrev pub blocks : ℕ → List ℕ → List ℕ → Bytes
blocks before [] names = ascii "0\n"
blocks before (k ∷ ks) [] = ascii "0\n"
blocks before (k ∷ ks) (v ∷ vs) = unknown before k v ++ blocks k ks vs

-- The prefix lines: neighbouring unknowns of one kind are one block.
abbrev pub prefix_lines : List ℕ → List ℕ → Bytes
prefix_lines [] names = []
prefix_lines (k ∷ ks) names = letter k ++ blocks k (k ∷ ks) names

-- 'A literal is a name, or a minus sign and a name': the name of its position, from 1. The closing 0 is itself.
abbrev pub literal_word : List ℕ → ℤ → Bytes
literal_word names (pos zero) = ascii "0"
literal_word names (pos (suc p)) = decimal (get_or names p 0)
literal_word names (negsuc p) = ascii "-" ++ decimal (get_or names p 0)

-- A space behind a literal, the line's end behind the closing 0.
abbrev pub word_end : ℤ → Bytes
word_end (pos zero) = ascii "\n"
word_end (pos (suc p)) = ascii " "
word_end (negsuc p) = ascii " "

-- The clause lines, '`0` alone is an empty clause'.
abbrev pub clause_lines : List ℕ → List ℤ → Bytes
clause_lines names [] = []
clause_lines names (z ∷ zs) = literal_word names z ++ word_end z ++ clause_lines names zs

-- The text of kinds, literals and names, in prefix order, with V as given; C is the number of clauses.
unfoldable pub written : List ℕ → List ℤ → List ℕ → ℕ → Bytes
written kinds literals names variables = p_line variables (zeros literals) ++ prefix_lines kinds names ++ clause_lines names literals
