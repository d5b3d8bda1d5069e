-- Expansions worked by hand. Assumes nothing.
use Rattle.std.specs.Prelude.{◌≡◌, true, false, [], ◌∷◌, pos, negsuc}
use Rattle.std.proofs.Math.Option.{none}
use Rattle.formula.specs.Formula.{existential, universal}
use Rattle.report.specs.Report.{ascii}
use Rattle.cnf_rules.specs.Clauses.{expansion}
use Rattle.cnf_rules.specs.Text.{text}
use Rattle.cnf_rules.specs.Dimacs.{dimacs}

pub record ExpansionsWorked : Type 0 where
  -- K12, kinds 1, 0, 1, 0, clauses `1 2 4`, `-1 -2 4`, `3 -4`, over the universal rows 10, 11, 01: `-2 4`, `-4`, `-2 132`, `258 260`. The second row
  -- has the first one's copy at position 2, and its own at position 4.
  pub k12 :
      expansion false
      (universal ∷ existential ∷ universal ∷ existential ∷ [])
      ((pos 1 ∷ pos 2 ∷ pos 4 ∷ []) ∷ (negsuc 0 ∷ negsuc 1 ∷ pos 4 ∷ []) ∷ (pos 3 ∷ negsuc 3 ∷ []) ∷ [])
      ((true ∷ false ∷ []) ∷ (true ∷ true ∷ []) ∷ (false ∷ true ∷ []) ∷ [])
      ≡ ((negsuc 1 ∷ pos 4 ∷ []) ∷ (negsuc 3 ∷ []) ∷ (negsuc 1 ∷ pos 132 ∷ []) ∷ (pos 258 ∷ pos 260 ∷ []) ∷ [])
  -- .. and over the existential rows 10, 01, 00, of which the first two part at position 3; the further variables begin at 385.
  pub k12_existential :
      expansion true
      (universal ∷ existential ∷ universal ∷ existential ∷ [])
      ((pos 1 ∷ pos 2 ∷ pos 4 ∷ []) ∷ (negsuc 0 ∷ negsuc 1 ∷ pos 4 ∷ []) ∷ (pos 3 ∷ negsuc 3 ∷ []) ∷ [])
      ((true ∷ false ∷ []) ∷ (false ∷ true ∷ []) ∷ (false ∷ false ∷ []) ∷ [])
      ≡ (
      (negsuc 385 ∷ pos 1 ∷ [])
      ∷ (pos 386 ∷ [])
      ∷ (negsuc 389 ∷ negsuc 130 ∷ [])
      ∷ (pos 390 ∷ [])
      ∷ (negsuc 390 ∷ negsuc 0 ∷ [])
      ∷ (pos 391 ∷ [])
      ∷ []
      )
  -- A literal twice, and with its opposite, is written as it stands; a clause of the row's true literals alone is left out.
  pub repeated :
      expansion false
      (universal ∷ existential ∷ [])
      ((pos 2 ∷ pos 2 ∷ negsuc 1 ∷ []) ∷ (pos 1 ∷ pos 1 ∷ []) ∷ [])
      ((true ∷ []) ∷ [])
      ≡ ((pos 2 ∷ pos 2 ∷ negsuc 1 ∷ []) ∷ [])
  -- An empty clause is the empty clause for claim 0, and for claim 1 one that is always false.
  pub empty_clause_0 : expansion false (universal ∷ []) ([] ∷ []) ((true ∷ []) ∷ []) ≡ ([] ∷ [])
  pub empty_clause_1 : expansion true (universal ∷ []) ([] ∷ []) ([] ∷ []) ≡ ((pos 129 ∷ []) ∷ [])
  -- A row that leaves no clause: the empty clause, so a claim of truth is then borne out by one row; and no rows leave nothing to satisfy.
  pub no_clause : expansion true (universal ∷ []) [] ([] ∷ []) ≡ ([] ∷ [])
  pub no_rows : expansion true (universal ∷ []) ([] ∷ []) [] ≡ []
  -- K1: `a 1 0`, `e 2 0`, `1 2 0`, `-1 -2 0` is true, and the existential rows 0 and 1 bear it out. The universal unknown has one copy, 1; row 0 has
  -- the further variables 257 and 258, row 1 has 259 and 260.
  pub k1 :
      text true
      (universal ∷ existential ∷ [])
      ((pos 1 ∷ pos 2 ∷ []) ∷ (negsuc 0 ∷ negsuc 1 ∷ []) ∷ [])
      ((false ∷ []) ∷ (true ∷ []) ∷ [])
      (1 ∷ 2 ∷ [])
      ≡ ascii
      "c claim 1, that the formula is true: unsatisfiable exactly if these rows bear it out\nc variable 128 r + p: the unknown at position p of the prefix, after the values that row r has before it\nc variable 128 R + C r + j, of R rows and C clauses: clause j of the formula is false in row r\nc unknowns 1 2\nc row 0 0\nc row 1 1\np cnf 260 4\n-257 -1 0\n257 0\n-260 1 0\n260 0\n"
  -- K2: the same with `e 2 0` in front is false, and the universal rows 0 and 1 bear it out.
  pub k2 :
      text false
      (existential ∷ universal ∷ [])
      ((pos 2 ∷ pos 1 ∷ []) ∷ (negsuc 1 ∷ negsuc 0 ∷ []) ∷ [])
      ((false ∷ []) ∷ (true ∷ []) ∷ [])
      (2 ∷ 1 ∷ [])
      ≡ ascii
      "c claim 0, that the formula is false: unsatisfiable exactly if these rows bear it out\nc variable 128 r + p: the unknown at position p of the prefix, after the values that row r has before it\nc unknowns 2 1\nc row 0 0\nc row 1 1\np cnf 256 2\n1 0\n-1 0\n"
  -- What is no DIMACS text: a minus sign behind a digit, a word.
  pub no_number : dimacs (ascii "p cnf 1 1\n1-1 0\n") ≡ none
  pub no_word : dimacs (ascii "p cnf 1 1\n1 x 0\n") ≡ none
