-- How long a written text is at most. Assumes nothing.
use Prim.Native.Nat.{ℕ, zero, suc, ◌+◌, ◌*◌, ◌≤◌, ◌<◌}
use native.Mathlib.Omega.{arith}
use mathlib.Core.Bool.{Bool, true, false, cond}
use mathlib.Core.List.{List, [], ◌∷◌, ◌++◌}
use lib.Dec.{eqb}
use lib.IntN.{ℤ, pos, negsuc}
use lib.ListN.{length, get_or, length-append}
use Rattle.report.specs.Report.{ascii, decimal}
use Rattle.writing.specs.Writing.{p_line, letter, unknown, blocks, prefix_lines, literal_word, word_end, clause_lines}
use Rattle.numerals.proofs.DigitLaws.{decimal_most}

-- Every name has at most five digits.
abbrev pub Small : List ℕ → Type 0
Small names = (i : ℕ) → get_or names i 0 < 100000

pub letter_most : (k : ℕ) → length (letter k) ≤ 2
letter_most zero = omega arith
letter_most (suc k) = omega arith

pub unknown_most : (before kind name : ℕ) → name < 100000 → length (unknown before kind name) ≤ 10
unknown_most before kind name small =
    go (eqb kind before)
  where
    go : (b : Bool) → length (cond b [] (ascii "0\n" ++ letter kind) ++ decimal name ++ ascii " ") ≤ 10
    go true = omega (arith, length-append (decimal name) (ascii " "), decimal_most 4 name small)
    go false =
        omega (arith, length-append (ascii "0\n" ++ letter kind ++ decimal name) (ascii " "), length-append (ascii "0\n" ++ letter kind) (decimal name), letter_most kind, decimal_most 4 name small)

pub blocks_most : (before : ℕ) (kinds names : List ℕ) → Small names → length (blocks before kinds names) ≤ 10 * length kinds + 2
blocks_most before [] names small = omega arith
blocks_most before (k ∷ ks) [] small = omega arith
blocks_most before (k ∷ ks) (v ∷ vs) small =
    omega (arith, length-append (unknown before k v) (blocks k ks vs), unknown_most before k v (small 0), blocks_most k ks vs (λ i. small (suc i)))

pub prefix_most : (kinds names : List ℕ) → Small names → length (prefix_lines kinds names) ≤ 10 * length kinds + 4
prefix_most [] names small = omega arith
prefix_most (k ∷ ks) names small =
    omega (arith, length-append (letter k) (blocks k (k ∷ ks) names), letter_most k, blocks_most k (k ∷ ks) names small)

pub word_most : (names : List ℕ) (z : ℤ) → Small names → length (literal_word names z ++ word_end z) ≤ 7
word_most names (pos zero) small = omega arith
word_most names (pos (suc p)) small = omega (arith, length-append (decimal (get_or names p 0)) (ascii " "), decimal_most 4 (get_or names p 0) (small p))
word_most names (negsuc p) small = omega (arith, length-append (decimal (get_or names p 0)) (ascii " "), decimal_most 4 (get_or names p 0) (small p))

pub clauses_most : (names : List ℕ) (literals : List ℤ) → Small names → length (clause_lines names literals) ≤ 7 * length literals
clauses_most names [] small = omega arith
clauses_most names (z ∷ zs) small =
    omega (arith, length-append (literal_word names z ++ word_end z) (clause_lines names zs), word_most names z small, clauses_most names zs small)

pub p_line_most : (variables clauses : ℕ) → variables < 100000 → clauses < 100000 → length (p_line variables clauses) ≤ 18
unfolding p_line
p_line_most variables clauses a b =
    omega (
      arith,
      length-append (ascii "p cnf " ++ decimal variables ++ ascii " " ++ decimal clauses) (ascii "\n"),
      length-append (ascii "p cnf " ++ decimal variables ++ ascii " ") (decimal clauses),
      length-append (ascii "p cnf " ++ decimal variables) (ascii " "),
      length-append (ascii "p cnf ") (decimal variables),
      decimal_most 4 variables a,
      decimal_most 4 clauses b,
    )
