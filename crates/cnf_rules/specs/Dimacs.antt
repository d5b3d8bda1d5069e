-- How a DIMACS text is read, by its own rule: lines that begin with c are passed over; then `p cnf`, and numbers, parted by a space or a line's end:
-- the variables, the clauses, and the literals, with 0 behind each clause. Anything else is not read. Assumes nothing.
use Rattle.std.specs.Prelude.{ℕ, ◌+◌, ◌-◌, ◌*◌, Bool, true, false, cond, ◌||◌, List, [], ◌∷◌, eqb, ℤ, pos, negsuc}
use Rattle.std.proofs.Math.Option.{Option, none, some}
use Rattle.formula.specs.Formula.{Clause, clauses}
use Rattle.lines.specs.Lines.{Bytes}
use Rattle.lines.specs.Numbers.{is_digit}
use Rattle.named.specs.Named.{signed}
use Rattle.report.specs.Report.{ascii}

-- What stands from the first line on that is no comment; the flag says whether a comment line is open. Byte 99 is c, byte 10 ends a line.
abbrev pub past_comments : Bool → Bytes → Bytes
past_comments within [] = []
past_comments true (b ∷ bs) = cond (eqb b 10) (past_comments false bs) (past_comments true bs)
past_comments false (b ∷ bs) =
    let comment = past_comments true bs in
    cond (eqb b 99) comment (b ∷ bs)

-- What follows a beginning.
abbrev pub behind : Bytes → Bytes → Option Bytes
behind [] bs = some bs
behind (a ∷ as') [] = none
behind (a ∷ as') (b ∷ bs) = cond (eqb a b) (behind as' bs) none

abbrev pub in_front : ℤ → Option (List ℤ) → Option (List ℤ)
in_front z none = none
in_front z (some zs) = some (z ∷ zs)

-- The numbers. Of the one that is being read: whether it has digits yet, whether it has a minus sign (byte 45), and its value so far.
abbrev pub numbers : Bool → Bool → ℕ → Bytes → Option (List ℤ)
numbers false false v [] = some []
numbers false true v [] = none
numbers true minus v [] = some (signed minus v ∷ [])
numbers false minus v (b ∷ bs) =
    let digit = numbers true minus (v * 10 + (b - 48)) bs in
    let sign = numbers false true v bs in
    let gap = numbers false false v bs in
    cond (is_digit b) digit (cond minus none (cond (eqb b 45) sign (cond (eqb b 32 || eqb b 10) gap none)))
numbers true minus v (b ∷ bs) =
    let digit = numbers true minus (v * 10 + (b - 48)) bs in
    let ended = in_front (signed minus v) (numbers false false 0 bs) in
    cond (is_digit b) digit (cond (eqb b 32 || eqb b 10) ended none)

-- A problem: variables, clauses counted, and the clauses.
pub record Problem : Type 0 where
  pub variables : ℕ
  pub count : ℕ
  pub problem : List Clause

abbrev pub problem_of : List ℤ → Option Problem
problem_of [] = none
problem_of (v ∷ []) = none
problem_of (negsuc v ∷ k ∷ zs) = none
problem_of (pos v ∷ negsuc k ∷ zs) = none
problem_of (pos v ∷ pos k ∷ zs) = some (record { variables = v; count = k; problem = clauses zs })

abbrev pub problem_in : Option (List ℤ) → Option Problem
problem_in none = none
problem_in (some zs) = problem_of zs

abbrev pub problem_behind : Option Bytes → Option Problem
problem_behind none = none
problem_behind (some bs) = problem_in (numbers false false 0 bs)

unfoldable pub dimacs : Bytes → Option Problem
dimacs text = problem_behind (behind (ascii "p cnf ") (past_comments false text))
