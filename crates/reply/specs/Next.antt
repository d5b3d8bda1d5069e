-- The reply to moves, for everything that is lent: the judge's causes of the formula and the rows (the work area is not lent, so there is no 5), then 27
-- for wrong moves, then whose turn it is, then the value. Assumes nothing.
use Rattle.std.specs.Prelude.{ℕ, Bool, not, ◌||◌, cond, List, eqb, ltb, ℤ, length, Result}
use Rattle.std.proofs.Math.Option.{Option, none, some}
use Rattle.cause.specs.declared.Cause.{Cause}
use Rattle.cause.specs.Cause.{unless_cause}
use Rattle.rows.specs.Table.{room, table_fits}
use Rattle.rows.specs.Stray.{stray_rows}
use Rattle.judge.specs.Judge.{claims_true, other_claim, width, lent_rows}
use Rattle.restriction.specs.Outcome.{values_of, formula_cause, wrong_values}
use Rattle.reply_rules.specs.Position.{Turn, winners, others, none_left, turn, reply_value}
use Rattle.reply.specs.declared.Next.{Next}
use Rattle.reply.specs.declared.Next.TheVariants.{Value, OthersTurn, Done, NotBorneOut}

-- 4 of the row table, 7 for 'claim not 0 or 1, or count over the rows lent', 8 for 'in a row below the count, a bit set beyond its unknowns'; or 0.
unfoldable pub rows_cause : List ℕ → ℕ → List ℕ → ℕ → ℕ
rows_cause kinds claim rows count =
    cond (not (table_fits rows)) 4 (cond (other_claim claim || ltb (room rows) count) 7 (cond (stray_rows (width kinds claim) count rows) 8 0))

-- The number of the first cause that applies, or 0: 1 to 3 of the formula, those of the rows, 27 for more moves than unknowns or one that is
-- neither 0 nor 1.
unfoldable pub cause : List ℕ → List ℤ → ℕ → List ℕ → ℕ → List ℕ → ℕ
cause kinds literals claim rows count moves =
    let of_moves : ℕ = cond (wrong_values (length kinds) moves) 27 0 in
    let of_rows : ℕ = rows_cause kinds claim rows count in
    let of_formula : ℕ = formula_cause kinds literals in
    cond (eqb of_formula 0) (cond (eqb of_rows 0) of_moves of_rows) of_formula

-- The value that is replied, or none.
abbrev pub as_value : Option Bool → Next
as_value (some v) = Value v
as_value none = NotBorneOut

abbrev pub at_turn : Turn → Option Bool → Next
at_turn winners value = as_value value
at_turn others value = OthersTurn
at_turn none_left value = Done

abbrev pub answered : List ℕ → List ℤ → ℕ → List ℕ → ℕ → List ℕ → Next
answered kinds literals claim rows count moves =
    at_turn (turn (claims_true claim) kinds (values_of moves))
    (reply_value (claims_true claim) kinds literals (lent_rows kinds claim rows count) (values_of moves))

-- The answer, or the cause.
unfoldable pub next : List ℕ → List ℤ → ℕ → List ℕ → ℕ → List ℕ → Result Next Cause
next kinds literals claim rows count moves =
    unless_cause (cause kinds literals claim rows count moves) (answered kinds literals claim rows count moves)
