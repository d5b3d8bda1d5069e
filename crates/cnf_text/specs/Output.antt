-- The expansion's text in parts, for all that can be lent: nothing of what the judge refuses. Assumes nothing.
use Rattle.std.specs.Prelude.{ℕ, cond, ◌&&◌, List, [], eqb, ltb, ℤ, replicate}
use Rattle.formula.specs.Formula.{work_size, prefix, clauses}
use Rattle.rows.specs.Table.{room}
use Rattle.judge.specs.Judge.{claims_true, lent_rows}
use Rattle.judge.specs.Judge as Judge
use Rattle.lines.specs.Lines.{Bytes}
use Rattle.cnf_rules.specs.Text.{part}

-- The cause for which the judge refuses a claim and all rows lent, given a work area of its size, or 0.
unfoldable pub cause : List ℕ → List ℤ → ℕ → List ℕ → ℕ
cause kinds literals claim rows = Judge.cause kinds literals claim rows (room rows) (replicate work_size 0)

-- The lines of the row at place i; nothing if there is a cause, or no such row.
unfoldable pub part_of : List ℕ → List ℤ → ℕ → List ℕ → ℕ → Bytes
part_of kinds literals claim rows i =
    let written = part (claims_true claim) (prefix kinds) (clauses literals) (lent_rows kinds claim rows (room rows)) i in
    cond (eqb (cause kinds literals claim rows) 0 && ltb i (room rows)) written []
