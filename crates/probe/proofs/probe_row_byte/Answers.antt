-- `probe::probe_row_byte` meets its contract. Assumes nothing.
use Prim.Native.Nat.{ℕ}
use mathlib.Core.Path.{sym, ap, ◌∙◌}
use mathlib.Core.List.{List}
use lib.ListN.{get_or, get_or-eq_default}
use Rattle.probe.proofs.probe_row_byte.Goals as goal

pub returns-then-j-row : goal.returns-then-j-row
returns-then-j-row c = ap (λ (l : List ℕ). get_or l c.args.j 0) c.row-row.ensures.result_value

pub returns-else-j-row : goal.returns-else-j-row
returns-else-j-row c =
    sym (get_or-eq_default c.row-row.result.now 0 c.if-j-row.false)
    ∙ ap (λ (l : List ℕ). get_or l c.args.j 0) c.row-row.ensures.result_value
