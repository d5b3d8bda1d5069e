-- `probe::witness_file::probe_witness_rows_byte` meets its contract. Assumes nothing.
use Prim.Native.Nat.{ℕ}
use mathlib.Core.Path.{sym, ap, ◌∙◌}
use mathlib.Core.List.{List}
use lib.ListN.{get_or, get_or-eq_default}
use Rattle.probe.proofs.witness_file.probe_witness_rows_byte.Goals as goal

pub returns-then-j-rows : goal.returns-then-j-rows
returns-then-j-rows c = ap (λ (l : List ℕ). get_or l c.args.j 0) c.rows-rows.ensures.result_value

pub returns-else-j-rows : goal.returns-else-j-rows
returns-else-j-rows c =
    sym (get_or-eq_default c.rows-rows.result.now 0 c.if-j-rows.false)
    ∙ ap (λ (l : List ℕ). get_or l c.args.j 0) c.rows-rows.ensures.result_value
