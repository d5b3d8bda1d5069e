-- `search_groups::is_open` meets its contract. Assumes nothing.
use native.Mathlib.Omega.{arith}
use Rattle.search_groups.proofs.ScanLaws.{is_open_own, is_open_other}
use Rattle.search_groups.proofs.is_open.Goals as goal

pub returns-then-kinds-j : goal.returns-then-kinds-j
returns-then-kinds-j c = is_open_own _ _ _ _ _ (omega arith) (omega arith) (omega arith)

pub returns-else-kinds-j : goal.returns-else-kinds-j
returns-else-kinds-j c = is_open_other _ _ _ _ _ (λ e. omega arith)
