-- `search_groups::repeats` meets its contract. Assumes nothing.
use native.Mathlib.Omega.{arith}
use Rattle.search_groups.proofs.ScanLaws.{is_repeated_past, is_repeated_is}
use Rattle.search_groups.proofs.repeats.Goals as goal

pub returns-then-codes-start : goal.returns-then-codes-start
returns-then-codes-start c = is_repeated_past _ _ _ (omega arith)

pub returns : goal.returns
returns c = rw c.from.ensures (is_repeated_is _ _ _ (omega arith))
