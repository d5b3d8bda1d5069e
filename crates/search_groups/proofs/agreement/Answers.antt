-- `search_groups::agreement` meets its contract. Assumes nothing.
use native.Mathlib.Omega.{arith}
use Rattle.search_groups.proofs.ScanLaws.{agreement_none, agreement_is}
use Rattle.search_groups.proofs.agreement.Goals as goal

pub returns-then-differences-i : goal.returns-then-differences-i
returns-then-differences-i c = agreement_none _ _ _ (λ high other. omega arith)

pub returns-then-i-from : goal.returns-then-i-from
returns-then-i-from c = agreement_none _ _ _ (λ high other. other (omega arith))

pub returns : goal.returns
returns c = rw c.from.ensures (agreement_is _ _ _ (omega arith) (λ e. omega arith))
