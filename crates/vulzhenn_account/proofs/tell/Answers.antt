-- `tell` says how many bytes of the buffer were written. Assumes nothing.
use Rattle.report.proofs.Lengths.{within}
use Rattle.vulzhenn_account.proofs.tell.Goals as goal

pub returns-then-gates-eq0 : goal.returns-then-gates-eq0
returns-then-gates-eq0 c = within _ _ c.account.ensures.delivered.counted c.account.ensures.delivered.written

pub returns : goal.returns
returns c = within _ _ c.account_of_gates.ensures.delivered.counted c.account_of_gates.ensures.delivered.written
