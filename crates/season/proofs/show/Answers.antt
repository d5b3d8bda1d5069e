-- `season::show` meets its contract: each case prints its own lines. Assumes nothing.
use Rattle.season.specs.Text.{summary_lines}
use Rattle.season.proofs.show.Goals as goal

pub returns-in-Err-clause-value : goal.returns-in-Err-clause-value
unfolding summary_lines
returns-in-Err-clause-value c = rw (c.in-Err.is, ← c.number.ensures) (c.refusal.ensures.value)

pub returns-in-Err-clause-out_after : goal.returns-in-Err-clause-out_after
unfolding summary_lines
returns-in-Err-clause-out_after c = rw (c.in-Err.is, ← c.number.ensures) (c.refusal.ensures.out_after)

pub returns-in-Ok-clause-value : goal.returns-in-Ok-clause-value
unfolding summary_lines
returns-in-Ok-clause-value c = rw c.in-Ok.is (c.page.ensures.value)

pub returns-in-Ok-clause-out_after : goal.returns-in-Ok-clause-out_after
unfolding summary_lines
returns-in-Ok-clause-out_after c = rw c.in-Ok.is (c.page.ensures.out_after)
