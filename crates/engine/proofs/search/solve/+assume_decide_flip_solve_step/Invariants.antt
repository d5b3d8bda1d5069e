-- The measures of `solve`, `step`, `decide`, `flip` and `assume`, which call each other: five times the positions that are left, and at one
-- position each is called by those with a larger rest.
use Rattle.std.proofs.Common.{◌+◌, ◌*◌, ◌-◌, length}
use Rattle.engine.proofs.search.solve.+assume_decide_flip_solve_step.Given as goal

abbrev pub decreases-assume : goal.decreases-assume
decreases-assume l = 5 * (length l.kinds.now - l.k)

abbrev pub decreases-decide : goal.decreases-decide
decreases-decide l = 5 * (length l.kinds.now - l.k) + 2

abbrev pub decreases-flip : goal.decreases-flip
decreases-flip l = 5 * (length l.kinds.now - l.k) + 1

abbrev pub decreases-solve : goal.decreases-solve
decreases-solve l = 5 * (length l.kinds.now - l.k) + 4

abbrev pub decreases-step : goal.decreases-step
decreases-step l = 5 * (length l.kinds.now - l.at) + 3
