-- `run::last_place` meets its contract. Assumes nothing.
use native.Mathlib.Omega.{arith}
use Rattle.engine.proofs.run.last_place.Goals as goal

pub returns-then-count-eq0 : goal.returns-then-count-eq0
returns-then-count-eq0 c = omega arith

pub overflow_sub-result : goal.overflow_sub-result
overflow_sub-result c = omega arith

pub returns : goal.returns
returns c = omega arith
