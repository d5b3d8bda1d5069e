-- `cnf_text::others_behind` meets its contract. Assumes nothing.
use native.Mathlib.Omega.{arith}
use mathlib.Core.Path.{refl}
use Rattle.cnf_text.proofs.others_behind.Goals as goal

pub returns-then-own : goal.returns-then-own
returns-then-own c = rw c.if-own.true refl

pub overflow_add-result : goal.overflow_add-result
overflow_add-result c = omega (arith, c.requires)

pub returns : goal.returns
returns c = rw c.if-own.false refl
