-- `cnf_text::number_behind` meets its contract. Assumes nothing.
use native.Mathlib.Omega.{arith}
use mathlib.Core.Path.{refl}
use borrow.Author.Tests.{eq-eqb, ne_eqb}
use Rattle.cnf_text.proofs.number_behind.Goals as goal

pub overflow_add-result : goal.overflow_add-result
overflow_add-result c = omega (arith, c.requires)

pub returns-then-name-eq0 : goal.returns-then-name-eq0
returns-then-name-eq0 c = rw (eq-eqb c.args.name 0 c.if-name-eq0.true) refl

pub returns : goal.returns
returns c = rw (ne_eqb c.args.name 0 c.if-name-eq0.false) refl
