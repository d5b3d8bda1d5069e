-- `cnf_text::width` meets its contract. Assumes nothing.
use native.Mathlib.Omega.{arith}
use mathlib.Core.Path.{refl}
use borrow.Author.Tests.{eq-eqb, ne_eqb}
use Rattle.cnf_text.proofs.width.Goals as goal

pub returns-then-claim-eq0 : goal.returns-then-claim-eq0
returns-then-claim-eq0 c = rw (eq-eqb c.args.claim 0 c.if-claim-eq0.true) refl

pub overflow_sub-result : goal.overflow_sub-result
overflow_sub-result c = omega (arith, c.requires)

pub returns : goal.returns
returns c = rw (ne_eqb c.args.claim 0 c.if-claim-eq0.false) refl
