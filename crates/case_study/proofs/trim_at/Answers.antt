-- `case_study::trim_at` meets its contract. Assumes nothing.
use mathlib.Core.Path.{sym, ap}
use mathlib.Core.Bool.{Bool, cond}
use borrow.Author.Tests.{eq-eqb, ne_eqb}
use Rattle.case_study.proofs.trim_at.Goals as goal

pub returns-then-passed-eq0 : goal.returns-then-passed-eq0
returns-then-passed-eq0 c = sym (ap (λ (b : Bool). cond b c.args.trim 0) (eq-eqb c.args.passed 0 c.if-passed-eq0.true))

pub returns : goal.returns
returns c = sym (ap (λ (b : Bool). cond b c.args.trim 0) (ne_eqb c.args.passed 0 c.if-passed-eq0.false))
