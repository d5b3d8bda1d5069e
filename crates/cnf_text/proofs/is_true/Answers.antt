-- `cnf_text::is_true` meets its contract. Assumes nothing.
use mathlib.Core.Path.{refl}
use Rattle.cnf_text.proofs.is_true.Goals as goal

pub returns-then-negative : goal.returns-then-negative
returns-then-negative c = rw c.if-negative.true refl

pub returns : goal.returns
returns c = rw c.if-negative.false refl
