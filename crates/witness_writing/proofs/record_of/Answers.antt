-- The fields of the side that settled a formula. Assumes nothing.
use mathlib.Core.Path.{refl}
use Rattle.witness_writing.proofs.record_of.Goals as goal

pub returns-then-value : goal.returns-then-value
returns-then-value c = rw c.if-value.true refl

pub returns : goal.returns
returns c = rw c.if-value.false refl
