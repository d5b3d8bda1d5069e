-- `door::decide` meets its contract, from what `decision::decide` promises. Assumes nothing.
use native.Mathlib.Omega.{arith}
use mathlib.Core.Path.{ap, ◌∙◌}
use mir.Syntax.{w32}
use borrow.Author.Rules.{Fits-under}
use Rattle.engine.specs.declared.run.Outcome.{Outcome}
use Rattle.engine.specs.Numbers.{one_number}
use Rattle.door.proofs.DoorLaws.{returned_small}
use Rattle.door.proofs.decide.Goals as goal

pub overflow_cast-result : goal.overflow_cast-result
overflow_cast-result c = Fits-under w32 _ 4294967296 (omega (arith, c.one_number.ensures, returned_small _ c.decide_formula-end.ensures.returned)) tt

pub returns : goal.returns
returns c = record {
  value = c.one_number.ensures ∙ ap (λ (o : Outcome). one_number o.answer) c.decide_formula-end.ensures.returned;
  work_after = c.decide_formula-end.ensures.left;
}
