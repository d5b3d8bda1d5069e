-- `door::study_formula` meets its contract, from what `decide` of a study promises. Assumes nothing.
use native.Mathlib.Omega.{arith}
use mathlib.Core.Path.{ap, ◌∙◌}
use mir.Syntax.{w32}
use borrow.Author.Rules.{Fits-under}
use Rattle.engine.specs.Numbers.{one_number}
use Rattle.study.specs.declared.Studied.{Studied}
use Rattle.door.proofs.StudyLaws.{number_fits}
use Rattle.door.proofs.study_formula.Goals as goal

pub overflow_cast-result : goal.overflow_cast-result
overflow_cast-result c = Fits-under w32 _ 4294967296 (omega (arith, c.one_number.ensures, number_fits _ _ _ c.decide-end.ensures)) tt

pub returns : goal.returns
returns c = record {
  value = c.one_number.ensures ∙ ap (λ (x : Studied). one_number x.outcome.answer) c.decide-end.ensures.result_so;
  work_after = c.decide-end.ensures.work_so;
}
