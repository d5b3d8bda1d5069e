-- `settled` meets its contract, from what `decide`, `number` and `study_result` promise. Assumes nothing.
use native.Mathlib.Omega.{arith}
use mathlib.Core.Path.{ap, ◌∙◌}
use mir.Syntax.{w32}
use borrow.Author.Rules.{Fits-under}
use Rattle.report.specs.Report.{put, put_count}
use Rattle.study_answer.proofs.HouseLaws.{few_settings}
use Rattle.study_answer.proofs.AnswerLaws.{answered_so, settles_so, lines_so}
use Rattle.study_answer.proofs.settled.Goals as goal

pub overflow_cast-end : goal.overflow_cast-end
overflow_cast-end c = Fits-under w32 _ 4294967296 (omega (arith, few_settings (answered_so c.args.kinds.now c.args.literals.now c.requires c.decide-end.ensures))) tt

pub overflow_add-end : goal.overflow_add-end
overflow_add-end c = omega (arith, few_settings (answered_so c.args.kinds.now c.args.literals.now c.requires c.decide-end.ensures))

pub overflow_cast-outcome : goal.overflow_cast-outcome
overflow_cast-outcome c = Fits-under w32 _ 4294967296 (omega (arith, (answered_so c.args.kinds.now c.args.literals.now c.requires c.decide-end.ensures).few_universal)) tt

pub overflow_cast-outcome-2 : goal.overflow_cast-outcome-2
overflow_cast-outcome-2 c = Fits-under w32 _ 4294967296 (omega (arith, (answered_so c.args.kinds.now c.args.literals.now c.requires c.decide-end.ensures).few_existential)) tt

pub returns : goal.returns
returns c =
    let d = c.decide-end in
    let lines = lines_so c.args.kinds.now c.args.literals.now c.requires d.ensures c.args.variables c.args.clauses c.number.ensures in record {
      value = c.study_result.ensures.value ∙ ap (λ bytes. put_count bytes c.args.out.now) lines;
      out_after = c.study_result.ensures.out_after ∙ ap (λ bytes. put bytes c.args.out.now) lines;
      settles = settles_so c.args.kinds.now c.args.literals.now c.requires d.ensures;
    }
