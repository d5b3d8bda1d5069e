-- `decided` meets its contract, from what `decide`, `number` and `result` promise. Assumes nothing.
use native.Mathlib.Omega.{arith}
use mathlib.Core.Path.{ap, ◌∙◌}
use mir.Syntax.{w32}
use borrow.Author.Rules.{Fits-under}
use Rattle.report.specs.Report.{put, put_count}
use Rattle.answer.proofs.AnswerLaws.{zero_left, universal_few, existential_few, lines_so}
use Rattle.answer.proofs.decided.Goals as goal

pub overflow_cast-end : goal.overflow_cast-end
overflow_cast-end c = Fits-under w32 _ 4294967296 (omega (arith, universal_few c.args.kinds.now c.args.literals.now c.args.work.now c.requires.0 c.requires.1 c.decide_formula-end.ensures.returned)) tt

pub overflow_cast-end-2 : goal.overflow_cast-end-2
overflow_cast-end-2 c = Fits-under w32 _ 4294967296 (omega (arith, existential_few c.args.kinds.now c.args.literals.now c.args.work.now c.requires.0 c.requires.1 c.decide_formula-end.ensures.returned)) tt

pub returns : goal.returns
returns c =
    let lines = lines_so c.args.kinds.now c.args.literals.now c.args.work.now c.requires.0 c.requires.1 c.decide_formula-end.ensures.returned c.args.variables c.args.clauses c.number.ensures in
    record {
      counted = c.result.ensures.value ∙ ap (λ bytes. put_count bytes c.args.out.now) lines;
      written = c.result.ensures.out_after ∙ ap (λ bytes. put bytes c.args.out.now) lines;
      left_so = c.decide_formula-end.ensures.left ∙ zero_left c.args.kinds.now c.args.literals.now c.args.work.now c.requires.0 c.requires.1;
    }
