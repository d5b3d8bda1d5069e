-- `fee::is_refused` meets its contract. Assumes nothing.
use mathlib.Core.Path.{ap, ◌∙◌}
use Rattle.std.specs.Result.{is_err}
use Rattle.fee.proofs.AnswerLaws.{kinds_alone}
use Rattle.fee.proofs.is_refused.Goals as goal

pub returns : goal.returns
returns c = c.is_err.ensures.value ∙ ap is_err c.check.ensures.value ∙ kinds_alone c.args.kinds.now
