-- `study::trim_into` meets its contract. Assumes nothing.
use mathlib.Core.Path.{ap, ◌∙◌}
use Rattle.trimming.specs.Outcome.{used}
use Rattle.study.proofs.TurnLaws.{entries_used}
use Rattle.study.proofs.trim_into.Goals as goal

pub returns-clause-value : goal.returns-clause-value
returns-clause-value c = c.unwrap_or.ensures ∙ entries_used c.trim.result ∙ ap used c.trim.ensures.value
