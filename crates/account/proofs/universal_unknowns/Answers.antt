-- `universal_unknowns` meets its contract: `check` accepts, and counts them. Assumes nothing.
use mathlib.Core.Path.{sym, ◌∙◌}
use Rattle.account.proofs.AccountLaws.{universals_so, never_refused}
use Rattle.account.proofs.universal_unknowns.Goals as goal

pub returns-in-Ok : goal.returns-in-Ok
returns-in-Ok c = universals_so c.args.kinds.now c.args.literals.now (sym c.check.ensures.value ∙ c.in-Ok.is)

pub returns-in-Err : goal.returns-in-Err
returns-in-Err c = absurd (never_refused c.requires (sym c.check.ensures.value ∙ c.in-Err.is))
