-- `cnf_text::cause` meets its contract. Assumes nothing.
use native.Mathlib.Omega.{arith}
use mathlib.Core.Path.{sym, ap, ◌∙◌}
use Rattle.cnf_text.proofs.OutputLaws.{few_universals, cause_refused, cause_accepted}
use Rattle.formula.proofs.Accepted.{accepted_sizes}
use Rattle.formula.specs.declared.Formula.{Formula}
use Rattle.cnf_text.proofs.cause.Goals as goal

pub rows_cause-requires : goal.rows_cause-requires
rows_cause-requires c = (let sized = accepted_sizes c.args.kinds.now c.args.literals.now (sym c.check.ensures.value ∙ c.in-Ok.is) in omega (arith, ap (λ (f : Formula). f.unknowns) sized, ap (λ (f : Formula). f.universals) sized, few_universals c.args.kinds.now))

pub returns-in-Err : goal.returns-in-Err
returns-in-Err c = c.number.ensures ∙ cause_refused c.args.kinds.now c.args.literals.now c.args.claim c.args.rows.now c.in-Err.cause (sym c.check.ensures.value ∙ c.in-Err.is)

pub returns-in-Ok : goal.returns-in-Ok
returns-in-Ok c = c.rows_cause.ensures ∙ cause_accepted c.args.kinds.now c.args.literals.now c.args.claim c.args.rows.now c.in-Ok.sizes (sym c.check.ensures.value ∙ c.in-Ok.is)
