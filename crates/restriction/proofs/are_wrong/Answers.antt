-- `restriction::are_wrong` meets its contract.
-- Assumes nothing.
use mathlib.Core.Path.{sym, ◌∙◌}
use lib.ListN.{length}
use borrow.Author.Tests.{lt-ltb}
use Rattle.restriction.proofs.OutcomeLaws.{too_many, as_many_or_fewer}
use Rattle.restriction.proofs.are_wrong.Goals as goal

pub returns-then-values-unknowns : goal.returns-then-values-unknowns
returns-then-values-unknowns c =
    lt-ltb c.args.unknowns (length c.args.values.now) c.if-values-unknowns.true
    ∙ sym (too_many c.args.unknowns c.args.values.now c.if-values-unknowns.true)

pub returns-else-values-unknowns : goal.returns-else-values-unknowns
returns-else-values-unknowns c =
    c.has_other.ensures ∙ sym (as_many_or_fewer c.args.unknowns c.args.values.now c.if-values-unknowns.false)
