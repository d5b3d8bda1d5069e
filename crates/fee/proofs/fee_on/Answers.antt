-- `fee::fee_on` meets its contract. Assumes nothing.
use native.Mathlib.Omega.{arith}
use Rattle.std.specs.Prelude.{Ok}
use mathlib.Core.Path.{sym, ap, ◌∙◌}
use Rattle.fee.specs.Rounding.{nearest_even}
use Rattle.fee.specs.Fee.{risen, fee_on}
use Rattle.fee.proofs.ChangeLaws.{changes_few}
use Rattle.fee.proofs.AnswerLaws.{few_kinds}
use borrow.Author.Rules.{rules}
use Rattle.fee.proofs.fee_on.Goals as goal

pub returns-then-is_refused : goal.returns-then-is_refused
returns-then-is_refused c = rw (sym c.is_refused.ensures ∙ c.if-is_refused.true)

pub risen-requires : goal.risen-requires
risen-requires c =
    let kinds = c.args.kinds.now in
    let passes = sym c.is_refused.ensures ∙ c.if-is_refused.false in
    (search rules, omega (arith, c.changes.ensures, changes_few kinds (few_kinds kinds passes)))

pub returns : goal.returns
unfolding fee_on
returns c =
    let sum = c.args.sum in
    let passes = sym c.is_refused.ensures ∙ c.if-is_refused.false in
    rw passes (ap Ok (c.rounded.ensures ∙ ap nearest_even (c.risen.ensures ∙ ap (risen sum) c.changes.ensures)))
