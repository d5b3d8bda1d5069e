-- `trimming::trim` meets its contract.
-- Assumes nothing.
use Prim.Native.Nat.{ℕ}
use Rattle.std.specs.Prelude.{Result, Err}
use Rattle.cause.specs.declared.Cause.{Cause}
use mathlib.Core.Path.{◌≡◌, sym, ◌∙◌, subst}
use Rattle.formula.proofs.Accepted.{accepted}
use Rattle.trimming.proofs.OutcomeLaws.{End, formula_refused, output_refused, answered}
use borrow.Author.Rules.{rules}
use Rattle.trimming.proofs.trim.Goals as goal

pub returns-in_err-check : goal.returns-in_err-check
returns-in_err-check c =
    let given = c.args in
    let same : c.from_residual.result ≡ Err c.in_err-check.field-0.0 = search rules in
    let both = subst (λ (r : Result ℕ Cause). End given.kinds.now given.literals.now given.output.now r given.output.now) (sym same)
    (formula_refused given.kinds.now given.literals.now given.output.now c.in_err-check.field-0.0 (sym c.check.ensures.value ∙ c.in_err-check.was)) in
    record { value = both.0; output_after = both.1.0; result_value = both.1.1.0; proved = both.1.1.1 }

pub returns-then-output-literals : goal.returns-then-output-literals
returns-then-output-literals c =
    let given = c.args in
    let checked = sym c.check.ensures.value ∙ c.in_ok-check.was in
    let both = output_refused given.kinds.now given.literals.now given.output.now c.in_ok-check.field-0 checked c.if-output-literals.true in
    record { value = both.0; output_after = both.1.0; result_value = both.1.1.0; proved = both.1.1.1 }

pub over_output-requires : goal.over_output-requires
over_output-requires c =
    (accepted c.args.kinds.now c.args.literals.now (sym c.check.ensures.value ∙ c.in_ok-check.was), c.if-output-literals.false)

pub returns : goal.returns
returns c =
    let given = c.args in
    let trimming = c.over_output in
    let checked = sym c.check.ensures.value ∙ c.in_ok-check.was in
    let both = answered given.kinds.now given.literals.now given.output.now c.in_ok-check.field-0 checked c.if-output-literals.false
    trimming.result trimming.new.output trimming.ensures.value trimming.ensures.output_after in
    record { value = both.0; output_after = both.1.0; result_value = both.1.1.0; proved = both.1.1.1 }
