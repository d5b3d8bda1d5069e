-- `restriction::set_first` meets its contract.
-- Assumes nothing.
use Prim.Native.Nat.{ℕ}
use Rattle.std.specs.Prelude.{Result, Err}
use Rattle.cause.specs.declared.Cause.{Cause}
use native.Mathlib.Omega.{arith}
use mathlib.Core.Path.{◌≡◌, sym, ◌∙◌, subst}
use lib.ListN.{length}
use Rattle.formula.proofs.Accepted.{accepted}
use Rattle.restriction.proofs.OutcomeLaws.{End, few_values, formula_refused, output_refused, values_refused, answered}
use borrow.Author.Rules.{rules}
use Rattle.restriction.proofs.set_first.Goals as goal

pub returns-in_err-check : goal.returns-in_err-check
returns-in_err-check c =
    let given = c.args in
    let same : c.from_residual.result ≡ Err c.in_err-check.field-0.0 = search rules in
    let both = subst (λ (r : Result ℕ Cause). End given.kinds.now given.literals.now given.values.now given.output.now r given.output.now) (sym same)
    (formula_refused given.kinds.now given.literals.now given.values.now given.output.now c.in_err-check.field-0.0
    (sym c.check.ensures.value ∙ c.in_err-check.was)) in
    record { value = both.0; output_after = both.1.0; result_value = both.1.1.0; restricted_right = both.1.1.1 }

pub returns-then-output-literals : goal.returns-then-output-literals
returns-then-output-literals c =
    let given = c.args in
    let both = output_refused given.kinds.now given.literals.now given.values.now given.output.now c.in_ok-check.field-0
    (sym c.check.ensures.value ∙ c.in_ok-check.was) c.if-output-literals.true in
    record { value = both.0; output_after = both.1.0; result_value = both.1.1.0; restricted_right = both.1.1.1 }

pub returns-then-are_wrong : goal.returns-then-are_wrong
returns-then-are_wrong c =
    let given = c.args in
    let both = values_refused given.kinds.now given.literals.now given.values.now given.output.now c.in_ok-check.field-0
    (sym c.check.ensures.value ∙ c.in_ok-check.was) c.if-output-literals.false
    (sym c.are_wrong.ensures ∙ c.if-are_wrong.true) in
    record { value = both.0; output_after = both.1.0; result_value = both.1.1.0; restricted_right = both.1.1.1 }

pub write_left-requires : goal.write_left-requires
write_left-requires c =
    let given = c.args in
    let fine = accepted given.kinds.now given.literals.now (sym c.check.ensures.value ∙ c.in_ok-check.was) in
    let few = fine.few_unknowns in
    let good = few_values (length given.kinds.now) given.values.now (sym c.are_wrong.ensures ∙ c.if-are_wrong.false) in
    (λ i. let near = fine.within i in omega arith, c.if-output-literals.false, omega arith)

pub returns : goal.returns
returns c =
    let given = c.args in
    let good = sym c.are_wrong.ensures ∙ c.if-are_wrong.false in
    let left = c.write_left in
    let both = answered given.kinds.now given.literals.now given.values.now given.output.now c.in_ok-check.field-0
    (sym c.check.ensures.value ∙ c.in_ok-check.was)
    c.if-output-literals.false good left.result _ left.ensures.value left.ensures.output_after in
    record { value = both.0; output_after = both.1.0; result_value = both.1.1.0; restricted_right = both.1.1.1 }
