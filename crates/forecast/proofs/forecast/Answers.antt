-- `forecast::forecast` meets its contract. Assumes nothing.
use native.Mathlib.Omega.{arith}
use mathlib.Core.Path.{◌≡◌, refl, sym}
use borrow.Author.Rules.{rules}
use Rattle.std.specs.Prelude.{Err}
use Rattle.formula.proofs.Accepted.{accepted}
use Rattle.forecast.specs.Outcome.{given, fits}
use Rattle.forecast.proofs.OutcomeLaws.{Fitting, universals_most, formula_refused, tables_refused, tables_fit, answered}
use Rattle.forecast.proofs.forecast.Goals as goal
use Rattle.forecast.proofs.forecast.Goals.{In_ok-universals, In_ok-check_tables}

pub returns-in_err-universals : goal.returns-in_err-universals
returns-in_err-universals c =
    let g = c.args in
    let cause = c.in_err-universals.field-0.0 in
    let same : c.from_residual.result ≡ Err cause = search rules in
    rw same (record {
      proved = formula_refused (given g.kinds.now g.literals.now g.universal_rows.now g.universal g.existential_rows.now g.existential) cause
          (sym c.in_err-universals.ensures.value);
    })

pub overflow_sub-existentials : goal.overflow_sub-existentials
overflow_sub-existentials c =
    universals_most c.args.kinds.now c.args.literals.now c.in_ok-universals.field-0 (sym c.in_ok-universals.ensures.value)

pub returns-in_err-check_tables : goal.returns-in_err-check_tables
returns-in_err-check_tables c =
    let g = c.args in
    let cause = c.in_err-check_tables.field-0.0 in
    let same : c.from_residual-in_err-check_tables.result ≡ Err cause = search rules in
    rw same (record {
      proved = tables_refused (given g.kinds.now g.literals.now g.universal_rows.now g.universal g.existential_rows.now g.existential)
          c.in_ok-universals.field-0 (sym c.in_ok-universals.ensures.value) _ c.check_tables.ensures cause c.in_err-check_tables.was;
    })

-- Past both tests the counts are within the tables.
fitting : (c : In_ok-check_tables) → Fitting c.args.universal_rows.now c.args.universal c.args.existential_rows.now c.args.existential
fitting c =
    let g = c.args in
    tables_fit (given g.kinds.now g.literals.now g.universal_rows.now g.universal g.existential_rows.now g.existential)
    c.in_ok-universals.field-0 (sym c.in_ok-universals.ensures.value) _ c.check_tables.ensures _ c.in_ok-check_tables.was

pub copies-requires : goal.copies-requires
copies-requires c =
    let fit = fitting (goal.at.copies-requires c).In_ok-check_tables in
    ((accepted c.args.kinds.now c.args.literals.now (sym c.in_ok-universals.ensures.value)).few_unknowns, fit.few_universal, fit.universal)

pub copies-requires-2 : goal.copies-requires-2
copies-requires-2 c =
    let fit = fitting (goal.at.copies-requires-2 c).In_ok-check_tables in
    ((accepted c.args.kinds.now c.args.literals.now (sym c.in_ok-universals.ensures.value)).few_unknowns, fit.few_existential, fit.existential)

pub overflow_sub-result : goal.overflow_sub-result
overflow_sub-result c = omega (arith, (fitting (goal.at.overflow_sub-result c).In_ok-check_tables).existential)

pub returns : goal.returns
unfolding fits
returns c =
    let g = c.args in
    record {
      proved = answered (given g.kinds.now g.literals.now g.universal_rows.now g.universal g.existential_rows.now g.existential)
          c.in_ok-universals.field-0 (sym c.in_ok-universals.ensures.value) _ c.check_tables.ensures _ c.in_ok-check_tables.was
          c.copies.result c.copies-2.result _ c.copies.ensures c.copies-2.ensures refl;
    }
