-- `reply::check` meets its contract, by the cause that comes first.
-- Assumes nothing.
use Rattle.std.specs.Prelude.{◌≡◌, Err}
use mathlib.Core.Path.{sym, ◌∙◌}
use Rattle.reply.proofs.CauseLaws.{formula_refused, rows_refused, moves_refused, not_refused}
use borrow.Author.Rules.{rules}
use Rattle.reply.proofs.check.Goals as goal

pub returns-in_err-check : goal.returns-in_err-check
returns-in_err-check c =
    let given = c.args in
    let same : c.from_residual.result ≡ Err c.in_err-check.field-0.0 = search rules in
    same
    ∙ formula_refused given.kinds.now given.literals.now given.claim given.rows.now given.count given.moves.now c.in_err-check.field-0.0
    (sym c.check.ensures.value ∙ c.in_err-check.was)

pub returns-in_err-check_rows : goal.returns-in_err-check_rows
returns-in_err-check_rows c =
    let given = c.args in
    let same : c.from_residual-in_err-check_rows.result ≡ Err c.in_err-check_rows.field-0.0 = search rules in
    same
    ∙ rows_refused given.kinds.now given.literals.now given.claim given.rows.now given.count given.moves.now c.in_ok-check.field-0
    (sym c.check.ensures.value ∙ c.in_ok-check.was) (sym c.check_rows.ensures ∙ c.in_err-check_rows.was)

pub returns-then-are_wrong : goal.returns-then-are_wrong
returns-then-are_wrong c =
    let given = c.args in
    moves_refused given.kinds.now given.literals.now given.claim given.rows.now given.count given.moves.now c.in_ok-check.field-0
    (sym c.check.ensures.value ∙ c.in_ok-check.was) (sym c.check_rows.ensures ∙ c.in_ok-check_rows.was) (sym c.are_wrong.ensures ∙ c.if-are_wrong.true)

pub returns : goal.returns
returns c =
    let given = c.args in
    not_refused given.kinds.now given.literals.now given.claim given.rows.now given.count given.moves.now c.in_ok-check.field-0
    (sym c.check.ensures.value ∙ c.in_ok-check.was) (sym c.check_rows.ensures ∙ c.in_ok-check_rows.was) (sym c.are_wrong.ensures ∙ c.if-are_wrong.false)
