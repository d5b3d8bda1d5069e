-- `reply::next_move` meets its contract, case by case.
-- Assumes nothing.
use Rattle.std.specs.Prelude.{◌≡◌, Err}
use mathlib.Core.Path.{sym, ◌∙◌}
use lib.ListN.{length}
use Rattle.reply.proofs.CauseLaws.{none_applies, not_refused_lent}
use Rattle.reply.proofs.NextLaws.{still_more, is_refused, is_done, is_others, is_true, is_false, is_neither}
use Rattle.reply.proofs.NextRight.{promised}
use native.Mathlib.Omega.{arith}
use borrow.Author.Rules.{rules}
use Rattle.reply.proofs.next_move.Goals as goal

pub returns-in_err-check : goal.returns-in_err-check
returns-in_err-check c =
    let given = c.args in
    let same : c.from_residual.result ≡ Err c.in_err-check.field-0.0 = search rules in
    let all = promised given.kinds.now given.literals.now given.claim given.rows.now given.count given.moves.now
    (same ∙ is_refused given.kinds.now given.literals.now given.claim given.rows.now given.count given.moves.now (sym c.check.ensures ∙ c.in_err-check.was)) in
    record { value = all.0; cause_told = all.1.0; proved = all.1.1 }

pub returns-then-depth-kinds : goal.returns-then-depth-kinds
returns-then-depth-kinds c =
    let given = c.args in
    let none = none_applies _ tt (sym c.check.ensures ∙ c.in_ok-check.was) in
    let all = promised given.kinds.now given.literals.now given.claim given.rows.now given.count given.moves.now
    (is_done given.kinds.now given.literals.now given.claim given.rows.now given.count given.moves.now none c.if-depth-kinds.true) in
    record { value = all.0; cause_told = all.1.0; proved = all.1.1 }

pub bounds-kinds-depth : goal.bounds-kinds-depth
bounds-kinds-depth c =
    let given = c.args in
    let none = none_applies _ tt (sym c.check.ensures ∙ c.in_ok-check.was) in
    let lent = not_refused_lent given.kinds.now given.literals.now given.claim given.rows.now given.count given.moves.now none in
    still_more (length given.kinds.now) given.moves.now lent.1 c.if-depth-kinds.false

pub returns-then-not-is_winners : goal.returns-then-not-is_winners
returns-then-not-is_winners c =
    let given = c.args in
    let none = none_applies _ tt (sym c.check.ensures ∙ c.in_ok-check.was) in
    let lent = not_refused_lent given.kinds.now given.literals.now given.claim given.rows.now given.count given.moves.now none in
    let more = still_more (length given.kinds.now) given.moves.now lent.1 c.if-depth-kinds.false in
    let all = promised given.kinds.now given.literals.now given.claim given.rows.now given.count given.moves.now
    (is_others given.kinds.now given.literals.now given.claim given.rows.now given.count given.moves.now none more (search rules)) in
    record { value = all.0; cause_told = all.1.0; proved = all.1.1 }

pub is_borne_out_with-requires : goal.is_borne_out_with-requires
is_borne_out_with-requires c =
    let given = c.args in
    let none = none_applies _ tt (sym c.check.ensures ∙ c.in_ok-check.was) in
    let lent = not_refused_lent given.kinds.now given.literals.now given.claim given.rows.now given.count given.moves.now none in
    let more = still_more (length given.kinds.now) given.moves.now lent.1 c.if-depth-kinds.false in
    (lent.0, lent.1, more, omega arith)

pub returns-then-is_borne_out_with : goal.returns-then-is_borne_out_with
returns-then-is_borne_out_with c =
    let given = c.args in
    let none = none_applies _ tt (sym c.check.ensures ∙ c.in_ok-check.was) in
    let lent = not_refused_lent given.kinds.now given.literals.now given.claim given.rows.now given.count given.moves.now none in
    let more = still_more (length given.kinds.now) given.moves.now lent.1 c.if-depth-kinds.false in
    let all = promised given.kinds.now given.literals.now given.claim given.rows.now given.count given.moves.now
    (is_true given.kinds.now given.literals.now given.claim given.rows.now given.count given.moves.now none more (search rules)
    c.is_borne_out_with.result c.is_borne_out_with.ensures c.if-is_borne_out_with.true) in
    record { value = all.0; cause_told = all.1.0; proved = all.1.1 }

pub is_borne_out_with-requires-2 : goal.is_borne_out_with-requires-2
is_borne_out_with-requires-2 c =
    let given = c.args in
    let none = none_applies _ tt (sym c.check.ensures ∙ c.in_ok-check.was) in
    let lent = not_refused_lent given.kinds.now given.literals.now given.claim given.rows.now given.count given.moves.now none in
    let more = still_more (length given.kinds.now) given.moves.now lent.1 c.if-depth-kinds.false in
    (lent.0, lent.1, more, omega arith)

pub returns-then-is_borne_out_with-2 : goal.returns-then-is_borne_out_with-2
returns-then-is_borne_out_with-2 c =
    let given = c.args in
    let none = none_applies _ tt (sym c.check.ensures ∙ c.in_ok-check.was) in
    let lent = not_refused_lent given.kinds.now given.literals.now given.claim given.rows.now given.count given.moves.now none in
    let more = still_more (length given.kinds.now) given.moves.now lent.1 c.if-depth-kinds.false in
    let all = promised given.kinds.now given.literals.now given.claim given.rows.now given.count given.moves.now
    (is_false given.kinds.now given.literals.now given.claim given.rows.now given.count given.moves.now none more (search rules)
    c.is_borne_out_with.result c.is_borne_out_with.ensures c.if-is_borne_out_with.false c.is_borne_out_with-2.result c.is_borne_out_with-2.ensures
    c.if-is_borne_out_with-2.true) in
    record { value = all.0; cause_told = all.1.0; proved = all.1.1 }

pub returns : goal.returns
returns c =
    let given = c.args in
    let none = none_applies _ tt (sym c.check.ensures ∙ c.in_ok-check.was) in
    let lent = not_refused_lent given.kinds.now given.literals.now given.claim given.rows.now given.count given.moves.now none in
    let more = still_more (length given.kinds.now) given.moves.now lent.1 c.if-depth-kinds.false in
    let all = promised given.kinds.now given.literals.now given.claim given.rows.now given.count given.moves.now
    (is_neither given.kinds.now given.literals.now given.claim given.rows.now given.count given.moves.now none more (search rules)
    c.is_borne_out_with.result c.is_borne_out_with.ensures c.if-is_borne_out_with.false c.is_borne_out_with-2.result c.is_borne_out_with-2.ensures
    c.if-is_borne_out_with-2.false) in
    record { value = all.0; cause_told = all.1.0; proved = all.1.1 }
