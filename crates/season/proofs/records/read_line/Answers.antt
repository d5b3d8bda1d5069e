-- The pieces are tested one by one. Assumes nothing.
use mathlib.Core.Path.{sym}
use Rattle.season.proofs.RecordLaws.{no_number, a_number, unparted, no_first, no_second, no_third, all_read}
use Rattle.season.proofs.records.read_line.Goals as goal

pub returns-in_err-a : goal.returns-in_err-a
returns-in_err-a c = rw c.from_residual.ensures (unparted _ c.in_err-a.ensures)

pub returns-in_err-answer : goal.returns-in_err-answer
returns-in_err-answer c = rw c.from_residual-in_err-answer.ensures (no_first _ c.in_ok-a.ensures (no_number _ (sym c.in_err-answer.ensures)))

pub returns-in_err-rounds : goal.returns-in_err-rounds
returns-in_err-rounds c =
    rw c.from_residual-in_err-rounds.ensures
    (no_second _ c.in_ok-a.ensures (a_number _ (sym c.in_ok-answer.ensures)).0 (no_number _ (sym c.in_err-rounds.ensures)))

pub returns-in_err-fee : goal.returns-in_err-fee
returns-in_err-fee c =
    rw c.from_residual-in_err-fee.ensures
    (no_third _ c.in_ok-a.ensures (a_number _ (sym c.in_ok-answer.ensures)).0 (a_number _ (sym c.in_ok-rounds.ensures)).0
    (no_number _ (sym c.in_err-fee.ensures)))

pub returns : goal.returns
returns c =
    let answer = a_number _ (sym c.in_ok-answer.ensures) in
    let rounds = a_number _ (sym c.in_ok-rounds.ensures) in
    let fee = a_number _ (sym c.in_ok-fee.ensures) in
    rw (← answer.1, ← rounds.1, ← fee.1) (all_read _ c.in_ok-a.ensures answer.0 rounds.0 fee.0)
