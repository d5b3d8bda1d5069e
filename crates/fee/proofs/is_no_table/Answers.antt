-- `fee::is_no_table` meets its contract. Assumes nothing.
use Rattle.fee.proofs.LoadLaws.{unlike, none, many, late, table}
use native.Mathlib.Omega.{arith}
use Rattle.fee.proofs.is_no_table.Goals as goal

pub returns-then-firsts-prices : goal.returns-then-firsts-prices
returns-then-firsts-prices c = unlike c.args.firsts.now c.args.prices.now (λ e. omega arith)

pub returns-then-firsts-eq0 : goal.returns-then-firsts-eq0
returns-then-firsts-eq0 c = let q = c.args in none q.firsts.now q.prices.now (omega arith)

pub returns-then-firsts-gt-BANDS : goal.returns-then-firsts-gt-BANDS
returns-then-firsts-gt-BANDS c = let q = c.args in many q.firsts.now q.prices.now (omega arith)

pub returns-then-firsts-ne1 : goal.returns-then-firsts-ne1
returns-then-firsts-ne1 c = let q = c.args in late q.firsts.now q.prices.now (λ e. omega arith)

pub returns : goal.returns
returns c =
    let q = c.args in
    table q.firsts.now q.prices.now (omega arith) (λ e. omega arith) (omega arith) (omega arith)
