-- `rows::stray_bit` meets its contract. The loop's invariant: no row passed has a stray bit. Assumes nothing.
use mathlib.Core.Path.{◌≡◌, sym, ap, ◌∙◌}
use mathlib.Core.Bool.{false}
use native.Mathlib.Omega.{arith}
use borrow.Author.Count.{below_none, below_more}
use Rattle.rows.specs.Stray.{stray}
use Rattle.rows.specs.Table.{row_at}
use Rattle.rows.proofs.TableLaws.{below_count, row_at_inside, no_stray_outside, none_stray_rows, found_stray_rows}
use Rattle.rows.proofs.stray_bit.Goals as goal

pub loop-i-init : goal.loop-i-init
loop-i-init c = (omega arith, below_none _)

pub overflow_mul-i : goal.overflow_mul-i
overflow_mul-i c = omega arith

pub stray_in_row-requires : goal.stray_in_row-requires
stray_in_row-requires c = omega arith

pub returns-then-stray_in_row : goal.returns-then-stray_in_row
returns-then-stray_in_row c =
    let loop = c.loop-i in
    let given = c.args in
    sym
    (found_stray_rows given.m given.count given.rows.now loop.i (omega arith)
    (ap (stray given.m) (row_at_inside given.rows.now loop.i (omega arith)) ∙ sym c.stray_in_row.ensures ∙ c.if-stray_in_row.true))

pub overflow_step-i : goal.overflow_step-i
overflow_step-i c = omega arith

pub loop-i-smaller : goal.loop-i-smaller
loop-i-smaller c = omega arith

pub loop-i-preserved : goal.loop-i-preserved
loop-i-preserved c =
    let loop = c.loop-i in
    let given = c.args in (
      omega arith,
      below_more _ _ loop.invariant.1
          (ap (stray given.m) (row_at_inside given.rows.now loop.i (omega arith)) ∙ sym c.stray_in_row.ensures ∙ c.if-stray_in_row.false),
    )

pub returns : goal.returns
returns c =
    let given = c.args in
    sym
    (none_stray_rows given.m given.count given.rows.now
    (below_count (λ q. stray given.m (row_at given.rows.now q) ≡ false) given.rows.now given.count c.loop-i.i (omega arith)
    c.loop-i.invariant.1
    (λ q h. no_stray_outside given.m given.rows.now q h)))
