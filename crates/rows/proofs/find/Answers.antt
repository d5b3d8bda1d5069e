-- `rows::find` meets its contract. The loop's invariant: no row passed is equal. Assumes nothing.
use mathlib.Core.Path.{◌≡◌, sym, ◌∙◌}
use mathlib.Core.Bool.{false}
use native.Mathlib.Omega.{arith}
use borrow.Author.Count.{below_none, below_more}
use Rattle.rows.specs.Access.{equal_rows}
use Rattle.rows.proofs.TableLaws.{below_count}
use Rattle.rows.proofs.FindLaws.{equal_rows_inside, equal_rows_outside, equal_rows_other_outside, first_place_found, first_place_none}
use Rattle.rows.proofs.find.Goals as goal

pub returns-then-other-j : goal.returns-then-other-j
returns-then-other-j c =
    let given = c.args in
    sym
    (first_place_none given.rows.now given.count given.other.now given.j
    (λ q h. equal_rows_other_outside given.rows.now q given.other.now given.j c.if-other-j.true))

pub loop-i-init : goal.loop-i-init
loop-i-init c = (below_none _, omega arith)

pub overflow_mul-i : goal.overflow_mul-i
overflow_mul-i c = omega arith

pub overflow_mul-j : goal.overflow_mul-j
overflow_mul-j c = omega arith

pub same_row-requires : goal.same_row-requires
same_row-requires c = omega arith

pub returns-then-same_row : goal.returns-then-same_row
returns-then-same_row c =
    let given = c.args in
    let loop = c.loop-i in
    sym
    (first_place_found given.rows.now given.count given.other.now given.j loop.i (omega arith)
    (equal_rows_inside given.rows.now loop.i given.other.now given.j (omega arith) c.if-other-j.false
    ∙ sym c.same_row.ensures
    ∙ c.if-same_row.true)
    loop.invariant.0)

pub overflow_step-i : goal.overflow_step-i
overflow_step-i c = omega arith

pub loop-i-smaller : goal.loop-i-smaller
loop-i-smaller c = omega arith

pub loop-i-preserved : goal.loop-i-preserved
loop-i-preserved c =
    let loop = c.loop-i in
    let given = c.args in (
      below_more _ _ loop.invariant.0
          (equal_rows_inside given.rows.now loop.i given.other.now given.j (omega arith) c.if-other-j.false
          ∙ sym c.same_row.ensures
          ∙ c.if-same_row.false),
      omega arith,
    )

pub returns : goal.returns
returns c =
    let given = c.args in
    sym
    (first_place_none given.rows.now given.count given.other.now given.j
    (below_count (λ q. equal_rows given.rows.now q given.other.now given.j ≡ false) given.rows.now given.count c.loop-i.i
    (omega arith)
    c.loop-i.invariant.0
    (λ q h. equal_rows_outside given.rows.now q given.other.now given.j h)))
