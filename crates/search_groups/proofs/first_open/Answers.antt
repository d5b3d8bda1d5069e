-- `search_groups::first_open` meets its contract. The loop's invariant: the first open position is that from `at` on. Assumes nothing.
use mathlib.Core.Bool.{false}
use mathlib.Core.Path.{◌≡◌, sym, ◌∙◌}
use native.Mathlib.Omega.{arith}
use Rattle.search_cells.proofs.DifferenceLaws.{first_from_step, first_from_end}
use Rattle.search_groups.specs.Groups.{is_open}
use Rattle.search_groups.proofs.ScanLaws.{open_position_none, open_position_is}
use Rattle.search_groups.proofs.first_open.Goals as goal

pub returns-then-work-ne-WORK : goal.returns-then-work-ne-WORK
returns-then-work-ne-WORK c = open_position_none _ _ _ _ _ _ (λ area few within row. omega arith)

pub returns-then-kinds-gt-UNKNOWNS : goal.returns-then-kinds-gt-UNKNOWNS
returns-then-kinds-gt-UNKNOWNS c = open_position_none _ _ _ _ _ _ (λ area few within row. omega arith)

pub returns-then-until-kinds : goal.returns-then-until-kinds
returns-then-until-kinds c = open_position_none _ _ _ _ _ _ (λ area few within row. omega arith)

pub returns-then-lo-ge-ROWS : goal.returns-then-lo-ge-ROWS
returns-then-lo-ge-ROWS c = open_position_none _ _ _ _ _ _ (λ area few within row. omega arith)

pub loop-at-init : goal.loop-at-init
loop-at-init c = (omega arith, open_position_is _ _ _ _ _ _ (omega arith) (omega arith) (omega arith) (omega arith))

pub loop-at-preserved : goal.loop-at-preserved
loop-at-preserved c =
    let loop = c.loop-at in
    let given = c.args in (
      omega arith,
      loop.invariant.1
          ∙ first_from_step (is_open given.kinds.now given.work.now given.side given.lo) loop.at given.until false (omega arith)
          (sym c.is_open.ensures ∙ c.if-is_open.false),
    )

pub returns : goal.returns
returns c =
    let given = c.args in
    let end : c.loop-at.at ≡ c.max.result = omega arith in
    sym
    (c.loop-at.invariant.1
    ∙ first_from_end (is_open given.kinds.now given.work.now given.side given.lo) c.loop-at.at given.until (omega arith)
    ∙ end)
