-- `search_numbering::fill_positions` meets its contract. The loop's invariant: what the positions left make of the table, numbered on, is what all make
-- of the lent one. Assumes nothing.
use mathlib.Core.Path.{sym, ap, ◌∙◌}
use native.Mathlib.Omega.{arith}
use lib.ListN.{length}
use Rattle.search_numbering.proofs.FillSteps.{copies_at_most, filled_own, filled_other}
use Rattle.search_numbering.proofs.fill_positions.Goals as goal
use Rattle.search_numbering.proofs.fill_positions.Goals.{else-kind-side, then-kind-side}

pub loop-k-preserved : goal.loop-k-preserved
loop-k-preserved c =
    let a = c.args in
    let l = c.loop-k in
    elim c.if-kind-side.branch [
      | then-kind-side t ↦ let turn = filled_own a.kinds.now a.preferences.now a.place.now a.differences.now a.side l.k l.number l.work (omega arith)
          t.if-kind-side.true in (
            omega arith,
            omega (arith, ap length t.work-is),
            omega (
              arith,
              t.fill_at-number.ensures.value,
              copies_at_most a.differences.now a.place.now l.k,
              c.requires,
            ),
            rw (t.work-is, t.number-is, t.fill_at-number.ensures.value, t.fill_at-number.ensures.work_after) (sym turn ∙ l.invariant.3),
          )
      | else-kind-side t ↦ let turn = filled_other a.kinds.now a.preferences.now a.place.now a.differences.now a.side l.k l.number l.work (omega arith)
          t.if-kind-side.false in
          (omega arith, omega (arith, ap length t.work-is), omega arith, rw (t.work-is, t.number-is) (sym turn ∙ l.invariant.3))
    ]
