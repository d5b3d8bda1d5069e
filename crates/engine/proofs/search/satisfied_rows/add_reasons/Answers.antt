-- `add_reasons` meets its contract. The loop's invariant: if the codes that are left are handled, all are. Assumes nothing.
use mathlib.Core.Path.{sym, ◌∙◌}
use Rattle.engine.proofs.search.SatisfiedRows.{blaming_start, blaming_given, blaming_at, best_inside, blaming_literal, blaming_end}
use Rattle.engine.proofs.search.satisfied_rows.add_reasons.Goals as goal
use Rattle.engine.proofs.search.satisfied_rows.add_reasons.Goals.{then-c-eq0+in-Given, then-c-eq0+in-At, else-c-eq0}

pub loop-code-init : goal.loop-code-init
loop-code-init c =
    let given = c.args in
    (c.requires, blaming_start given.kinds.now given.codes.now given.work.now given.i given.sets.now)

pub take_in-requires : goal.take_in-requires
take_in-requires c =
    let loop = c.loop-code in
    let given = c.args in (
      loop.invariant.0,
      best_inside given.kinds.now given.codes.now given.work.now given.i given.sets.now loop.code-index loop.best _ loop.sets
          c.in-At.is loop.invariant.1,
    )

pub loop-code-preserved : goal.loop-code-preserved
loop-code-preserved c =
    let loop = c.loop-code in
    let q = c.args in
    let ends = sym c.from-c.ensures in (
      c.if-c-eq0.auto.sets ∙ loop.invariant.0,
      elim c.if-c-eq0.branch [
        | then-c-eq0+in-Given w ↦ rw (w.sets-is, w.best-is) (blaming_given q.kinds.now q.codes.now q.work.now q.i q.sets.now loop.code-index loop.best
            loop.sets c.loop-code-test.true (ends ∙ w.if-c-eq0.true) w.in-Given.is loop.invariant.1)
        | then-c-eq0+in-At w ↦ rw (w.sets-is, w.best-is) (blaming_at q.kinds.now q.codes.now q.work.now q.i q.sets.now loop.code-index loop.best _
            loop.sets _ c.loop-code-test.true (ends ∙ w.if-c-eq0.true) w.in-At.is loop.invariant.1 w.take_in.ensures)
        | else-c-eq0 w ↦ rw (w.sets-is, w.best-is) (blaming_literal q.kinds.now q.codes.now q.work.now q.i q.sets.now loop.code-index loop.best
            c.from-c.result w.better-best.result loop.sets c.loop-code-test.true
            c.from-c.ensures w.if-c-eq0.false w.better-best.ensures loop.invariant.1)
      ],
    )

pub returns : goal.returns
returns c =
    let loop = c.loop-code in
    let given = c.args in
    blaming_end given.kinds.now given.codes.now given.work.now given.i given.sets.now loop.code-index loop.best loop.sets
    c.loop-code-test.false loop.invariant.1
