-- `solve`, `step`, `decide`, `flip` and `assume`, which call each other, meet their contracts. Assumes nothing.
use Rattle.std.proofs.Common.{length, false, refl, sym, ◌∙◌, arith}
use Rattle.formula.specs.Formula.{max_unknowns}
use Rattle.search_sets.specs.Private.Masks.{conflict}
use Rattle.engine.proofs.search.CallLaws.{unites_words, fills_kept, fills, grows, adds, trims, resolves, has_at, parts, parts_there, stands, sets_rows}
use Rattle.engine.proofs.search.CallLaws.{opens_rows}
use Rattle.engine.proofs.search.SearchSteps.{tries_refuted, tries_ruled_out, tries_searched, decides_first, decides_without, decides_flipped}
use Rattle.engine.proofs.search.SearchSteps.{decides_second, decides_last, decides_neither, splits_first, splits_second, steps_reached, steps_split}
use Rattle.engine.proofs.search.SearchSteps.{steps_decide, searches_won, searches_failed}
use Rattle.engine.proofs.search.SolveLaws.{in_order}
use Rattle.engine.proofs.search.solve.+assume_decide_flip_solve_step.Goals as goal

-- ---- assume

pub assume-returns-then-rules_out : goal.assume-returns-then-rules_out
assume-returns-then-rules_out t c =
    let given = c.args in
    let pre = c.requires in
    let k = given.k in
    let size = c.consequences.auto.sets ∙ c.add.auto.sets ∙ pre.lent.sets_lent in
    λ listed. tries_ruled_out given.kinds.now given.differences.now given.codes.now given.opened.now given.block.now given.side k
    given.lo given.hi (omega arith) (omega arith) given.value _ _ _ _ _ _ _
    (grows _ pre.lent.sets_lent k k (omega arith) (omega arith) c.add.ensures)
    (adds given.sets.now pre.lent.sets_lent k k (omega arith) (omega arith) c.add.ensures)
    (sets_rows pre.lent.area k given.lo given.hi _ given.value (omega arith) (omega arith) (omega (arith, pre.lent.rows)) c.set_rows.ensures)
    (c.consequences.ensures listed) _ c.if-consequences.true (c.rules_out.ensures c.if-rules_out.true)
    (fills_kept _ size max_unknowns (omega arith) (omega arith) c.fill.ensures) (fills _ size max_unknowns (omega arith) c.fill.ensures)

pub assume-returns-else-rules_out : goal.assume-returns-else-rules_out
assume-returns-else-rules_out t c =
    let given = c.args in
    let pre = c.requires in
    let k = given.k in
    λ listed. tries_searched given.kinds.now given.differences.now given.codes.now given.opened.now given.block.now given.side k
    given.lo given.hi (omega arith) (omega arith) given.value _ _ _ _ _ _ _
    (grows _ pre.lent.sets_lent k k (omega arith) (omega arith) c.add.ensures)
    (adds given.sets.now pre.lent.sets_lent k k (omega arith) (omega arith) c.add.ensures)
    (sets_rows pre.lent.area k given.lo given.hi _ given.value (omega arith) (omega arith) (omega (arith, pre.lent.rows)) c.set_rows.ensures)
    (c.consequences.ensures listed) _ _ _ c.if-consequences.true (c.solve.ensures listed)

pub assume-returns-else-consequences : goal.assume-returns-else-consequences
assume-returns-else-consequences t c =
    let given = c.args in
    let pre = c.requires in
    let k = given.k in
    λ listed. tries_refuted given.kinds.now given.differences.now given.codes.now given.opened.now given.block.now given.side k
    given.lo given.hi (omega arith) (omega arith) given.value _ _ _ _ _ _ _
    (grows _ pre.lent.sets_lent k k (omega arith) (omega arith) c.add.ensures)
    (adds given.sets.now pre.lent.sets_lent k k (omega arith) (omega arith) c.add.ensures)
    (sets_rows pre.lent.area k given.lo given.hi _ given.value (omega arith) (omega arith) (omega (arith, pre.lent.rows)) c.set_rows.ensures)
    (c.consequences.ensures listed) c.if-consequences.false

-- ---- decide

pub decide-returns-then-assume : goal.decide-returns-then-assume
decide-returns-then-assume t c =
    let given = c.args in
    λ listed. decides_first given.kinds.now given.differences.now given.codes.now given.opened.now given.block.now given.side given.k
    given.lo given.hi (omega arith) (omega arith) c.wanted-wanted.result _ _ _ _ _ (sym c.wanted-wanted.ensures)
    (c.assume.ensures listed) c.if-assume.true

pub decide-returns-else-has : goal.decide-returns-else-has
unfolding conflict
decide-returns-else-has t c =
    let given = c.args in
    λ listed. decides_without given.kinds.now given.differences.now given.codes.now given.opened.now given.block.now given.side given.k
    given.lo given.hi (omega arith) (omega arith) c.wanted-wanted.result _ _ _ _ _ (sym c.wanted-wanted.ensures)
    (c.assume.ensures listed) c.if-assume.false
    (sym (has_at _ (c.assume.auto.sets ∙ c.requires.lent.sets_lent) max_unknowns given.k (omega arith) (omega arith) c.has.ensures) ∙ c.if-has.false)

pub decide-returns : goal.decide-returns
decide-returns t c =
    let given = c.args in
    λ listed. decides_flipped given.kinds.now given.differences.now given.codes.now given.opened.now given.block.now given.side given.k
    given.lo given.hi (omega arith) (omega arith) c.wanted-wanted.result _ _ _ _ _ (sym c.wanted-wanted.ensures)
    (c.assume.ensures listed) _ _ _ c.if-assume.false (c.flip.ensures listed)

-- ---- flip

pub flip-returns-then-assume : goal.flip-returns-then-assume
flip-returns-then-assume t c =
    let given = c.args in
    let pre = c.requires in
    λ listed. λ w s wants first. decides_second given.kinds.now given.differences.now given.codes.now given.opened.now given.block.now
    given.side given.k given.lo given.hi (omega arith) (omega arith) given.tried w _ s _ false wants first _ _ _ _ _ refl
    (opens_rows pre.lent.area given.lo given.hi _ (omega arith) (omega (arith, pre.lent.rows)) c.undo.ensures)
    (trims _ pre.lent.sets_lent given.k _ (omega arith) pre.kinds_len_bound.0 c.trim.ensures) (c.assume.ensures listed) c.if-assume.true

pub flip-returns-then-has : goal.flip-returns-then-has
flip-returns-then-has t c =
    let given = c.args in
    let pre = c.requires in
    λ listed. λ w s wants first. decides_neither given.kinds.now given.differences.now given.codes.now given.opened.now given.block.now
    given.side given.k given.lo given.hi (omega arith) (omega arith) given.tried w _ s _ false wants first _ _ _ _ _ refl
    (opens_rows pre.lent.area given.lo given.hi _ (omega arith) (omega (arith, pre.lent.rows)) c.undo.ensures)
    (trims _ pre.lent.sets_lent given.k _ (omega arith) pre.kinds_len_bound.0 c.trim.ensures) (c.assume.ensures listed) _ c.if-assume.false
    (unites_words _ (c.assume.auto.sets ∙ c.trim.auto.sets ∙ pre.lent.sets_lent) max_unknowns _ _ (omega arith) c.unite_words.ensures)

pub flip-returns-else-has : goal.flip-returns-else-has
unfolding conflict
flip-returns-else-has t c =
    let given = c.args in
    let pre = c.requires in
    let k = given.k in
    λ listed. λ w s wants first. decides_last given.kinds.now given.differences.now given.codes.now given.opened.now given.block.now
    given.side k given.lo given.hi (omega arith) (omega arith) given.tried w _ s _ false wants first _ _ _ _ _ refl
    (opens_rows pre.lent.area given.lo given.hi _ (omega arith) (omega (arith, pre.lent.rows)) c.undo.ensures)
    (trims _ pre.lent.sets_lent k _ (omega arith) pre.kinds_len_bound.0 c.trim.ensures) (c.assume.ensures listed) c.if-assume.false
    (sym (has_at _ (c.assume.auto.sets ∙ c.trim.auto.sets ∙ pre.lent.sets_lent) max_unknowns k (omega arith) (omega arith) c.has.ensures)
    ∙ c.if-has.false)

-- ---- solve

pub solve-step-requires : goal.solve-step-requires
solve-step-requires t c =
    let given = c.args in
    let pre = c.requires in
    let bound = pre.kinds_len_bound in
    let lo = given.lo in
    let part = parts given.differences.now lo given.hi bound.3 bound.4 c.split_row-mid.ensures in
    let there = parts_there given.differences.now lo c.split_row-mid.result (length given.kinds.now) (omega (arith, part.high))
    c.split_position-until.ensures in
    let stood = stands given.kinds.now given.work.now given.side given.k lo c.split_position-until.result pre.lent.area bound.0
    there.most bound.2 (omega (arith, pre.lent.rows)) c.first_open-at.ensures in (
      omega (arith, stood.low, stood.most),
      (pre.lent, ((bound.0, bound.1, stood.most, there.most, bound.3, bound.4), (part.low, part.high, λ lt. (there.there lt).0))),
    )

pub solve-returns-then-step : goal.solve-returns-then-step
solve-returns-then-step t c =
    let given = c.args in
    let pre = c.requires in
    let bound = pre.kinds_len_bound in
    let kinds = given.kinds.now in
    let lo = given.lo in
    let differences = given.differences.now in
    λ listed.
    let part = parts differences lo given.hi bound.3 bound.4 c.split_row-mid.ensures in
    let there = parts_there differences lo c.split_row-mid.result (length kinds) (omega (arith, part.high)) c.split_position-until.ensures in
    let stood = stands kinds given.work.now given.side given.k lo c.split_position-until.result pre.lent.area bound.0 there.most
    bound.2 (omega (arith, pre.lent.rows)) c.first_open-at.ensures in
    searches_won kinds differences given.codes.now given.opened.now given.block.now given.side given.k c.first_open-at.result
    c.split_position-until.result lo c.split_row-mid.result given.hi (omega arith) _ _ _ _ _ part there stood
    (c.step.ensures listed) c.if-step.true

pub solve-returns : goal.solve-returns
solve-returns t c =
    let given = c.args in
    let pre = c.requires in
    let bound = pre.kinds_len_bound in
    let k = given.k in
    let kinds = given.kinds.now in
    let lo = given.lo in
    let differences = given.differences.now in
    λ listed.
    let part = parts differences lo given.hi bound.3 bound.4 c.split_row-mid.ensures in
    let there = parts_there differences lo c.split_row-mid.result (length kinds) (omega (arith, part.high)) c.split_position-until.ensures in
    let stood = stands kinds given.work.now given.side k lo c.split_position-until.result pre.lent.area bound.0 there.most bound.2
    (omega (arith, pre.lent.rows)) c.first_open-at.ensures in
    searches_failed kinds differences given.codes.now given.opened.now given.block.now given.side k c.first_open-at.result
    c.split_position-until.result lo c.split_row-mid.result given.hi (omega arith) _ _ _ _ _ part there stood (c.step.ensures listed) _
    c.if-step.false (resolves _ (c.step.auto.sets ∙ pre.lent.sets_lent) k c.first_open-at.result
    (omega (arith, stood.most)) c.resolve.ensures)

-- ---- step

pub step-returns-then-at-kinds : goal.step-returns-then-at-kinds
step-returns-then-at-kinds t c =
    let given = c.args in
    λ listed. steps_reached given.kinds.now given.differences.now given.codes.now given.opened.now given.block.now given.side given.at
    given.until given.lo given.mid given.hi (omega arith) _ given.work.now _ _ _ c.if-at-kinds.true c.reached.ensures

pub step-returns-then-at-until : goal.step-returns-then-at-until
step-returns-then-at-until t c =
    let given = c.args in
    λ listed. steps_decide given.kinds.now given.differences.now given.codes.now given.opened.now given.block.now given.side given.at
    given.until given.lo given.mid given.hi c.requires.kinds_len_bound.0 _ _ _ _ _ c.if-at-until.true (c.decide.ensures listed)

pub step-returns-else-solve : goal.step-returns-else-solve
step-returns-else-solve t c =
    let given = c.args in
    let pre = c.requires in
    λ listed. steps_split given.kinds.now given.differences.now given.codes.now given.opened.now given.block.now given.side given.at
    given.until given.lo given.mid given.hi pre.kinds_len_bound.0 _ _ _ _ _ (omega arith) (omega arith)
    (splits_first given.kinds.now given.differences.now given.codes.now given.opened.now given.block.now given.side given.at given.lo
    given.mid given.hi c.either-from.result c.either-to.result c.either-other_from.result c.either-other_to.result (omega arith)
    (pre.lo_le_mid.2 (omega arith))
    (in_order c.conflict_between-low.result c.either-from.ensures c.either-to.ensures c.either-other_from.ensures c.either-other_to.ensures)
    _ _ _ _ _ (c.solve.ensures listed) c.if-solve.false)

pub step-returns : goal.step-returns
step-returns t c =
    let given = c.args in
    let pre = c.requires in
    λ listed. steps_split given.kinds.now given.differences.now given.codes.now given.opened.now given.block.now given.side given.at
    given.until given.lo given.mid given.hi pre.kinds_len_bound.0 _ _ _ _ _ (omega arith) (omega arith)
    (splits_second given.kinds.now given.differences.now given.codes.now given.opened.now given.block.now given.side given.at given.lo
    given.mid given.hi c.either-from.result c.either-to.result c.either-other_from.result c.either-other_to.result (omega arith)
    (pre.lo_le_mid.2 (omega arith))
    (in_order c.conflict_between-low.result c.either-from.ensures c.either-to.ensures c.either-other_from.ensures c.either-other_to.ensures)
    _ _ _ _ _ (c.solve.ensures listed) _ _ _ _ c.if-solve.true
    (trims _ (c.solve.auto.sets ∙ pre.lent.sets_lent) given.at _ (omega arith) pre.kinds_len_bound.0 c.trim.ensures)
    (c.solve-2.ensures listed))
