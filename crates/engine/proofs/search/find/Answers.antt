-- `find` meets its contract. Assumes nothing.
use native.Mathlib.Omega.{arith}
use mathlib.Core.Path.{◌∙◌}
use lib.ListN.{length-take}
use Rattle.engine.proofs.search.CallLaws.{sorts}
use Rattle.engine.proofs.search.WholeLaws.{arranged, found_empty, found_over}
use Rattle.engine.proofs.search.find.Goals as goal

pub shape_of-work-then-count-eq0 : goal.shape_of-work-then-count-eq0
shape_of-work-then-count-eq0 c = c.clear.auto.area

pub returns-then-count-eq0 : goal.returns-then-count-eq0
returns-then-count-eq0 c =
    let given = c.args in
    λ literals of _. found_empty given.kinds.now literals given.preferences.now given.rows.now given.count given.others given.side
    given.work.now _ c.requires.area c.if-count-eq0.true c.clear.ensures

pub slice_bounds-over_places-end : goal.slice_bounds-over_places-end
slice_bounds-over_places-end c = simp length-take (let p = c.requires in omega (arith, c.sort.auto.place))

pub over_places-requires : goal.over_places-requires
over_places-requires c =
    let sort_call = c.sort in
    let given = c.args in
    let pre = c.requires in
    arranged given.kinds.now given.codes.now given.index.now given.rows.now given.count given.others given.side given.work.now
    sort_call.new.place _ pre (omega (arith, c.if-count-eq0.false))
    (let p = pre in omega (arith, sort_call.auto.place))
    (sorts given.rows.now given.count given.others _ (let p = pre in omega (arith, pre.inside, pre.few))
    (let p = pre in omega (arith, pre.inside, pre.few)) sort_call.ensures) c.clear.auto.area

pub shape_of-work : goal.shape_of-work
shape_of-work c = c.over_places.auto.work ∙ c.clear.auto.area

pub returns : goal.returns
returns c =
    let sort_call = c.sort in
    let given = c.args in
    let pre = c.requires in
    λ literals of leads. found_over given.kinds.now literals given.preferences.now given.rows.now given.count given.others given.side
    given.codes.now given.index.now given.terms.now given.own.now given.known given.work.now sort_call.new.place _ _ pre
    (omega (arith, c.if-count-eq0.false)) (let p = pre in omega (arith, sort_call.auto.place))
    (sorts given.rows.now given.count given.others _ (let p = pre in omega (arith, pre.inside, pre.few))
    (let p = pre in omega (arith, pre.inside, pre.few)) sort_call.ensures) c.clear.ensures
    c.over_places.result c.over_places.ensures of leads
