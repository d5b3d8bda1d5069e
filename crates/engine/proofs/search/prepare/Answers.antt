-- `prepare` meets its contract. Assumes nothing.
use native.Mathlib.Omega.{arith}
use lib.ListN.{length, length-take}
use Rattle.engine.proofs.search.PreparedLaws.{prepares, used_within}
use Rattle.engine.proofs.search.prepare.Goals as goal

pub slice_bounds-fill-end : goal.slice_bounds-fill-end
slice_bounds-fill-end c =
    let given = c.args in
    omega (arith, used_within given.literals.now (length given.codes.now), c.encode-used.ensures.value, c.encode-used.auto.codes)

pub slice_bounds-fill-end-2 : goal.slice_bounds-fill-end-2
slice_bounds-fill-end-2 c =
    let encode_call = c.encode-used in
    let given = c.args in
    simp length-take (omega (arith, used_within given.literals.now (length given.codes.now), encode_call.ensures.value, encode_call.auto.codes))

pub slice_bounds-list-end : goal.slice_bounds-list-end
slice_bounds-list-end c =
    let encode_call = c.encode-used in
    let given = c.args in
    omega (arith, used_within given.literals.now (length given.codes.now), encode_call.ensures.value, encode_call.auto.codes)

pub slice_bounds-list-end-2 : goal.slice_bounds-list-end-2
slice_bounds-list-end-2 c =
    let encode_call = c.encode-used in
    let given = c.args in
    simp length-take (omega (arith, used_within given.literals.now (length given.codes.now), encode_call.ensures.value, encode_call.auto.codes))

pub shape_of-codes : goal.shape_of-codes
shape_of-codes c = c.encode-used.auto.codes

pub shape_of-index : goal.shape_of-index
shape_of-index c = c.fill.auto.index

pub shape_of-terms : goal.shape_of-terms
shape_of-terms c = c.list.auto.terms

pub returns : goal.returns
returns c =
    let encode_call = c.encode-used in
    let q = c.args in
    prepares q.kinds.now q.literals.now q.codes.now q.index.now q.terms.now encode_call.result _ _ _
    encode_call.ensures.value encode_call.ensures.codes_after c.fill.ensures.index_after c.list.auto.terms
    c.list.ensures
