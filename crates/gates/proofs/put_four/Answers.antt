-- `gates::put_four` meets its contract. Assumes nothing.
use Rattle.gates.proofs.EntryLaws.{four_put}
use Rattle.gates.proofs.put_four.Goals as goal

pub returns : goal.returns
returns c =
    let put_triple3_call = c.put_triple-3 in
    let put_triple2_call = c.put_triple-2 in
    let put_triple_call = c.put_triple in
    let given = c.args in
    let small = c.requires in
    four_put given.entries.now put_triple_call.new.entries put_triple2_call.new.entries put_triple3_call.new.entries
    c.put_triple-4.new.entries given.at given.g given.s given.t small.0 small.1 small.2
    put_triple_call.ensures put_triple2_call.ensures put_triple3_call.ensures c.put_triple-4.ensures
