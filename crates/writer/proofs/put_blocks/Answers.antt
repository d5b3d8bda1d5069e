-- `writer::put_blocks` meets its contract. Assumes nothing.
use Prim.Native.Nat.{◌+◌}
use borrow.Author.Rules.{rules}
use lib.ListN.{length, drop}
use Rattle.std.proofs.lemmas.List.{length_push}
use Rattle.std.proofs.lemmas.Slice.Zip.{zip_turn}
use Rattle.writing.specs.Writing.{unknown, blocks}
use Rattle.writer.proofs.PartLaws.{next_unknown}
use Rattle.writer.proofs.PutLaws.{left_next, left_room}
use Rattle.writer.proofs.put_blocks.Goals as goal

pub put_unknown-end-requires : goal.put_unknown-end-requires
put_unknown-end-requires c =
    let lent = c.args in
    let turn = c.loop-kind in
    let kinds = lent.kinds.now in
    let names = lent.names.now in
    let i = length turn.yielded in
    let kind = c.in-Some.kind.now in
    let here = zip_turn kinds names turn.yielded c.into_iter-kind-iterator.result turn.kind-iterator c.next.new.self c.next.result (search rules) (search rules)
    turn.yielded_by _ c.in-Some.is c.next.ensures.steps in
    left_room (unknown turn.before kind c.in-Some.name.now) (blocks kind (drop (i + 1) kinds) (drop (i + 1) names))
    (next_unknown turn.before kinds names i c.requires.0 here.0 (here.2 0) (here.3 0)) turn.invariant c.requires.1

pub loop-kind-preserved : goal.loop-kind-preserved
loop-kind-preserved c =
    let lent = c.args in
    let turn = c.loop-kind in
    let here = zip_turn lent.kinds.now lent.names.now turn.yielded c.into_iter-kind-iterator.result turn.kind-iterator c.next.new.self c.next.result
    (search rules) (search rules) turn.yielded_by _ c.in-Some.is c.next.ensures.steps in
    let more = length_push turn.yielded (c.in-Some.kind, c.in-Some.name) in
    rw more
    (left_next (next_unknown turn.before lent.kinds.now lent.names.now (length turn.yielded) c.requires.0 here.0 (here.2 0) (here.3 0)) turn.invariant
    c.put_unknown-end.ensures c.put_unknown-end.auto.text)
