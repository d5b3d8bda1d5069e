-- `writer::put_prefix` meets its contract. Assumes nothing.
use lib.ListN.{length, get_or, length-append}
use mathlib.Core.Path.{sym, ap, ◌∙◌}
use native.Mathlib.Omega.{arith}
use Rattle.writer.proofs.PartLaws.{prefix_none, prefix_some}
use Rattle.writer.proofs.PutLaws.{put_nothing, put_then, put_as}
use Rattle.writing.specs.Writing.{letter, blocks}
use Rattle.writer.proofs.put_prefix.Goals as goal

pub returns-then-kinds-eq0 : goal.returns-then-kinds-eq0
returns-then-kinds-eq0 c =
    let given = c.args in
    put_as (sym (prefix_none given.kinds.now given.names.now c.if-kinds-eq0.true)) (put_nothing given.text.now given.at)

pub put_letter-a-requires : goal.put_letter-a-requires
put_letter-a-requires c =
    let given = c.args in
    let kinds = given.kinds.now in
    omega (
      arith,
      ap length (prefix_some kinds given.names.now c.if-kinds-eq0.false) ∙ length-append (letter (get_or kinds 0 0))
          (blocks (get_or kinds 0 0) kinds given.names.now),
      c.requires.1,
    )

pub put_blocks-requires : goal.put_blocks-requires
put_blocks-requires c =
    let put_letter_call = c.put_letter-a in
    let given = c.args in
    let pre = c.requires in
    let kinds = given.kinds.now in
    let first = put_letter_call.ensures.ends in (
      pre.0,
      omega (
        arith,
        ap length (prefix_some kinds given.names.now c.if-kinds-eq0.false) ∙ length-append
            (letter (get_or kinds 0 0)) (blocks (get_or kinds 0 0) kinds given.names.now),
        pre.1,
        put_letter_call.auto.text,
      ),
    )

pub returns : goal.returns
returns c =
    let given = c.args in
    put_as (sym (prefix_some given.kinds.now given.names.now c.if-kinds-eq0.false))
    (put_then c.put_letter-a.ensures c.put_blocks.ensures)
