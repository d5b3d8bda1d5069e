-- The names from `at` on, bound after the `count` that the tables hold, give what those from i on do after n, and the names bound are marked. Assumes nothing.
use Prim.Native.Nat.{◌-◌, ◌<◌}
use mathlib.Core.Path.{refl, ap, sym, ◌∙◌}
use native.Mathlib.Omega.{arith}
use lib.ListN.{take, drop, length-set}
use lib.Seq.{length-take-le}
use Rattle.lines.specs.Lines.{words}
use Rattle.text.specs.Reading.{with_prefix, bind_all}
use Rattle.lines.proofs.Pieces.{words_none}
use Rattle.text.proofs.NameLaws.{bind_taken}
use Rattle.text.proofs.Places.{marked_more}
use Rattle.text.proofs.names.bind_all.Goals as goal

pub loop-at-preserved : goal.loop-at-preserved
loop-at-preserved c =
    let h : c.next-w.result.start < c.next-w.result.end = omega (arith, c.next-w.ensures.ordered) in
    let l = length-take-le c.loop-at.count c.loop-at.names (omega arith) in
    let k = c.name_cause-cause.ensures.right (take c.loop-at.count c.loop-at.names) l c.loop-at.invariant.5 in
    let z = c.name_cause-cause.ensures.room c.if-cause-ne0.false in
    (c.next-w.ensures.within, omega arith, simp length-set c.loop-at.invariant.2, simp length-set c.loop-at.invariant.3, λ s e. c.loop-at.invariant.4 s e ∙ ap (bind_all c.args.kind (with_prefix s (take c.loop-at.count c.loop-at.kinds) (take c.loop-at.count c.loop-at.names))) (c.next-w.ensures.some h) ∙ bind_taken c.args.kind c.loop-at.count c.number-v.result c.loop-at.kinds c.loop-at.names (take (c.next-w.result.end - c.next-w.result.start) (drop c.next-w.result.start c.args.line.now)) (words (drop c.next-w.result.end c.args.line.now)) c.number-v.ensures s c.args.variables c.name_cause-cause.result e k c.if-v-eq0.false c.if-cause-ne0.false (omega arith) (omega arith), marked_more c.loop-at.names c.loop-at.count c.number-v.result c.loop-at.invariant.5 (omega arith) (omega arith))

pub returns : goal.returns
returns c = record { kinds = c.loop-at.invariant.2 ∙ c.requires.i_in_bounds.3; names = c.loop-at.invariant.3 ∙ c.requires.i_in_bounds.4; room = c.loop-at.invariant.1; marked = c.loop-at.invariant.5; right = λ s e. sym (c.loop-at.invariant.4 s e ∙ rw (words_none c.args.line.now c.loop-at.at c.loop-at-test.false) refl) }
