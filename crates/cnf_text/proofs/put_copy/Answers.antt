-- `cnf_text::put_copy` meets its contract. Assumes nothing.
use native.Mathlib.Omega.{arith}
use mathlib.Core.Path.{sym, ap}
use lib.ListN.{length}
use Rattle.writer.proofs.PutLaws.{put_nothing, put_then, put_as}
use Rattle.cnf_text.proofs.EntryLaws.{copy_zero, copy_one, copy_other, copy_length}
use Rattle.cnf_text.proofs.put_copy.Goals as goal

pub put_literal-requires : goal.put_literal-requires
put_literal-requires c = omega (arith, ap length (copy_zero c.args.style c.args.t c.args.negative c.args.v c.if-style-eq0.true), c.requires.1)

pub returns-then-style-eq0 : goal.returns-then-style-eq0
returns-then-style-eq0 c = put_as (sym (copy_zero c.args.style c.args.t c.args.negative c.args.v c.if-style-eq0.true)) c.put_literal.ensures

pub overflow_add-t : goal.overflow_add-t
overflow_add-t c = omega (arith, c.requires.0)

pub put_literal-a-requires : goal.put_literal-a-requires
put_literal-a-requires c = omega (arith, copy_length c.args.style c.args.t c.args.negative c.args.v c.if-style-eq1.true, c.requires.1)

pub put_literal-b-requires : goal.put_literal-b-requires
put_literal-b-requires c = let first = c.put_literal-a.ensures.ends in omega (arith, copy_length c.args.style c.args.t c.args.negative c.args.v c.if-style-eq1.true, c.requires.1, c.put_literal-a.auto.text)

pub append-requires : goal.append-requires
append-requires c = let first = c.put_literal-a.ensures.ends in let second = c.put_literal-b.ensures.ends in omega (arith, copy_length c.args.style c.args.t c.args.negative c.args.v c.if-style-eq1.true, c.requires.1, c.put_literal-a.auto.text, c.put_literal-b.auto.text)

pub returns-then-style-eq1 : goal.returns-then-style-eq1
returns-then-style-eq1 c = put_as (sym (copy_one c.args.style c.args.t c.args.negative c.args.v c.if-style-eq1.true)) (put_then (put_then c.put_literal-a.ensures c.put_literal-b.ensures) c.append.ensures)

pub returns : goal.returns
returns c = put_as (sym (copy_other c.args.style c.args.t c.args.negative c.args.v c.if-style-eq0.false c.if-style-eq1.false)) (put_nothing c.args.text.now c.args.at)
