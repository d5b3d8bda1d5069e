-- `cnf_text::put_end` meets its contract. Assumes nothing.
use native.Mathlib.Omega.{arith}
use mathlib.Core.Path.{sym, ap}
use lib.ListN.{length}
use Rattle.writer.proofs.PutLaws.{put_nothing, put_as}
use Rattle.cnf_text.proofs.EntryLaws.{end_zero, end_one, end_other}
use Rattle.cnf_text.proofs.put_end.Goals as goal

pub append-requires : goal.append-requires
append-requires c = omega (arith, ap length (end_zero c.args.style c.args.t c.if-style-eq0.true))

pub returns-then-style-eq0 : goal.returns-then-style-eq0
returns-then-style-eq0 c = put_as (sym (end_zero c.args.style c.args.t c.if-style-eq0.true)) c.append.ensures

pub returns-then-style-eq1 : goal.returns-then-style-eq1
returns-then-style-eq1 c = put_as (sym (end_one c.args.style c.args.t c.if-style-eq1.true)) (put_nothing c.args.text.now c.args.at)

pub overflow_add-t : goal.overflow_add-t
overflow_add-t c = omega (arith, c.requires.0)

pub put_literal-requires : goal.put_literal-requires
put_literal-requires c = omega (arith, ap length (end_other c.args.style c.args.t c.if-style-eq0.false c.if-style-eq1.false), c.requires.1)

pub returns : goal.returns
returns c = put_as (sym (end_other c.args.style c.args.t c.if-style-eq0.false c.if-style-eq1.false)) c.put_literal.ensures
