-- `cnf_text::put_literal` meets its contract. Assumes nothing.
use native.Mathlib.Omega.{arith}
use mathlib.Core.Path.{sym, ap}
use lib.ListN.{length}
use Rattle.writer.proofs.PutLaws.{put_then, put_as}
use Rattle.cnf_text.proofs.EntryLaws.{literal_minus, literal_plain, minus_length}
use Rattle.cnf_text.proofs.put_literal.Goals as goal

pub append-a-requires : goal.append-a-requires
append-a-requires c = omega (arith, minus_length c.args.negative c.args.v c.if-negative.true)

pub put_spaced-requires : goal.put_spaced-requires
put_spaced-requires c = let first = c.append-a.ensures.ends in omega (arith, minus_length c.args.negative c.args.v c.if-negative.true)

pub returns-then-negative : goal.returns-then-negative
returns-then-negative c = put_as (sym (literal_minus c.args.negative c.args.v c.if-negative.true)) (put_then c.append-a.ensures c.put_spaced.ensures)

pub put_spaced-requires-2 : goal.put_spaced-requires-2
put_spaced-requires-2 c = omega (arith, ap length (literal_plain c.args.negative c.args.v c.if-negative.false))

pub returns : goal.returns
returns c = put_as (sym (literal_plain c.args.negative c.args.v c.if-negative.false)) c.put_spaced-2.ensures
