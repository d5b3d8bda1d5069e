-- `cnf_text::put_lines` meets its contract. Assumes nothing.
use native.Mathlib.Omega.{arith}
use mathlib.Core.Path.{sym}
use Rattle.writer.proofs.PutLaws.{put_then, put_as}
use Rattle.cnf_text.proofs.EntryLaws.{walked_most, row_zero, row_other}
use Rattle.cnf_text.proofs.put_lines.Goals as goal

pub put_entries-requires : goal.put_entries-requires
put_entries-requires c = (c.requires.0, c.requires.1, omega arith, c.requires.2, c.requires.4, omega (arith, (walked_most c.args.places.now c.requires.1 c.args.first c.args.literals.now c.requires.2 c.requires.4).0, c.requires.3))

pub returns-then-claim-eq0 : goal.returns-then-claim-eq0
returns-then-claim-eq0 c = put_as (sym (row_zero c.args.places.now c.args.claim c.args.first c.args.literals.now c.if-claim-eq0.true)) c.put_entries.ensures

pub put_entries-a-requires : goal.put_entries-a-requires
put_entries-a-requires c = (c.requires.0, c.requires.1, omega arith, c.requires.2, c.requires.4, omega (arith, (walked_most c.args.places.now c.requires.1 c.args.first c.args.literals.now c.requires.2 c.requires.4).1, c.requires.3))

pub put_entries-b-requires : goal.put_entries-b-requires
put_entries-b-requires c = let first = c.put_entries-a.ensures.ends in (c.requires.0, c.requires.1, omega arith, c.requires.2, c.requires.4, omega (arith, (walked_most c.args.places.now c.requires.1 c.args.first c.args.literals.now c.requires.2 c.requires.4).1, c.requires.3, c.put_entries-a.auto.text))

pub append-requires : goal.append-requires
append-requires c = let first = c.put_entries-a.ensures.ends in let second = c.put_entries-b.ensures.ends in omega (arith, (walked_most c.args.places.now c.requires.1 c.args.first c.args.literals.now c.requires.2 c.requires.4).1, c.requires.3, c.put_entries-a.auto.text, c.put_entries-b.auto.text)

pub returns : goal.returns
returns c = put_as (sym (row_other c.args.places.now c.args.claim c.args.first c.args.literals.now c.if-claim-eq0.false)) (put_then (put_then c.put_entries-a.ensures c.put_entries-b.ensures) c.append.ensures)
