-- `cnf_text::put_entry` meets its contract. Assumes nothing.
use Prim.Native.Nat.{◌-◌}
use native.Mathlib.Omega.{arith}
use mathlib.Core.Path.{sym, ap}
use borrow.Author.Rules.{Fits-under}
use mir.Syntax.{w64}
use lib.ListN.{length}
use Rattle.writer.proofs.PutLaws.{put_nothing, put_as}
use Rattle.cnf_text.proofs.EntryLaws.{entry_dropped, entry_end, entry_value, entry_copy}
use Rattle.cnf_text.proofs.put_entry.Goals as goal

pub returns-else-kept : goal.returns-else-kept
returns-else-kept c = put_as (sym (entry_dropped c.args.places.now c.args.style c.args.t c.args.negative c.args.name c.args.kept c.if-kept.false)) (put_nothing c.args.text.now c.args.at)

pub put_end-requires : goal.put_end-requires
put_end-requires c = (c.requires.3, omega (arith, ap length (entry_end c.args.places.now c.args.style c.args.t c.args.negative c.args.name c.args.kept c.if-kept.true c.if-name-eq0.true), c.requires.4))

pub returns-then-name-eq0 : goal.returns-then-name-eq0
returns-then-name-eq0 c = put_as (sym (entry_end c.args.places.now c.args.style c.args.t c.args.negative c.args.name c.args.kept c.if-kept.true c.if-name-eq0.true)) c.put_end.ensures

pub overflow_sub-place : goal.overflow_sub-place
overflow_sub-place c = omega arith

pub bounds-places-name : goal.bounds-places-name
bounds-places-name c = omega (arith, c.requires.0)

pub returns-then-place-lt2 : goal.returns-then-place-lt2
returns-then-place-lt2 c = put_as (sym (entry_value c.args.places.now c.args.style c.args.t c.args.negative c.args.name c.args.kept c.if-kept.true c.if-name-eq0.false c.if-place-lt2.true)) (put_nothing c.args.text.now c.args.at)

pub overflow_cast-place : goal.overflow_cast-place
overflow_cast-place c = Fits-under w64 _ 32770 (c.requires.1 (c.args.name - 1)) tt

pub overflow_sub-place-2 : goal.overflow_sub-place-2
overflow_sub-place-2 c = omega arith

pub put_copy-requires : goal.put_copy-requires
put_copy-requires c = (c.requires.3, omega (arith, ap length (entry_copy c.args.places.now c.args.style c.args.t c.args.negative c.args.name c.args.kept c.if-kept.true c.if-name-eq0.false c.if-place-lt2.false), c.requires.4))

pub returns : goal.returns
returns c = put_as (sym (entry_copy c.args.places.now c.args.style c.args.t c.args.negative c.args.name c.args.kept c.if-kept.true c.if-name-eq0.false c.if-place-lt2.false)) c.put_copy.ensures
