-- `cnf_text::place_at` meets its contract. Assumes nothing.
use native.Mathlib.Omega.{arith}
use mathlib.Core.Path.{refl}
use borrow.Author.Rules.{Fits-under}
use mir.Syntax.{w16}
use Rattle.cnf_text.proofs.PlaceLaws.{copy_place, value_place}
use Rattle.cnf_text.proofs.place_at.Goals as goal

pub overflow_mul-result : goal.overflow_mul-result
overflow_mul-result c = let inside = c.first_like.ensures.inside in omega (arith, c.requires.0)

pub overflow_add-result : goal.overflow_add-result
overflow_add-result c = let inside = c.first_like.ensures.inside in omega (arith, c.requires.0)

pub overflow_add-result-then-own : goal.overflow_add-result-then-own
overflow_add-result-then-own c = let inside = c.first_like.ensures.inside in omega (arith, c.requires.0, c.requires.1)

pub overflow_cast-result : goal.overflow_cast-result
overflow_cast-result c = let inside = c.first_like.ensures.inside in Fits-under w16 _ 65536 (omega (arith, c.requires.0, c.requires.1)) tt

pub returns-then-own : goal.returns-then-own
returns-then-own c = copy_place c.args.rows.now c.args.i c.args.others c.args.k c.args.own c.requires.0 c.requires.1 c.if-own.true c.first_like.ensures (omega arith)

pub returns-then-bit : goal.returns-then-bit
returns-then-bit c = value_place c.args.rows.now c.args.i c.args.others c.args.k c.args.own c.bit.result c.if-own.false c.bit.ensures (rw c.if-bit.true refl)

pub returns : goal.returns
returns c = value_place c.args.rows.now c.args.i c.args.others c.args.k c.args.own c.bit.result c.if-own.false c.bit.ensures (rw c.if-bit.false refl)
