-- A word is the closing 0, a name above V, or a literal. Assumes nothing.
use mathlib.Core.Path.{refl, sym, ◌∙◌}
use native.Mathlib.Omega.{arith}
use mir.Syntax.{w32}
use mir.ValLaws.{to_z-of_z}
use Rattle.text.proofs.WordLaws.{word_zero, word_above, word_literal}
use Rattle.text.proofs.names.entry.Goals as goal

pub returns-then-is_zero : goal.returns-then-is_zero
returns-then-is_zero c = word_zero c.args.variables c.args.places.now c.args.n c.args.m c.args.word.now (sym c.is_zero.ensures ∙ c.if-is_zero.true) c.room_cause.ensures

pub returns-then-variables-v : goal.returns-then-variables-v
returns-then-variables-v c = word_above c.args.variables c.args.places.now c.args.n c.args.m c.args.word.now (sym c.is_zero.ensures ∙ c.if-is_zero.false) (omega (arith, c.magnitude-v.ensures, c.if-variables-v.true))

pub returns : goal.returns
returns c = word_literal c.args.variables c.args.places.now c.args.n c.args.m c.args.word.now (sym c.is_zero.ensures ∙ c.if-is_zero.false) c.magnitude-v.ensures c.if-variables-v.false c.requires refl c.place_cause.ensures (rw (← c.negative.ensures, to_z-of_z w32 c.signed.result (record { sfits = c.signed.type_inv })) c.signed.ensures)
