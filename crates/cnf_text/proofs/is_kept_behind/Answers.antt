-- `cnf_text::is_kept_behind` meets its contract. Assumes nothing.
use Prim.Native.Nat.{◌+◌}
use native.Mathlib.Omega.{arith}
use mathlib.Core.Path.{sym, ◌∙◌}
use lib.ListN.{drop}
use Rattle.cnf_text.proofs.KeptLaws.{behind_end, behind_literal}
use Rattle.cnf_text.proofs.is_kept_behind.Goals as goal

pub overflow_add-i : goal.overflow_add-i
overflow_add-i c = omega (arith, c.requires.1)

pub is_kept-requires : goal.is_kept-requires
is_kept-requires c = c.requires.0

pub returns-then-magnitude_at-eq0 : goal.returns-then-magnitude_at-eq0
returns-then-magnitude_at-eq0 c = c.is_kept.ensures ∙ sym (behind_end c.args.places.now c.args.literals.now c.args.i c.args.kept (drop (c.args.i + 1) c.args.literals.now) c.magnitude_at.result c.magnitude_at.ensures c.if-magnitude_at-eq0.true)

pub returns : goal.returns
returns c = sym (behind_literal c.args.places.now c.args.literals.now c.args.i c.args.kept (drop (c.args.i + 1) c.args.literals.now) c.magnitude_at.result c.magnitude_at.ensures c.if-magnitude_at-eq0.false)
