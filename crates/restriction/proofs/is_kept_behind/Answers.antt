-- `restriction::is_kept_behind` meets its contract.
-- Assumes nothing.
use Prim.Native.Nat.{◌+◌}
use mathlib.Core.Path.{sym, ◌∙◌}
use lib.IntN.{pos}
use lib.ListN.{get_or, drop}
use Rattle.restriction.specs.Outcome.{values_of}
use Rattle.restriction.proofs.StandLaws.{kept_behind_end, kept_behind_literal}
use Rattle.restriction.proofs.is_kept_behind.Goals as goal

pub returns-then-magnitude_at-eq0 : goal.returns-then-magnitude_at-eq0
returns-then-magnitude_at-eq0 c =
    let given = c.args in
    let literals = given.literals.now in
    let i = given.i in
    c.stands.ensures
    ∙ sym
    (kept_behind_end (values_of given.values.now) given.kept (get_or literals i (pos 0)) (drop (i + 1) literals)
    (sym c.magnitude_at.ensures ∙ c.if-magnitude_at-eq0.true))

pub returns : goal.returns
returns c =
    let given = c.args in
    let literals = given.literals.now in
    let i = given.i in
    sym
    (kept_behind_literal (values_of given.values.now) given.kept (get_or literals i (pos 0)) (drop (i + 1) literals)
    (λ e. c.if-magnitude_at-eq0.false (c.magnitude_at.ensures ∙ e)))
