-- `restriction::stands` meets its contract. The loop's invariant: no literal passed says whether the clause is kept.
-- Assumes nothing.
use mathlib.Core.Path.{sym, ◌∙◌}
use Rattle.restriction.specs.Outcome.{values_of}
use Rattle.restriction.proofs.StandLaws.{at_last, at_end, at_true, at_other}
use Rattle.restriction.proofs.stands.Goals as goal

pub returns-then-name-eq0 : goal.returns-then-name-eq0
returns-then-name-eq0 c =
    let vs = values_of c.args.values.now in
    let turn = c.loop-i in
    let literals = c.args.literals.now in
    let below = c.loop-i-test.true in
    sym (turn.invariant ∙ at_end vs literals turn.i below (sym c.magnitude_at-name.ensures ∙ c.if-name-eq0.true))

pub returns-then-is_true : goal.returns-then-is_true
returns-then-is_true c =
    let vs = values_of c.args.values.now in
    let turn = c.loop-i in
    let name = c.magnitude_at-name in
    let sign = c.negative_at in
    let literals = c.args.literals.now in
    let below = c.loop-i-test.true in
    let true_there = sym c.is_true.ensures ∙ c.if-is_true.true in
    sym
    (turn.invariant
    ∙ at_true vs literals turn.i below name.result sign.result name.ensures sign.ensures c.if-name-eq0.false true_there)

pub loop-i-preserved : goal.loop-i-preserved
loop-i-preserved c =
    let vs = values_of c.args.values.now in
    let turn = c.loop-i in
    let name = c.magnitude_at-name in
    let sign = c.negative_at in
    let literals = c.args.literals.now in
    let below = c.loop-i-test.true in
    let other_there = sym c.is_true.ensures ∙ c.if-is_true.false in
    turn.invariant
    ∙ at_other vs literals turn.i below name.result sign.result name.ensures sign.ensures c.if-name-eq0.false other_there

pub returns : goal.returns
returns c =
    let given = c.args in
    let turn = c.loop-i in
    sym (turn.invariant ∙ at_last (values_of given.values.now) given.literals.now turn.i c.loop-i-test.false)
