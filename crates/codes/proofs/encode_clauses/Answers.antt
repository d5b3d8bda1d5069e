-- `codes::encode_clauses` meets its contract. The loop's invariant: the codes are those of the clauses passed.
-- Assumes nothing.
use native.Mathlib.Omega.{arith}
use mathlib.Core.Path.{refl, ◌∙◌}
use Rattle.codes.proofs.ReadLaws.{none_encoded, more_encoded, all_written, all_counted}
use Rattle.codes.proofs.encode_clauses.Goals as goal

pub loop-from-init : goal.loop-from-init
loop-from-init c = (omega arith, omega arith, refl, none_encoded c.args.literals.now c.args.codes.now)

pub encode_clause-ends-requires : goal.encode_clause-ends-requires
encode_clause-ends-requires c =
    let pre = c.requires in
    let inv = c.loop-from.invariant in record {
      literals_in_bounds = (omega (arith, pre.0, inv.2), inv.1, c.loop-from-test.true);
      names = pre.1;
    }

pub loop-from-smaller : goal.loop-from-smaller
loop-from-smaller c = omega (arith, c.encode_clause-ends.ensures.ahead, c.encode_clause-ends.ensures.inside)

pub loop-from-preserved : goal.loop-from-preserved
loop-from-preserved c =
    let clause = c.encode_clause-ends.ensures in
    let inv = c.loop-from.invariant in
    (clause.inside, clause.fits, c.encode_clause-ends.auto.codes ∙ inv.2, more_encoded inv.3 clause)

pub shape_of-codes : goal.shape_of-codes
shape_of-codes c = c.loop-from.invariant.2

pub returns : goal.returns
returns c = record {
  value = all_counted c.loop-from.invariant.3 c.loop-from-test.false;
  codes_after = all_written c.loop-from.invariant.3 c.loop-from-test.false;
}
