-- `report::most_rounds` meets its contract. Assumes nothing.
use native.Mathlib.Omega.{arith}
use borrow.Author.Tests.{eq-eqb, ne_eqb}
use Rattle.report.specs.Page.{most_line}
use borrow.Author.Rules.{rules}
use Rattle.report.proofs.most_rounds.Goals as goal

pub returns-then-studies-eq0 : goal.returns-then-studies-eq0
unfolding most_line
returns-then-studies-eq0 c = record {
  upper_bound = omega arith;
  text_after = rw (eq-eqb c.args.studies 0
      c.if-studies-eq0.true) c.append.ensures.out_after_2;
}

pub returns : goal.returns
unfolding most_line
returns c = record {
  upper_bound = omega arith;
  text_after = rw (ne_eqb c.args.studies 0
      c.if-studies-eq0.false) c.pair.ensures.text_after;
}
