-- `results` meets its contract: the answer's number stands behind 01's two lines. Assumes nothing.
use native.Mathlib.Omega.{arith}
use mathlib.Core.Path.{◌∙◌}
use Rattle.account.proofs.AccountLaws.{two_few, head_so}
use Rattle.account.proofs.results.Goals as goal

pub field-next-requires : goal.field-next-requires
field-next-requires c = omega (arith, two_few c.args.answer c.args.variables c.args.clauses c.args.rounds c.args.universal c.args.existential c.args.text.now c.result-two.ensures.value c.result-two.ensures.out_after c.requires, c.result-two.auto.out, c.requires)

pub append-requires : goal.append-requires
append-requires c = omega (arith, two_few c.args.answer c.args.variables c.args.clauses c.args.rounds c.args.universal c.args.existential c.args.text.now c.result-two.ensures.value c.result-two.ensures.out_after c.requires, c.field-next.ensures.upper_bound, c.field-next.auto.text, c.result-two.auto.out, c.requires)

pub shape_of-text : goal.shape_of-text
shape_of-text c = c.append.auto.text ∙ c.field-next.auto.text ∙ c.result-two.auto.out

pub returns : goal.returns
returns c = record {
  upper_bound = omega (arith, two_few c.args.answer c.args.variables c.args.clauses c.args.rounds c.args.universal c.args.existential c.args.text.now c.result-two.ensures.value c.result-two.ensures.out_after c.requires, c.field-next.ensures.upper_bound, c.append.ensures.value);
  text_after = head_so c.args.answer c.args.variables c.args.clauses c.args.rounds c.args.universal c.args.existential c.args.text.now c.result-two.ensures.value c.result-two.ensures.out_after c.requires c.field-next.ensures.text_after c.append.ensures.text_after;
}
