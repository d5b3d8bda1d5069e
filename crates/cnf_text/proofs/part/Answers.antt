-- `cnf_text::part` meets its contract. Assumes nothing.
use native.Mathlib.Omega.{arith}
use mathlib.Core.Path.{sym, ap, ◌∙◌}
use lib.Seq.{length-take-le}
use Rattle.formula.proofs.Accepted.{accepted}
use Rattle.writer.proofs.PutLaws.{put_within}
use Rattle.cnf_text.proofs.OutputLaws.{few_universals, part_refused, part_caused, part_past, part_there, claim_is, put_empty, put_whole}
use Rattle.formula.proofs.Accepted.{accepted_sizes}
use Rattle.writer.proofs.OutputLaws.{clauses_counted}
use Rattle.formula.specs.declared.Formula.{Formula}
use Rattle.cnf_text.proofs.part.Goals as goal

pub rows_cause-number-requires : goal.rows_cause-number-requires
rows_cause-number-requires c = (let sized = accepted_sizes c.args.kinds.now c.args.literals.now (sym c.check.ensures.value ∙ c.in-Ok.is) in omega (arith, ap (λ (f : Formula). f.unknowns) sized, ap (λ (f : Formula). f.universals) sized, few_universals c.args.kinds.now))

pub returns-then-number-ne0 : goal.returns-then-number-ne0
returns-then-number-ne0 c =
    let both = put_empty c.args.out.now (part_caused c.args.kinds.now c.args.literals.now c.args.claim c.args.rows.now c.args.i c.in-Ok.sizes (sym c.check.ensures.value ∙ c.in-Ok.is) c.rows_cause-number.ensures c.if-number-ne0.true) in
    record { counted = both.0; written = both.1 }

pub returns-then-rows-i : goal.returns-then-rows-i
returns-then-rows-i c =
    let both = put_empty c.args.out.now (part_past c.args.kinds.now c.args.literals.now c.args.claim c.args.rows.now c.args.i c.if-rows-i.true) in
    record { counted = both.0; written = both.1 }

pub put_part-end-requires : goal.put_part-end-requires
put_part-end-requires c = let limits = claim_is _ c.args.claim c.args.rows.now c.rows_cause-number.ensures c.if-number-ne0.false in (accepted c.args.kinds.now c.args.literals.now (sym c.check.ensures.value ∙ c.in-Ok.is), clauses_counted c.args.kinds.now c.args.literals.now c.in-Ok.sizes (sym c.check.ensures.value ∙ c.in-Ok.is), limits.0, omega (arith, c.if-rows-i.false), limits.1, omega arith)

pub slice_bounds-text-end : goal.slice_bounds-text-end
slice_bounds-text-end c = put_within c.put_part-end.ensures

pub slice_bounds-append-end : goal.slice_bounds-append-end
slice_bounds-append-end c = sym (length-take-le _ _ (put_within c.put_part-end.ensures))

pub returns-in-Err : goal.returns-in-Err
returns-in-Err c =
    let both = put_empty c.args.out.now (part_refused c.args.kinds.now c.args.literals.now c.args.claim c.args.rows.now c.args.i c.in-Err.field-0 (sym c.check.ensures.value ∙ c.in-Err.is)) in
    record { counted = both.0; written = both.1 }

pub returns-else-rows-i : goal.returns-else-rows-i
returns-else-rows-i c =
    let both = put_whole c.args.out.now (part_there c.args.kinds.now c.args.literals.now c.args.claim c.args.rows.now c.args.i c.in-Ok.sizes (sym c.check.ensures.value ∙ c.in-Ok.is) c.rows_cause-number.ensures c.if-number-ne0.false (omega (arith, c.if-rows-i.false))) c.put_part-end.ensures c.append.ensures.value c.append.ensures.out_after in
    record { counted = both.0; written = both.1 }
