-- `judgement::on_record` meets its contract. Assumes nothing.
use mathlib.Core.Path.{sym, ◌∙◌}
use Rattle.judgement.proofs.FindingLaws.{record_other, record_unclaimed, record_claimed}
use Rattle.judgement.proofs.on_record.Goals as goal

pub returns-then-is_other : goal.returns-then-is_other
returns-then-is_other c = record_other c.args.kinds.now c.args.literals.now c.args.file.now c.args.work.now c.args.clauses c.args.«record» (sym c.if-is_other.true ∙ c.is_other.ensures)

pub returns-then-record-ne1 : goal.returns-then-record-ne1
returns-then-record-ne1 c = record_unclaimed c.args.kinds.now c.args.literals.now c.args.file.now c.args.work.now c.args.clauses c.args.«record» (sym c.if-is_other.false ∙ c.is_other.ensures) c.if-record-ne1.true

pub returns : goal.returns
returns c = record_claimed c.args.kinds.now c.args.literals.now c.args.file.now c.args.work.now c.args.clauses c.args.«record» (sym c.if-is_other.false ∙ c.is_other.ensures) c.if-record-ne1.false c.on_claim.ensures
