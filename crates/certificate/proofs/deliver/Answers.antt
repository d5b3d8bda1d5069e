-- `certificate::deliver` meets its contract, by the answer's number. Assumes nothing.
use mathlib.Core.Path.{sym, ◌∙◌}
use Rattle.certificate.proofs.CertificateLaws.{number_so, true_writes, true_delivered, false_writes, false_delivered, undecided_delivered}
use Rattle.certificate.proofs.deliver.Goals as goal

pub put_file-count-requires : goal.put_file-count-requires
put_file-count-requires c = true_writes c.args.kinds.now c.args.literals.now c.args.variables c.args.clauses c.requires.0 (sym (number_so c.args.kinds.now c.args.literals.now c.args.variables c.args.clauses c.requires.0 c.number-number.ensures) ∙ c.if-number-eq1.true) c.record_of-record.ensures

pub returns-then-number-eq1 : goal.returns-then-number-eq1
returns-then-number-eq1 c = true_delivered c.args.kinds.now c.args.literals.now c.args.variables c.args.clauses c.requires.0 (sym (number_so c.args.kinds.now c.args.literals.now c.args.variables c.args.clauses c.requires.0 c.number-number.ensures) ∙ c.if-number-eq1.true) c.record_of-record.ensures c.args.file.now c.args.lines.now c.put_file-count.ensures.value c.put_file-count.ensures.file_after

pub put_file-count-requires-then-number-eq0 : goal.put_file-count-requires-then-number-eq0
put_file-count-requires-then-number-eq0 c = false_writes c.args.kinds.now c.args.literals.now c.args.variables c.args.clauses c.requires.0 (sym (number_so c.args.kinds.now c.args.literals.now c.args.variables c.args.clauses c.requires.0 c.number-number.ensures) ∙ c.if-number-eq0.true) c.record_of-record-then-number-eq0.ensures

pub returns-then-number-eq0 : goal.returns-then-number-eq0
returns-then-number-eq0 c = false_delivered c.args.kinds.now c.args.literals.now c.args.variables c.args.clauses c.requires.0 (sym (number_so c.args.kinds.now c.args.literals.now c.args.variables c.args.clauses c.requires.0 c.number-number.ensures) ∙ c.if-number-eq0.true) c.record_of-record-then-number-eq0.ensures c.args.file.now c.args.lines.now c.put_file-count-then-number-eq0.ensures.value c.put_file-count-then-number-eq0.ensures.file_after

pub returns : goal.returns
returns c = undecided_delivered c.args.kinds.now c.args.literals.now c.args.variables c.args.clauses c.requires.0 c.args.file.now c.args.lines.now (number_so c.args.kinds.now c.args.literals.now c.args.variables c.args.clauses c.requires.0 c.number-number.ensures) c.if-number-eq1.false c.if-number-eq0.false c.result-count.ensures.value c.result-count.ensures.out_after
