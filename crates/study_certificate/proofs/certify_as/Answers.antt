-- `certify_as` meets its contract, from what `read_offered` promises of the tables and `decided` of their fronts. Assumes nothing.
use Prim.Native.Nat.{ℕ}
use native.Mathlib.Omega.{arith}
use mathlib.Core.Path.{sym, ap, ◌∙◌}
use mir.Syntax.{w32}
use lib.Seq.{length-take-le}
use Rattle.text.specs.Offered.{offered}
use Rattle.text.specs.Reading.{refused}
use Rattle.text.proofs.FrontLaws.{read_refused, read_taken}
use Rattle.text.proofs.ReadAsLaws.{reading_line}
use Rattle.study_answer.proofs.AnswerLaws.{front_passes, variables_small, clauses_small}
use Rattle.study_certificate.proofs.DeliveryLaws.{text_refused, work_refused, text_decided}
use Rattle.study_certificate.proofs.StudyCertificateRight.{study_certificate_right}
use borrow.Author.Rules.{Fits-under}
use Rattle.study_certificate.proofs.certify_as.Goals as goal

pub overflow_cast-refusal : goal.overflow_cast-refusal
overflow_cast-refusal c = Fits-under w32 _ 4294967296
    (omega (arith, reading_line c.args.gates (offered c.args.input.now c.args.length) _ _ (read_refused c.read_offered.ensures.written c.in-Err.is))) tt

pub returns-then-work-ne-WORK : goal.returns-then-work-ne-WORK
returns-then-work-ne-WORK c =
    let both = work_refused c.args.gates (offered c.args.input.now c.args.length) c.args.work.now c.args.file.now c.args.lines.now
    (study_certificate_right c.args.gates (offered c.args.input.now c.args.length)) (read_taken c.read_offered.ensures.written c.in-Ok.is)
    c.number-then-work-ne-WORK.ensures c.if-work-ne-WORK.true c.refuse-then-work-ne-WORK.ensures in
    record { delivered = both.0; work_after = both.1.0; study_certificate_right = both.1.1 }

pub slice_bounds-kinds-end : goal.slice_bounds-kinds-end
slice_bounds-kinds-end c = (read_taken c.read_offered.ensures.written c.in-Ok.is).kinds_there

pub slice_bounds-decided-end : goal.slice_bounds-decided-end
slice_bounds-decided-end c = sym (length-take-le c.in-Ok.field-0.unknowns c.read_offered.new.kinds
    (read_taken c.read_offered.ensures.written c.in-Ok.is).kinds_there)

pub slice_bounds-literals-end : goal.slice_bounds-literals-end
slice_bounds-literals-end c = (read_taken c.read_offered.ensures.written c.in-Ok.is).literals_there

pub slice_bounds-decided-end-in-Ok : goal.slice_bounds-decided-end-in-Ok
slice_bounds-decided-end-in-Ok c = sym (length-take-le c.in-Ok.field-0.entries c.read_offered.new.literals
    (read_taken c.read_offered.ensures.written c.in-Ok.is).literals_there)

pub overflow_cast-variables : goal.overflow_cast-variables
overflow_cast-variables c = Fits-under w32 _ 4294967296
    (omega (arith, variables_small c.args.gates (offered c.args.input.now c.args.length) (read_taken c.read_offered.ensures.written c.in-Ok.is))) tt

pub overflow_cast-clauses : goal.overflow_cast-clauses
overflow_cast-clauses c = Fits-under w32 _ 4294967296
    (omega (arith, clauses_small c.args.gates (offered c.args.input.now c.args.length) (read_taken c.read_offered.ensures.written c.in-Ok.is))) tt

pub decided-requires : goal.decided-requires
decided-requires c = (
  front_passes c.args.gates (offered c.args.input.now c.args.length) (read_taken c.read_offered.ensures.written c.in-Ok.is),
  c.if-work-ne-WORK.false,
  clauses_small c.args.gates (offered c.args.input.now c.args.length) (read_taken c.read_offered.ensures.written c.in-Ok.is),
)

pub returns-in-Err : goal.returns-in-Err
returns-in-Err c =
    let both = text_refused c.args.gates (offered c.args.input.now c.args.length) c.args.work.now c.args.file.now c.args.lines.now
    (study_certificate_right c.args.gates (offered c.args.input.now c.args.length)) (read_refused c.read_offered.ensures.written c.in-Err.is ∙ ap
    (λ (n : ℕ). refused n c.in-Err.refusal.line) (sym c.number.ensures)) c.refuse.ensures in
    record { delivered = both.0; work_after = both.1.0; study_certificate_right = both.1.1 }

pub returns-else-work-ne-WORK : goal.returns-else-work-ne-WORK
returns-else-work-ne-WORK c =
    let both = text_decided c.args.gates (offered c.args.input.now c.args.length) c.args.work.now c.args.file.now c.args.lines.now
    (study_certificate_right c.args.gates (offered c.args.input.now c.args.length)) (read_taken c.read_offered.ensures.written c.in-Ok.is)
    c.decided.ensures.work_after c.decided.ensures.delivered in
    record { delivered = both.0; work_after = both.1.0; study_certificate_right = both.1.1 }
