-- `answer_as` meets its contract, from what `read_offered` promises of the tables and `settled` of their fronts. Assumes nothing.
use Prim.Native.Nat.{ℕ}
use native.Mathlib.Omega.{arith}
use mathlib.Core.Path.{sym, ap, ◌∙◌}
use mir.Syntax.{w32}
use lib.Seq.{length-take-le}
use borrow.Author.Rules.{Fits-under}
use Rattle.text.specs.Offered.{offered}
use Rattle.text.specs.Reading.{refused}
use Rattle.report.specs.Report.{put, put_count}
use Rattle.text.proofs.FrontLaws.{read_refused, read_taken}
use Rattle.text.proofs.ReadAsLaws.{reading_line}
use Rattle.study_answer.proofs.AnswerLaws.{refused_printed, front_passes, variables_small, clauses_small, taken_printed, formula_settles}
use Rattle.study_answer.proofs.AnswerRight.{when_refused, when_taken}
use Rattle.study_answer.proofs.answer_as.Goals as goal

pub overflow_cast-refusal : goal.overflow_cast-refusal
overflow_cast-refusal c = Fits-under w32 _ 4294967296
    (omega (arith, reading_line c.args.gates (offered c.args.input.now c.args.length) _ _ (read_refused c.read_offered.ensures.written c.in-Err.is))) tt

pub slice_bounds-kinds-end : goal.slice_bounds-kinds-end
slice_bounds-kinds-end c = (read_taken c.read_offered.ensures.written c.in-Ok.is).kinds_there

pub slice_bounds-settled-end : goal.slice_bounds-settled-end
slice_bounds-settled-end c = sym (length-take-le c.in-Ok.field-0.unknowns c.read_offered.new.kinds
    (read_taken c.read_offered.ensures.written c.in-Ok.is).kinds_there)

pub slice_bounds-literals-end : goal.slice_bounds-literals-end
slice_bounds-literals-end c = (read_taken c.read_offered.ensures.written c.in-Ok.is).literals_there

pub slice_bounds-settled-end-in-Ok : goal.slice_bounds-settled-end-in-Ok
slice_bounds-settled-end-in-Ok c = sym (length-take-le c.in-Ok.field-0.entries c.read_offered.new.literals
    (read_taken c.read_offered.ensures.written c.in-Ok.is).literals_there)

pub overflow_cast-variables : goal.overflow_cast-variables
overflow_cast-variables c = Fits-under w32 _ 4294967296
    (omega (arith, variables_small c.args.gates (offered c.args.input.now c.args.length) (read_taken c.read_offered.ensures.written c.in-Ok.is))) tt

pub overflow_cast-clauses : goal.overflow_cast-clauses
overflow_cast-clauses c = Fits-under w32 _ 4294967296
    (omega (arith, clauses_small c.args.gates (offered c.args.input.now c.args.length) (read_taken c.read_offered.ensures.written c.in-Ok.is))) tt

pub settled-requires : goal.settled-requires
settled-requires c = front_passes c.args.gates (offered c.args.input.now c.args.length) (read_taken c.read_offered.ensures.written c.in-Ok.is)

pub returns-in-Err : goal.returns-in-Err
returns-in-Err c =
    let read_so = read_refused c.read_offered.ensures.written c.in-Err.is ∙ ap (λ (n : ℕ). refused n c.in-Err.refusal.line) (sym c.number.ensures) in
    let bytes_so = refused_printed c.args.gates (offered c.args.input.now c.args.length) read_so in record {
      value = c.refusal.ensures.value ∙ ap (λ bytes. put_count bytes c.args.out.now) bytes_so;
      out_after = c.refusal.ensures.out_after ∙ ap (λ bytes. put bytes c.args.out.now) bytes_so;
      study_answer_right = when_refused c.args.gates (offered c.args.input.now c.args.length) _ _ read_so;
    }

pub returns-in-Ok : goal.returns-in-Ok
returns-in-Ok c =
    let front = read_taken c.read_offered.ensures.written c.in-Ok.is in
    let bytes_so = taken_printed c.args.gates (offered c.args.input.now c.args.length) front in record {
      value = c.settled.ensures.value ∙ ap (λ bytes. put_count bytes c.args.out.now) bytes_so;
      out_after = c.settled.ensures.out_after ∙ ap (λ bytes. put bytes c.args.out.now) bytes_so;
      study_answer_right = when_taken c.args.gates (offered c.args.input.now c.args.length) front.formula front.whole
          (formula_settles c.args.gates (offered c.args.input.now c.args.length) front c.settled.ensures.settles);
    }
