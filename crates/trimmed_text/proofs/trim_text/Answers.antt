-- `trimmed_text::trim_text` meets its contract, from what `read_offered` promises of the tables and `put_trimmed` of their fronts. Assumes nothing.
use borrow.Author.Rules.{Fits-under}
use lib.Seq.{length-take-le}
use mathlib.Core.Path.{sym}
use mir.Syntax.{w32}
use native.Mathlib.Omega.{arith}
use Rattle.text.specs.Offered.{offered}
use Rattle.text.specs.Reading.{read}
use Rattle.text.proofs.FrontLaws.{read_refused, read_taken}
use Rattle.trimmed_text.proofs.CallLaws.{names_read, front_writable, front_text, line_small, variables_small, refusal_delivered, text_delivered}
use Rattle.trimmed_text.proofs.TrimmedTextRight.{trimmed_text_right}
use Rattle.trimmed_text.proofs.trim_text.Goals as goal

pub overflow_cast-refusal : goal.overflow_cast-refusal
unfolding read
overflow_cast-refusal c = Fits-under w32 _ 4294967296 (omega (arith, line_small (offered c.args.input.now c.args.length) (read_refused c.read_offered.ensures.written c.in-Err.is))) tt

pub slice_bounds-kinds-end : goal.slice_bounds-kinds-end
slice_bounds-kinds-end c = (read_taken c.read_offered.ensures.written c.in-Ok.is).kinds_there

pub slice_bounds-put_trimmed-end : goal.slice_bounds-put_trimmed-end
slice_bounds-put_trimmed-end c = sym (length-take-le _ _ (read_taken c.read_offered.ensures.written c.in-Ok.is).kinds_there)

pub slice_bounds-literals-end : goal.slice_bounds-literals-end
slice_bounds-literals-end c = (read_taken c.read_offered.ensures.written c.in-Ok.is).literals_there

pub slice_bounds-put_trimmed-end-in-Ok : goal.slice_bounds-put_trimmed-end-in-Ok
slice_bounds-put_trimmed-end-in-Ok c = sym (length-take-le _ _ (read_taken c.read_offered.ensures.written c.in-Ok.is).literals_there)

pub slice_bounds-names-end : goal.slice_bounds-names-end
slice_bounds-names-end c = (names_read (read_taken c.read_offered.ensures.written c.in-Ok.is).formula (read_taken c.read_offered.ensures.written c.in-Ok.is).whole c.read_offered.ensures.written c.in-Ok.is).there

pub slice_bounds-put_trimmed-end-in-Ok-2 : goal.slice_bounds-put_trimmed-end-in-Ok-2
slice_bounds-put_trimmed-end-in-Ok-2 c = sym (length-take-le _ _ (names_read (read_taken c.read_offered.ensures.written c.in-Ok.is).formula (read_taken c.read_offered.ensures.written c.in-Ok.is).whole c.read_offered.ensures.written c.in-Ok.is).there)

pub overflow_cast-variables : goal.overflow_cast-variables
unfolding read
overflow_cast-variables c = Fits-under w32 _ 4294967296 (omega (arith, variables_small (offered c.args.input.now c.args.length) (read_taken c.read_offered.ensures.written c.in-Ok.is))) tt

pub put_trimmed-count-requires : goal.put_trimmed-count-requires
unfolding read
put_trimmed-count-requires c = front_writable (offered c.args.input.now c.args.length) (read_taken c.read_offered.ensures.written c.in-Ok.is) (names_read (read_taken c.read_offered.ensures.written c.in-Ok.is).formula (read_taken c.read_offered.ensures.written c.in-Ok.is).whole c.read_offered.ensures.written c.in-Ok.is)

pub returns-in-Err : goal.returns-in-Err
unfolding read
returns-in-Err c = record {
  delivered = refusal_delivered (offered c.args.input.now c.args.length) c.args.out.now c.args.lines.now (read_refused c.read_offered.ensures.written c.in-Err.is) c.number.ensures c.refusal-count.ensures.value c.refusal-count.ensures.out_after;
  proved = trimmed_text_right (offered c.args.input.now c.args.length);
}

pub returns-in-Ok : goal.returns-in-Ok
unfolding read
returns-in-Ok c = record {
  delivered = text_delivered (offered c.args.input.now c.args.length) c.args.out.now c.args.lines.now (read_taken c.read_offered.ensures.written c.in-Ok.is).formula (read_taken c.read_offered.ensures.written c.in-Ok.is).whole (front_text (offered c.args.input.now c.args.length) (read_taken c.read_offered.ensures.written c.in-Ok.is) (names_read (read_taken c.read_offered.ensures.written c.in-Ok.is).formula (read_taken c.read_offered.ensures.written c.in-Ok.is).whole c.read_offered.ensures.written c.in-Ok.is)) c.put_trimmed-count.ensures.value c.put_trimmed-count.ensures.out_after;
  proved = trimmed_text_right (offered c.args.input.now c.args.length);
}
