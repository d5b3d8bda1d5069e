-- `account_as` meets its contract, from what `read` promises of the tables and `decided` of their fronts. Assumes nothing.
use Prim.Native.Nat.{ℕ}
use native.Mathlib.Omega.{arith}
use mathlib.Core.Path.{sym}
use mir.Syntax.{w32}
use lib.IntN.{ℤ, pos}
use lib.ListN.{length-replicate}
use lib.Seq.{length-take-le}
use borrow.Author.Rules.{Fits-under}
use Rattle.text.specs.Offered.{offered}
use Rattle.formula.specs.Formula.{max_unknowns, max_entries}
use Rattle.text.specs.Reading.{read_as}
use Rattle.text.proofs.FrontLaws.{read_refused, read_taken}
use Rattle.answer.proofs.AnswerLaws.{line_small, front_passes, variables_small, clauses_small}
use Rattle.account.proofs.AccountLaws.{delivered_as, refusal_delivered, names_so, accepts_front, taken_lines}
use Rattle.account.proofs.account_as.Goals as goal

pub slice_bounds-read_offered-end : goal.slice_bounds-read_offered-end
slice_bounds-read_offered-end c = sym (length-replicate {A = ℕ} max_unknowns 0)

pub slice_bounds-read_offered-end-2 : goal.slice_bounds-read_offered-end-2
slice_bounds-read_offered-end-2 c = sym (length-replicate {A = ℤ} max_entries (pos 0))

pub slice_bounds-read_offered-end-3 : goal.slice_bounds-read_offered-end-3
slice_bounds-read_offered-end-3 c = sym (length-replicate {A = ℕ} max_unknowns 0)

pub overflow_cast-refusal : goal.overflow_cast-refusal
overflow_cast-refusal c = Fits-under w32 _ 4294967296 (omega (arith, line_small c.args.gates (offered c.args.input.now c.args.length) (read_refused c.read_offered.ensures.written c.in-Err.is))) tt

pub slice_bounds-kinds-end : goal.slice_bounds-kinds-end
slice_bounds-kinds-end c = (read_taken c.read_offered.ensures.written c.in-Ok.is).kinds_there

pub slice_bounds-decided-end : goal.slice_bounds-decided-end
slice_bounds-decided-end c = sym (length-take-le c.in-Ok.field-0.unknowns c.read_offered.new.kinds (read_taken c.read_offered.ensures.written c.in-Ok.is).kinds_there)

pub slice_bounds-literals-end : goal.slice_bounds-literals-end
slice_bounds-literals-end c = (read_taken c.read_offered.ensures.written c.in-Ok.is).literals_there

pub slice_bounds-decided-end-in-Ok : goal.slice_bounds-decided-end-in-Ok
slice_bounds-decided-end-in-Ok c = sym (length-take-le c.in-Ok.field-0.entries c.read_offered.new.literals (read_taken c.read_offered.ensures.written c.in-Ok.is).literals_there)

pub slice_bounds-names-end : goal.slice_bounds-names-end
slice_bounds-names-end c = (names_so (read_as c.args.gates (offered c.args.input.now c.args.length)) c.read_offered.ensures.written c.in-Ok.is (read_taken c.read_offered.ensures.written c.in-Ok.is)).there

pub slice_bounds-decided-end-in-Ok-2 : goal.slice_bounds-decided-end-in-Ok-2
slice_bounds-decided-end-in-Ok-2 c = sym (length-take-le c.in-Ok.field-0.unknowns c.read_offered.new.names (names_so (read_as c.args.gates (offered c.args.input.now c.args.length)) c.read_offered.ensures.written c.in-Ok.is (read_taken c.read_offered.ensures.written c.in-Ok.is)).there)

pub overflow_cast-variables : goal.overflow_cast-variables
overflow_cast-variables c = Fits-under w32 _ 4294967296 (omega (arith, variables_small c.args.gates (offered c.args.input.now c.args.length) (read_taken c.read_offered.ensures.written c.in-Ok.is))) tt

pub overflow_cast-clauses : goal.overflow_cast-clauses
overflow_cast-clauses c = Fits-under w32 _ 4294967296 (omega (arith, clauses_small c.args.gates (offered c.args.input.now c.args.length) (read_taken c.read_offered.ensures.written c.in-Ok.is))) tt

pub decided-requires : goal.decided-requires
decided-requires c = accepts_front c.read_offered.new.names (read_taken c.read_offered.ensures.written c.in-Ok.is) (names_so (read_as c.args.gates (offered c.args.input.now c.args.length)) c.read_offered.ensures.written c.in-Ok.is (read_taken c.read_offered.ensures.written c.in-Ok.is)) (front_passes c.args.gates (offered c.args.input.now c.args.length) (read_taken c.read_offered.ensures.written c.in-Ok.is))

pub shape_of-out-in-Err : goal.shape_of-out-in-Err
shape_of-out-in-Err c = c.refusal.auto.out

pub returns-in-Err : goal.returns-in-Err
returns-in-Err c = refusal_delivered c.args.out.now (read_refused c.read_offered.ensures.written c.in-Err.is) c.number.ensures c.refusal.ensures.value c.refusal.ensures.out_after

pub shape_of-out-in-Ok : goal.shape_of-out-in-Ok
shape_of-out-in-Ok c = c.decided.auto.out

pub returns-in-Ok : goal.returns-in-Ok
returns-in-Ok c = delivered_as (taken_lines c.read_offered.new.names (read_taken c.read_offered.ensures.written c.in-Ok.is) (names_so (read_as c.args.gates (offered c.args.input.now c.args.length)) c.read_offered.ensures.written c.in-Ok.is (read_taken c.read_offered.ensures.written c.in-Ok.is))) c.decided.ensures
