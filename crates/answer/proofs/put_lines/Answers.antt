-- `put_lines` meets its contract, in each case. Assumes nothing.
use Prim.Native.Nat.{ℕ}
use mathlib.Core.Path.{refl, sym, ap, ◌∙◌}
use Rattle.report.specs.Report.{refusal_line, put, put_count}
use mir.Syntax.{w32}
use lib.Seq.{length-take-le}
use borrow.Author.Rules.{Fits-under}
use Rattle.answer.proofs.WithinLaws.{case_usable, case_puts}
use Rattle.answer.proofs.put_lines.Goals as goal

pub overflow_cast-refusal : goal.overflow_cast-refusal
overflow_cast-refusal c = Fits-under w32 _ 4294967296 (case_usable c.args.kinds.now c.args.literals.now c.in-Err.is c.requires.0) tt

pub slice_bounds-decided-end : goal.slice_bounds-decided-end
slice_bounds-decided-end c = sym (length-take-le _ _ (case_usable c.args.kinds.now c.args.literals.now c.in-Ok.is c.requires.0).kinds_there)

pub slice_bounds-decided-end-in-Ok : goal.slice_bounds-decided-end-in-Ok
slice_bounds-decided-end-in-Ok c = sym (length-take-le _ _ (case_usable c.args.kinds.now c.args.literals.now c.in-Ok.is c.requires.0).literals_there)

pub overflow_cast-variables : goal.overflow_cast-variables
overflow_cast-variables c = Fits-under w32 _ 4294967296 (case_usable c.args.kinds.now c.args.literals.now c.in-Ok.is c.requires.0).variables_fit tt

pub overflow_cast-clauses : goal.overflow_cast-clauses
overflow_cast-clauses c = Fits-under w32 _ 4294967296 (case_usable c.args.kinds.now c.args.literals.now c.in-Ok.is c.requires.0).clauses_fit tt

pub decided-requires : goal.decided-requires
decided-requires c = ((case_usable c.args.kinds.now c.args.literals.now c.in-Ok.is c.requires.0).accepted, c.requires.1)

pub returns-in-Err : goal.returns-in-Err
returns-in-Err c = case_puts c.args.kinds.now c.args.literals.now c.in-Err.is c.args.work.now record { counted = c.refusal.ensures.value ∙ ap (λ (n : ℕ). put_count (refusal_line n c.in-Err.refusal.line) c.args.out.now) c.number.ensures; written = c.refusal.ensures.out_after ∙ ap (λ (n : ℕ). put (refusal_line n c.in-Err.refusal.line) c.args.out.now) c.number.ensures; left_so = refl }

pub returns-in-Ok : goal.returns-in-Ok
returns-in-Ok c = case_puts c.args.kinds.now c.args.literals.now c.in-Ok.is c.args.work.now c.decided.ensures
