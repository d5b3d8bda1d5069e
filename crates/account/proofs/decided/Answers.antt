-- `account::decided` meets its contract, from what the run promises. Assumes nothing.
use Prim.Native.Nat.{ℕ, ◌*◌}
use mathlib.Core.Path.{refl, sym, ap, ◌∙◌}
use lib.ListN.{length-replicate}
use Rattle.formula.specs.Formula.{max_rows, work_size}
use Rattle.account.specs.Account.{lines}
use Rattle.account.proofs.AccountLaws.{delivered_as, told_so, tables_so}
use Rattle.account.proofs.decided.Goals as goal

pub universal_unknowns-universals-requires : goal.universal_unknowns-universals-requires
universal_unknowns-universals-requires c = c.requires.passes

pub slice_bounds-run-end : goal.slice_bounds-run-end
slice_bounds-run-end c = refl

pub slice_bounds-run-end-2 : goal.slice_bounds-run-end-2
slice_bounds-run-end-2 c = sym (length-replicate {A = ℕ} (16 * max_rows) 0)

pub slice_bounds-run-end-3 : goal.slice_bounds-run-end-3
slice_bounds-run-end-3 c = sym (length-replicate {A = ℕ} max_rows 0)

pub slice_bounds-run-end-4 : goal.slice_bounds-run-end-4
slice_bounds-run-end-4 c = sym (length-replicate {A = ℕ} max_rows 0)

pub slice_bounds-run-end-5 : goal.slice_bounds-run-end-5
slice_bounds-run-end-5 c = sym (length-replicate {A = ℕ} (16 * max_rows) 0)

pub slice_bounds-run-end-6 : goal.slice_bounds-run-end-6
slice_bounds-run-end-6 c = sym (length-replicate {A = ℕ} max_rows 0)

pub slice_bounds-run-end-7 : goal.slice_bounds-run-end-7
slice_bounds-run-end-7 c = sym (length-replicate {A = ℕ} max_rows 0)

pub slice_bounds-run-end-8 : goal.slice_bounds-run-end-8
slice_bounds-run-end-8 c = sym (length-replicate {A = ℕ} work_size 0)

pub slice_bounds-tell-end : goal.slice_bounds-tell-end
slice_bounds-tell-end c = sym (c.run-end.auto.universal_rows ∙ length-replicate {A = ℕ} (16 * max_rows) 0)

pub slice_bounds-tell-end-2 : goal.slice_bounds-tell-end-2
slice_bounds-tell-end-2 c = sym (c.run-end.auto.universal_marks ∙ length-replicate {A = ℕ} max_rows 0)

pub slice_bounds-tell-end-3 : goal.slice_bounds-tell-end-3
slice_bounds-tell-end-3 c = sym (c.run-end.auto.universal_counts ∙ length-replicate {A = ℕ} max_rows 0)

pub slice_bounds-tell-end-4 : goal.slice_bounds-tell-end-4
slice_bounds-tell-end-4 c = sym (c.run-end.auto.existential_rows ∙ length-replicate {A = ℕ} (16 * max_rows) 0)

pub slice_bounds-tell-end-5 : goal.slice_bounds-tell-end-5
slice_bounds-tell-end-5 c = sym (c.run-end.auto.existential_marks ∙ length-replicate {A = ℕ} max_rows 0)

pub slice_bounds-tell-end-6 : goal.slice_bounds-tell-end-6
slice_bounds-tell-end-6 c = sym (c.run-end.auto.existential_counts ∙ length-replicate {A = ℕ} max_rows 0)

pub tell-requires : goal.tell-requires
tell-requires c = tables_so c.args.kinds.now c.args.literals.now c.args.names.now c.universal_unknowns-universals.result c.requires
    c.universal_unknowns-universals.ensures c.run-end.ensures (c.run-end.auto.universal_rows ∙ length-replicate {A = ℕ} (16 * max_rows) 0)
    (c.run-end.auto.universal_marks ∙ length-replicate {A = ℕ} max_rows 0) (c.run-end.auto.universal_counts ∙ length-replicate {A = ℕ} max_rows 0)
    (c.run-end.auto.existential_rows ∙ length-replicate {A = ℕ} (16 * max_rows) 0) (c.run-end.auto.existential_marks ∙ length-replicate {A = ℕ} max_rows 0)
    (c.run-end.auto.existential_counts ∙ length-replicate {A = ℕ} max_rows 0)

pub shape_of-out : goal.shape_of-out
shape_of-out c = c.tell.auto.out

pub returns : goal.returns
returns c = delivered_as (ap lines (told_so c.args.kinds.now c.args.literals.now c.args.names.now c.universal_unknowns-universals.result c.requires
    c.universal_unknowns-universals.ensures c.run-end.ensures c.args.variables c.args.clauses)) c.tell.ensures
