-- `none_unsatisfied` meets its contract. Assumes nothing.
use mathlib.Core.Path.{◌∙◌, refl}
use native.Mathlib.Omega.{arith}
use lib.ListN.{length-set}
use Rattle.engine.proofs.search.SatisfiedRows.{row_unsatisfied, row_row_satisfied}
use Rattle.search_sets.proofs.MaskLaws.{store_behind, kept_trans}
use Rattle.engine.proofs.search.satisfied_rows.none_unsatisfied.Goals as goal

pub returns-then-unsatisfied : goal.returns-then-unsatisfied
returns-then-unsatisfied c = row_unsatisfied _ _ _ _ _ _ (record { same = λ p lt l. refl })

pub returns-then-start-codes : goal.returns-then-start-codes
returns-then-start-codes c = row_unsatisfied _ _ _ _ _ _ (store_behind _ _ _ (omega arith))

pub returns-then-satisfied_by_clauses : goal.returns-then-satisfied_by_clauses
returns-then-satisfied_by_clauses c = row_row_satisfied _ _ _ _ _ _ c.satisfied_by_clauses.ensures c.if-satisfied_by_clauses.true

pub shape_of-sets : goal.shape_of-sets
shape_of-sets c =
    let satisfied_by_clauses_call = c.satisfied_by_clauses in
    length-set satisfied_by_clauses_call.new.sets _ _ ∙ satisfied_by_clauses_call.auto.sets

pub returns : goal.returns
returns c = row_unsatisfied _ _ _ _ _ _
    (kept_trans c.satisfied_by_clauses.ensures.kept (store_behind _ _ _ (omega arith)))
