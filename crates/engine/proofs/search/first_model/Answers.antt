-- `first_model` meets its contract. Assumes nothing.
use borrow.Author.Rules.{rules}
use Prim.Native.Nat.{ℕ}
use Rattle.std.specs.Prelude.{Result, Err}
use Rattle.cause.specs.declared.Cause.{Cause}
use mathlib.Core.Path.{◌≡◌, sym, ◌∙◌, subst}
use native.Mathlib.Omega.{arith}
use lib.ListN.{length, replicate, length-take, length-replicate}
use Rattle.formula.specs.Formula.{max_entries}
use Rattle.index.specs.Index.{index_size}
use Rattle.engine.specs.declared.search.Search.{Search}
use Rattle.engine.specs.Search.{Searched}
use Rattle.engine.specs.Private.TermTables.{table_size}
use Rattle.engine.proofs.search.OutcomeLaws.{refused_searched}
use Rattle.engine.proofs.search.PreparedLaws.{passes, used_within}
use Rattle.engine.proofs.search.first_model.Goals as goal

-- The entries used are places of the table.
pub slice_bounds-codes-end : goal.slice_bounds-codes-end
slice_bounds-codes-end c =
    let prepare_call = c.prepare-used in
    let size : length (replicate {A = ℕ} max_entries 0) ≡ max_entries = length-replicate {A = ℕ} max_entries 0 in
    omega (
      arith,
      used_within c.args.literals.now (length (replicate {A = ℕ} max_entries 0)),
      prepare_call.ensures.entries,
      prepare_call.auto.codes,
      size,
    )

pub slice_bounds-first_model_over-end : goal.slice_bounds-first_model_over-end
slice_bounds-first_model_over-end c =
    let prepare_call = c.prepare-used in
    let size : length (replicate {A = ℕ} max_entries 0) ≡ max_entries = length-replicate {A = ℕ} max_entries 0 in
    simp length-take (omega (
      arith,
      used_within c.args.literals.now (length (replicate {A = ℕ} max_entries 0)),
      prepare_call.ensures.entries,
      prepare_call.auto.codes,
      size,
    ))

pub returns-in_err-check : goal.returns-in_err-check
returns-in_err-check c =
    let q = c.args in
    let same : c.from_residual.result ≡ Err c.in_err-check.field-0.0 = search rules in
    subst (λ (r : Result Search Cause). Searched q.kinds.now q.literals.now q.preferences.now q.rows.now q.count q.universal q.work.now r q.work.now)
    (sym same)
    (refused_searched q.kinds.now q.literals.now q.preferences.now q.rows.now q.count q.universal q.work.now
    c.in_err-check.field-0.0 (sym c.check.ensures.value ∙ c.in_err-check.was))

pub shape_of-work : goal.shape_of-work
shape_of-work c = c.first_model_over.auto.work

pub returns : goal.returns
returns c =
    let q = c.args in
    c.first_model_over.ensures.prepared q.literals.now
    (c.prepare-used.ensures.prepared
    (passes q.kinds.now q.literals.now (sym c.check.ensures.value ∙ c.in_ok-check.was))
    (length-replicate {A = ℕ} max_entries 0) (length-replicate {A = ℕ} index_size 0) (length-replicate {A = ℕ} table_size 0))
    (λ known. absurd (omega arith))
