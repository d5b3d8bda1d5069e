-- `reply::is_borne_out` meets its contract.
-- Assumes nothing.
use Prim.Native.Nat.{ℕ}
use mathlib.Core.Path.{◌∙◌}
use lib.IntN.{ℤ, pos}
use lib.ListN.{length-replicate}
use Rattle.formula.specs.Formula.{max_entries}
use Rattle.reply.proofs.FittedLaws.{zeros_blank}
use Rattle.reply.proofs.JudgeLaws.{borne_said_of}
use Rattle.reply.proofs.NextLaws.{moves_few, kinds_few, literals_few}
use native.Mathlib.Omega.{arith}
use Rattle.reply.proofs.is_borne_out.Goals as goal

pub set-used-requires : goal.set-used-requires
set-used-requires c =
    let given = c.args in
    let few = literals_few given.kinds.now given.literals.now given.claim given.rows.now given.count given.moves.now c.requires.0 c.requires.1 in
    (c.requires.0.formula, omega (arith, few, length-replicate {A = ℤ} max_entries (pos 0)), c.requires.1)

pub keep_fitting-fit-requires : goal.keep_fitting-fit-requires
keep_fitting-fit-requires c =
    let given = c.args in
    let few = c.requires.0.few in (
      kinds_few given.kinds.now given.literals.now given.claim given.rows.now given.count given.moves.now c.requires.0 c.requires.1,
      moves_few given.kinds.now given.literals.now given.claim given.rows.now given.count given.moves.now c.requires.0 c.requires.1,
      c.requires.0.inside,
      omega (arith, few, length-replicate {A = ℕ} 4096 0),
      zeros_blank 4096,
    )

pub slice_bounds-is_accepted-count : goal.slice_bounds-is_accepted-count
slice_bounds-is_accepted-count c =
    let given = c.args in
    moves_few given.kinds.now given.literals.now given.claim given.rows.now given.count given.moves.now c.requires.0 c.requires.1

pub slice_bounds-is_accepted-start : goal.slice_bounds-is_accepted-start
slice_bounds-is_accepted-start c =
    let given = c.args in
    moves_few given.kinds.now given.literals.now given.claim given.rows.now given.count given.moves.now c.requires.0 c.requires.1

pub returns : goal.returns
returns c =
    let given = c.args in
    c.is_accepted.ensures
    ∙ borne_said_of given.kinds.now given.literals.now given.claim given.rows.now given.count given.moves.now c.requires.0 c.requires.1
    (c.keep_fitting-fit.ensures.table_len_unchanged ∙ length-replicate {A = ℕ} 4096 0) c.keep_fitting-fit.ensures.fitted c.set-used.ensures.left_after
