-- `reply::is_borne_out_with` meets its contract.
-- Assumes nothing.
use Prim.Native.Nat.{ℕ}
use lib.ListN.{length-replicate}
use Rattle.formula.specs.Formula.{max_unknowns}
use Rattle.reply.proofs.NextLaws.{longer_room, longer_good}
use native.Mathlib.Omega.{arith}
use Rattle.reply.proofs.is_borne_out_with.Goals as goal

pub append-size-requires : goal.append-size-requires
append-size-requires c =
    let given = c.args in
    let room = longer_room given.kinds.now given.literals.now given.claim given.rows.now given.count given.moves.now given.value
    c.requires.0 c.requires.1 c.requires.2 in
    omega (arith, room, length-replicate {A = ℕ} max_unknowns 0)

pub is_borne_out-requires : goal.is_borne_out-requires
is_borne_out-requires c =
    let given = c.args in (
      c.requires.0,
      longer_good given.kinds.now given.literals.now given.claim given.rows.now given.count given.moves.now given.value
          c.requires.0 c.requires.1 c.requires.2 c.requires.3 _ c.append-size.ensures.longer_after,
    )
