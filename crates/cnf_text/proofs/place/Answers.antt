-- `cnf_text::place` meets its contract. Assumes nothing.
use Prim.Native.Nat.{ℕ}
use native.Mathlib.Omega.{arith}
use mathlib.Core.Path.{refl, subst, ◌∙◌}
use lib.ListN.{get_or, length-set}
use lib.Dec.{eqb}
use Rattle.search_cells.specs.Cells.{owned}
use Rattle.search_cells.proofs.OwnedLaws.{others_before_most}
use Rattle.cnf_text.specs.Private.Walk.{PlaceBy}
use Rattle.cnf_text.proofs.PlaceLaws.{places_next, low_next, others_then}
use Rattle.cnf_text.proofs.place.Goals as goal

pub others_behind-others-requires : goal.others_behind-others-requires
others_behind-others-requires c = omega (
  arith,
  c.loop-k.invariant.0,
  others_before_most (owned c.args.kinds.now c.args.claim) c.loop-k.k,
  c.requires.0,
  c.loop-k-test.true,
)

pub loop-k-preserved : goal.loop-k-preserved
loop-k-preserved c = (
  others_then c.args.kinds.now c.args.claim c.loop-k.k c.loop-k.others (eqb (get_or c.args.kinds.now c.loop-k.k 0) c.args.claim)
      c.loop-k-test.true refl c.loop-k.invariant.0 c.others_behind-others.ensures,
  places_next c.args.kinds.now c.args.claim c.args.rows.now c.args.i c.loop-k.k
      c.place_at.result c.loop-k.places (omega (arith, c.requires.0, c.loop-k-test.true, c.loop-k.invariant.2)) c.loop-k.invariant.1
      (subst (λ (n : ℕ). PlaceBy c.args.rows.now c.args.i n c.loop-k.k (eqb (get_or c.args.kinds.now c.loop-k.k 0) c.args.claim) c.place_at.result)
      c.loop-k.invariant.0 c.place_at.ensures),
  length-set c.loop-k.places c.loop-k.k _ ∙ c.loop-k.invariant.2,
  low_next c.loop-k.places c.loop-k.k
      c.place_at.result c.loop-k.invariant.3 c.place_at.ensures.low,
)
