-- `fill` meets its contract. Assumes nothing.
use Rattle.engine.proofs.search.OpenLaws.{filled_more}
use native.Mathlib.Omega.{arith}
use Prim.Native.Nat.{◌*◌}
use Rattle.engine.proofs.search.term_table.fill.Goals as goal

pub loop-w-preserved : goal.loop-w-preserved
loop-w-preserved c = λ m some most coded.
    filled_more coded (c.loop-w.invariant (64 * c.loop-w.w) (omega arith) (omega arith) coded) c.look-all.ensures c.fill_word.ensures m some most
